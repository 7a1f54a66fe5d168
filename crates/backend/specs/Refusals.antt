-- The refusals of a backend, each cause with its number.
use Rattle.std.specs.Prelude.{ℕ, List, ◌++◌, codes, decimal}
use Rattle.backend.specs.declared.refusals.Cause.{Cause}
use Rattle.backend.specs.declared.refusals.Cause.TheVariants.{NoPlace, OverLimit, NotAPage}
use Rattle.backend.specs.declared.refusals.Refusal.{Refusal}

abbrev pub cause_number : Cause → ℕ
cause_number NoPlace = 21
cause_number OverLimit = 22
cause_number NotAPage = 23

-- a refusal as it is printed
abbrev pub refusal_text : Refusal → List ℕ
refusal_text e =
    decimal (cause_number e.cause) ++ (codes " key " ++ (decimal e.key.number ++ (codes " label " ++ decimal e.label)))
