-- What a call answers and leaves, by the rules of the backend that is called.
use Rattle.std.specs.Prelude.{◌≡◌, ℕ, Bool, cond, List, length, is_some, Some, None, Ok, Err, Option, Result, ◌==◌}
use Rattle.page.specs.declared.keys.Key.{Key}
use Rattle.backend.specs.Rules.{Rules, held}
use Rattle.backend.specs.declared.refusals.Cause.TheVariants.{NotAPage}
use Rattle.backend.specs.declared.refusals.Refusal.{Refusal}

-- a slice of another length than 256 is refused by the part that is called, and changes nothing
abbrev pub not_a_page : Rules → List ℕ → Key → Refusal
not_a_page R s k = record { cause = NotAPage; key = k; label = R.label s }

abbrev pub is_page : List ℕ → Bool
is_page p = length p == 256

abbrev pub granted_unless : Option Refusal → Result Unit Refusal
granted_unless None = Ok tt
granted_unless (Some e) = Err e

pub record PutOutcome (R : Rules) (s : List ℕ) (k : Key) (p : List ℕ) (r : Result Unit Refusal) (t : List ℕ) : Type 0 where
  pub answer : r ≡ cond (is_page p) (granted_unless (R.put_refusal s k.number p)) (Err (not_a_page R s k))
  pub after : t ≡ cond (is_page p) (R.put_next s k.number p) s

-- the buffer after a page was found or not
abbrev pub copied : Option (List ℕ) → List ℕ → List ℕ
copied None out = out
copied (Some p) out = p

pub record GetOutcome (R : Rules) (s : List ℕ) (k : Key) (out : List ℕ) (r : Result Bool Refusal) (t : List ℕ) (filled : List ℕ) : Type 0 where
  pub answer : r ≡ cond (is_page out) (Ok (is_some (held R s k.number))) (Err (not_a_page R s k))
  pub after : t ≡ cond (is_page out) (R.get_next s k.number) s
  pub buffer : filled ≡ cond (is_page out) (copied (held R s k.number) out) out
