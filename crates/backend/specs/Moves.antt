-- A page moved from one key to another.
use Rattle.std.specs.Prelude.{◌≡◌, ℕ, Bool, true, false, List, is_some, None, Ok, Err, Result, ◌==◌, nat_eq}
use Rattle.backend.specs.Meaning.{Kept}
use Rattle.backend.specs.Rules.{Rules, held}
use Rattle.backend.specs.declared.refusals.Refusal.{Refusal}

-- found, the page is held under the second key; not found, that key keeps what it held; refused, it holds nothing
abbrev pub Arrived : Rules → List ℕ → List ℕ → ℕ → ℕ → Result Bool Refusal → Type 0
Arrived R s t from to (Ok found) =
    (found ≡ is_some (held R s from))
    × (found ≡ true → held R t to ≡ held R s from)
    × (found ≡ false → (to == from) ≡ false → Kept R s t to)
Arrived R s t from to (Err e) = (is_some (held R s from) ≡ true) × (held R t to ≡ None) × (e.key.number ≡ to)

-- a move leads from the state s to t
pub record Moved (R : Rules) (s t : List ℕ) (from to : ℕ) (r : Result Bool Refusal) : Type 0 where
  pub arrived : Arrived R s t from to r
  pub left : nat_eq from to ≡ false → held R t from ≡ None
  pub others : (j : ℕ) → (j == from) ≡ false → (j == to) ≡ false → Kept R s t j
