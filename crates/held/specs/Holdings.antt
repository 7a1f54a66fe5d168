-- Held keys with their places, oldest put first.
use Rattle.std.specs.Prelude.{◌≡◌, ℕ, ◌<◌, ◌≤◌, true, cond, not, ◌⊎◌, List, [], ◌∷◌, ◌++◌, map, length, is_some, Some, None, filter, Option, ◌==◌}
use Rattle.page.specs.declared.keys.Key.{Key}
use Rattle.held.specs.Rings.{Absent}

pub record Holding : Type 0 where
  pub key : ℕ
  pub place : ℕ

abbrev pub keys : List Holding → List ℕ
keys H = map (λ x. x.key) H

abbrev pub taken : List Holding → List ℕ
taken H = map (λ x. x.place) H

-- the place of a key
abbrev pub place_of : ℕ → List Holding → Option ℕ
place_of k [] = None
place_of k (x ∷ H) = cond (x.key == k) (Some x.place) (place_of k H)

-- all but the holding of a key
abbrev pub without_key : ℕ → List Holding → List Holding
without_key k H = filter (λ x. not (x.key == k)) H

-- a key is held from now on, newer than all others, at a place below size where none was held; or, where it is held already or there
-- is no place, nothing changes
abbrev pub Pushed : ℕ → ℕ → List Holding → Option ℕ → List Holding → Type 0
Pushed size k old None new = ((is_some (place_of k old) ≡ true) ⊎ (length old ≡ size)) × (new ≡ old)
Pushed size k old (Some p) new =
    (place_of k old ≡ None) × (length old < size) × (p < size) × Absent p (taken old) × (new ≡ old ++ record { key = k; place = p } ∷ [])

-- the first held key at or after k: none from k on is held, or it is held and none between is
abbrev pub FirstHeld : ℕ → List Holding → Option Key → Type 0
FirstHeld k H None = (q : ℕ) → k ≤ q → place_of q H ≡ None
FirstHeld k H (Some x) = (k ≤ x.number) × (is_some (place_of x.number H) ≡ true) × ((q : ℕ) → k ≤ q → q < x.number → place_of q H ≡ None)

-- the number of a key, where there is one
abbrev pub number_of : Option Key → Option ℕ
number_of None = None
number_of (Some k) = Some k.number
