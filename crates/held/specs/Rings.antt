-- Rings of places, linked both ways.
use Rattle.std.specs.Prelude.{◌≡◌, ℕ, zero, suc, ◌<◌, List, [], ◌∷◌, ◌≢◌}
use Rattle.std.specs.List.{AllByRecursion}

-- from a on, the places follow one another up to b
abbrev pub Links : (newer older : ℕ → ℕ) → ℕ → List ℕ → ℕ → Type 0
Links newer older a [] b = (newer a ≡ b) × (older b ≡ a)
Links newer older a (p ∷ ps) b = (newer a ≡ p) × (older p ≡ a) × Links newer older p ps b

-- n places, from a given one on
abbrev pub walk : (ℕ → ℕ) → ℕ → ℕ → List ℕ
walk newer at zero = []
walk newer at (suc n) = at ∷ walk newer (newer at) n

abbrev pub Absent : ℕ → List ℕ → Type 0
Absent x xs = AllByRecursion (λ y. y ≢ x) xs

-- no number stands twice
abbrev pub Apart : List ℕ → Type 0
Apart [] = Unit {0}
Apart (x ∷ xs) = Absent x xs × Apart xs

-- two rings over the places below size, with the ends e and f
pub record Rings (newer older : ℕ → ℕ) (size e f : ℕ) (one two : List ℕ) : Type 0 where
  pub one_links : Links newer older e one e
  pub two_links : Links newer older f two f
  pub one_apart : Apart one
  pub two_apart : Apart two
  pub disjoint : AllByRecursion (λ p. Absent p two) one
  pub one_below : AllByRecursion (λ p. p < size) one
  pub two_below : AllByRecursion (λ p. p < size) two

-- p is taken out from between its neighbours
pub record Unlinked (newer older : ℕ → ℕ) (p : ℕ) (newer' older' : ℕ → ℕ) : Type 0 where
  pub newer_here : newer' (older p) ≡ newer p
  pub newer_rest : (j : ℕ) → (j ≢ older p) → newer' j ≡ newer j
  pub older_here : older' (newer p) ≡ older p
  pub older_rest : (j : ℕ) → (j ≢ newer p) → older' j ≡ older j

-- p is put between an end and the place before it
pub record Linked (newer older : ℕ → ℕ) (end p : ℕ) (newer' older' : ℕ → ℕ) : Type 0 where
  pub newer_last : (older end ≢ p) → newer' (older end) ≡ p
  pub newer_here : newer' p ≡ end
  pub newer_rest : (j : ℕ) → (j ≢ older end) → (j ≢ p) → newer' j ≡ newer j
  pub older_here : (p ≢ end) → older' p ≡ older end
  pub older_end : older' end ≡ p
  pub older_rest : (j : ℕ) → (j ≢ p) → (j ≢ end) → older' j ≡ older j
