-- A finite map from keys to records, as a list in the order of its keys, and what an index of m record slots and n nodes answers.
use Rattle.std.specs.Prelude.{◌≡◌, ℕ, ◌+◌, ◌-◌, ◌/◌, ◌<◌, ◌≤◌, min, true, cond, List, [], ◌∷◌, length, is_some, Some, None, Ok, Err, Option, Result, ◌==◌, nat_le, nat_lt}
use Rattle.index.specs.declared.tree.FileRefusal.{FileRefusal}
use Rattle.index.specs.declared.tree.FileRefusal.TheVariants.{NoSlot, TooFewNodes}
use Rattle.index.specs.Keys.{shares, parts, missing}

-- the record of the key
abbrev pub look : {R : Type 0} → ℕ → List (ℕ × R) → Option R
look k [] = None
look k (e ∷ l) = cond (k == e.0) (Some e.1) (look k l)

-- the map with the record under the key
abbrev pub put : {R : Type 0} → ℕ → R → List (ℕ × R) → List (ℕ × R)
put k r [] = (k, r) ∷ []
put k r (e ∷ l) = cond (nat_lt k e.0) ((k, r) ∷ e ∷ l) (cond (k == e.0) ((k, r) ∷ l) (e ∷ put k r l))

-- the map with nothing under the key
abbrev pub without : {R : Type 0} → ℕ → List (ℕ × R) → List (ℕ × R)
without k [] = []
without k (e ∷ l) = cond (k == e.0) l (e ∷ without k l)

-- the first key that is not below k
abbrev pub from : {R : Type 0} → ℕ → List (ℕ × R) → Option ℕ
from k [] = None
from k (e ∷ l) = cond (nat_le k e.0) (Some e.0) (from k l)

-- whether r is the first key from k on: it is filed, at or after k, and none between is filed; or none from k on is
abbrev pub FirstFrom : {R : Type 0} → ℕ → List (ℕ × R) → Option ℕ → Type 0
FirstFrom k v None = (q : ℕ) → k ≤ q → look q v ≡ None
FirstFrom k v (Some x) = (k ≤ x) × (is_some (look x v) ≡ true) × ((q : ℕ) → k ≤ q → q < x → look q v ≡ None)

abbrev pub keys : {R : Type 0} → List (ℕ × R) → List ℕ
keys [] = []
keys (e ∷ l) = e.0 ∷ keys l

-- the nodes in use: the root, and one for each different leading part of 1 to 7 steps
abbrev pub used : ℕ → List ℕ → ℕ
used n ks = cond (n == 0) 0 (1 + parts ks)

-- what filing under a key answers: a key that is filed already is granted; a new key is refused where every slot is taken, and then
-- where its leading parts that no filed key has outnumber the free nodes
abbrev pub ruling : List ℕ → ℕ → ℕ → ℕ → Result (Unit {0}) FileRefusal
ruling ks key m n =
    cond (shares 0 key ks) (Ok tt)
    (cond (nat_le m (length ks)) (Err NoSlot)
    (cond (nat_lt (n - used n ks) (missing key ks)) (Err TooFewNodes) (Ok tt)))

-- how many keys there is room for, whatever they are
abbrev pub room : ℕ → ℕ → ℕ
room m n = min m ((n - 1) / 7)
