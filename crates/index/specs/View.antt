-- What an index stands for.
use Rattle.std.specs.Prelude.{ℕ, ◌-◌, ◌^◌, cond, List, [], ◌∷◌, nat_le}
use Rattle.index.specs.Filing.{nodes_of, slots_of}
use Rattle.index.specs.Slots.{marks}
use Rattle.index.specs.Sound.{heads_of, records_of}
use Rattle.index.specs.declared.index.Index.{Index}
use Rattle.index.specs.Map.{put}

-- the slots in use, with their keys
abbrev pub pairs : {R : Type 0} → List ℕ → List R → List (ℕ × R)
pairs [] rs = []
pairs (m ∷ ms) [] = []
pairs (m ∷ ms) (r ∷ rs) = cond (nat_le 1 m) ((m - 2 ^ 32, r) ∷ pairs ms rs) (pairs ms rs)

abbrev pub sorted : {R : Type 0} → List (ℕ × R) → List (ℕ × R)
sorted [] = []
sorted (e ∷ l) = put e.0 e.1 (sorted l)

-- the keys with their records, in the order of the keys
abbrev pub view : {R : Type 0} → Index R → List (ℕ × R)
view x = sorted (pairs (marks (heads_of x.tree)) (records_of x.tree))

-- the nodes and the record slots that it has
abbrev pub nodes : {R : Type 0} → Index R → ℕ
nodes x = nodes_of x.tree

abbrev pub slots : {R : Type 0} → Index R → ℕ
slots x = slots_of x.tree

-- those of them that are free
abbrev pub free_nodes : {R : Type 0} → Index R → ℕ
free_nodes x = x.tree.unused

abbrev pub free_slots : {R : Type 0} → Index R → ℕ
free_slots x = x.tree.vacant
