-- What always holds of a tree. Nodes and slots are numbered together: item i is node i below the number of nodes n,
-- and slot i - n from there on.
use Rattle.std.specs.Prelude.{◌≡◌, ℕ, ◌+◌, ◌-◌, ◌^◌, ◌<◌, ◌≤◌, cond, List, [], ◌∷◌, length, vec_items, ◌≢◌, nat_le, nat_lt}
use Rattle.index.specs.declared.node.Node.{Node}
use Rattle.index.specs.declared.slot.Head.{Head}
use Rattle.index.specs.declared.tree.Tree.{Tree}
use Rattle.index.specs.Links.{Linked}
use Rattle.index.specs.Nodes.{path_in, parent_in, child_in, free_in}
use Rattle.index.specs.Slots.{heads, records, marks, mark_in, slot_parent_in, slot_free_in}

abbrev pub heads_of : {R : Type 0} → Tree R → List Head
heads_of t = heads (vec_items t.slots)

abbrev pub records_of : {R : Type 0} → Tree R → List R
records_of t = records (vec_items t.slots)

abbrev pub path_at : List Node → List Head → ℕ → ℕ
path_at ns hs i = cond (nat_lt i (length ns)) (path_in ns i) (mark_in hs (i - length ns))

abbrev pub parent_at : List Node → List Head → ℕ → ℕ
parent_at ns hs i = cond (nat_lt i (length ns)) (parent_in ns i) (slot_parent_in hs (i - length ns))

-- the keys of the slots in use, in the order of the slots
abbrev pub filed : List ℕ → List ℕ
filed [] = []
filed (m ∷ ms) = cond (nat_le 1 m) ((m - 2 ^ 32) ∷ filed ms) (filed ms)

-- the first `top` entries of a stack are free, and no two are equal
pub record Stacked (top size : ℕ) (at state : ℕ → ℕ) : Type 0 where
  pub top_le : top ≤ size
  pub within : (k : ℕ) → k < top → at k < size
  pub idle : (k : ℕ) → k < top → state (at k) ≡ 0
  pub apart : (k l : ℕ) → k < l → l < top → at k ≢ at l

-- each node in use has a child, but for the root and, while a call is under way, for the node `unfilled`
pub record SoundIn (ns : List Node) (hs : List Head) (unused vacant unfilled : ℕ) : Type 0 where
  pub linked : 0 < length ns → Linked (length ns) (path_at ns hs) (parent_at ns hs) (child_in ns)
  pub nonempty : (i : ℕ) → i < length ns → (i ≢ unfilled) → 1 < path_in ns i → ((c : ℕ) → c < 16 → child_in ns i c ≡ 0) → ⊥
  pub empty : length ns ≡ 0 → (p : ℕ) → mark_in hs p ≡ 0
  pub fits : length ns + length hs < 2 ^ 32
  pub nodes_free : Stacked unused (length ns) (free_in ns) (path_in ns)
  pub slots_free : Stacked vacant (length hs) (slot_free_in hs) (mark_in hs)
  pub count : vacant + length (filed (marks hs)) ≡ length hs

abbrev pub Sound : {R : Type 0} → Tree R → ℕ → Type 0
Sound t unfilled = SoundIn (vec_items t.nodes) (heads_of t) t.unused t.vacant unfilled
