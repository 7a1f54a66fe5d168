-- What the calls of a tree answer and leave.
use Rattle.std.specs.Prelude.{◌≡◌, ℕ, ◌+◌, ◌^◌, ◌<◌, ◌≤◌, false, ◌⊎◌, List, length, vec_items, slice_set}
use Rattle.index.specs.declared.node.Node.{Node}
use Rattle.index.specs.declared.slot.Head.{Head}
use Rattle.index.specs.declared.tree.Tree.{Tree}
use Rattle.index.specs.declared.tree.FileRefusal.{FileRefusal}
use Rattle.index.specs.declared.tree.FileRefusal.TheVariants.{NoSlot, TooFewNodes}
use Rattle.index.specs.Keys.{shares, parts, missing}
use Rattle.index.specs.Slots.{marks, mark_in}
use Rattle.index.specs.Sound.{SoundIn, heads_of, records_of, filed}

abbrev pub keys_of : {R : Type 0} → Tree R → List ℕ
keys_of t = filed (marks (heads_of t))

abbrev pub nodes_of : {R : Type 0} → Tree R → ℕ
nodes_of t = length (vec_items t.nodes)

abbrev pub slots_of : {R : Type 0} → Tree R → ℕ
slots_of t = length (heads_of t)

-- the tree is sound, and besides the root there is a node for each leading part of 1 to 7 steps
pub record WholeIn (ns : List Node) (hs : List Head) (unused vacant : ℕ) : Type 0 where
  pub sound : SoundIn ns hs unused vacant 0
  pub exact : 0 < length ns → unused + 1 + parts (filed (marks hs)) ≡ length ns

abbrev pub Whole : {R : Type 0} → Tree R → Type 0
Whole t = WholeIn (vec_items t.nodes) (heads_of t) t.unused t.vacant

-- the key is filed at slot p, where it was already, or where nothing was
pub record Placed {R : Type 0} (old new : Tree R) (key p : ℕ) : Type 0 where
  pub within : p < slots_of old
  pub marks_are : marks (heads_of new) ≡ slice_set (marks (heads_of old)) p (2 ^ 32 + key)
  pub nodes_are : nodes_of new ≡ nodes_of old
  pub records_are : records_of new ≡ records_of old
  pub ways : (mark_in (heads_of old) p ≡ 2 ^ 32 + key)
      ⊎ ((mark_in (heads_of old) p ≡ 0) × (shares 0 key (keys_of old) ≡ false) × (length (keys_of old) < slots_of old) × (1 + parts (keys_of old) + missing key (keys_of old) ≤ nodes_of old))

abbrev pub Why : {R : Type 0} → Tree R → ℕ → FileRefusal → Type 0
Why t key NoSlot = length (keys_of t) ≡ slots_of t
Why t key TooFewNodes = (length (keys_of t) < slots_of t) × (nodes_of t < 1 + parts (keys_of t) + missing key (keys_of t))

abbrev pub Refused : {R : Type 0} → Tree R → ℕ → FileRefusal → Type 0
Refused t key e = (shares 0 key (keys_of t) ≡ false) × Why t key e

-- the key was filed at slot p, where nothing is now
pub record Removed {R : Type 0} (old new : Tree R) (key p : ℕ) : Type 0 where
  pub within : p < slots_of old
  pub held : mark_in (heads_of old) p ≡ 2 ^ 32 + key
  pub marks_are : marks (heads_of new) ≡ slice_set (marks (heads_of old)) p 0
  pub nodes_are : nodes_of new ≡ nodes_of old
  pub records_are : records_of new ≡ records_of old
