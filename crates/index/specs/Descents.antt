-- Where the way to a key ends.
use Rattle.std.specs.Prelude.{◌≡◌, ℕ, suc, ◌+◌, ◌%◌, ◌^◌, ◌<◌, ◌≤◌, List, length}
use Rattle.index.specs.declared.node.Node.{Node}
use Rattle.index.specs.declared.slot.Head.{Head}
use Rattle.index.specs.Links.{up}
use Rattle.index.specs.Nodes.{child_in}
use Rattle.index.specs.Sound.{path_at}

-- the way to the key leads down to the item, `height` steps above the slot of the key
pub record Descended (ns : List Node) (hs : List Head) (key item height : ℕ) : Type 0 where
  pub high : height ≤ 8
  pub here : 0 < length ns → path_at ns hs item ≡ up height (2 ^ 32 + key)
  pub node : 0 < length ns → 0 < height → item < length ns
  pub ends : (h : ℕ) → 0 < length ns → height ≡ suc h → child_in ns item (up h (2 ^ 32 + key) % 16) ≡ 0
  pub empty : length ns ≡ 0 → height ≡ 8
