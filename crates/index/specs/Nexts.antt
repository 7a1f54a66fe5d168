-- What a search for the next key passes.
use Rattle.std.specs.Prelude.{◌≡◌, ℕ, suc, ◌+◌, ◌-◌, ◌*◌, ◌^◌, ◌<◌, ◌≤◌, true, List, length}
use Rattle.index.specs.declared.node.Node.{Node}
use Rattle.index.specs.declared.slot.Head.{Head}
use Rattle.index.specs.declared.tree.Tree.{Tree}
use Rattle.index.specs.Filing.{keys_of}
use Rattle.index.specs.Keys.{shares}
use Rattle.index.specs.Links.{up}
use Rattle.index.specs.Nodes.{path_in}
use Rattle.index.specs.Slots.{mark_in}
use Rattle.index.specs.Sound.{path_at, heads_of}

-- T is the path of an item with h steps left
abbrev pub Within : ℕ → ℕ → Type 0
Within h T = (2 ^ (32 - 4 * h) ≤ T) × (T < 2 ^ (33 - 4 * h))

-- the keys from `key` on lie at the item or after it, and the item after `key`
pub record Ahead (ns : List Node) (hs : List Head) (key item height : ℕ) : Type 0 where
  pub high : height ≤ 7
  pub level : Within height (path_at ns hs item)
  pub before : up height (2 ^ 32 + key) < path_at ns hs item
  pub least : (p : ℕ) → 2 ^ 32 + key ≤ mark_in hs p → path_at ns hs item ≤ up height (mark_in hs p)

-- the same of the step c of a node, whose height is one more than low
pub record Scan (ns : List Node) (hs : List Head) (key node low c : ℕ) : Type 0 where
  pub high : low ≤ 7
  pub node_in : node < length ns
  pub step : c ≤ 16
  pub level : Within (suc low) (path_in ns node)
  pub before : up low (2 ^ 32 + key) < 16 * path_in ns node + c
  pub least : (p : ℕ) → 2 ^ 32 + key ≤ mark_in hs p → 16 * path_in ns node + c ≤ up low (mark_in hs p)

-- no key at or after `key` is filed
abbrev pub Past : List Head → ℕ → Type 0
Past hs key = (p : ℕ) → 2 ^ 32 + key ≤ mark_in hs p → ⊥

-- k is the first key that is filed, from `key` on
pub record First {R : Type 0} (t : Tree R) (key k : ℕ) : Type 0 where
  pub after : key ≤ k
  pub held : shares 0 k (keys_of t) ≡ true
  pub least : (p : ℕ) → 2 ^ 32 + key ≤ mark_in (heads_of t) p → 2 ^ 32 + k ≤ mark_in (heads_of t) p
