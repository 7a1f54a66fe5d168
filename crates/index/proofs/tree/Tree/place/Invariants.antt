use Rattle.std.proofs.Common.{◌≡◌, ℕ, suc, ◌+◌, ◌%◌, ◌^◌, ◌<◌, ◌≤◌, length, vec_items}
use Rattle.index.specs.Links.{up}
use Rattle.index.specs.Nodes.{path_in, child_in}
use Rattle.index.specs.Sound.{Sound}
use Rattle.index.proofs.tree.Tree.place.Given as goal

abbrev pub invariant-loop-height : goal.invariant-loop-height
invariant-loop-height g l =
    Sound l.self l.node
    × (1 ≤ l.height)
    × (l.height ≤ 8)
    × (l.node < length (vec_items l.self.nodes))
    × (path_in (vec_items l.self.nodes) l.node ≡ up l.height (2 ^ 32 + l.key))
    × ((g : ℕ) → l.height ≡ suc g → child_in (vec_items l.self.nodes) l.node (up g (2 ^ 32 + l.key) % 16) ≡ 0)
    × (l.self.slots ≡ l.initial.self.slots)
    × (length (vec_items l.self.nodes) ≡ length (vec_items l.initial.self.nodes))
    × (l.self.vacant ≡ l.initial.self.vacant)
    × (l.self.unused + l.initial.height ≡ l.initial.self.unused + l.height)
    × (l.height ≤ l.self.unused + 1)
