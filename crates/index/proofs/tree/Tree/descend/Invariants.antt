use Rattle.std.proofs.Common.{◌≡◌, ◌+◌, ◌^◌, ◌<◌, length, vec_items}
use Rattle.index.specs.Links.{up}
use Rattle.index.specs.Sound.{path_at}
use Rattle.index.specs.Sound.{heads_of}
use Rattle.index.proofs.tree.Tree.descend.Given as goal

abbrev pub invariant-loop-height : goal.invariant-loop-height
invariant-loop-height g l = (0 < length (vec_items l.self.nodes))
    × (path_at (vec_items l.self.nodes) (heads_of l.self) l.item ≡ up l.height (2 ^ 32 + l.key))
