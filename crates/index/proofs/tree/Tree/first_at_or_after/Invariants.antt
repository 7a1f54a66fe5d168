use Rattle.std.proofs.Common.{◌-◌, vec_items}
use Rattle.index.specs.Nexts.{Ahead}
use Rattle.index.specs.Sound.{heads_of}
use Rattle.index.proofs.tree.Tree.first_at_or_after.Given as goal

abbrev pub invariant-loop-i : goal.invariant-loop-i
invariant-loop-i g l = Ahead (vec_items l.self.nodes) (heads_of l.self) l.key l.item (l._i-end - l._i)
