use Rattle.std.proofs.Common.{◌<◌, ◌≤◌, vec_items}
use Rattle.index.specs.Nexts.{Past, Scan}
use Rattle.index.specs.Sound.{heads_of}
use Rattle.index.proofs.tree.Tree.next_branch.Given as goal

abbrev pub invariant-loop-height : goal.invariant-loop-height
invariant-loop-height g l = record {
  on_way : l.height < 8 → Scan (vec_items l.self.nodes) (heads_of l.self) l.key l.node l.height l.from;
  past_root : 8 ≤ l.height → Past (heads_of l.self) l.key;
}
