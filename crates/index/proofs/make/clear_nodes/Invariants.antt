use Rattle.std.proofs.Common.{◌≡◌, ℕ, ◌+◌, ◌<◌}
use Rattle.index.specs.Nodes.{path_in, child_in, free_in}
use Rattle.index.proofs.make.clear_nodes.Given as goal

abbrev pub invariant-loop-i : goal.invariant-loop-i
invariant-loop-i l = record {
  paths : (j : ℕ) → j < l.i → path_in l.node-items j ≡ 0;
  children : (j c : ℕ) → j < l.i → c < 16 → child_in l.node-items j c ≡ 0;
  frees : (j : ℕ) → j < l.i → free_in l.node-items j ≡ j + 1;
}
