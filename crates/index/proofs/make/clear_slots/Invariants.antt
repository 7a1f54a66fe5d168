use Rattle.std.proofs.Common.{◌≡◌, ℕ, ◌<◌}
use Rattle.index.specs.Slots.{heads, mark_in, slot_free_in}
use Rattle.index.proofs.make.clear_slots.Given as goal

abbrev pub invariant-loop-i : goal.invariant-loop-i
invariant-loop-i g l = record {
  marks : (j : ℕ) → j < l.i → mark_in (heads l.slot-items) j ≡ 0;
  frees : (j : ℕ) → j < l.i → slot_free_in (heads l.slot-items) j ≡ j;
}
