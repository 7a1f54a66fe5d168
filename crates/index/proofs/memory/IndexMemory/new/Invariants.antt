use Rattle.std.proofs.Common.{◌≡◌, replicate, vec_items}
use Rattle.index.specs.Slots.{blank_slot}
use Rattle.index.proofs.memory.IndexMemory.new.Given as goal

abbrev pub invariant-loop-i : goal.invariant-loop-i
invariant-loop-i g l = vec_items l.blank_slots ≡ replicate l._i (blank_slot l.blank)
