use Rattle.frames.proofs.Emptied.{EmptiedBelow}
use Rattle.frames.proofs.hand.empty_pages.Given as goal

abbrev pub invariant-loop-frame : goal.invariant-loop-frame
invariant-loop-frame l = EmptiedBelow l.pages l.initial.frames l.frames l.frame-index
