use Rattle.std.proofs.Common.{ℕ}
use Rattle.frames.proofs.Swept.{Turning, marks_left}
use Rattle.frames.proofs.hand.sweep_from.Given as goal

abbrev pub invariant-turn : goal.invariant-turn
invariant-turn l = (steps : ℕ) × Turning steps l.initial.frames l.frames l.hand l.place

-- the marks that are left
abbrev pub decreases-turn : goal.decreases-turn
decreases-turn l = marks_left l.frames
