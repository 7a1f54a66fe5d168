use Rattle.std.proofs.Common.{refl}
use Rattle.frames.specs.Held.{clock}
use Rattle.frames.proofs.table.Frames.hand.Goals as goal

pub returns : goal.returns
unfolding clock
returns c = refl
