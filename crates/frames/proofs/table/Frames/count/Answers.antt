use Rattle.std.proofs.Common.{sym}
use Rattle.frames.proofs.Views.{frame_count}
use Rattle.frames.proofs.table.Frames.count.Goals as goal

pub returns : goal.returns
returns c = sym (frame_count c.args.self.now)
