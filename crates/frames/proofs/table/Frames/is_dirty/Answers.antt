use Rattle.frames.proofs.Views.{dirty_seen}
use Rattle.frames.proofs.table.Frames.is_dirty.Goals as goal

pub returns : goal.returns
returns c = let s = dirty_seen c.args.self.now c.args.frame in cc
