use Rattle.frames.proofs.Views.{mark_seen}
use Rattle.frames.proofs.table.Frames.is_marked.Goals as goal

pub returns : goal.returns
returns c = let s = mark_seen c.args.self.now c.args.frame in cc
