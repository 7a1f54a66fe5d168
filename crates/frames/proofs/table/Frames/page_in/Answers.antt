use Rattle.frames.proofs.Views.{page_seen}
use Rattle.frames.proofs.table.Frames.page_in.Goals as goal

pub returns : goal.returns
returns c = let s = page_seen c.args.self.now c.args.frame in cc
