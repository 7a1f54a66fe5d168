use Rattle.held.proofs.Facts.{count_is}
use Rattle.held.proofs.held.Held.count.Goals as goal

pub returns : goal.returns
returns c = count_is c.args.self.now
