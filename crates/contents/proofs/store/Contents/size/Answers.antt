use Rattle.std.proofs.Common.{arith}
use Rattle.contents.proofs.Facts.{size_is}
use Rattle.contents.proofs.store.Contents.size.Goals as goal

pub returns : goal.returns
returns c = omega (arith, size_is c.args.self.now)
