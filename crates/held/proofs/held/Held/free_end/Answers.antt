use Rattle.std.proofs.Common.{arith}
use Rattle.held.proofs.Facts.{size_small}
use Rattle.held.proofs.held.Held.free_end.Goals as goal

pub overflow_cast-result : goal.overflow_cast-result
overflow_cast-result c = omega (arith, size_small c.args.self.now)

pub overflow_add-result : goal.overflow_add-result
overflow_add-result c = omega (arith, size_small c.args.self.now)
