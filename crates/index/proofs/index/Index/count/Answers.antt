use Rattle.std.proofs.Common.{arith}
use Rattle.index.specs.Sound.{records_of}
use Rattle.index.proofs.Unique.{kept}
use Rattle.index.proofs.Meaning.{view_length, level}
use Rattle.index.proofs.index.Index.count.Goals as goal

pub overflow_sub-result : goal.overflow_sub-result
overflow_sub-result g c = omega (arith, (kept c.args.self.now.whole).sound.count)

pub returns : goal.returns
returns g c =
    let t = c.args.self.now.tree in
    let w = kept c.args.self.now.whole in
    let n = w.sound.count in
    record { count = omega (arith, view_length t (records_of t) w (level t)); free = omega arith }
