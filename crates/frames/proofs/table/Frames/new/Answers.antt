use Rattle.std.proofs.Common.{◌≤◌, min, refl, arith}
use Rattle.frames.proofs.Views.{clock_new, dirties_new}
use Rattle.frames.proofs.table.Frames.new.Goals as goal

pub returns : goal.returns
returns c =
    let n = min c.args.frames 16 in
    let few : n ≤ 16 = omega arith in
    record { clock = clock_new _ n refl c.min.ensures few refl; dirty = dirties_new _ n refl c.min.ensures few }
