use Rattle.std.proofs.Common.{◌≡◌, ◌*◌, ◌++◌, take, drop}
use Rattle.std.specs.List.{flat_map, AllByRecursion}
use Rattle.columns.specs.Columns.{value_text, Counted}
use Rattle.columns.proofs.put_counts.Given as goal

abbrev pub invariant-loop-i : goal.invariant-loop-i
invariant-loop-i l =
    (l.buffer ≡ flat_map value_text (take l.i l.counts) ++ drop (11 * l.i) l.initial.buffer)
    × AllByRecursion Counted (take l.i l.counts)
