use Rattle.std.proofs.Common.{◌≡◌, ◌+◌, [], length, vec_items}
use Rattle.held.specs.Makings.{below}
use Rattle.held.specs.Records.{older_in, newer_in}
use Rattle.held.specs.Rings.{Rings}
use Rattle.held.proofs.make.free_all.Given as goal

abbrev pub invariant-loop-place : goal.invariant-loop-place
invariant-loop-place l = (length (vec_items l.table) ≡ l.size + 2)
    × Rings (newer_in (vec_items l.table)) (older_in (vec_items l.table)) l.size l.size (l.size + 1) [] (below l.place)
