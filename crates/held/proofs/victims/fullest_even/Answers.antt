use Rattle.std.proofs.Common.{ℕ, get_or, sym, ◌∙◌, arith}
use Rattle.held.proofs.Counts.{fullest_takes, fullest_keeps}
use Rattle.held.proofs.victims.fullest_even.Goals as goal
use Rattle.held.proofs.victims.fullest_even.Goals.{then-sizes-from, else-sizes-from}

pub loop-half-preserved : goal.loop-half-preserved
loop-half-preserved c =
    let f : ℕ → ℕ = λ p. get_or c.args.sizes.now p 0 in
    let b = c.loop-half.best in
    let i = c.loop-half.invariant in
    let low = i.0 in
    elim c.if-sizes-from.branch [
      | then-sizes-from w ↦ (omega (arith, w.best-is), w.best-is ∙ fullest_takes f c.loop-half.half b i.1 (rw (sym c.from.ensures, sym c.from-in-loop-half.ensures) w.if-sizes-from.true))
      | else-sizes-from w ↦ (omega (arith, w.best-is), w.best-is ∙ fullest_keeps f c.loop-half.half b i.1 (rw (sym c.from.ensures, sym c.from-in-loop-half.ensures) w.if-sizes-from.false))
    ]
