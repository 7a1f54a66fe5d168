use Rattle.std.proofs.Common.{◌≡◌, ◌<◌, get_or}
use Rattle.held.specs.Pools.{fullest_of}
use Rattle.held.proofs.victims.fullest_even.Given as goal

abbrev pub invariant-loop-half : goal.invariant-loop-half
invariant-loop-half l = (l.best < 16) × (l.best ≡ fullest_of (λ p. get_or l.sizes p 0) l.half)
