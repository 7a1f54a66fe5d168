use Rattle.std.proofs.Common.{◌≡◌, length}
use Rattle.held.specs.Holdings.{keys}
use Rattle.held.specs.View.{holdings}
use Rattle.held.specs.Walks.{keys_left}
use Rattle.held.proofs.PoolSizes.{Sums}
use Rattle.held.proofs.held.Held.pool_sizes.Given as goal

abbrev pub invariant-loop-key : goal.invariant-loop-key
invariant-loop-key l = (length l.sizes ≡ 16) × Sums l.sizes (keys_left l.key-iterator) (keys (holdings l.self))
