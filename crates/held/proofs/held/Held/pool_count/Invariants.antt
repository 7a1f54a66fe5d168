use Rattle.std.proofs.Common.{◌≡◌, ◌+◌, ◌-◌, ◌≤◌}
use Rattle.held.specs.Holdings.{keys}
use Rattle.held.specs.Pools.{between}
use Rattle.held.specs.View.{holdings}
use Rattle.held.proofs.held.Held.pool_count.Given as goal

abbrev pub invariant-loop-key : goal.invariant-loop-key
invariant-loop-key l = (l.from ≤ l.end)
    × (l.count + between (keys (holdings l.self)) l.from l.end ≡ between (keys (holdings l.self)) l.initial.from l.end)

abbrev pub decreases-loop-key : goal.decreases-loop-key
decreases-loop-key l = l.end - l.from
