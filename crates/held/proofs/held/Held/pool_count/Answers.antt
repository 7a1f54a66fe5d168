use Rattle.std.proofs.Common.{◌≡◌, ◌+◌, ◌*◌, ◌%◌, ◌^◌, sym, ap, ◌∙◌, arith}
use Rattle.held.specs.Holdings.{keys}
use Rattle.held.specs.Pools.{between}
use Rattle.held.specs.View.{holdings}
use Rattle.held.proofs.Counts.{pool_between, pool_none, between_few}
use Rattle.held.proofs.Facts.{keys_small, keys_few}
use Rattle.held.proofs.held.Held.pool_count.Goals as goal

pub returns-then-pool-gt15 : goal.returns-then-pool-gt15
returns-then-pool-gt15 c = let h = c.args.self.now in sym (pool_none (keys (holdings h)) c.args.pool (keys_small h) c.if-pool-gt15.true)

pub overflow_add-count : goal.overflow_add-count
overflow_add-count c =
    let h = c.args.self.now in
    let step = c.in-Some.ensures.2 in
    let i = c.loop-key.invariant.1 in
    omega (arith, between_few (keys (holdings h)) ((c.from-from.result * 2 ^ 28) % 2 ^ 64) ((c.from-from.result * 2 ^ 28) % 2 ^ 64 + 2 ^ 28) (keys_few h))

pub returns : goal.returns
returns c =
    let ks = keys (holdings c.args.self.now) in
    let none = c.in_default.ensures in
    let i = c.loop-key.invariant.1 in
    let start : (c.from-from.result * 2 ^ 28) % 2 ^ 64 ≡ c.args.pool * 2 ^ 28 = let e = c.from-from.ensures in let l = c.if-pool-gt15.false in omega arith in
    let all : c.loop-key.count ≡ between ks ((c.from-from.result * 2 ^ 28) % 2 ^ 64) ((c.from-from.result * 2 ^ 28) % 2 ^ 64 + 2 ^ 28) = omega arith in
    all ∙ (ap (λ x. between ks x (x + 2 ^ 28)) start ∙ sym (pool_between ks c.args.pool))
