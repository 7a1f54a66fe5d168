use Rattle.std.proofs.Common.{ℕ, List, refl, ap, ◌∙◌, subst, arith}
use Rattle.std.proofs.lemmas.List.{length-set, get_or-replicate}
use Rattle.backend.specs.Victims.{pool_size}
use Rattle.held.specs.Holdings.{keys}
use Rattle.held.specs.View.{holdings}
use Rattle.held.specs.Walks.{keys_left}
use Rattle.held.proofs.Counts.{pool_few}
use Rattle.held.proofs.Facts.{keys_few}
use Rattle.held.proofs.PoolSizes.{Sums, size_room, size_step, all_counted}
use Rattle.held.proofs.held.Held.pool_sizes.Goals as goal

pub loop-key-init : goal.loop-key-init
loop-key-init c =
    let ks = keys (holdings c.args.self.now) in
    let here = ap keys_left c.into_iter-key-iterator.ensures.into_iter_gives ∙ c.keys-key-items.ensures in
    (refl, λ p l. omega (arith, get_or-replicate {A = ℕ} 16 p 0 0 l, ap (λ xs. pool_size xs p) here))

pub overflow_add-sizes : goal.overflow_add-sizes
overflow_add-sizes c =
    let ks = keys (holdings c.args.self.now) in
    let k = c.in-Some.key.number in
    let is = c.from.ensures ∙ c.pool.ensures in
    let sums = subst (λ (xs : List ℕ). Sums c.loop-key.sizes xs ks) c.in-Some.ensures.steps c.loop-key.invariant.1 in
    omega (arith, size_room k (keys_left c.next.new.self) ks c.loop-key.sizes c.loop-key.invariant.0 c.from.result is (omega (arith, is)) sums, pool_few ks c.from.result (keys_few c.args.self.now))

pub loop-key-preserved : goal.loop-key-preserved
loop-key-preserved c =
    let ks = keys (holdings c.args.self.now) in
    let k = c.in-Some.key.number in
    let is = c.from.ensures ∙ c.pool.ensures in
    let sums = subst (λ (xs : List ℕ). Sums c.loop-key.sizes xs ks) c.in-Some.ensures.steps c.loop-key.invariant.1 in (
      length-set c.loop-key.sizes c.from.result _ ∙ c.loop-key.invariant.0,
      size_step k (keys_left c.next.new.self) ks c.loop-key.sizes c.loop-key.invariant.0 c.from.result is (omega (arith, is)) sums,
    )

pub returns : goal.returns
returns c = all_counted c.loop-key.sizes (keys (holdings c.args.self.now)) (subst (λ (xs : List ℕ). Sums c.loop-key.sizes xs (keys (holdings c.args.self.now))) c.in-None.ensures.steps.0 c.loop-key.invariant.1)
