use Rattle.std.proofs.Common.{ℕ, ◌/◌, length, sym, ap, ◌∙◌, arith}
use Rattle.backend.specs.Listing.{without}
use Rattle.backend.proofs.Evictions.{shorter}
use Rattle.std.proofs.lemmas.Bool.{eq-eqb}
use Rattle.store.specs.Blocks.{in_block}
use Rattle.store.proofs.Blocks.{block_ended, block_passed, without_one}
use Rattle.store.proofs.calls.drop_block.Goals as goal

pub returns-then-from-size : goal.returns-then-from-size
returns-then-from-size g c =
    let es = g.H.HeldPages.entries c.loop-next.pages in
    let start = g.H.HeldPages.entries c.args.pages.now in
    let size = c.args.size in
    let block = c.from.result / size in
    let same =
    block_passed size block c.requires es c.from-first.result.number c.from-first.ensures.value
    c.in-Some.next c.from-in-Some.result c.from-in-Some.ensures c.in-Some.ensures c.if-from-size.true in
    record {
      entries = sym same ∙ (c.loop-next.invariant.0 ∙ ap (λ (n : ℕ). without (in_block size (n / size)) start) c.from.ensures);
      fixed = c.loop-next.invariant.1;
    }

pub loop-next-smaller : goal.loop-next-smaller
loop-next-smaller g c =
    let es = g.H.HeldPages.entries c.loop-next.pages in
    let k = c.in-Some.next.number in
    omega (arith, ap length c.remove.ensures.entries, shorter k es c.in-Some.ensures.1)

pub loop-next-preserved : goal.loop-next-preserved
loop-next-preserved g c =
    let es = g.H.HeldPages.entries c.loop-next.pages in
    let size = c.args.size in
    let named = in_block size (c.from.result / size) in
    let k = c.in-Some.next.number in
    let of_block = eq-eqb (k / size) (c.from.result / size) (ap (λ (n : ℕ). n / size) (sym c.from-in-Some.ensures) ∙ c.if-from-size.false) in (
      ap (without named) c.remove.ensures.entries ∙ (without_one named k of_block es ∙ c.loop-next.invariant.0),
      c.remove.ensures.fixed ∙ c.loop-next.invariant.1,
    )

pub returns : goal.returns
returns g c =
    let es = g.H.HeldPages.entries c.loop-next.pages in
    let start = g.H.HeldPages.entries c.args.pages.now in
    let size = c.args.size in
    let block = c.from.result / size in
    let same = block_ended size block c.requires es c.from-first.result.number c.from-first.ensures.value c.in_default.ensures in
    record {
      entries = sym same ∙ (c.loop-next.invariant.0 ∙ ap (λ (n : ℕ). without (in_block size (n / size)) start) c.from.ensures);
      fixed = c.loop-next.invariant.1;
    }
