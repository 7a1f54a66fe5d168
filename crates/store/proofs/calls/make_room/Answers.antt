use Rattle.std.proofs.Common.{◌≡◌, ℕ, Bool, true, List, length, sym, ap, ◌∙◌, arith}
use Rattle.backend.specs.Listing.{room_made}
use Rattle.backend.specs.Rules.{Entry}
use Rattle.backend.proofs.Evictions.{room_enough, room_none, room_more, shorter, victim_held}
use Rattle.store.proofs.calls.make_room.Goals as goal

pub returns-in_default : goal.returns-in_default
returns-in_default g c = record {
  entries = sym (room_none _ _ (sym c.in_default.ensures)) ∙ c.loop-pages.invariant.0;
  fixed = c.loop-pages.invariant.1;
}

pub loop-pages-smaller : goal.loop-pages-smaller
loop-pages-smaller g c =
    let es = g.H.HeldPages.entries c.loop-pages.pages in
    let k = c.in-Some.victim.number in
    omega (arith, ap length c.remove.ensures.entries, shorter k es (victim_held es k (sym c.in-Some.ensures)))

pub loop-pages-preserved : goal.loop-pages-preserved
loop-pages-preserved g c =
    let es = g.H.HeldPages.entries c.loop-pages.pages in
    let k = c.in-Some.victim.number in
    let same = c.loop-pages.invariant.1 in
    let lacks : List Entry → Bool = λ fs. g.H.HeldPages.lack (g.H.HeldPages.fixed c.args.pages.now) fs c.args.page.now in
    let short : lacks es ≡ true = ap (λ (s : List ℕ). g.H.HeldPages.lack s es c.args.page.now) (sym same) ∙ sym c.loop-pages-test.ensures in (
      ap (room_made lacks) c.remove.ensures.entries ∙ (sym (room_more lacks es k short (sym c.in-Some.ensures)) ∙ c.loop-pages.invariant.0),
      c.remove.ensures.fixed ∙ same,
    )

pub returns : goal.returns
returns g c =
    let es = g.H.HeldPages.entries c.loop-pages.pages in
    let same = c.loop-pages.invariant.1 in
    record {
      entries =
          sym (room_enough _ es (ap (λ (s : List ℕ). g.H.HeldPages.lack s es c.args.page.now) (sym same) ∙ sym c.loop-pages-test.ensures))
          ∙ c.loop-pages.invariant.0;
      fixed = same;
    }
