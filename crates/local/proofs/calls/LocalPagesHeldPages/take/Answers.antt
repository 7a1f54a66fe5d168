use Rattle.std.proofs.Common.{ℕ, ◌<◌, Some, ◌∷◌, drop, sym, ap, ◌∙◌, arith, eq-eqb}
use Rattle.std.proofs.lemmas.Bool.{cond-true}
use Rattle.page.specs.Memory.{area_of, page_at, start_of}
use Rattle.backend.specs.Outcomes.{is_page}
use Rattle.held.specs.Entries.{entries_by}
use Rattle.held.specs.View.{holdings, size_of}
use Rattle.held.proofs.Entries.{missed, place_taken, without_entries}
use Rattle.held.proofs.Facts.{places_below}
use Rattle.local.specs.Kept.{read_found}
use Rattle.local.proofs.calls.LocalPagesHeldPages.take.Goals as goal

pub returns : goal.returns
returns c =
    let b = c.args.self.now in
    let area = area_of b.memory in
    let H = holdings b.held in
    let k = c.args.key.number in
    let p = c.from.result in
    let out = c.args.out.now in
    let page = eq-eqb _ _ c.if-out-ne-PAGE_BYTES.false in
    let m = c.remove.ensures in
    let at = sym c.in-Some.ensures.value ∙ ap Some (sym c.from.ensures) in
    let below = place_taken (λ q. q < size_of b.held) k p H (places_below b.held) at in
    let found = read_found area H k out p c.read.result at (omega (arith, below, b.fits)) c.read.ensures.answer in
    record {
      answer = c.is_ok.ensures.value ∙ found.0;
      buffer = c.read.ensures.out ∙ found.1;
      entries = ap (entries_by (page_at area)) m.after ∙ (without_entries (page_at area) k H ∙ sym (cond-true (is_page out) _ _ page));
      fixed = ap (λ (n : ℕ). n ∷ drop (start_of n) area) m.size;
    }

pub returns-in_default : goal.returns-in_default
returns-in_default c =
    let b = c.args.self.now in
    let area = area_of b.memory in
    let H = holdings b.held in
    let k = c.args.key.number in
    let out = c.args.out.now in
    let page = eq-eqb _ _ c.if-out-ne-PAGE_BYTES.false in
    let m = c.remove.ensures in
    let none = missed (page_at area) k H out (sym c.in_default.ensures.value) in
    record {
      answer = none.0;
      buffer = none.1;
      entries = ap (entries_by (page_at area)) m.after ∙ (without_entries (page_at area) k H ∙ sym (cond-true (is_page out) _ _ page));
      fixed = ap (λ (n : ℕ). n ∷ drop (start_of n) area) m.size;
    }
