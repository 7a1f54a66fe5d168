use Rattle.std.proofs.Common.{ℕ, Bool, cond, List, [], ◌∷◌, ◌++◌, drop, Some, subst, sym, ap, ◌∙◌, eq-eqb}
use Rattle.page.specs.Memory.{area_of, page_at, start_of}
use Rattle.held.specs.Entries.{entries_by}
use Rattle.held.specs.Holdings.{Pushed}
use Rattle.held.specs.View.{holdings, size_of}
use Rattle.local.specs.Kept.{full, joined, joined_entries, joined_behind}
use Rattle.local.proofs.calls.LocalPagesHeldPages.append.Goals as goal

pub returns : goal.returns
returns c =
    let b = c.args.self.now in
    let area = area_of b.memory in
    let H = holdings b.held in
    let size = size_of b.held in
    let k = c.args.key.number in
    let page = c.args.page.now in
    let whole = eq-eqb _ _ c.if-page-ne-PAGE_BYTES.false in
    let w = c.write.ensures in
    let r = c.write.result in
    let p = c.from.result in
    let after = area_of c.write.new.self in
    let new = holdings c.push.new.self in
    let cases = subst (λ q. Pushed size k H (Some q) new) (sym c.from.ensures) c.in-Some.ensures.cases in
    record {
      answer = c.is_ok.ensures.value ∙ joined area H size k page whole b.fits p r after w.answer w.area w.same_place w.other_places new cases;
      entries = joined_entries area H size k page whole b.fits p r after w.answer w.area w.same_place w.other_places new cases ∙ ap (λ (t : Bool). cond t (entries_by (page_at area) H ++ record { key = k; page = page } ∷ []) (entries_by (page_at area) H)) (sym c.is_ok.ensures.value);
      fixed =
          ap (λ (n : ℕ). n ∷ drop (start_of n) after) c.in-Some.ensures.size
          ∙ ap (λ (bytes : List ℕ). size ∷ bytes) (joined_behind area H size k page whole b.fits p r after w.answer w.area w.same_place w.other_places new cases);
    }

pub returns-in_default : goal.returns-in_default
returns-in_default c =
    let b = c.args.self.now in
    let area = area_of b.memory in
    let H = holdings b.held in
    let size = size_of b.held in
    let e = c.in_default.ensures in
    record {
      answer = full area H size c.args.key.number c.args.page.now (eq-eqb _ _ c.if-page-ne-PAGE_BYTES.false) e.cases.0;
      entries = ap (entries_by (page_at area)) e.cases.1;
      fixed = ap (λ (n : ℕ). n ∷ drop (start_of n) area) e.size;
    }
