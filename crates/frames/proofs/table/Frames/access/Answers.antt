use Rattle.std.proofs.Common.{◌≡◌, ℕ, Bool, true, false, cond, eqb, length, get_or, set, Some, None, Option, sym, refl, ap, ◌∙◌, arith}
use Rattle.std.proofs.lemmas.List.{get_or_past, set_past}
use Rattle.std.proofs.lemmas.Bool.{cond-true, eqb-true}
use Rattle.frames.specs.declared.pages.Page.{Page}
use Rattle.frames.specs.Clock.{find, given, hit, refilled, taken}
use Rattle.frames.specs.Held.{clock, dirties, hit_dirty, is_write}
use Rattle.frames.proofs.Found.{found_filled}
use Rattle.frames.proofs.Turned.{none_refilled}
use Rattle.frames.proofs.Views.{as_many_dirties, as_many_marks}
use Rattle.frames.proofs.table.Frames.access.Goals as goal

pub returns-in-Some : goal.returns-in-Some
returns-in-Some c =
    let fs = c.args.self.now in
    let page = c.args.page in
    let i = c.in-Some.frame in
    let found : find page (clock fs).pages ≡ Some i = sym c.in-Some.ensures in
    let filled = found_filled page (clock fs).pages i found in
    record {
      evicted = ap (λ (o : Option ℕ). given {B = Option Page} o (λ i. None) (get_or (clock fs).pages (taken (clock fs)) None)) (sym found);
      clock = c.touch.ensures.clock ∙ cond-true _ (hit (clock fs) i) (clock fs) filled
          ∙ ap (λ (o : Option ℕ). given o (hit (clock fs)) (refilled (clock fs) (Some page))) (sym found);
      dirty = c.touch.ensures.dirty ∙ cond-true _ (hit_dirty (dirties fs) i c.args.kind) (dirties fs) filled
          ∙ ap (λ (o : Option ℕ). given o (λ j. hit_dirty (dirties fs) j c.args.kind) (set (dirties fs) (taken (clock fs)) (is_write c.args.kind))) (sym found);
    }

was_none : (b : Bool) (t : ℕ) → ◌≡◌ {A = Option ℕ} None (cond b None (Some t)) → b ≡ true
was_none true t e = refl
was_none false t e = absurd (let z : ◌≡◌ {A = ℕ} 0 1 = cc in omega arith)

pub returns-in_err-frame : goal.returns-in_err-frame
returns-in_err-frame c =
    let fs = c.args.self.now in
    let page = c.args.page in
    let none : find page (clock fs).pages ≡ None = sym c.find.ensures ∙ c.in_default.is in
    let no_frames : length (clock fs).pages ≡ 0 = eqb-true _ 0 (was_none (eqb (length (clock fs).pages) 0) (taken (clock fs)) c.in_err-frame.ensures.answer) in
    record {
      evicted = c.from_residual.ensures ∙ sym (get_or_past (clock fs).pages (taken (clock fs)) None (omega arith))
          ∙ ap (λ (o : Option ℕ). given {B = Option Page} o (λ i. None) (get_or (clock fs).pages (taken (clock fs)) None)) (sym none);
      clock = c.take_frame.ensures.clock ∙ sym (none_refilled (clock fs) (Some page) no_frames (sym (as_many_marks fs) ∙ no_frames))
          ∙ ap (λ (o : Option ℕ). given o (hit (clock fs)) (refilled (clock fs) (Some page))) (sym none);
      dirty = c.take_frame.ensures.dirty ∙ sym (set_past (dirties fs) (taken (clock fs)) (is_write c.args.kind) (omega (arith, as_many_dirties fs)))
          ∙ ap (λ (o : Option ℕ). given o (λ j. hit_dirty (dirties fs) j c.args.kind) (set (dirties fs) (taken (clock fs)) (is_write c.args.kind))) (sym none);
    }
