use Rattle.std.proofs.Common.{length, Some, None, sym, refl, ap, ◌∙◌}
use Rattle.std.proofs.lemmas.List.{take_at}
use Rattle.std.proofs.lemmas.Bool.{cond-true, cond-false, eq-eqb, ne_eqb}
use Rattle.frames.specs.Clock.{taken}
use Rattle.frames.specs.Held.{clock}
use Rattle.frames.proofs.Turned.{at_taken, clock_turned, dirties_turned, frames_turn, no_turn, swept_long}
use Rattle.frames.proofs.Views.{frame_count}
use Rattle.frames.proofs.table.Frames.take_frame.Goals as goal

pub returns-then-count-eq0 : goal.returns-then-count-eq0
returns-then-count-eq0 c =
    let fs = c.args.self.now in
    record {
      answer = sym (cond-true _ None (Some (taken (clock fs))) (eq-eqb (length (clock fs).pages) 0 (frame_count fs ∙ c.if-count-eq0.true)));
      clock = no_turn fs c.if-count-eq0.true;
      dirty = refl;
      turn = tt;
    }

pub returns : goal.returns
returns c =
    let fs = c.args.self.now in
    let s = c.sweep_from-frame.ensures in
    let ys = c.sweep_from-frame.new.frames in
    let e = take_at ys _ fs.count (swept_long fs ys s.pages) in
    let at = at_taken fs _ s.taken in
    let turned = clock_turned fs _ ys e c.sweep_from-frame.result s.taken s.marks s.pages c.next_place-self.ensures in
    record {
      answer = ap Some at ∙ sym (cond-false _ None (Some (taken (clock fs))) (ne_eqb (length (clock fs).pages) 0 (λ z. c.if-count-eq0.false (sym (frame_count fs) ∙ z))));
      clock = turned;
      dirty = dirties_turned fs _ ys e s.dirty;
      turn = frames_turn fs _ c.sweep_from-frame.result c.if-count-eq0.false at turned;
    }
