use Rattle.std.proofs.Common.{◌≡◌, ◌+◌, List, get_or, set, sym, ◌∙◌, subst}
use Rattle.std.proofs.lemmas.Bool.{cond-true, cond-false}
use Rattle.frames.specs.declared.states.Frame.{Frame}
use Rattle.frames.specs.Held.{blank, emptied_frame}
use Rattle.frames.proofs.Emptied.{EmptiedBelow, emptied_more}
use Rattle.frames.proofs.hand.empty_pages.Goals as goal
use Rattle.frames.proofs.hand.empty_pages.Goals.{then-not-stays, else-not-stays}

stepped : (c : goal.Joined-not-stays) (f : Frame) → f ≡ emptied_frame c.args.pages (get_or c.loop-frame.frames c.loop-frame.frame-index blank)
    → c.if-not-stays.frames ≡ set c.loop-frame.frames c.loop-frame.frame-index f
    → EmptiedBelow c.args.pages c.args.frames.now c.if-not-stays.frames (c.loop-frame.frame-index + 1)
stepped c f e is =
    subst (λ (fs : List Frame). EmptiedBelow c.args.pages c.args.frames.now fs (c.loop-frame.frame-index + 1)) (sym is)
    (emptied_more c.args.pages c.args.frames.now c.loop-frame.frames c.loop-frame.frame-index f c.loop-frame-test.true c.loop-frame.auto.frames c.loop-frame.invariant e)

pub loop-frame-preserved : goal.loop-frame-preserved
loop-frame-preserved c =
    elim c.if-not-stays.branch [
      | then-not-stays w ↦ stepped c w.apply.new.self (w.apply.ensures ∙ sym (cond-false _ _ _ (sym w.if-not-stays.ensures))) w.frames-is
      | else-not-stays w ↦ stepped c _ (sym (cond-true _ _ _ (sym w.if-not-stays.ensures))) w.frames-is
    ]
