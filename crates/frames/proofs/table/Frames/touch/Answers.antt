use Rattle.std.proofs.Common.{◌≡◌, true, false, ◌||◌, get_or, set, None, sym, ap, ◌∙◌}
use Rattle.std.proofs.lemmas.Bool.{cond-true}
use Rattle.frames.specs.Clock.{filled, hit}
use Rattle.frames.specs.Held.{blank, clock, dirties, frames_of, hit_dirty, is_write}
use Rattle.frames.specs.States.{after_event, event_of, held}
use Rattle.frames.proofs.Views.{clock_set, dirties_set, dirty_accessed, dirty_seen, held_accessed, marked_accessed, page_seen, pages_same}
use Rattle.frames.proofs.table.Frames.touch.Goals as goal

pub returns-in-Some : goal.returns-in-Some
returns-in-Some c =
    let before = c.args.self.now in
    let after = c.apply.new.self in
    let i = c.args.frame in
    let kind = c.args.kind in
    let page = c.in-Some.held in
    let old = get_or (frames_of before) i blank in
    let f = after_event old (event_of kind page) in
    let is_filled : filled (get_or (clock before).pages i None) ≡ true = ap filled (sym c.in-Some.ensures) in
    let e = c.apply.ensures.frames ∙ ap (λ x. set (frames_of before) i (after_event old x)) c.event.ensures in
    record {
      clock = clock_set before after i f e c.apply.ensures.hand (held old) true
          (held_accessed old.state kind page (ap filled (sym (page_seen before i)) ∙ is_filled))
          (marked_accessed old.marked kind page)
          ∙ ap (λ ps. record { pages = ps; marks = set (clock before).marks i true; hand = (clock before).hand }) (pages_same before i)
          ∙ sym (cond-true _ (hit (clock before) i) (clock before) is_filled);
      dirty = dirties_set before after i f e (get_or (dirties before) i false || is_write kind)
          (dirty_accessed old.state kind page ∙ ap (λ b. b || is_write kind) (sym (dirty_seen before i)))
          ∙ sym (cond-true _ (hit_dirty (dirties before) i kind) (dirties before) is_filled);
    }
