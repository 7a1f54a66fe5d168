use Rattle.std.proofs.Common.{◌≡◌, false, get_or, set, true, Some, None, sym, ap, ◌∙◌}
use Rattle.frames.specs.Clock.{Clock}
use Rattle.frames.specs.Held.{blank, clock, dirties, frames_of, is_write}
use Rattle.frames.specs.States.{after_event, event_of, held}
use Rattle.frames.proofs.Tables.{get_set_same, set_again}
use Rattle.frames.proofs.Views.{clock_set, dirties_set, dirty_filled, held_filled, marked_accessed, page_seen, with_frame}
use Rattle.frames.proofs.table.Frames.fill.Goals as goal

pub returns : goal.returns
returns c =
    let before = c.args.self.now in
    let between = c.empty.new.self in
    let after = c.apply.new.self in
    let i = c.args.frame in
    let page = c.args.page in
    let kind = c.args.kind in
    let old = get_or (frames_of between) i blank in
    let f = after_event old (event_of kind page) in
    let e = c.apply.ensures.frames ∙ ap (λ x. set (frames_of between) i (after_event old x)) c.event.ensures in
    let empty : held old ≡ None
    = sym (page_seen between i) ∙ ap (λ (x : Clock). get_or x.pages i None) c.empty.ensures.clock ∙ get_set_same (clock before).pages i None in
    let pages = set_again (clock before).pages i None (Some page) in
    let marks = set_again (clock before).marks i false true in
    let c' = clock_set between after i f e c.apply.ensures.hand (Some page) true (held_filled old.state kind page empty) (marked_accessed old.marked kind page)
    ∙ ap (λ (x : Clock). with_frame x i (Some page) true) c.empty.ensures.clock in
    record {
      clock = cc (c', pages, marks);
      dirty = dirties_set between after i f e (is_write kind) (dirty_filled old.state kind page empty)
          ∙ ap (λ ds. set ds i (is_write kind)) c.empty.ensures.dirty
          ∙ set_again (dirties before) i false (is_write kind);
    }
