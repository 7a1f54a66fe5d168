use Rattle.std.proofs.Common.{false, get_or, None, refl}
use Rattle.frames.specs.declared.states.FrameEvent.TheVariants.{Emptying}
use Rattle.frames.specs.Held.{blank, frames_of}
use Rattle.frames.specs.States.{after_event}
use Rattle.frames.proofs.Views.{clock_set, dirties_set, held_emptied, clean_emptied}
use Rattle.frames.proofs.table.Frames.empty.Goals as goal

pub returns : goal.returns
returns c =
    let before = c.args.self.now in
    let after = c.apply.new.self in
    let old = get_or (frames_of before) c.args.frame blank in
    record {
      clock = clock_set before after c.args.frame (after_event old Emptying) c.apply.ensures.frames c.apply.ensures.hand None false
          (held_emptied old.state) refl;
      dirty = dirties_set before after c.args.frame (after_event old Emptying) c.apply.ensures.frames false (clean_emptied old.state);
    }
