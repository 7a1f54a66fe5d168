use Rattle.std.proofs.Common.{false, get_or, refl, ◌∙◌}
use Rattle.frames.specs.declared.states.FrameEvent.TheVariants.{WriteBack}
use Rattle.frames.specs.Held.{blank, frames_of}
use Rattle.frames.specs.States.{after_event, held}
use Rattle.frames.proofs.Views.{clock_same, clock_set, dirties_set, held_written_back, clean_written_back}
use Rattle.frames.proofs.table.Frames.write_back.Goals as goal

pub returns : goal.returns
returns c =
    let before = c.args.self.now in
    let after = c.apply.new.self in
    let old = get_or (frames_of before) c.args.frame blank in
    record {
      clock = clock_set before after c.args.frame (after_event old WriteBack) c.apply.ensures.frames c.apply.ensures.hand (held old) old.marked
          (held_written_back old.state) refl
          ∙ clock_same before c.args.frame;
      dirty = dirties_set before after c.args.frame (after_event old WriteBack) c.apply.ensures.frames false (clean_written_back old.state);
    }
