use Rattle.std.proofs.Common.{◌∙◌}
use Rattle.frames.specs.Held.{clock, dirties}
use Rattle.frames.proofs.Emptied.{all_lowered, emptied_all}
use Rattle.frames.proofs.Views.{as_many_dirties, as_many_marks}
use Rattle.frames.proofs.table.Frames.empty_all.Goals as goal

pub returns : goal.returns
returns c =
    let before = c.args.self.now in
    record {
      clock = c.empty_set.ensures.clock ∙ emptied_all (clock before) (as_many_marks before);
      dirty = c.empty_set.ensures.dirty ∙ all_lowered (clock before).pages (dirties before) (as_many_dirties before);
    }
