use Rattle.std.proofs.Common.{set, sym, ap, ◌∙◌, get_or-take}
use Rattle.std.proofs.Math.Seq.{take-set-lt}
use Rattle.frames.specs.Held.{blank, frames_of}
use Rattle.frames.specs.States.{after_event}
use Rattle.frames.proofs.table.Frames.apply.Goals as goal

pub returns-then-place-self-clause-frames : goal.returns-then-place-self-clause-frames
returns-then-place-self-clause-frames c =
    let fs = c.args.self.now in
    let i = c.args.place in
    take-set-lt fs.count fs.table i _ c.if-place-self.true
    ∙ ap (set (frames_of fs) i) (c.apply.ensures ∙ ap (λ f. after_event f c.args.event) (sym (get_or-take fs.count fs.table i blank c.if-place-self.true)))
