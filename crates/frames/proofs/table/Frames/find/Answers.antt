use Rattle.std.proofs.Common.{List, ap, ◌∙◌, rules}
use Rattle.std.proofs.lemmas.Iterator.{YieldsList-from_slice}
use Rattle.std.proofs.lemmas.Iterator.Search.{position_from_yields_List}
use Rattle.frames.specs.declared.states.Frame.{Frame}
use Rattle.frames.specs.Clock.{find, holds}
use Rattle.frames.specs.Held.{clock, pages_in}
use Rattle.frames.specs.States.{held}
use Rattle.frames.proofs.Found.{find_is}
use Rattle.frames.proofs.table.Frames.find.Goals as goal

pub returns : goal.returns
unfolding clock
returns c =
    let first = position_from_yields_List (λ (f : Frame). holds c.args.page (held f)) _ _ _ c.position.ensures.ran (YieldsList-from_slice c.frames.result.now cc) (λ x b q k. search rules) in
    first ∙ find_is c.args.page c.frames.result.now ∙ ap (λ (fs : List Frame). find c.args.page (pages_in fs)) c.frames.ensures
