use Rattle.std.proofs.Common.{◌+◌, ◌^◌, ap, ◌∙◌}
use Rattle.index.specs.Links.{up}
use Rattle.index.proofs.Steps.{up_shift}
use Rattle.index.proofs.descend.path_above.Goals as goal

pub returns : goal.returns
returns c = up_shift c.args.height (2 ^ 32 + c.from.result) ∙ ap (λ k. up c.args.height (2 ^ 32 + k)) c.from.ensures
