use Rattle.std.proofs.Common.{◌%◌, ap, ◌∙◌}
use Rattle.std.proofs.lemmas.Nat.{and_mask}
use Rattle.index.proofs.descend.step.Goals as goal

pub returns : goal.returns
returns c = and_mask c.path_above.result 4 ∙ ap (λ x. x % 16) c.path_above.ensures
