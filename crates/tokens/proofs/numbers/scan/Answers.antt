use Rattle.std.proofs.Common.{ap, ◌∙◌, rules}
use Rattle.tokens.specs.Numbers.{scanned}
use Rattle.tokens.proofs.Scans.{scanned_by}
use Rattle.tokens.proofs.numbers.scan.Goals as goal

pub returns : goal.returns
returns c =
    scanned_by _ _ _ (λ n d r h k. search rules) _ _ 0 _ c.try_fold.ensures.ran ∙ ap (scanned 0) c.iter.ensures.rest
