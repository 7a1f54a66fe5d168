use Rattle.std.proofs.Common.{ap, ◌∙◌}
use Rattle.index.specs.Map.{look}
use Rattle.index.specs.View.{view}
use Rattle.held.proofs.Facts.{filed_places}
use Rattle.held.proofs.held.Held.find.Goals as goal

pub returns : goal.returns
returns c = c.find.ensures ∙ (ap (λ k. look k (view c.args.self.now.index)) c.from.ensures ∙ filed_places c.args.self.now c.args.key.number)
