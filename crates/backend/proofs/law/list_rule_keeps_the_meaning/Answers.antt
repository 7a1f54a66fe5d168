use Rattle.backend.proofs.Keeping.{list_law}
use Rattle.backend.proofs.law.list_rule_keeps_the_meaning.Goals as goal

pub returns : goal.returns
returns c = list_law
