use Rattle.frames.proofs.Runs.{rule_stands}
use Rattle.frames.proofs.law.frame_rule_stands.Goals as goal

pub returns : goal.returns
returns c = rule_stands
