use Rattle.std.proofs.lemmas.Nat.{and_mask}
use Rattle.page.proofs.keys.Key.index.Goals as goal

pub returns : goal.returns
returns c = and_mask c.args.self.number 12
