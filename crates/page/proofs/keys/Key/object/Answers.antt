use Rattle.std.proofs.Common.{◌/◌, ◌^◌}
use Rattle.std.proofs.lemmas.Nat.{and_mask}
use Rattle.page.proofs.keys.Key.object.Goals as goal

pub returns : goal.returns
returns c = and_mask (c.args.self.number / 2 ^ 12) 16
