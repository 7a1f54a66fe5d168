use Rattle.std.proofs.Common.{rules}
use Rattle.layers.specs.Sides.{divider_new}
use Rattle.layers.proofs.divider.Divider.new.Goals as goal

pub returns : goal.returns
returns g c = record {
  label = search rules;
  offers = search rules;
  first = search rules;
  second = search rules;
  new = λ n m. divider_new g.A.Backend.rules g.B.Backend.rules _ (search rules) n m;
}
