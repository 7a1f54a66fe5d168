use Rattle.std.proofs.Common.{rules}
use Rattle.layers.specs.Limits.{quota_new}
use Rattle.layers.proofs.quota.Quota.new.Goals as goal

pub returns : goal.returns
returns g c = record {
  label = search rules;
  offers = search rules;
  limits = search rules;
  below = search rules;
  new = λ n. quota_new g.B.Backend.rules _ (search rules) n;
}
