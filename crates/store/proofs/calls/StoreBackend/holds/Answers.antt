use Rattle.std.proofs.Common.{List, is_some, sym, refl, ap, ◌∙◌}
use Rattle.backend.specs.Rules.{Entry, lookup}
use Rattle.store.specs.StatesLemmas.{listed_is}
use Rattle.store.proofs.calls.StoreBackend.holds.Goals as goal

pub returns : goal.returns
returns g c = record {
  answer = c.holds.ensures ∙ ap (λ (es : List Entry). is_some (lookup c.args.key.number es)) (sym (listed_is _));
  same = refl;
}
