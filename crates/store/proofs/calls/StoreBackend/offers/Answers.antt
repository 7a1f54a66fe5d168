use Rattle.std.proofs.Common.{sym, ◌∙◌}
use Rattle.store.specs.StatesLemmas.{offers_are}
use Rattle.store.proofs.calls.StoreBackend.offers.Goals as goal

pub returns : goal.returns
returns g c = c.offers.ensures ∙ sym (offers_are _)
