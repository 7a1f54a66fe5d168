use Rattle.std.proofs.Common.{sym, ◌∙◌}
use Rattle.store.specs.StatesLemmas.{dropped_is}
use Rattle.store.proofs.calls.StoreBackend.drop_page.Goals as goal

pub returns : goal.returns
returns g c = cc (c.remove.ensures.entries, c.remove.ensures.fixed) ∙ sym (dropped_is _ _)
