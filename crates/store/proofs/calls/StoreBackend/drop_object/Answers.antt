use Rattle.std.proofs.Common.{sym, ◌∙◌}
use Rattle.store.specs.StatesLemmas.{dropped_is}
use Rattle.store.proofs.calls.StoreBackend.drop_object.Goals as goal

pub returns : goal.returns
returns g c = cc (c.drop_block.ensures.entries, c.drop_block.ensures.fixed) ∙ sym (dropped_is _ _)
