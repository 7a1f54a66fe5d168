use Rattle.std.proofs.Common.{eqb, List, count_by, sym, refl, ap, ◌∙◌}
use Rattle.page.specs.Keys.{pool_of}
use Rattle.backend.specs.Rules.{Entry}
use Rattle.store.specs.StatesLemmas.{listed_is, size_is}
use Rattle.store.proofs.calls.StoreBackend.pool_pages.Goals as goal

pub returns : goal.returns
returns g c = record {
  answer =
      c.pool_pages.ensures
      ∙ (size_is c.args.pool (g.H.HeldPages.entries c.args.self.now.pages)
      ∙ ap (λ (es : List Entry). count_by (λ e. eqb (pool_of e.key) c.args.pool) es) (sym (listed_is _)));
  same = refl;
}
