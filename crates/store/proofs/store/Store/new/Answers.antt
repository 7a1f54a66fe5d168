use Rattle.std.proofs.Common.{◌≡◌, true, List, sym, ◌∙◌, subst, rules}
use Rattle.backend.specs.Listing.{tidy}
use Rattle.backend.specs.Rules.{Entry}
use Rattle.store.specs.StatesLemmas.{listed_is, offers_are}
use Rattle.store.proofs.store.Store.new.Goals as goal

pub returns : goal.returns
returns g c = record {
  label = search rules;
  offers = search rules;
  pages = search rules;
  new = λ none. record {
    valid = subst (λ (es : List Entry). tidy es ≡ true) (sym (listed_is _)) (g.met.H.HeldPages.tidied c.args.pages);
    empty = listed_is _ ∙ none;
    unoffered = search (rules, offers_are);
  };
}
