use Rattle.std.proofs.Common.{◌∙◌, eqb, rules, sym}
use Rattle.std.proofs.lemmas.Iterator.Consumers.{YieldsList-from_first}
use Rattle.std.proofs.lemmas.Iterator.Search.{find_from_yields_List}
use Rattle.page.specs.Keys.{pool_of}
use Rattle.held.specs.Holdings.{keys}
use Rattle.held.specs.View.{holdings}
use Rattle.held.specs.Walks.{keys_left}
use Rattle.held.proofs.Facts.{numbered, oldest_found}
use Rattle.held.proofs.held.Held.oldest_of.Goals as goal

pub returns : goal.returns
returns c =
    let ks = keys (holdings c.args.self.now) in
    let pool = c.args.pool in
    let chain = YieldsList-from_first (λ k. k.number) keys_left ks c.keys.ensures in
    numbered c.find.result
    ∙ (find_from_yields_List (λ k. eqb (pool_of k) pool) c.find.new.self _ c.find.result c.find.ensures.ran chain (λ x b q k. search rules)
    ∙ sym (oldest_found pool ks))
