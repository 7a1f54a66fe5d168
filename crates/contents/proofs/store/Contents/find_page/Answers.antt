use Rattle.std.proofs.Common.{◌≡◌, length, arith, rules}
use borrow.Author.Tests.{tests}
use Rattle.std.proofs.lemmas.Iterator.{YieldsList-from_range, first_from_find}
use Rattle.contents.specs.Calls.{Holds}
use Rattle.contents.specs.View.{users_of, contents_area}
use Rattle.contents.proofs.Facts.{size_is, size_limit}
use Rattle.contents.proofs.Searches.{page_found}
use Rattle.contents.proofs.store.Contents.find_page.Goals as goal

pub overflow_cast-len : goal.overflow_cast-len
overflow_cast-len c = omega (arith, size_is c.args.self.now, size_limit c.args.self.now)

pub returns : goal.returns
returns c =
    let self = c.args.self.now in
    let page = c.args.page.now.bytes.now in
    let n : length (users_of self) ≡ c.len.result = omega (arith, size_is self) in
    page_found (users_of self) (contents_area self) page c.len.result c.find.result n
    (first_from_find _ _ _ (λ i. Holds (users_of self) (contents_area self) page i) (λ i. Holds (users_of self) (contents_area self) page i → ⊥) c.find.ensures.ran (YieldsList-from_range 0 c.len.result c.len.result (cc) (omega arith)) (λ x q k. search (rules, tests)) (λ x q k. search (rules, tests)))
