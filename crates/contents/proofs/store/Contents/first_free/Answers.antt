use Rattle.std.proofs.Common.{◌≡◌, ◌≤◌, vec_items, rules}
use borrow.Author.Tests.{tests}
use Rattle.std.proofs.lemmas.Iterator.{IsFirst-from_position, YieldsList-from_slice}
use Rattle.contents.specs.declared.records.ContentRecord.{ContentRecord}
use Rattle.contents.proofs.Searches.{free_found}
use Rattle.contents.proofs.store.Contents.first_free.Goals as goal

pub returns : goal.returns
returns c =
    let records = vec_items c.args.self.now.records in
    free_found records c.position.result
    (IsFirst-from_position _ _ _ (λ (x : ContentRecord). x.users ≡ 0) (λ (x : ContentRecord). 1 ≤ x.users) c.position.ensures.ran (YieldsList-from_slice records cc) (λ x q k. search (rules, tests)) (λ x q k. search (rules, tests)))
