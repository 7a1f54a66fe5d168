use Rattle.std.proofs.Common.{Err, sym, ap, ◌∙◌, rules}
use Rattle.std.proofs.lemmas.Bool.{cond-true, cond-false}
use Rattle.backend.specs.Accounts.{offered, refusal_of}
use Rattle.backend.specs.declared.account.Account.{Account}
use Rattle.backend.specs.declared.refusals.Cause.TheVariants.{NoPlace}
use Rattle.backend.specs.Outcomes.{is_page}
use Rattle.store.proofs.Puts.{rest_is, put_answer, put_after, put_counted}
use Rattle.store.specs.StatesLemmas.{label_is}
use Rattle.store.specs.States.{store_view}
use Rattle.backend.proofs.Accounts.{passed, counted}
use Rattle.store.proofs.calls.StoreBackend.put.Goals as goal

pub returns-in_err-offer : goal.returns-in_err-offer
returns-in_err-offer g c = search (rules, label_is)

pub returns-then-append : goal.returns-then-append
returns-then-append g c =
    let b = c.args.self.now in
    let v = store_view g.H.HeldPages.fixed g.H.HeldPages.entries b in
    let k = c.args.key.number in
    let p = c.args.page.now in
    let page = passed _ _ _ c.offer.ensures.answer c.in_ok-offer.was in
    let more = counted b.account c.offer.new.self (is_page p) page c.offer.ensures.after in
    let lack = g.H.HeldPages.lack in
    let r = c.remove.ensures in
    let m = c.make_room.ensures in
    let a = c.append.ensures in
    let found = rest_is lack v k p _ _ _ r.fixed r.entries m.entries in
    let fixed = m.fixed ∙ r.fixed in
    record {
      answer = sym (cond-true (is_page p) _ _ page ∙ (put_answer lack v k p page _ _ _ fixed found a.answer ∙ cond-true c.append.result _ _ c.if-append.true));
      after =
          put_counted lack v k p page (offered b.account) _ _ _ _ more (put_after lack v k p page _ _ _ fixed found a.answer _ _ a.fixed a.entries);
    }

pub returns-else-append : goal.returns-else-append
returns-else-append g c =
    let b = c.args.self.now in
    let v = store_view g.H.HeldPages.fixed g.H.HeldPages.entries b in
    let k = c.args.key.number in
    let p = c.args.page.now in
    let page = passed _ _ _ c.offer.ensures.answer c.in_ok-offer.was in
    let more = counted b.account c.offer.new.self (is_page p) page c.offer.ensures.after in
    let lack = g.H.HeldPages.lack in
    let r = c.remove.ensures in
    let m = c.make_room.ensures in
    let a = c.append.ensures in
    let found = rest_is lack v k p _ _ _ r.fixed r.entries m.entries in
    let fixed = m.fixed ∙ r.fixed in
    record {
      answer =
          ap Err (c.refusal.ensures ∙ ap (λ (a : Account). refusal_of a NoPlace c.args.key) more)
          ∙ sym (cond-true (is_page p) _ _ page ∙ (put_answer lack v k p page _ _ _ fixed found a.answer ∙ cond-false c.append.result _ _ c.if-append.false));
      after =
          put_counted lack v k p page (offered b.account) _ _ _ _ more (put_after lack v k p page _ _ _ fixed found a.answer _ _ a.fixed a.entries);
    }
