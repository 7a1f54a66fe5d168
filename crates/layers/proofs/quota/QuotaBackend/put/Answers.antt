use Rattle.std.proofs.Common.{ℕ, List, Err, sym, ap, ◌∙◌, rules}
use Rattle.std.proofs.lemmas.Bool.{cond-true}
use Rattle.backend.specs.Outcomes.{granted_unless, is_page}
use Rattle.backend.specs.Accounts.{refusal_of}
use Rattle.backend.specs.declared.account.Account.{Account}
use Rattle.backend.specs.declared.refusals.Cause.TheVariants.{OverLimit}
use Rattle.backend.specs.Codec.{decode_encode}
use Rattle.layers.specs.Limits.{put_full_refusal, put_full_next, put_pass_refusal, put_pass_next}
use Rattle.layers.specs.Quota.{quota_view}
use Rattle.backend.proofs.Accounts.{passed, counted, same_state}
use Rattle.layers.proofs.quota.QuotaBackend.put.Goals as goal

pub returns-in_err-offer : goal.returns-in_err-offer
returns-in_err-offer g c = search (rules, decode_encode)

pub returns-then-at_limit : goal.returns-then-at_limit
returns-then-at_limit g c =
    let R = g.B.Backend.rules in
    let q = c.args.self.now in
    let v = quota_view g.B.Backend.state q in
    let k = c.args.key.number in
    let p = c.args.page.now in
    let e = c.if-at_limit.ensures in
    let page = passed _ _ _ c.offer.ensures.answer c.in_ok-offer.was in
    let more = counted q.account c.offer.new.self (is_page p) page c.offer.ensures.after in
    let told = put_full_refusal R v k p (sym e.answer) in
    let next = put_full_next R v k p (sym e.answer) in
    record {
      answer =
          ap Err (c.refusal.ensures ∙ ap (λ (a : Account). refusal_of a OverLimit c.args.key) (e.account ∙ more))
          ∙ sym (cond-true (is_page p) _ _ page ∙ ap granted_unless told);
      after = same_state (e.account ∙ more) e.limits e.below ∙ sym (cond-true (is_page p) _ _ page ∙ next);
    }

pub returns : goal.returns
returns g c =
    let R = g.B.Backend.rules in
    let q = c.args.self.now in
    let v = quota_view g.B.Backend.state q in
    let k = c.args.key.number in
    let p = c.args.page.now in
    let e = c.if-at_limit.ensures in
    let page = passed _ _ _ c.offer.ensures.answer c.in_ok-offer.was in
    let more = counted q.account c.offer.new.self (is_page p) page c.offer.ensures.after in
    let told = put_pass_refusal R v k p (sym e.answer) in
    let next = put_pass_next R v k p (sym e.answer) in
    record {
      answer =
          c.put.ensures.answer
          ∙ cond-true (is_page p) _ _ page
          ∙ ap (λ (t : List ℕ). granted_unless (R.put_refusal t k p)) e.below
          ∙ sym (cond-true (is_page p) _ _ page ∙ ap granted_unless told);
      after =
          let under = c.put.ensures.after ∙ cond-true (is_page p) _ _ page ∙ ap (λ (t : List ℕ). R.put_next t k p) e.below in
          same_state (e.account ∙ more) e.limits under ∙ sym (cond-true (is_page p) _ _ page ∙ next);
    }
