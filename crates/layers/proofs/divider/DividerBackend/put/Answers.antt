use Rattle.std.proofs.Common.{sym, refl, ap, ◌∙◌, rules}
use Rattle.std.proofs.lemmas.Bool.{cond-true, cond-false}
use Rattle.page.specs.Counts.{one_more}
use Rattle.page.specs.Keys.{ephemeral}
use Rattle.backend.specs.Outcomes.{granted_unless, is_page}
use Rattle.backend.specs.Codec.{decode_encode}
use Rattle.layers.specs.Sides.{view_refusal, moved_even, moved_odd}
use Rattle.layers.specs.Divider.{divider_view}
use Rattle.backend.proofs.Accounts.{passed, counted, same_state}
use Rattle.layers.proofs.divider.DividerBackend.put.Goals as goal

pub returns-in_err-offer : goal.returns-in_err-offer
returns-in_err-offer g c = search (rules, decode_encode)

pub returns-then-is_ephemeral : goal.returns-then-is_ephemeral
returns-then-is_ephemeral g c =
    let R = g.A.Backend.rules in
    let S = g.B.Backend.rules in
    let d = c.args.self.now in
    let k = c.args.key.number in
    let p = c.args.page.now in
    let v = divider_view g.A.Backend.state g.B.Backend.state d in
    let page = passed _ _ _ c.offer.ensures.answer c.in_ok-offer.was in
    let more = counted d.account c.offer.new.self (is_page p) page c.offer.ensures.after in
    let side = sym c.if-is_ephemeral.ensures in
    let told = view_refusal R S v k p ∙ cond-true (ephemeral k) _ _ side in
    let next = moved_even v k one_more (λ t. R.put_next t k p) (λ t. S.put_next t k p) side in
    let under = c.put.ensures.after ∙ cond-true (is_page p) _ _ page in
    record {
      answer = c.put.ensures.answer ∙ cond-true (is_page p) _ _ page ∙ sym (cond-true (is_page p) _ _ page ∙ ap granted_unless told);
      after = same_state more under refl ∙ sym (cond-true (is_page p) _ _ page ∙ next);
    }

pub returns-else-is_ephemeral : goal.returns-else-is_ephemeral
returns-else-is_ephemeral g c =
    let R = g.A.Backend.rules in
    let S = g.B.Backend.rules in
    let d = c.args.self.now in
    let k = c.args.key.number in
    let p = c.args.page.now in
    let v = divider_view g.A.Backend.state g.B.Backend.state d in
    let page = passed _ _ _ c.offer.ensures.answer c.in_ok-offer.was in
    let more = counted d.account c.offer.new.self (is_page p) page c.offer.ensures.after in
    let side = sym c.if-is_ephemeral.ensures in
    let told = view_refusal R S v k p ∙ cond-false (ephemeral k) _ _ side in
    let next = moved_odd v k one_more (λ t. R.put_next t k p) (λ t. S.put_next t k p) side in
    let under = c.put-else-is_ephemeral.ensures.after ∙ cond-true (is_page p) _ _ page in
    record {
      answer = c.put-else-is_ephemeral.ensures.answer ∙ cond-true (is_page p) _ _ page ∙ sym (cond-true (is_page p) _ _ page ∙ ap granted_unless told);
      after = same_state more refl under ∙ sym (cond-true (is_page p) _ _ page ∙ next);
    }
