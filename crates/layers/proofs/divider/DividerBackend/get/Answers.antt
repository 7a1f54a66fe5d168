use Rattle.std.proofs.Common.{ℕ, Bool, List, is_some, Ok, Option, Result, sym, ap, ◌∙◌, rules}
use Rattle.std.proofs.lemmas.Bool.{cond-true, cond-false}
use Rattle.page.specs.Keys.{ephemeral}
use Rattle.backend.specs.Outcomes.{copied, is_page}
use Rattle.backend.specs.States.{encode}
use Rattle.backend.specs.declared.refusals.Refusal.{Refusal}
use Rattle.backend.specs.Codec.{decode_encode}
use Rattle.layers.specs.Sides.{view_held, moved_even, moved_odd}
use Rattle.layers.specs.Divider.{divider_view}
use Rattle.backend.proofs.Accounts.{passed}
use Rattle.layers.proofs.divider.DividerBackend.get.Goals as goal

abbrev found : Option (List ℕ) → Result Bool Refusal
found o = Ok (is_some o)

pub returns-in_err-check : goal.returns-in_err-check
returns-in_err-check g c = search (rules, decode_encode)

pub returns-then-is_ephemeral : goal.returns-then-is_ephemeral
returns-then-is_ephemeral g c =
    let R = g.A.Backend.rules in
    let S = g.B.Backend.rules in
    let d = c.args.self.now in
    let k = c.args.key.number in
    let out = c.args.out.now in
    let v = divider_view g.A.Backend.state g.B.Backend.state d in
    let page = passed _ _ _ c.check.ensures c.in_ok-check.was in
    let side = sym c.if-is_ephemeral.ensures in
    let there = view_held R S v k ∙ cond-true (ephemeral k) _ _ side in
    let next = moved_even v k (λ o. o) (λ t. R.get_next t k) (λ t. S.get_next t k) side in
    let under = c.get.ensures.after ∙ cond-true (is_page out) _ _ page in
    record {
      answer =
          c.get.ensures.answer ∙ cond-true (is_page out) _ _ page
          ∙ sym (cond-true (is_page out) _ _ page ∙ ap found there);
      after = ap (λ (t : List ℕ). encode (record { label = d.account.label; offers = d.account.offers; first = t; second = g.B.Backend.state d.second })) under ∙ sym (cond-true (is_page out) _ _ page ∙ next);
      buffer =
          c.get.ensures.buffer ∙ cond-true (is_page out) _ _ page
          ∙ sym (cond-true (is_page out) _ _ page ∙ ap (λ (o : Option (List ℕ)). copied o out) there);
    }

pub returns-else-is_ephemeral : goal.returns-else-is_ephemeral
returns-else-is_ephemeral g c =
    let R = g.A.Backend.rules in
    let S = g.B.Backend.rules in
    let d = c.args.self.now in
    let k = c.args.key.number in
    let out = c.args.out.now in
    let v = divider_view g.A.Backend.state g.B.Backend.state d in
    let page = passed _ _ _ c.check.ensures c.in_ok-check.was in
    let side = sym c.if-is_ephemeral.ensures in
    let there = view_held R S v k ∙ cond-false (ephemeral k) _ _ side in
    let next = moved_odd v k (λ o. o) (λ t. R.get_next t k) (λ t. S.get_next t k) side in
    let under = c.get-else-is_ephemeral.ensures.after ∙ cond-true (is_page out) _ _ page in
    record {
      answer =
          c.get-else-is_ephemeral.ensures.answer ∙ cond-true (is_page out) _ _ page
          ∙ sym (cond-true (is_page out) _ _ page ∙ ap found there);
      after = ap (λ (t : List ℕ). encode (record { label = d.account.label; offers = d.account.offers; first = g.A.Backend.state d.first; second = t })) under ∙ sym (cond-true (is_page out) _ _ page ∙ next);
      buffer =
          c.get-else-is_ephemeral.ensures.buffer ∙ cond-true (is_page out) _ _ page
          ∙ sym (cond-true (is_page out) _ _ page ∙ ap (λ (o : Option (List ℕ)). copied o out) there);
    }
