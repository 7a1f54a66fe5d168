use Rattle.std.proofs.Common.{ℕ, List, is_some, Option, sym, ap, ◌∙◌}
use Rattle.std.proofs.lemmas.Bool.{cond-true, cond-false}
use Rattle.page.specs.Keys.{ephemeral}
use Rattle.backend.specs.States.{encode}
use Rattle.layers.specs.Sides.{view_held}
use Rattle.layers.specs.Divider.{divider_view}
use Rattle.layers.proofs.divider.DividerBackend.holds.Goals as goal

pub returns-then-is_ephemeral : goal.returns-then-is_ephemeral
returns-then-is_ephemeral g c =
    let d = c.args.self.now in
    let k = c.args.key.number in
    let v = divider_view g.A.Backend.state g.B.Backend.state d in
    let there = view_held g.A.Backend.rules g.B.Backend.rules v k ∙ cond-true (ephemeral k) _ _ (sym c.if-is_ephemeral.ensures) in
    record {
      answer = c.holds.ensures.answer ∙ ap (λ (o : Option (List ℕ)). is_some o) (sym there);
      same = ap (λ (t : List ℕ). encode (record { label = d.account.label; offers = d.account.offers; first = t; second = g.B.Backend.state d.second })) c.holds.ensures.same;
    }

pub returns-else-is_ephemeral : goal.returns-else-is_ephemeral
returns-else-is_ephemeral g c =
    let d = c.args.self.now in
    let k = c.args.key.number in
    let v = divider_view g.A.Backend.state g.B.Backend.state d in
    let there = view_held g.A.Backend.rules g.B.Backend.rules v k ∙ cond-false (ephemeral k) _ _ (sym c.if-is_ephemeral.ensures) in
    record {
      answer = c.holds-else-is_ephemeral.ensures.answer ∙ ap (λ (o : Option (List ℕ)). is_some o) (sym there);
      same = ap (λ (t : List ℕ). encode (record { label = d.account.label; offers = d.account.offers; first = g.A.Backend.state d.first; second = t })) c.holds-else-is_ephemeral.ensures.same;
    }
