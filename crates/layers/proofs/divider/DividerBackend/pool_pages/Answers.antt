use Rattle.std.proofs.Common.{ℕ, ◌%◌, eqb, List, sym, ap, ◌∙◌}
use Rattle.std.proofs.lemmas.Bool.{cond-true, cond-false, eq-eqb, ne_eqb}
use Rattle.backend.specs.States.{encode}
use Rattle.layers.specs.Sides.{view_pool_pages}
use Rattle.layers.specs.Divider.{divider_view}
use Rattle.layers.proofs.divider.DividerBackend.pool_pages.Goals as goal

pub returns-then-pool-eq0 : goal.returns-then-pool-eq0
returns-then-pool-eq0 g c =
    let d = c.args.self.now in
    let pool = c.args.pool in
    let v = divider_view g.A.Backend.state g.B.Backend.state d in
    let there = view_pool_pages g.A.Backend.rules g.B.Backend.rules v pool ∙ cond-true (eqb (pool % 2) 0) _ _ (eq-eqb _ _ c.if-pool-eq0.true) in
    record {
      answer = c.pool_pages.ensures.answer ∙ sym there;
      same = ap (λ (t : List ℕ). encode (record { label = d.account.label; offers = d.account.offers; first = t; second = g.B.Backend.state d.second })) c.pool_pages.ensures.same;
    }

pub returns-else-pool-eq0 : goal.returns-else-pool-eq0
returns-else-pool-eq0 g c =
    let d = c.args.self.now in
    let pool = c.args.pool in
    let v = divider_view g.A.Backend.state g.B.Backend.state d in
    let there = view_pool_pages g.A.Backend.rules g.B.Backend.rules v pool ∙ cond-false (eqb (pool % 2) 0) _ _ (ne_eqb _ _ c.if-pool-eq0.false) in
    record {
      answer = c.pool_pages-else-pool-eq0.ensures.answer ∙ sym there;
      same = ap (λ (t : List ℕ). encode (record { label = d.account.label; offers = d.account.offers; first = g.A.Backend.state d.first; second = t })) c.pool_pages-else-pool-eq0.ensures.same;
    }
