use Rattle.std.proofs.Common.{ℕ, List, sym, ap, ◌∙◌}
use Rattle.backend.specs.States.{encode}
use Rattle.layers.specs.Sides.{moved_even, moved_odd}
use Rattle.layers.specs.Divider.{divider_view}
use Rattle.layers.proofs.divider.DividerBackend.drop_pool.Goals as goal

pub returns-then-is_ephemeral : goal.returns-then-is_ephemeral
returns-then-is_ephemeral g c =
    let d = c.args.self.now in
    let k = c.args.key.number in
    let v = divider_view g.A.Backend.state g.B.Backend.state d in
    ap (λ (t : List ℕ). encode (record { label = d.account.label; offers = d.account.offers; first = t; second = g.B.Backend.state d.second }))
    c.drop_pool.ensures
    ∙ sym
    (moved_even v k (λ o. o) (λ t. g.A.Backend.rules.drop_pool_next t k) (λ t. g.B.Backend.rules.drop_pool_next t k)
    (sym c.if-is_ephemeral.ensures))

pub returns-else-is_ephemeral : goal.returns-else-is_ephemeral
returns-else-is_ephemeral g c =
    let d = c.args.self.now in
    let k = c.args.key.number in
    let v = divider_view g.A.Backend.state g.B.Backend.state d in
    ap (λ (t : List ℕ). encode (record { label = d.account.label; offers = d.account.offers; first = g.A.Backend.state d.first; second = t }))
    c.drop_pool-else-is_ephemeral.ensures
    ∙ sym
    (moved_odd v k (λ o. o) (λ t. g.A.Backend.rules.drop_pool_next t k) (λ t. g.B.Backend.rules.drop_pool_next t k)
    (sym c.if-is_ephemeral.ensures))
