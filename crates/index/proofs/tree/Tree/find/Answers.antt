use Rattle.std.proofs.Common.{◌≡◌, ◌-◌, length, vec_items, sym, ap, ◌∙◌, arith}
use Rattle.index.specs.Slots.{mark_in}
use Rattle.index.specs.Sound.{heads_of}
use Rattle.index.proofs.Below.{end_none, end_found}
use Rattle.index.proofs.tree.Tree.find.Goals as goal

pub returns-then-end-gt0 : goal.returns-then-end-gt0
returns-then-end-gt0 g c = end_none c.requires c.descend-end.ensures c.if-end-gt0.true

pub returns : goal.returns
returns g c =
    let v = c.args.self.now.nodes.ok.0 in
    let f = end_found c.requires c.descend-end.ensures (omega arith) in
    let e : length (vec_items c.args.self.now.nodes) ≡ c.len.result = omega arith in
    (omega (arith, f.2), ap (λ x. mark_in (heads_of c.args.self.now) (c.descend-end.result.item - x)) (sym e) ∙ f.3)
