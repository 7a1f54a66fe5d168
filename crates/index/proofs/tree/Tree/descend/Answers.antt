use Rattle.std.proofs.Common.{◌≡◌, ◌+◌, ◌-◌, ◌%◌, ◌^◌, sym, ap, ◌∙◌, subst, arith}
use Rattle.index.specs.Descents.{Descended}
use Rattle.index.specs.Links.{up}
use Rattle.index.specs.Nodes.{child_in}
use Rattle.index.specs.Sound.{heads_of}
use Rattle.index.proofs.Descending.{at_node, next_step}
use Rattle.index.proofs.Nodes.{child_read}
use Rattle.index.proofs.tree.Tree.descend.Goals as goal

pub index-requires : goal.index-requires
index-requires g c =
    let v = c.args.self.now.nodes.ok.0 in
    let i = c.loop-height.invariant in
    omega (arith, at_node c.requires i.0 c.loop-height.height c.args.key c.loop-height.item (omega arith) (omega arith) (omega arith) i.1)

pub returns-then-next-eq0 : goal.returns-then-next-eq0
returns-then-next-eq0 g c =
    let i = c.loop-height.invariant in
    let e : c.loop-height.height ≡ c.loop-height.height - 1 + 1 = omega arith in
    let l = at_node c.requires i.0 c.loop-height.height c.args.key c.loop-height.item (omega arith) (omega arith) (omega arith) i.1 in
    let here = child_in c.args.self.now.nodes.items c.loop-height.item in
    let x = c.child-next.ensures ∙ (child_read c.args.self.now.nodes.items c.loop-height.item c.index.result.now l c.index.ensures c.step.result ∙ ap here c.step.ensures) in
    subst (Descended c.args.self.now.nodes.items (heads_of c.args.self.now) c.args.key c.loop-height.item) e (record {
      high = omega arith;
      here = λ _. i.1;
      node = λ p q. l;
      ends = λ h p e. let g : c.loop-height.height - 1 ≡ h = omega arith in sym (x ∙ ap (λ y. here (up y (2 ^ 32 + c.args.key) % 16)) g) ∙ c.if-next-eq0.true;
      empty = λ e. absurd (omega arith);
    })

pub loop-height-preserved : goal.loop-height-preserved
loop-height-preserved g c =
    let i = c.loop-height.invariant in
    let l = at_node c.requires i.0 c.loop-height.height c.args.key c.loop-height.item (omega arith) (omega arith) (omega arith) i.1 in
    let here = child_in c.args.self.now.nodes.items c.loop-height.item in
    let x = c.child-next.ensures ∙ (child_read c.args.self.now.nodes.items c.loop-height.item c.index.result.now l c.index.ensures c.step.result ∙ ap here c.step.ensures) in (
      i.0,
      next_step c.requires i.0 (c.loop-height.height - 1) c.loop-height.height c.args.key c.loop-height.item c.child-next.result
          (omega arith) i.1 x c.if-next-eq0.false,
    )
