use Rattle.std.proofs.Common.{◌≡◌, suc, ◌+◌, ◌-◌, ◌%◌, ◌^◌, ◌<◌, length, set, vec_items, sym, refl, ap, ◌∙◌, subst, arith}
use Rattle.index.specs.Links.{up}
use Rattle.index.specs.Slots.{marks, mark_in}
use Rattle.index.specs.Nodes.{child_in}
use Rattle.index.specs.Sound.{heads_of}
use Rattle.index.specs.Slots.{heads, records}
use Rattle.index.proofs.Steps.{up_small, up_big}
use Rattle.index.proofs.Below.{end_found}
use Rattle.index.proofs.Filings.{placed_found, no_slot, few_nodes, placed_new, slots_len}
use Rattle.index.proofs.tree.Tree.place.Goals as goal

pub returns-then-end-eq0 : goal.returns-then-end-eq0
returns-then-end-eq0 g c =
    let v = c.args.self.now.nodes.ok.0 in
    let f = end_found c.requires.sound c.descend-end.ensures c.if-end-eq0.true in
    let e : length (vec_items c.args.self.now.nodes) ≡ c.len.result = omega arith in
    record {
      whole = c.requires;
      sizes = (refl, refl);
      cases = placed_found c.args.self.now c.args.key (c.descend-end.result.item - c.len.result) (omega (arith, f.2))
          (ap (λ x. mark_in (heads_of c.args.self.now) (c.descend-end.result.item - x)) (sym e) ∙ f.3);
    }

pub returns-then-self-eq0 : goal.returns-then-self-eq0
returns-then-self-eq0 g c =
    record {
      whole = c.requires;
      sizes = (refl, refl);
      cases = (no_slot c.args.self.now c.args.key c.descend-end.result.item c.descend-end.result.height c.requires c.descend-end.ensures (omega arith) (omega arith) c.if-self-eq0.true, refl);
    }

pub returns-then-self-end : goal.returns-then-self-end
returns-then-self-end g c =
    record {
      whole = c.requires;
      sizes = (refl, refl);
      cases = (few_nodes c.args.self.now c.args.key c.descend-end.result.item c.descend-end.result.height c.requires c.descend-end.ensures (omega arith) (omega arith) c.if-self-eq0.false (omega arith), refl);
    }

pub overflow_cast-path_above : goal.overflow_cast-path_above
overflow_cast-path_above g c = omega (arith, up_small (c.loop-height.height - 1) (2 ^ 32 + c.args.key) (omega arith) (omega arith))

pub add_node-node-requires : goal.add_node-node-requires
add_node-node-requires g c =
    let t = 2 ^ 32 + c.args.key in
    let i = c.loop-height.invariant in
    let e : c.loop-height.height ≡ suc (c.loop-height.height - 1) = omega arith in
    let lo = up_small (c.loop-height.height - 1) t (omega arith) (omega arith) in
    let hi = up_big (c.loop-height.height - 1) t (omega arith) (omega arith) (omega arith) in
    let u : up c.loop-height.height t ≡ up (suc (c.loop-height.height - 1)) t = ap (λ x. up x t) e in
    record {
      sound = i.0;
      left = omega arith;
      within = i.3;
      small = (omega arith, omega arith);
      parent = omega (arith, i.4, c.path_above.ensures);
      gap = ap (λ x. child_in (vec_items c.loop-height.self.nodes) c.loop-height.node (x % 16)) c.path_above.ensures ∙ i.5 (c.loop-height.height - 1) e;
    }

pub take_slot-requires : goal.take_slot-requires
take_slot-requires g c =
    let i = c.loop-height.invariant in
    let e : c.loop-height.height ≡ 1 = omega arith in
    record {
      sound = i.0;
      left = omega arith;
      within = i.3;
      parent = i.4 ∙ ap (λ x. up x (2 ^ 32 + c.args.key)) e;
      gap = i.5 0 e;
    }

pub returns : goal.returns
returns g c =
    let i = c.loop-height.invariant in
    let z = c.take_slot.ensures in
    let r = placed_new c.args.self.now c.args.key c.descend-end.result.item c.descend-end.result.height c.requires c.descend-end.ensures (omega arith) (omega arith)
    c.take_slot.new.self c.take_slot.result (omega arith) c.if-self-eq0.false (omega arith)
    (subst (λ x. c.take_slot.result < length (heads (vec_items x))) i.6 z.within)
    (ap (λ x. mark_in (heads (vec_items x)) c.take_slot.result) (sym i.6) ∙ z.was)
    (z.marks ∙ ap (λ x. set (marks (heads (vec_items x))) c.take_slot.result (2 ^ 32 + c.args.key)) i.6)
    (z.records ∙ ap (λ x. records (vec_items x)) i.6) (z.len ∙ i.7) (omega arith) z.sound in
    record { whole = r.0; sizes = (r.1.nodes_are, slots_len (heads_of c.args.self.now) (heads_of c.take_slot.new.self) c.take_slot.result (2 ^ 32 + c.args.key) r.1.marks_are); cases = r.1 }
