use Rattle.std.proofs.Common.{◌≡◌, ◌+◌, ◌%◌, ◌^◌, vec_items, sym, refl, ap, ◌∙◌, subst, ⊎_elim, arith}
use Rattle.std.proofs.lemmas.Bool.{cases_eq}
use Rattle.std.proofs.lemmas.List.{length-map}
use Rattle.index.specs.Nodes.{child_in, path_in}
use Rattle.index.specs.Slots.{mark_in, slot_parent_in}
use Rattle.index.specs.Sound.{SoundIn}
use Rattle.index.specs.Sound.{heads_of}
use Rattle.index.specs.Slots.{heads}
use Rattle.index.proofs.Freeing.{SlotFreed, slot_freed, at_parent, slot_left}
use Rattle.index.proofs.Heads.{head_read}
use Rattle.index.proofs.tree.Tree.free_slot.Goals as goal

pub index-requires : goal.index-requires
index-requires g c =
    let v = c.args.self.now.slots.ok.0 in
    let h = at_parent c.requires.sound c.requires.some c.args.slot c.args.key c.requires.holds in
    omega (arith, h.2, length-map (vec_items c.args.self.now.slots) (λ s. s.head))

pub set_key-requires : goal.set_key-requires
set_key-requires g c =
    let h = at_parent c.requires.sound c.requires.some c.args.slot c.args.key c.requires.holds in
    record { slot_within = omega (arith, h.2) }

pub clear_child-requires : goal.clear_child-requires
clear_child-requires g c =
    let v = c.args.self.now.nodes.ok.0 in
    let h = at_parent c.requires.sound c.requires.some c.args.slot c.args.key c.requires.holds in
    record { node_within = omega (arith, h.0, ap (λ y. y.parent) (head_read (vec_items c.args.self.now.slots) c.args.slot c.index.result.now h.2 c.index.ensures)); step_within = omega arith }

pub set_free_slot-requires : goal.set_free_slot-requires
set_free_slot-requires g c =
    let h = slot_left c.requires.sound c.requires.some c.args.slot c.args.key c.requires.holds in
    record { at_within = omega (arith, c.set_key.ensures.len) }

pub returns : goal.returns
returns g c =
    let ns = vec_items c.args.self.now.nodes in
    let ns' = vec_items c.clear_child.new.nodes in
    let hs = heads_of c.args.self.now in
    let hs' = heads (vec_items c.set_free_slot.new.slots) in
    let p = c.args.slot in
    let h = at_parent c.requires.sound c.requires.some p c.args.key c.requires.holds in
    let up = c.index.result.now.head.parent in
    let o : up ≡ slot_parent_in hs p = ap (λ y. y.parent) (head_read (vec_items c.args.self.now.slots) p c.index.result.now h.2 c.index.ensures) in
    let st : c.step.result ≡ (2 ^ 32 + c.args.key) % 16 = c.step.ensures in
    let mk : mark_in hs p % 16 ≡ (2 ^ 32 + c.args.key) % 16 = ap (λ y. y % 16) c.requires.holds in
    let gap : child_in ns' up ((2 ^ 32 + c.args.key) % 16) ≡ 0 = ap (child_in ns' up) (sym st) ∙ c.clear_child.ensures.here in
    let g : SlotFreed ns ns' hs hs' p c.args.self.now.vacant = record {
      len = c.clear_child.ensures.len;
      paths = c.clear_child.ensures.paths;
      parents = c.clear_child.ensures.parents;
      frees = c.clear_child.ensures.frees;
      child_x = ap (λ y. child_in ns' y (mark_in hs p % 16)) (sym o) ∙ (ap (child_in ns' up) mk ∙ gap);
      child_o = λ j d ne. c.clear_child.ensures.rest j d (λ q. ne (q.0 ∙ o, q.1 ∙ (st ∙ sym mk)));
      plen = c.set_free_slot.ensures.len ∙ c.set_key.ensures.len;
      mark_x = c.set_free_slot.ensures.marks p ∙ c.set_key.ensures.mark_here;
      mark_o = λ j ne. c.set_free_slot.ensures.marks j ∙ c.set_key.ensures.mark_rest j ne;
      slot_parents = λ j. c.set_free_slot.ensures.parents j
          ∙ ⊎_elim (λ (q : j ≡ p). ap (slot_parent_in (heads (vec_items c.set_key.new.slots))) q ∙ (c.set_key.ensures.here ∙ (o ∙ ap (slot_parent_in hs) (sym q))))
          (λ (q : j ≡ p → ⊥). c.set_key.ensures.rest j q) (cases_eq j p);
      slot_free_x = c.set_free_slot.ensures.here;
      slot_free_o = λ j ne. c.set_free_slot.ensures.rest j ne ∙ c.set_key.ensures.frees j;
    } in
    let r = slot_freed g c.args.key c.requires.sound c.requires.some c.requires.holds in
    record {
      sound = subst (λ y. SoundIn ns' hs' c.args.self.now.unused (c.args.self.now.vacant + 1) y) (sym o) r.0;
      within = omega (arith, h.0, g.len);
      path = ap (path_in ns') o ∙ (g.paths (slot_parent_in hs p) ∙ h.1);
      gap = gap;
      marks = r.1;
      records = c.set_free_slot.ensures.values ∙ c.set_key.ensures.values;
      len = g.len;
      unused = refl;
    }
