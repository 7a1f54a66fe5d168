use Rattle.std.proofs.Common.{◌≡◌, suc, ◌+◌, ◌-◌, ◌%◌, ◌^◌, length, vec_items, sym, refl, ap, ◌∙◌, arith}
use Rattle.std.proofs.lemmas.List.{length-map}
use Rattle.index.specs.Nodes.{child_in}
use Rattle.index.specs.Sound.{heads_of}
use Rattle.index.specs.Slots.{heads, slot_free_in}
use Rattle.index.proofs.Adding.{SlotTaken, slot_taken}
use Rattle.index.proofs.Heads.{head_read}
use Rattle.index.proofs.tree.Tree.take_slot.Goals as goal

pub index-requires : goal.index-requires
index-requires g c =
    let v = c.args.self.now.slots.ok.0 in
    omega (arith, length-map (vec_items c.args.self.now.slots) (λ s. s.head))

pub set_key-requires : goal.set_key-requires
set_key-requires g c =
    let top = c.args.self.now.vacant - 1 in
    let w = c.requires.sound.slots_free.within top (omega arith) in
    record { slot_within = omega (arith, ap (λ h. h.free) (head_read (vec_items c.args.self.now.slots) top c.index.result.now (omega arith) c.index.ensures)) }

pub returns : goal.returns
returns g c =
    let v = c.args.self.now.nodes.ok.0 in
    let top = c.args.self.now.vacant - 1 in
    let p = c.index.result.now.head.free in
    let is : p ≡ slot_free_in (heads_of c.args.self.now) top = ap (λ h. h.free) (head_read (vec_items c.args.self.now.slots) top c.index.result.now (omega arith) c.index.ensures) in
    let g : SlotTaken (vec_items c.args.self.now.nodes) (vec_items c.set_child.new.nodes) (heads_of c.args.self.now) (heads (vec_items c.set_key.new.slots))
    c.args.node ((2 ^ 32 + c.args.key) % 16) p (2 ^ 32 + c.args.key) = record {
      len = c.set_child.ensures.len;
      paths = c.set_child.ensures.paths;
      parents = c.set_child.ensures.parents;
      frees = c.set_child.ensures.frees;
      child_x = ap (child_in (vec_items c.set_child.new.nodes) c.args.node) (sym c.step.ensures) ∙ (c.set_child.ensures.here ∙ (let e : c.len-n.result ≡ length (vec_items c.args.self.now.nodes) = omega arith in ap (λ y. y + p) e));
      child_o = λ j d ne. c.set_child.ensures.rest j d (λ q. ne (q.0, q.1 ∙ c.step.ensures));
      plen = c.set_key.ensures.len;
      mark_x = c.set_key.ensures.mark_here;
      mark_o = c.set_key.ensures.mark_rest;
      slot_parent_x = c.set_key.ensures.here;
      slot_parent_o = c.set_key.ensures.rest;
      vacant = c.set_key.ensures.frees;
    } in
    let r = slot_taken g c.args.key c.requires.sound (let e : c.args.self.now.vacant ≡ suc top = omega arith in e) is c.requires.within
    (omega arith) (omega arith) (omega arith) c.requires.gap refl in
    record { sound = r.0; within = r.1; was = r.2; marks = r.3; records = c.set_key.ensures.values; len = g.len; unused = refl }
