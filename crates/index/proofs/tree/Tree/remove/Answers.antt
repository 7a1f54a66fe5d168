use Rattle.std.proofs.Common.{◌≡◌, suc, ◌+◌, ◌/◌, ◌%◌, ◌^◌, vec_items, sym, refl, ap, ◌∙◌, inl, inr, arith}
use Rattle.index.specs.Links.{up}
use Rattle.index.specs.Nodes.{child_in}
use Rattle.index.specs.Slots.{marks}
use Rattle.index.specs.Sound.{heads_of}
use Rattle.index.specs.Slots.{heads, records}
use Rattle.index.proofs.Steps.{up_big}
use Rattle.index.proofs.Below.{filed_some}
use Rattle.index.proofs.Filings.{slots_len}
use Rattle.index.proofs.Nodes.{next_read, no_child, some_child}
use Rattle.index.proofs.Removing.{unused_room, removed}
use Rattle.index.proofs.tree.Tree.remove.Goals as goal

pub returns-in_err-slot : goal.returns-in_err-slot
returns-in_err-slot g c = record { whole = c.requires; sizes = (refl, refl); cases = rw c.from_residual.ensures (c.in_err-slot.ensures, refl) }

pub free_slot-node-requires : goal.free_slot-node-requires
free_slot-node-requires g c =
    let held = c.in_ok-slot.ensures.1 in
    record { sound = c.requires.sound; some = filed_some c.requires.sound c.in_ok-slot.slot c.args.key held; holds = held }

pub free_node-node-requires : goal.free_node-node-requires
free_node-node-requires g c =
    let held = c.in_ok-slot.ensures.1 in
    let some = filed_some c.requires.sound c.in_ok-slot.slot c.args.key held in
    let room = unused_room c.args.self.now c.args.key c.in_ok-slot.slot c.requires (omega arith) some held in
    let i = c.loop-height.invariant in
    let z = c.free_slot-node.ensures in
    let search = next_read (vec_items c.loop-height.self.nodes) c.loop-height.node c.index.result.now i.3 c.index.ensures 0 c.next.result c.next.ensures in
    let big = up_big c.loop-height._height (2 ^ 32 + c.args.key) c.loop-height-test.true (omega arith) (omega arith) in
    record {
      sound = i.0;
      within = i.3;
      used = omega (arith, i.4);
      empty = no_child _ c.next.result (sym c.is_some.ensures ∙ c.if-is_some.false) search;
      left = omega (arith, i.7, i.8, z.len, z.unused);
    }

pub loop-height-preserved : goal.loop-height-preserved
loop-height-preserved g c =
    let i = c.loop-height.invariant in
    let z = c.free_node-node.ensures in
    let t = 2 ^ 32 + c.args.key in
    let h : suc c.loop-height._height ≡ c.loop-height._height + 1 = omega arith in (
      z.sound,
      omega arith,
      omega arith,
      z.within,
      z.path ∙ (ap (λ x. x / 16) i.4 ∙ ap (λ x. up x t) h),
      (λ g e. let q : g ≡ c.loop-height._height = omega arith in
          ap (λ x. child_in (vec_items c.free_node-node.new.self.nodes) c.free_node-node.result (x % 16)) (ap (λ x. up x t) q ∙ sym i.4) ∙ z.gap),
      z.slots ∙ i.6,
      z.len ∙ i.7,
      omega (arith, i.8, z.unused),
    )

pub returns-then-is_some : goal.returns-then-is_some
returns-then-is_some g c =
    let held = c.in_ok-slot.ensures.1 in
    let some = filed_some c.requires.sound c.in_ok-slot.slot c.args.key held in
    let i = c.loop-height.invariant in
    let z = c.free_slot-node.ensures in
    let search = next_read (vec_items c.loop-height.self.nodes) c.loop-height.node c.index.result.now i.3 c.index.ensures 0 c.next.result c.next.ensures in
    let r = removed c.args.self.now c.args.key c.in_ok-slot.slot c.requires (omega arith) some held
    c.loop-height.self c.loop-height.node c.loop-height._height i.0 i.1 i.2 i.3 i.4 i.5
    (ap (λ x. marks (heads (vec_items x))) i.6 ∙ z.marks) (ap (λ x. records (vec_items x)) i.6 ∙ z.records) (i.7 ∙ z.len) (omega (arith, i.8, z.unused)) (inr (some_child _ c.next.result (sym c.is_some.ensures ∙ c.if-is_some.true) search)) in
    record { whole = r.0; sizes = (r.1.nodes_are, slots_len (heads_of c.args.self.now) (heads_of c.loop-height.self) c.in_ok-slot.slot 0 r.1.marks_are); cases = r.1 }

pub returns-after-loop-height : goal.returns-after-loop-height
returns-after-loop-height g c =
    let held = c.in_ok-slot.ensures.1 in
    let some = filed_some c.requires.sound c.in_ok-slot.slot c.args.key held in
    let i = c.loop-height.invariant in
    let z = c.free_slot-node.ensures in
    let r = removed c.args.self.now c.args.key c.in_ok-slot.slot c.requires (omega arith) some held
    c.loop-height.self c.loop-height.node c.loop-height._height i.0 i.1 i.2 i.3 i.4 i.5
    (ap (λ x. marks (heads (vec_items x))) i.6 ∙ z.marks) (ap (λ x. records (vec_items x)) i.6 ∙ z.records) (i.7 ∙ z.len) (omega (arith, i.8, z.unused)) (inl (omega arith)) in
    record { whole = r.0; sizes = (r.1.nodes_are, slots_len (heads_of c.args.self.now) (heads_of c.loop-height.self) c.in_ok-slot.slot 0 r.1.marks_are); cases = r.1 }
