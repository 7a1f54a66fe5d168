use Rattle.std.proofs.Common.{◌^◌, ◌≤◌}
use Rattle.std.proofs.Common.{◌≡◌, ℕ, suc, ◌+◌, ◌-◌, ◌<◌, length, vec_items, vec_len, sym, refl, ap, ◌∙◌, subst, arith}
use Rattle.std.proofs.Common.{false, zero, List, Option, None, Some}
use Rattle.std.specs.Prelude.{◌==◌}
use Rattle.std.proofs.lemmas.List.{length-map}
use Rattle.std.specs.Option.{MatchOption, unwrap_or}
use Rattle.index.specs.declared.node.Node.{Node}
use Rattle.index.specs.declared.slot.Head.{Head}
use Rattle.index.specs.Nexts.{Ahead, First}
use Rattle.index.specs.Slots.{key_mark, mark_in, marks}
use Rattle.index.specs.Sound.{heads_of}
use Rattle.index.proofs.Below.{end_found, marks_at}
use Rattle.index.proofs.Heads.{head_read}
use Rattle.index.proofs.Keys.{filed_has}
use Rattle.index.proofs.Nodes.{child_read, next_read}
use Rattle.index.proofs.Scans.{ahead_node, ahead_child, ahead_down, first_end}
use Rattle.index.proofs.tree.Tree.first_at_or_after.Goals as goal

some_nodes : (ns : List Node) (n : ℕ) → n ≡ length ns → (n == 0) ≡ false → 0 < length ns
some_nodes ns zero len e = absurd (cc)
some_nodes ns (suc n) len e = omega arith

-- after i of the steps down, where that is not all, one is left
step_left : {ns : List Node} {hs : List Head} {key item : ℕ} (end i : ℕ) → i < end → Ahead ns hs key item (end - i) → Ahead ns hs key item (suc (end - (i + 1)))
step_left {ns} {hs} {key} {item} end i l = subst (Ahead ns hs key item) (let e : end - i ≡ suc (end - (i + 1)) = omega arith in e)

-- what stands in an option that is some
stands : (P : Type 0) (Q : ℕ → Type 0) (o : Option ℕ) (other x : ℕ) → MatchOption o P Q → (P → ⊥) → x ≡ unwrap_or o other → o ≡ Some x
stands P Q None other x p n e = absurd (n p)
stands P Q (Some y) other x p n e = ap Some (sym e)

marked : (o : Option ℕ) (other x : ℕ) → 2 ^ 32 ≤ key_mark o → x ≡ unwrap_or o other → 2 ^ 32 + x ≡ key_mark o
marked None other x l e = absurd (omega arith)
marked (Some k) other x l e = ap (λ n. 2 ^ 32 + n) e

pub returns-then-end-eq0 : goal.returns-then-end-eq0
returns-then-end-eq0 g c =
    let f = end_found c.requires c.descend-end.ensures c.if-end-eq0.true in
    let hs = heads_of c.args.self.now in
    record {
      after = omega arith;
      held = filed_has (marks hs) (c.descend-end.result.item - length (vec_items c.args.self.now.nodes)) c.args.key 0 c.args.key (marks_at hs (c.descend-end.result.item - length (vec_items c.args.self.now.nodes)) ∙ f.3) refl;
      least = λ p l. l;
    }

pub loop-i-init : goal.loop-i-init
loop-i-init g c = subst (Ahead (vec_items c.args.self.now.nodes) (heads_of c.args.self.now) c.args.key c.in_ok-top.top.item) (let e : c.in_ok-top.top.height ≡ c.in_ok-top.top.height - 0 = omega arith in e) c.in_ok-top.ensures

pub index-requires : goal.index-requires
index-requires g c =
    let v = c.args.self.now.nodes.ok.0 in
    let some = some_nodes (vec_items c.args.self.now.nodes) (vec_len c.args.self.now.nodes) v (sym c.if-is_empty.ensures) in
    let a = step_left c.in_ok-top.top.height c.loop-i._i (omega arith) c.loop-i.invariant in
    omega (arith, (ahead_node c.requires some _ _ _ a).0)

pub loop-i-preserved : goal.loop-i-preserved
loop-i-preserved g c =
    let v = c.args.self.now.nodes.ok.0 in
    let ns = vec_items c.args.self.now.nodes in
    let some = some_nodes ns (vec_len c.args.self.now.nodes) v (sym c.if-is_empty.ensures) in
    let a = step_left c.in_ok-top.top.height c.loop-i._i (omega arith) c.loop-i.invariant in
    let n = ahead_node c.requires some _ _ _ a in
    let node = c.index.result.now in
    let first = c.unwrap_or-first.result in
    let read = next_read ns c.loop-i.item node n.0 c.index.ensures 0 c.next.result c.next.ensures in
    let is = stands _ _ c.next.result 0 first read (ahead_child c.requires some _ _ _ a) c.unwrap_or-first.ensures in
    let z = next_read ns c.loop-i.item node n.0 c.index.ensures 0 (Some first) (rw is at c.next.ensures) in
    subst (λ y. Ahead ns (heads_of c.args.self.now) c.args.key y (c.in_ok-top.top.height - (c.loop-i._i + 1))) (sym (c.child-item.ensures ∙ child_read ns c.loop-i.item node n.0 c.index.ensures first))
    (ahead_down c.requires some _ _ _ first a z.1 z.2 z.3)

pub overflow_sub-slot : goal.overflow_sub-slot
overflow_sub-slot g c =
    let v = c.args.self.now.nodes.ok.0 in
    let some = some_nodes (vec_items c.args.self.now.nodes) (vec_len c.args.self.now.nodes) v (sym c.if-is_empty.ensures) in
    let r = first_end c.args.self.now c.args.key c.loop-i.item (c.in_ok-top.top.height - c.loop-i._i) c.requires some c.loop-i.invariant (omega arith) in
    omega (arith, r.0)

pub index-requires-2 : goal.index-requires-2
index-requires-2 g c =
    let v = c.args.self.now.nodes.ok.0 in
    let some = some_nodes (vec_items c.args.self.now.nodes) (vec_len c.args.self.now.nodes) v (sym c.if-is_empty.ensures) in
    let r = first_end c.args.self.now c.args.key c.loop-i.item (c.in_ok-top.top.height - c.loop-i._i) c.requires some c.loop-i.invariant (omega arith) in
    let w = c.args.self.now.slots.ok.0 in
    omega (arith, r.1, length-map (vec_items c.args.self.now.slots) (λ s. s.head))

pub returns : goal.returns
returns g c =
    let v = c.args.self.now.nodes.ok.0 in
    let some = some_nodes (vec_items c.args.self.now.nodes) (vec_len c.args.self.now.nodes) v (sym c.if-is_empty.ensures) in
    let r = first_end c.args.self.now c.args.key c.loop-i.item (c.in_ok-top.top.height - c.loop-i._i) c.requires some c.loop-i.invariant (omega arith) in
    let key = c.index-2.result.now.head.key in
    let next = c.unwrap_or-next.result in
    let slot = c.loop-i.item - c.len.result in
    let there : key_mark key ≡ mark_in (heads_of c.args.self.now) slot = ap (λ h. key_mark h.key) (head_read (vec_items c.args.self.now.slots) slot c.index-2.result.now (omega (arith, r.1)) c.index-2.ensures) in
    let is : 2 ^ 32 + next ≡ mark_in (heads_of c.args.self.now) slot
    = marked key c.args.key next (r.2 (key_mark key) c.len.result (omega arith) there).0 c.unwrap_or-next.ensures ∙ there in
    subst (First c.args.self.now c.args.key) (let e : 2 ^ 32 + next - 2 ^ 32 ≡ next = omega arith in e) (r.2 (2 ^ 32 + next) c.len.result (omega arith) is).2
