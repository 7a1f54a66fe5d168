use Rattle.std.proofs.Common.{◌≡◌, None, Some, suc, ◌+◌, ◌-◌, ◌%◌, vec_items, sym, ap, ◌∙◌, subst, arith}
use lib.Bits.{bit_and}
use Rattle.std.proofs.lemmas.Nat.{and_mask}
use Rattle.index.specs.Nexts.{Scan, Ahead}
use Rattle.index.specs.Nodes.{path_in}
use Rattle.index.specs.Descents.{Descended}
use Rattle.index.specs.Sound.{heads_of}
use Rattle.index.proofs.Nodes.{node_read, child_read, next_read}
use Rattle.index.proofs.Scans.{scan_start, scan_pass, scan_up, scan_end, scan_found}
use Rattle.index.proofs.tree.Tree.next_branch.Goals as goal

pub loop-height-init : goal.loop-height-init
loop-height-init g c =
    let ns = vec_items c.args.self.now.nodes in
    let hs = heads_of c.args.self.now in
    let e : c.args.end.height ≡ suc (c.args.end.height - 1) = omega arith in
    let w : Descended ns hs c.args.key c.args.end.item (suc (c.args.end.height - 1)) = subst (Descended ns hs c.args.key c.args.end.item) e c.requires.descended in
    let high = w.high in
    record {
      on_way = λ l. subst (λ y. Scan ns hs c.args.key c.args.end.item (c.args.end.height - 1) (y + 1)) (sym c.step-from.ensures)
          (scan_start c.requires.sound c.requires.some c.args.key c.args.end.item (c.args.end.height - 1) (omega arith) w);
      past_root = λ l. absurd (omega arith);
    }

pub returns-in-Some : goal.returns-in-Some
returns-in-Some g c =
    let ns = vec_items c.args.self.now.nodes in
    let hs = heads_of c.args.self.now in
    let k = c.loop-height.invariant.on_way (omega arith) in
    let z = next_read ns c.loop-height.node c.index-here.result.now k.node_in c.index-here.ensures c.loop-height.from (Some c.in-Some.later) c.in-Some.ensures in
    let at = scan_pass c.requires.sound c.requires.some c.args.key c.loop-height.node c.loop-height.height c.loop-height.from c.in-Some.later k z.0 (omega (arith, z.1)) z.2 in
    subst (λ y. Ahead ns hs c.args.key y c.loop-height.height) (sym (c.child.ensures ∙ child_read ns c.loop-height.node c.index-here.result.now k.node_in c.index-here.ensures c.in-Some.later))
    (scan_found c.requires.sound c.requires.some c.args.key c.loop-height.node c.loop-height.height c.in-Some.later at z.1 z.3)

pub loop-height-preserved : goal.loop-height-preserved
loop-height-preserved g c =
    let ns = vec_items c.args.self.now.nodes in
    let hs = heads_of c.args.self.now in
    let node = c.loop-height.node in
    let low = c.loop-height.height in
    let k = c.loop-height.invariant.on_way (omega arith) in
    let here = c.index-here.result.now in
    let none_left = next_read ns node here k.node_in c.index-here.ensures c.loop-height.from None c.in_default.ensures in
    let is = node_read ns node here k.node_in c.index-here.ensures in
    let past = scan_pass c.requires.sound c.requires.some c.args.key node low c.loop-height.from 16 k k.step (omega arith) none_left in
    let o = ap (λ n. n.parent) is in
    let st : bit_and here.path 15 ≡ path_in ns node % 16 = and_mask here.path 4 ∙ ap (λ n. n.path % 16) is in
    let s1 : suc low ≡ low + 1 = omega arith in
    record {
      on_way = λ l.
          subst (λ y. Scan ns hs c.args.key here.parent (low + 1) (y + 1)) (sym st)
          (subst (λ y. Scan ns hs c.args.key here.parent y (path_in ns node % 16 + 1)) s1
          (subst (λ y. Scan ns hs c.args.key y (suc low) (path_in ns node % 16 + 1)) (sym o)
          (scan_up c.requires.sound c.requires.some c.args.key node low past (omega arith))));
      past_root = λ l. scan_end c.requires.sound c.requires.some c.args.key node (subst (λ y. Scan ns hs c.args.key node y 16) (let e : low ≡ 7 = omega arith in e) past);
    }
