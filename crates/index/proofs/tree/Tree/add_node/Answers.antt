use Rattle.std.proofs.Common.{◌≡◌, suc, ◌-◌, ◌%◌, ◌<◌, length, vec_items, sym, refl, ap, ◌∙◌, arith}
use lib.Bits.{bit_and}
use Rattle.std.proofs.lemmas.Nat.{and_mask}
use Rattle.index.specs.Nodes.{child_in, path_in}
use Rattle.index.specs.Sound.{heads_of}
use Rattle.index.proofs.Below.{path_node}
use Rattle.index.proofs.Adding.{NodeAdded, node_added}
use Rattle.index.proofs.Nodes.{node_read}
use Rattle.index.proofs.tree.Tree.add_node.Goals as goal

pub set_path-requires : goal.set_path-requires
set_path-requires g c =
    let v = c.args.self.now.nodes.ok.0 in
    let w = c.requires.sound.nodes_free.within (c.args.self.now.unused - 1) (omega arith) in
    record { node_within = omega (arith, ap (λ n. n.free) (node_read (vec_items c.args.self.now.nodes) (c.args.self.now.unused - 1) c.index.result.now (omega arith) c.index.ensures)) }

pub set_child-requires : goal.set_child-requires
set_child-requires g c =
    let v = c.set_path.new.nodes.ok.0 in
    let ns = vec_items c.args.self.now.nodes in
    let idle = c.requires.sound.nodes_free.idle (c.args.self.now.unused - 1) (omega arith) in
    let some : 0 < length ns = omega arith in
    let is = ap (λ n. n.free) (node_read (vec_items c.args.self.now.nodes) (c.args.self.now.unused - 1) c.index.result.now (omega arith) c.index.ensures) in
    record {
      node_within = omega (arith, c.set_path.ensures.len);
      step_within = omega (arith, and_mask c.args.path 4);
      some = λ q. let r : path_in ns 0 ≡ 0 = ap (path_in ns) (sym (sym is ∙ q)) ∙ idle in
          omega (arith, path_node ns (heads_of c.args.self.now) 0 some, (c.requires.sound.linked some).root);
    }

pub returns : goal.returns
returns g c =
    let v = c.args.self.now.nodes.ok.0 in
    let x = c.index.result.now.free in
    let is = ap (λ n. n.free) (node_read (vec_items c.args.self.now.nodes) (c.args.self.now.unused - 1) c.index.result.now (omega arith) c.index.ensures) in
    let st : bit_and c.args.path 15 ≡ c.args.path % 16 = and_mask c.args.path 4 in
    let g : NodeAdded (vec_items c.args.self.now.nodes) (vec_items c.set_child.new.nodes) c.args.node (c.args.path % 16) x c.args.path = record {
      len = c.set_child.ensures.len ∙ c.set_path.ensures.len;
      path_x = c.set_child.ensures.paths x ∙ c.set_path.ensures.here;
      path_o = λ j ne. c.set_child.ensures.paths j ∙ c.set_path.ensures.rest j ne;
      parent_x = c.set_child.ensures.parents x ∙ c.set_path.ensures.parent_here;
      parent_o = λ j ne. c.set_child.ensures.parents j ∙ c.set_path.ensures.parent_rest j ne;
      child_x = ap (child_in (vec_items c.set_child.new.nodes) c.args.node) (sym st) ∙ c.set_child.ensures.here;
      child_o = λ j d ne. c.set_child.ensures.rest j d (λ q. ne (q.0, q.1 ∙ st)) ∙ c.set_path.ensures.children j d;
      frees = λ j. c.set_child.ensures.frees j ∙ c.set_path.ensures.frees j;
    } in
    let r = node_added (heads_of c.args.self.now) g c.requires.sound (let e : c.args.self.now.unused ≡ suc (c.args.self.now.unused - 1) = omega arith in e) is c.requires.within
    (omega arith) (omega arith) (omega arith) c.requires.gap (omega arith) in
    record {
      sound = r.0;
      within = r.1;
      path = g.path_x;
      empty = r.2;
      slots = refl;
      len = g.len;
      unused = omega arith;
      vacant = refl;
    }
