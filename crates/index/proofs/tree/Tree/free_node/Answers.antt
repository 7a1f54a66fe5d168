use Rattle.std.proofs.Common.{◌≡◌, ◌+◌, ◌%◌, ◌<◌, length, vec_items, sym, refl, ap, ◌∙◌, subst, ⊎_elim}
use lib.Bits.{bit_and}
use Rattle.std.proofs.lemmas.Nat.{and_mask}
use Rattle.std.proofs.lemmas.Bool.{cases_eq}
use Rattle.index.specs.Nodes.{child_in, path_in, parent_in}
use Rattle.index.specs.Sound.{SoundIn}
use Rattle.index.specs.Sound.{heads_of}
use Rattle.index.proofs.Freeing.{NodeFreed, node_freed}
use Rattle.index.proofs.Nodes.{node_read}
use Rattle.index.proofs.tree.Tree.free_node.Goals as goal

pub returns : goal.returns
returns g c =
    let ns = vec_items c.args.self.now.nodes in
    let ns' = vec_items c.set_free.new.nodes in
    let hs = heads_of c.args.self.now in
    let x = c.args.node in
    let freed = c.index-freed.result.now in
    let up = freed.parent in
    let is = node_read ns x freed c.requires.within c.index-freed.ensures in
    let o : up ≡ parent_in ns x = ap (λ n. n.parent) is in
    let st : bit_and freed.path 15 ≡ path_in ns x % 16 = and_mask freed.path 4 ∙ ap (λ n. n.path % 16) is in
    let gap : child_in ns' up (path_in ns x % 16) ≡ 0
    = c.set_free.ensures.children up (path_in ns x % 16) ∙ (ap (child_in (vec_items c.clear_child.new.nodes) up) (sym st) ∙ c.clear_child.ensures.here) in
    let g : NodeFreed ns ns' x c.args.self.now.unused = record {
      len = c.set_free.ensures.len ∙ (c.clear_child.ensures.len ∙ c.set_path.ensures.len);
      path_x = c.set_free.ensures.paths x ∙ (c.clear_child.ensures.paths x ∙ c.set_path.ensures.here);
      path_o = λ j ne. c.set_free.ensures.paths j ∙ (c.clear_child.ensures.paths j ∙ c.set_path.ensures.rest j ne);
      parents = λ j. c.set_free.ensures.parents j ∙ (c.clear_child.ensures.parents j
          ∙ ⊎_elim (λ (q : j ≡ x). ap (parent_in (vec_items c.set_path.new.nodes)) q ∙ (c.set_path.ensures.parent_here ∙ (o ∙ ap (parent_in ns) (sym q))))
          (λ (q : j ≡ x → ⊥). c.set_path.ensures.parent_rest j q) (cases_eq j x));
      child_x = ap (λ y. child_in ns' y (path_in ns x % 16)) (sym o) ∙ gap;
      child_o = λ j d ne. c.set_free.ensures.children j d ∙ (c.clear_child.ensures.rest j d (λ q. ne (q.0 ∙ o, q.1 ∙ st)) ∙ c.set_path.ensures.children j d);
      free_x = c.set_free.ensures.here;
      free_o = λ j ne. c.set_free.ensures.rest j ne ∙ (c.clear_child.ensures.frees j ∙ c.set_path.ensures.frees j);
    } in
    let r = node_freed hs g c.requires.sound c.requires.within c.requires.used c.requires.empty c.requires.left in
    record {
      sound = subst (λ y. SoundIn ns' hs (c.args.self.now.unused + 1) c.args.self.now.vacant y) (sym o) r.0;
      within = subst (λ y. y < length ns') (sym o) r.1;
      path = ap (path_in ns') o ∙ r.2;
      gap = gap;
      slots = refl;
      len = g.len;
      unused = refl;
    }
