-- A tree stays sound as a node or a slot is made a child.
use Rattle.std.proofs.Common.{◌≡◌, ℕ, suc, ◌+◌, ◌-◌, ◌*◌, ◌^◌, ◌<◌, ◌≤◌, List, ◌∷◌, length, get_or, set, sym, ap, ◌∙◌, subst, ⊎_elim, arith}
use Rattle.std.proofs.lemmas.List.{length-map, length-set, length-append, get_or-set_same, get_or-set_other, ext_get_or}
use Rattle.std.proofs.lemmas.Bool.{cases_lt, cases_eq}
use Rattle.index.specs.declared.node.Node.{Node}
use Rattle.index.specs.declared.slot.Head.{Head}
use Rattle.index.specs.Links.{Linked}
use Rattle.index.specs.Nodes.{path_in, parent_in, child_in, free_in}
use Rattle.index.specs.Slots.{marks, mark_in, slot_parent_in, slot_free_in}
use Rattle.index.specs.Sound.{path_at, parent_at, SoundIn, filed}
use Rattle.index.proofs.Shape.{Attached, attached}
use Rattle.index.proofs.Below.{path_node, path_slot, parent_node, parent_slot, path_past, marks_at}
use Rattle.index.proofs.Keys.{filed_add}

-- a tree in which no node is unfilled is sound whichever node may be
pub unfilled_anywhere : {ns : List Node} {hs : List Head} {unused vacant : ℕ} → SoundIn ns hs unused vacant 0 → 0 < length ns → (x : ℕ) → SoundIn ns hs unused vacant x
unfilled_anywhere {ns} {hs} s some x = record {
  linked = s.linked;
  nonempty = λ i l ne u. s.nonempty i l (λ z. let r : path_in ns i ≡ 1 = ap (path_in ns) z ∙ (sym (path_node ns hs 0 some) ∙ (s.linked some).root) in omega arith) u;
  empty = s.empty;
  fits = s.fits;
  nodes_free = s.nodes_free;
  slots_free = s.slots_free;
  count = s.count;
}

-- the node x has a new path, and is a child of the given node at the step c
pub record NodeAdded (ns ns' : List Node) (node c x T : ℕ) : Type 0 where
  pub len : length ns' ≡ length ns
  pub path_x : path_in ns' x ≡ T
  pub path_o : (j : ℕ) → (j ≡ x → ⊥) → path_in ns' j ≡ path_in ns j
  pub parent_x : parent_in ns' x ≡ node
  pub parent_o : (j : ℕ) → (j ≡ x → ⊥) → parent_in ns' j ≡ parent_in ns j
  pub child_x : child_in ns' node c ≡ x
  pub child_o : (j d : ℕ) → ((j ≡ node) × (d ≡ c) → ⊥) → child_in ns' j d ≡ child_in ns j d
  pub frees : (j : ℕ) → free_in ns' j ≡ free_in ns j

module _ {ns ns' : List Node} (hs : List Head) {node c x T : ℕ} (g : NodeAdded ns ns' node c x T) where
  path_same : (j : ℕ) → (j ≡ x → ⊥) → path_at ns' hs j ≡ path_at ns hs j
  path_same j ne =
      ⊎_elim
      (λ (l : j < length ns). path_node ns' hs j (omega (arith, g.len)) ∙ (g.path_o j ne ∙ sym (path_node ns hs j l)))
      (λ (l : length ns ≤ j). path_slot ns' hs j (omega (arith, g.len)) ∙ (ap (λ y. mark_in hs (j - y)) g.len ∙ sym (path_slot ns hs j l)))
      (cases_lt j (length ns))

  parent_same : (j : ℕ) → (j ≡ x → ⊥) → parent_at ns' hs j ≡ parent_at ns hs j
  parent_same j ne =
      ⊎_elim
      (λ (l : j < length ns). parent_node ns' hs j (omega (arith, g.len)) ∙ (g.parent_o j ne ∙ sym (parent_node ns hs j l)))
      (λ (l : length ns ≤ j). parent_slot ns' hs j (omega (arith, g.len)) ∙ (ap (λ y. slot_parent_in hs (j - y)) g.len ∙ sym (parent_slot ns hs j l)))
      (cases_lt j (length ns))

  pub node_added : {unused unused' vacant : ℕ} → SoundIn ns hs unused vacant node → unused ≡ suc unused' → x ≡ free_in ns unused' → node < length ns
      → 1 ≤ path_in ns node → T ≡ 16 * path_in ns node + c → c < 16 → child_in ns node c ≡ 0 → T < 2 ^ 29
      → (SoundIn ns' hs unused' vacant x) × (x < length ns') × ((d : ℕ) → d < 16 → child_in ns' x d ≡ 0)
  node_added {unused} {unused'} {vacant} s f e l u t cl z tl =
      let some : 0 < length ns = omega arith in
      let k = s.linked some in
      let x_in : x < length ns = omega (arith, s.nodes_free.within unused' (omega arith), e) in
      let x_free : path_in ns x ≡ 0 = ap (path_in ns) e ∙ s.nodes_free.idle unused' (omega arith) in
      let x_node : x ≡ node → ⊥ = λ q. let r : path_in ns x ≡ path_in ns node = ap (path_in ns) q in omega arith in
      let tx = path_node ns hs x x_in in
      let tn = path_node ns hs node l in
      let x_empty : (d : ℕ) → d < 16 → child_in ns x d ≡ 0 = λ d dl.
      ⊎_elim (λ (q : child_in ns x d ≡ 0). q) (λ (q : child_in ns x d ≡ 0 → ⊥). absurd (omega (arith, (k.down x d dl q).0))) (cases_eq (child_in ns x d) 0) in
      let a : Attached (path_at ns hs) (parent_at ns hs) (child_in ns) (path_at ns' hs) (parent_at ns' hs) (child_in ns') node c x = record {
        path_x = path_node ns' hs x (omega (arith, g.len)) ∙ (g.path_x ∙ (t ∙ ap (λ y. 16 * y + c) (sym tn)));
        path_o = path_same;
        parent_x = parent_node ns' hs x (omega (arith, g.len)) ∙ g.parent_x;
        parent_o = parent_same;
        child_x = g.child_x;
        child_o = λ j d _ ne. g.child_o j d ne;
      } in
      let linked' = attached k a (tx ∙ x_free) (omega arith) cl z (λ _. omega arith) (λ q. absurd (omega arith)) in
      let free_o : (j : ℕ) → j < unused' → free_in ns j ≡ x → ⊥ = λ j jl q. s.nodes_free.apart j unused' jl (omega arith) (q ∙ e) in (
        record {
          linked = λ _. subst (λ y. Linked y (path_at ns' hs) (parent_at ns' hs) (child_in ns')) (sym g.len) linked';
          nonempty = λ i il ne iu zs.
              ⊎_elim
              (λ (q : i ≡ node). let r : x ≡ 0 = sym g.child_x ∙ (ap (λ y. child_in ns' y c) (sym q) ∙ zs c cl) in let r2 : path_at ns hs x ≡ 1 = ap (path_at ns hs) r ∙ k.root in omega arith)
              (λ (q : i ≡ node → ⊥). s.nonempty i (omega (arith, g.len)) q (omega (arith, g.path_o i ne)) (λ d dl. sym (g.child_o i d (λ r. q r.0)) ∙ zs d dl))
              (cases_eq i node);
          empty = λ q. absurd (omega (arith, g.len));
          fits = omega (arith, g.len, s.fits);
          nodes_free = record {
            top_le = omega (arith, g.len, s.nodes_free.top_le);
            within = λ j jl. omega (arith, g.len, g.frees j, s.nodes_free.within j (omega arith));
            idle = λ j jl. ap (path_in ns') (g.frees j) ∙ (g.path_o (free_in ns j) (free_o j jl) ∙ s.nodes_free.idle j (omega arith));
            apart = λ i j il jl q. s.nodes_free.apart i j il (omega arith) (sym (g.frees i) ∙ (q ∙ g.frees j));
          };
          slots_free = s.slots_free;
          count = s.count;
        },
        omega (arith, g.len),
        (λ d dl. g.child_o x d (λ r. x_node r.0) ∙ x_empty d dl),
      )

-- the marks after a write to one slot
pub marks_set : (hs hs' : List Head) (p m : ℕ) → length hs' ≡ length hs → p < length hs → mark_in hs' p ≡ m → ((j : ℕ) → (j ≡ p → ⊥) → mark_in hs' j ≡ mark_in hs j)
    → marks hs' ≡ set (marks hs) p m
marks_set hs hs' p m len l here rest =
    let pl : p < length (marks hs) = rw length-map l in
    ext_get_or 0 (marks hs') (set (marks hs) p m) (simp (length-map, length-set) len)
    (λ j _. marks_at hs' j ∙ ⊎_elim
    (λ (q : j ≡ p). ap (mark_in hs') q ∙ (here ∙ (sym (get_or-set_same (marks hs) p m 0 pl) ∙ ap (λ y. get_or (set (marks hs) p m) y 0) (sym q))))
    (λ (q : j ≡ p → ⊥). rest j q ∙ (sym (marks_at hs j) ∙ sym (get_or-set_other (marks hs) p j m 0 q)))
    (cases_eq j p))

-- the slot p has the mark M, and is a child of the given node at the step c
pub record SlotTaken (ns ns' : List Node) (hs hs' : List Head) (node c p M : ℕ) : Type 0 where
  pub len : length ns' ≡ length ns
  pub paths : (j : ℕ) → path_in ns' j ≡ path_in ns j
  pub parents : (j : ℕ) → parent_in ns' j ≡ parent_in ns j
  pub frees : (j : ℕ) → free_in ns' j ≡ free_in ns j
  pub child_x : child_in ns' node c ≡ length ns + p
  pub child_o : (j d : ℕ) → ((j ≡ node) × (d ≡ c) → ⊥) → child_in ns' j d ≡ child_in ns j d
  pub plen : length hs' ≡ length hs
  pub mark_x : mark_in hs' p ≡ M
  pub mark_o : (j : ℕ) → (j ≡ p → ⊥) → mark_in hs' j ≡ mark_in hs j
  pub slot_parent_x : slot_parent_in hs' p ≡ node
  pub slot_parent_o : (j : ℕ) → (j ≡ p → ⊥) → slot_parent_in hs' j ≡ slot_parent_in hs j
  pub vacant : (j : ℕ) → slot_free_in hs' j ≡ slot_free_in hs j

module _ {ns ns' : List Node} {hs hs' : List Head} {node c p M : ℕ} (g : SlotTaken ns ns' hs hs' node c p M) where
  off : (j : ℕ) → length ns ≤ j → (j ≡ length ns + p → ⊥) → j - length ns' ≡ p → ⊥
  off j l ne e = ne (omega (arith, g.len))

  path_kept : (j : ℕ) → (j ≡ length ns + p → ⊥) → path_at ns' hs' j ≡ path_at ns hs j
  path_kept j ne =
      ⊎_elim
      (λ (l : j < length ns). path_node ns' hs' j (omega (arith, g.len)) ∙ (g.paths j ∙ sym (path_node ns hs j l)))
      (λ (l : length ns ≤ j). path_slot ns' hs' j (omega (arith, g.len)) ∙ (g.mark_o (j - length ns') (off j l ne) ∙ (ap (λ y. mark_in hs (j - y)) g.len ∙ sym (path_slot ns hs j l))))
      (cases_lt j (length ns))

  parent_kept : (j : ℕ) → (j ≡ length ns + p → ⊥) → parent_at ns' hs' j ≡ parent_at ns hs j
  parent_kept j ne =
      ⊎_elim
      (λ (l : j < length ns). parent_node ns' hs' j (omega (arith, g.len)) ∙ (g.parents j ∙ sym (parent_node ns hs j l)))
      (λ (l : length ns ≤ j). parent_slot ns' hs' j (omega (arith, g.len)) ∙ (g.slot_parent_o (j - length ns') (off j l ne) ∙ (ap (λ y. slot_parent_in hs (j - y)) g.len ∙ sym (parent_slot ns hs j l))))
      (cases_lt j (length ns))

  pub slot_taken : {unused vacant vacant' : ℕ} (key : ℕ) → SoundIn ns hs unused vacant node → vacant ≡ suc vacant' → p ≡ slot_free_in hs vacant' → node < length ns
      → 1 ≤ path_in ns node → M ≡ 16 * path_in ns node + c → c < 16 → child_in ns node c ≡ 0 → M ≡ 2 ^ 32 + key
      → (SoundIn ns' hs' unused vacant' 0) × (p < length hs) × (mark_in hs p ≡ 0) × (marks hs' ≡ set (marks hs) p (2 ^ 32 + key))
  slot_taken {unused} {vacant} {vacant'} key s f e l u t cl z tl =
      let some : 0 < length ns = omega arith in
      let k = s.linked some in
      let p_in : p < length hs = omega (arith, s.slots_free.within vacant' (omega arith), e) in
      let p_free : mark_in hs p ≡ 0 = ap (mark_in hs) e ∙ s.slots_free.idle vacant' (omega arith) in
      let tx = path_past ns hs p in
      let tn = path_node ns hs node l in
      let mx : path_at ns' hs' (length ns + p) ≡ M = ap (λ y. path_at ns' hs' (y + p)) (sym g.len) ∙ (path_past ns' hs' p ∙ g.mark_x) in
      let hx : parent_at ns' hs' (length ns + p) ≡ node
      = parent_slot ns' hs' (length ns + p) (omega (arith, g.len)) ∙ ((let y : (length ns + p) - length ns' ≡ p = omega (arith, g.len) in ap (slot_parent_in hs') y) ∙ g.slot_parent_x) in
      let a : Attached (path_at ns hs) (parent_at ns hs) (child_in ns) (path_at ns' hs') (parent_at ns' hs') (child_in ns') node c (length ns + p) = record {
        path_x = mx ∙ (t ∙ ap (λ y. 16 * y + c) (sym tn));
        path_o = path_kept;
        parent_x = hx;
        parent_o = parent_kept;
        child_x = g.child_x;
        child_o = λ j d _ ne. g.child_o j d ne;
      } in
      let linked' = attached k a (tx ∙ p_free) (omega arith) cl z (λ q. absurd (omega arith)) (λ _. omega arith) in
      let free_o : (j : ℕ) → j < vacant' → slot_free_in hs j ≡ p → ⊥ = λ j jl q. s.slots_free.apart j vacant' jl (omega arith) (q ∙ e) in
      let ms : marks hs' ≡ set (marks hs) p (2 ^ 32 + key) = marks_set hs hs' p (2 ^ 32 + key) g.plen p_in (g.mark_x ∙ tl) g.mark_o in
      let fl = filed_add (marks hs) p key (rw length-map p_in) (marks_at hs p ∙ p_free) in
      let c0 : length (filed (marks hs)) ≡ length fl.0 + length fl.1 = ap length fl.2 ∙ length-append fl.0 fl.1 in
      let c1 : length (filed (marks hs')) ≡ length fl.0 + suc (length fl.1) = ap (λ y. length (filed y)) ms ∙ (ap length fl.3 ∙ length-append fl.0 (key ∷ fl.1)) in (
        record {
          linked = λ _. subst (λ y. Linked y (path_at ns' hs') (parent_at ns' hs') (child_in ns')) (sym g.len) linked';
          nonempty = λ i il ne iu zs.
              ⊎_elim
              (λ (q : i ≡ node). let r : length ns + p ≡ 0 = sym g.child_x ∙ (ap (λ y. child_in ns' y c) (sym q) ∙ zs c cl) in omega arith)
              (λ (q : i ≡ node → ⊥). s.nonempty i (omega (arith, g.len)) q (omega (arith, g.paths i)) (λ d dl. sym (g.child_o i d (λ r. q r.0)) ∙ zs d dl))
              (cases_eq i node);
          empty = λ q. absurd (omega (arith, g.len));
          fits = omega (arith, g.len, g.plen, s.fits);
          nodes_free = record {
            top_le = omega (arith, g.len, s.nodes_free.top_le);
            within = λ j jl. omega (arith, g.len, g.frees j, s.nodes_free.within j jl);
            idle = λ j jl. ap (path_in ns') (g.frees j) ∙ (g.paths (free_in ns j) ∙ s.nodes_free.idle j jl);
            apart = λ i j il jl q. s.nodes_free.apart i j il jl (sym (g.frees i) ∙ (q ∙ g.frees j));
          };
          slots_free = record {
            top_le = omega (arith, g.plen, s.slots_free.top_le);
            within = λ j jl. omega (arith, g.plen, g.vacant j, s.slots_free.within j (omega arith));
            idle = λ j jl. ap (mark_in hs') (g.vacant j) ∙ (g.mark_o (slot_free_in hs j) (free_o j jl) ∙ s.slots_free.idle j (omega arith));
            apart = λ i j il jl q. s.slots_free.apart i j il (omega arith) (sym (g.vacant i) ∙ (q ∙ g.vacant j));
          };
          count = omega (arith, g.plen, s.count);
        },
        p_in,
        p_free,
        ms,
      )
