-- A tree stays sound as a slot or a node is freed.
use Rattle.std.proofs.Common.{◌≡◌, ℕ, suc, ◌+◌, ◌-◌, ◌/◌, ◌%◌, ◌^◌, ◌<◌, ◌≤◌, List, ◌∷◌, length, get_or, set, sym, ap, ◌∙◌, subst, ⊎_elim, arith}
use Rattle.std.proofs.lemmas.List.{length-map, length-append, get_or_past}
use Rattle.std.proofs.lemmas.Bool.{cases_lt, cases_eq}
use Rattle.index.specs.declared.node.Node.{Node}
use Rattle.index.specs.declared.slot.Head.{Head}
use Rattle.index.specs.Links.{Linked}
use Rattle.index.specs.Nodes.{path_in, parent_in, child_in, free_in, none}
use Rattle.index.specs.Slots.{marks, mark_in, slot_parent_in, slot_free_in}
use Rattle.index.specs.Sound.{path_at, parent_at, SoundIn, Stacked, filed}
use Rattle.index.proofs.Shape.{Detached, detached, parent_of}
use Rattle.index.proofs.Below.{path_node, path_slot, parent_node, parent_slot, path_past, marks_at, mark_within}
use Rattle.index.proofs.Adding.{marks_set}
use Rattle.index.proofs.Keys.{filed_drop}

-- what is free stays free as one more is put on the stack
stack_more : {top size size' : ℕ} {at at' state state' : ℕ → ℕ} (x : ℕ) → Stacked top size at state → size' ≡ size → top < size → x < size → (state x ≡ 0 → ⊥)
    → at' top ≡ x → ((j : ℕ) → (j ≡ top → ⊥) → at' j ≡ at j) → state' x ≡ 0 → ((j : ℕ) → (j ≡ x → ⊥) → state' j ≡ state j)
    → Stacked (top + 1) size' at' state'
stack_more {top} {size} {size'} {at} {at'} {state} {state'} x s e l xl u ax ao sx so =
    let old : (k : ℕ) → k < top → at k ≡ x → ⊥ = λ k kl q. u (sym (ap state q) ∙ s.idle k kl) in
    record {
      top_le = omega arith;
      within = λ k kl. ⊎_elim (λ (q : k ≡ top). let r : at' k ≡ x = ap at' q ∙ ax in omega arith) (λ (q : k ≡ top → ⊥). omega (arith, ao k q, s.within k (omega arith))) (cases_eq k top);
      idle = λ k kl. ⊎_elim (λ (q : k ≡ top). ap (λ y. state' (at' y)) q ∙ (ap state' ax ∙ sx))
          (λ (q : k ≡ top → ⊥). ap state' (ao k q) ∙ (so (at k) (old k (omega arith)) ∙ s.idle k (omega arith))) (cases_eq k top);
      apart = λ i j il jl q.
          let ai = ao i (omega arith) in
          ⊎_elim (λ (r : j ≡ top). old i (omega arith) (sym ai ∙ (q ∙ (ap at' r ∙ ax))))
          (λ (r : j ≡ top → ⊥). s.apart i j il (omega arith) (sym ai ∙ (q ∙ ao j r))) (cases_eq j top);
    }

-- the node x is free, and stands on top of the stack
pub record NodeFreed (ns ns' : List Node) (x unused : ℕ) : Type 0 where
  pub len : length ns' ≡ length ns
  pub path_x : path_in ns' x ≡ 0
  pub path_o : (j : ℕ) → (j ≡ x → ⊥) → path_in ns' j ≡ path_in ns j
  pub parents : (j : ℕ) → parent_in ns' j ≡ parent_in ns j
  pub child_x : child_in ns' (parent_in ns x) (path_in ns x % 16) ≡ 0
  pub child_o : (j d : ℕ) → ((j ≡ parent_in ns x) × (d ≡ path_in ns x % 16) → ⊥) → child_in ns' j d ≡ child_in ns j d
  pub free_x : free_in ns' unused ≡ x
  pub free_o : (j : ℕ) → (j ≡ unused → ⊥) → free_in ns' j ≡ free_in ns j

module _ {ns ns' : List Node} (hs : List Head) {x unused : ℕ} (g : NodeFreed ns ns' x unused) where
  path_same : (j : ℕ) → (j ≡ x → ⊥) → path_at ns' hs j ≡ path_at ns hs j
  path_same j ne =
      ⊎_elim
      (λ (l : j < length ns). path_node ns' hs j (omega (arith, g.len)) ∙ (g.path_o j ne ∙ sym (path_node ns hs j l)))
      (λ (l : length ns ≤ j). path_slot ns' hs j (omega (arith, g.len)) ∙ (ap (λ y. mark_in hs (j - y)) g.len ∙ sym (path_slot ns hs j l)))
      (cases_lt j (length ns))

  parent_same : (j : ℕ) → parent_at ns' hs j ≡ parent_at ns hs j
  parent_same j =
      ⊎_elim
      (λ (l : j < length ns). parent_node ns' hs j (omega (arith, g.len)) ∙ (g.parents j ∙ sym (parent_node ns hs j l)))
      (λ (l : length ns ≤ j). parent_slot ns' hs j (omega (arith, g.len)) ∙ (ap (λ y. slot_parent_in hs (j - y)) g.len ∙ sym (parent_slot ns hs j l)))
      (cases_lt j (length ns))

  pub node_freed : {vacant : ℕ} → SoundIn ns hs unused vacant x → x < length ns → 1 < path_in ns x → ((d : ℕ) → d < 16 → child_in ns x d ≡ 0) → unused < length ns
      → (SoundIn ns' hs (unused + 1) vacant (parent_in ns x)) × (parent_in ns x < length ns') × (path_in ns' (parent_in ns x) ≡ path_in ns x / 16)
  node_freed {vacant} s l u z fl =
      let some : 0 < length ns = omega arith in
      let k = s.linked some in
      let tx = path_node ns hs x l in
      let ox = parent_node ns hs x l in
      let hx = parent_of k x (omega arith) in
      let mx : path_at ns hs x % 16 ≡ path_in ns x % 16 = ap (λ y. y % 16) tx in
      let o_path : path_at ns hs (parent_in ns x) ≡ path_in ns x / 16 = ap (path_at ns hs) (sym ox) ∙ (hx.1 ∙ ap (λ y. y / 16) tx) in
      let o_pos : 1 ≤ path_at ns hs (parent_in ns x) = subst (λ y. 1 ≤ path_at ns hs y) ox hx.0 in
      let o_in : parent_in ns x < length ns = ⊎_elim (λ (q : parent_in ns x < length ns). q) (λ (q : length ns ≤ parent_in ns x). absurd (omega (arith, k.large (parent_in ns x) q o_pos, k.small x l))) (cases_lt (parent_in ns x) (length ns)) in
      let o_x : parent_in ns x ≡ x → ⊥ = λ q. let r : path_at ns hs (parent_in ns x) ≡ path_at ns hs x = ap (path_at ns hs) q in omega arith in
      let a : Detached (path_at ns hs) (parent_at ns hs) (child_in ns) (path_at ns' hs) (parent_at ns' hs) (child_in ns') x = record {
        path_x = path_node ns' hs x (omega (arith, g.len)) ∙ g.path_x;
        parent_s = parent_same;
        path_o = path_same;
        child_x = ap (λ y. child_in ns' y (path_at ns hs x % 16)) ox ∙ (ap (child_in ns' (parent_in ns x)) mx ∙ g.child_x);
        child_o = λ j d _ ne. g.child_o j d (λ q. ne (q.0 ∙ sym ox, q.1 ∙ sym mx));
      } in
      let linked' = detached k a (omega arith) z in (
        record {
          linked = λ _. subst (λ y. Linked y (path_at ns' hs) (parent_at ns' hs) (child_in ns')) (sym g.len) linked';
          nonempty = λ i il ne iu zs.
              ⊎_elim
              (λ (q : i ≡ x). let r : path_in ns' i ≡ 0 = ap (path_in ns') q ∙ g.path_x in omega arith)
              (λ (q : i ≡ x → ⊥). s.nonempty i (omega (arith, g.len)) q (omega (arith, g.path_o i q)) (λ d dl. sym (g.child_o i d (λ r. ne r.0)) ∙ zs d dl))
              (cases_eq i x);
          empty = λ q. absurd (omega (arith, g.len));
          fits = omega (arith, g.len, s.fits);
          nodes_free = stack_more x s.nodes_free g.len fl l (λ q. omega arith) g.free_x g.free_o g.path_x g.path_o;
          slots_free = s.slots_free;
          count = s.count;
        },
        omega (arith, g.len),
        g.path_o (parent_in ns x) o_x ∙ (sym (path_node ns hs (parent_in ns x) o_in) ∙ o_path),
      )

child_past : (ns : List Node) (i c : ℕ) → length ns ≤ i → child_in ns i c ≡ 0
child_past ns i c l = ap (λ y. get_or y.children.items c 0) (get_or_past ns i none l)

-- the slot p is free, and stands on top of the stack
pub record SlotFreed (ns ns' : List Node) (hs hs' : List Head) (p vacant : ℕ) : Type 0 where
  pub len : length ns' ≡ length ns
  pub paths : (j : ℕ) → path_in ns' j ≡ path_in ns j
  pub parents : (j : ℕ) → parent_in ns' j ≡ parent_in ns j
  pub frees : (j : ℕ) → free_in ns' j ≡ free_in ns j
  pub child_x : child_in ns' (slot_parent_in hs p) (mark_in hs p % 16) ≡ 0
  pub child_o : (j d : ℕ) → ((j ≡ slot_parent_in hs p) × (d ≡ mark_in hs p % 16) → ⊥) → child_in ns' j d ≡ child_in ns j d
  pub plen : length hs' ≡ length hs
  pub mark_x : mark_in hs' p ≡ 0
  pub mark_o : (j : ℕ) → (j ≡ p → ⊥) → mark_in hs' j ≡ mark_in hs j
  pub slot_parents : (j : ℕ) → slot_parent_in hs' j ≡ slot_parent_in hs j
  pub slot_free_x : slot_free_in hs' vacant ≡ p
  pub slot_free_o : (j : ℕ) → (j ≡ vacant → ⊥) → slot_free_in hs' j ≡ slot_free_in hs j

-- the node whose child a slot in use is
pub at_parent : {ns : List Node} {hs : List Head} {unused vacant unfilled : ℕ} → SoundIn ns hs unused vacant unfilled → 0 < length ns → (p key : ℕ) → mark_in hs p ≡ 2 ^ 32 + key
    → (slot_parent_in hs p < length ns) × (path_in ns (slot_parent_in hs p) ≡ (2 ^ 32 + key) / 16) × (p < length hs)
at_parent {ns} {hs} s some p key e =
    let k = s.linked some in
    let tx : path_at ns hs (length ns + p) ≡ 2 ^ 32 + key = path_past ns hs p ∙ e in
    let ox : parent_at ns hs (length ns + p) ≡ slot_parent_in hs p = parent_slot ns hs (length ns + p) (omega arith) ∙ (let y : (length ns + p) - length ns ≡ p = omega arith in ap (slot_parent_in hs) y) in
    let hx = parent_of k (length ns + p) (omega arith) in
    let t : path_at ns hs (slot_parent_in hs p) ≡ (2 ^ 32 + key) / 16 = ap (path_at ns hs) (sym ox) ∙ (hx.1 ∙ ap (λ y. y / 16) tx) in
    ⊎_elim
    (λ (q : slot_parent_in hs p < length ns). (q, sym (path_node ns hs (slot_parent_in hs p) q) ∙ t, mark_within hs p (omega arith)))
    (λ (q : length ns ≤ slot_parent_in hs p).
    let ne : child_in ns (parent_at ns hs (length ns + p)) (path_at ns hs (length ns + p) % 16) ≡ 0 = child_past ns (parent_at ns hs (length ns + p)) (path_at ns hs (length ns + p) % 16) (omega arith) in
    let z : length ns + p ≡ 0 = sym hx.2 ∙ ne in
    absurd (omega arith))
    (cases_lt (slot_parent_in hs p) (length ns))

module _ {ns ns' : List Node} {hs hs' : List Head} {p vacant : ℕ} (g : SlotFreed ns ns' hs hs' p vacant) where
  off : (j : ℕ) → length ns ≤ j → (j ≡ length ns + p → ⊥) → j - length ns' ≡ p → ⊥
  off j l ne e = ne (omega (arith, g.len))

  path_kept : (j : ℕ) → (j ≡ length ns + p → ⊥) → path_at ns' hs' j ≡ path_at ns hs j
  path_kept j ne =
      ⊎_elim
      (λ (l : j < length ns). path_node ns' hs' j (omega (arith, g.len)) ∙ (g.paths j ∙ sym (path_node ns hs j l)))
      (λ (l : length ns ≤ j). path_slot ns' hs' j (omega (arith, g.len)) ∙ (g.mark_o (j - length ns') (off j l ne) ∙ (ap (λ y. mark_in hs (j - y)) g.len ∙ sym (path_slot ns hs j l))))
      (cases_lt j (length ns))

  parent_kept : (j : ℕ) → parent_at ns' hs' j ≡ parent_at ns hs j
  parent_kept j =
      ⊎_elim
      (λ (l : j < length ns). parent_node ns' hs' j (omega (arith, g.len)) ∙ (g.parents j ∙ sym (parent_node ns hs j l)))
      (λ (l : length ns ≤ j). parent_slot ns' hs' j (omega (arith, g.len)) ∙ (g.slot_parents (j - length ns') ∙ (ap (λ y. slot_parent_in hs (j - y)) g.len ∙ sym (parent_slot ns hs j l))))
      (cases_lt j (length ns))

  pub slot_freed : {unused : ℕ} (key : ℕ) → SoundIn ns hs unused vacant 0 → 0 < length ns → mark_in hs p ≡ 2 ^ 32 + key
      → (SoundIn ns' hs' unused (vacant + 1) (slot_parent_in hs p)) × (marks hs' ≡ set (marks hs) p 0)
  slot_freed {unused} key s some e =
      let k = s.linked some in
      let h = at_parent s some p key e in
      let tx : path_at ns hs (length ns + p) ≡ mark_in hs p = path_past ns hs p in
      let ox : parent_at ns hs (length ns + p) ≡ slot_parent_in hs p = parent_slot ns hs (length ns + p) (omega arith) ∙ (let y : (length ns + p) - length ns ≡ p = omega arith in ap (slot_parent_in hs) y) in
      let mx : path_at ns hs (length ns + p) % 16 ≡ mark_in hs p % 16 = ap (λ y. y % 16) tx in
      let a : Detached (path_at ns hs) (parent_at ns hs) (child_in ns) (path_at ns' hs') (parent_at ns' hs') (child_in ns') (length ns + p) = record {
        path_x = ap (λ y. path_at ns' hs' (y + p)) (sym g.len) ∙ (path_past ns' hs' p ∙ g.mark_x);
        parent_s = parent_kept;
        path_o = path_kept;
        child_x = ap (λ y. child_in ns' y (path_at ns hs (length ns + p) % 16)) ox ∙ (ap (child_in ns' (slot_parent_in hs p)) mx ∙ g.child_x);
        child_o = λ j d _ ne. g.child_o j d (λ q. ne (q.0 ∙ sym ox, q.1 ∙ sym mx));
      } in
      let linked' = detached k a (omega arith) (λ d _. child_past ns (length ns + p) d (omega arith)) in
      let ms : marks hs' ≡ set (marks hs) p 0 = marks_set hs hs' p 0 g.plen h.2 g.mark_x g.mark_o in
      let fl = filed_drop (marks hs) p key (rw length-map h.2) (marks_at hs p ∙ e) in
      let c0 : length (filed (marks hs')) ≡ length fl.0 + length fl.1 = ap (λ y. length (filed y)) ms ∙ (ap length fl.2 ∙ length-append fl.0 fl.1) in
      let c1 : length (filed (marks hs)) ≡ length fl.0 + suc (length fl.1) = ap length fl.3 ∙ length-append fl.0 (key ∷ fl.1) in (
        record {
          linked = λ _. subst (λ y. Linked y (path_at ns' hs') (parent_at ns' hs') (child_in ns')) (sym g.len) linked';
          nonempty = λ i il ne iu zs.
              let i0 : i ≡ 0 → ⊥ = λ q. let r : path_in ns i ≡ 1 = ap (path_in ns) q ∙ (sym (path_node ns hs 0 some) ∙ k.root) in omega (arith, g.paths i) in
              s.nonempty i (omega (arith, g.len)) i0 (omega (arith, g.paths i)) (λ d dl. sym (g.child_o i d (λ r. ne r.0)) ∙ zs d dl);
          empty = λ q. absurd (omega (arith, g.len));
          fits = omega (arith, g.len, g.plen, s.fits);
          nodes_free = record {
            top_le = omega (arith, g.len, s.nodes_free.top_le);
            within = λ j jl. omega (arith, g.len, g.frees j, s.nodes_free.within j jl);
            idle = λ j jl. ap (path_in ns') (g.frees j) ∙ (g.paths (free_in ns j) ∙ s.nodes_free.idle j jl);
            apart = λ i j il jl q. s.nodes_free.apart i j il jl (sym (g.frees i) ∙ (q ∙ g.frees j));
          };
          slots_free = stack_more p s.slots_free g.plen (omega (arith, s.count)) h.2 (λ q. omega arith) g.slot_free_x g.slot_free_o g.mark_x g.mark_o;
          count = omega (arith, g.plen, s.count);
        },
        ms,
      )

-- where a slot is in use the stack is not full
pub slot_left : {ns : List Node} {hs : List Head} {unused vacant unfilled : ℕ} → SoundIn ns hs unused vacant unfilled → 0 < length ns → (p key : ℕ) → mark_in hs p ≡ 2 ^ 32 + key → vacant < length hs
slot_left {ns} {hs} s some p key e =
    let fl = filed_drop (marks hs) p key (rw length-map (mark_within hs p (omega arith))) (marks_at hs p ∙ e) in
    let c1 : length (filed (marks hs)) ≡ length fl.0 + suc (length fl.1) = ap length fl.3 ∙ length-append fl.0 (key ∷ fl.1) in
    omega (arith, s.count)
