-- The steps of a search for the next key.
use Rattle.std.proofs.Common.{◌≡◌, ℕ, suc, ◌+◌, ◌-◌, ◌*◌, ◌/◌, ◌%◌, ◌^◌, ◌<◌, ◌≤◌, List, length, vec_items, sym, refl, ap, ◌∙◌, subst, ⊎_elim, arith}
use Rattle.std.proofs.lemmas.Bool.{cases_lt}
use Rattle.index.specs.declared.node.Node.{Node}
use Rattle.index.specs.declared.slot.Head.{Head}
use Rattle.index.specs.declared.tree.Tree.{Tree}
use Rattle.index.specs.Links.{up}
use Rattle.index.specs.Nexts.{Within, Ahead, Scan, Past, First}
use Rattle.index.specs.Nodes.{path_in, parent_in, child_in}
use Rattle.index.specs.Slots.{marks, mark_in, slot_parent_in}
use Rattle.index.specs.Sound.{path_at, SoundIn, Sound, heads_of}
use Rattle.index.specs.Descents.{Descended}
use Rattle.index.proofs.Steps.{up_pos, up_mono, within_child, within_parent, within_up}
use Rattle.index.proofs.Shape.{none_at, above, parent_of}
use Rattle.index.proofs.Below.{path_node, path_slot, path_past, parent_node, marks_at, mark_within, big}
use Rattle.index.proofs.Freeing.{at_parent}
use Rattle.index.proofs.Keys.{filed_has}

module _ {ns : List Node} {hs : List Head} {unused vacant : ℕ} (s : SoundIn ns hs unused vacant 0) (some : 0 < length ns) where
  pub mark_bound : (p : ℕ) → 1 ≤ mark_in hs p → (2 ^ 32 ≤ mark_in hs p) × (mark_in hs p < 2 ^ 33)
  mark_bound p l =
      let b = big s some p l in
      let e : mark_in hs p ≡ 2 ^ 32 + (mark_in hs p - 2 ^ 32) = omega arith in
      let h = at_parent s some p (mark_in hs p - 2 ^ 32) e in
      let t = path_node ns hs (slot_parent_in hs p) h.0 in
      (b, omega (arith, (s.linked some).small (slot_parent_in hs p) h.0, h.1))

  -- there is no key below steps without a child
  skip : (node low from c p : ℕ) → low ≤ 7 → node < length ns → Within (suc low) (path_in ns node) → c ≤ 16
      → ((d : ℕ) → from ≤ d → d < c → child_in ns node d ≡ 0) → 1 ≤ mark_in hs p
      → 16 * path_in ns node + from ≤ up low (mark_in hs p) → 16 * path_in ns node + c ≤ up low (mark_in hs p)
  skip node low from c p lw l w cl z u lo =
      let m = mark_in hs p in
      let T = path_in ns node in
      ⊎_elim
      (λ (q : up low m < 16 * T + c).
      let b = mark_bound p u in
      let d = up low m - 16 * T in
      let e16 : up low m % 16 ≡ up low m - 16 * T = omega arith in
      let j = above (s.linked some) low m (length ns + p) (path_past ns hs p) (up_pos low m (omega arith) b.0) in
      let tn = path_node ns hs node l in
      let pos = up_pos low m (omega arith) b.0 in
      let wl = within_parent low (omega arith) (up low m) (within_up low m (omega arith) b.0 b.1) in
      absurd (none_at (s.linked some) node (up low m) j.0 (omega (arith, wl.2)) (omega arith)
      (ap (child_in ns node) e16 ∙ z (up low m - 16 * T) (omega arith) (omega arith)) j.1))
      (λ (q : 16 * T + c ≤ up low m). q)
      (cases_lt (up low m) (16 * T + c))

  -- the search begins where the way to the key ended
  pub scan_start : (key item g : ℕ) → key < 2 ^ 32 → Descended ns hs key item (suc g) → Scan ns hs key item g (up g (2 ^ 32 + key) % 16 + 1)
  scan_start key item g kl w =
      let t = 2 ^ 32 + key in
      let here = w.here some in
      let l : item < length ns = w.node some (omega arith) in
      let tn = path_node ns hs item l in
      let high = w.high in
      let lev : Within (suc g) (path_in ns item) = subst (Within (suc g)) (sym here ∙ tn) (within_up (suc g) t high (omega arith) (omega arith)) in
      record {
        high = omega arith;
        node_in = l;
        step = omega arith;
        level = lev;
        before = omega arith;
        least = λ p lp.
            let b = mark_bound p (omega arith) in
            let mono = up_mono g t (mark_in hs p) lp in
            let ne : up g (mark_in hs p) ≡ up g t → ⊥ = λ q.
            let j = above (s.linked some) g (mark_in hs p) (length ns + p) (path_past ns hs p) (up_pos g (mark_in hs p) (omega arith) b.0) in
            none_at (s.linked some) item (up g t) j.0 (omega (arith, up_pos (suc g) t high (omega arith))) here (w.ends g some refl) (j.1 ∙ q) in
            omega arith;
      }

  -- it passes steps without a child
  pub scan_pass : (key node low from c : ℕ) → Scan ns hs key node low from → from ≤ c → c ≤ 16 → ((d : ℕ) → from ≤ d → d < c → child_in ns node d ≡ 0) → Scan ns hs key node low c
  scan_pass key node low from c k lo hi z =
      record {
        high = k.high;
        node_in = k.node_in;
        step = hi;
        level = k.level;
        before = omega (arith, k.before);
        least = λ p lp. skip node low from c p k.high k.node_in k.level hi z (omega arith) (k.least p lp);
      }

  -- where a node has no later child, the search goes on at its parent
  pub scan_up : (key node low : ℕ) → Scan ns hs key node low 16 → low < 7 → Scan ns hs key (parent_in ns node) (suc low) (path_in ns node % 16 + 1)
  scan_up key node low k ll =
      let T = path_in ns node in
      let tn = path_node ns hs node k.node_in in
      let wo = within_parent (suc low) (omega arith) T k.level in
      let h = parent_of (s.linked some) node (omega (arith, wo.2)) in
      let on = parent_node ns hs node k.node_in in
      let to : path_at ns hs (parent_in ns node) ≡ T / 16 = ap (path_at ns hs) (sym on) ∙ (h.1 ∙ ap (λ y. y / 16) tn) in
      let l : parent_in ns node < length ns
      = ⊎_elim (λ (q : parent_in ns node < length ns). q) (λ (q : length ns ≤ parent_in ns node). absurd (omega (arith, (s.linked some).large (parent_in ns node) q (omega (arith, wo.2)), wo.1))) (cases_lt (parent_in ns node) (length ns)) in
      let te : path_in ns (parent_in ns node) ≡ T / 16 = sym (path_node ns hs (parent_in ns node) l) ∙ to in
      let lev : Within (suc (suc low)) (path_in ns (parent_in ns node)) = subst (Within (suc (suc low))) (sym te) wo.0 in
      let bf = k.before in
      record {
        high = omega arith;
        node_in = l;
        step = omega arith;
        level = lev;
        before = omega arith;
        least = λ p lp. let kl = k.least p lp in omega arith;
      }

  -- at the root it ends, with no key
  pub scan_end : (key node : ℕ) → Scan ns hs key node 7 16 → Past hs key
  scan_end key node k p lp =
      let b = mark_bound p (omega arith) in
      let w = within_up 7 (mark_in hs p) (omega arith) b.0 b.1 in
      let lv = k.level in
      omega (arith, k.least p lp)

  -- a later child is ahead
  pub scan_found : (key node low c : ℕ) → Scan ns hs key node low c → c < 16 → (child_in ns node c ≡ 0 → ⊥) → Ahead ns hs key (child_in ns node c) low
  scan_found key node low c k cl ne =
      let d = (s.linked some).down node c cl ne in
      let tn = path_node ns hs node k.node_in in
      let e : path_at ns hs (child_in ns node c) ≡ 16 * path_in ns node + c = d.1 ∙ ap (λ y. 16 * y + c) tn in
      record {
        high = k.high;
        level = subst (Within low) (sym e) (within_child low (omega (arith, k.high)) (path_in ns node) c cl k.level);
        before = omega (arith, k.before);
        least = λ p lp. omega (arith, k.least p lp);
      }

  pub ahead_node : (key item g : ℕ) → Ahead ns hs key item (suc g) → (item < length ns) × (1 < path_in ns item)
  ahead_node key item g a =
      let hi = a.high in
      let o = within_parent (suc g) (omega arith) (path_at ns hs item) a.level in
      let v = within_parent g (omega arith) (16 * path_at ns hs item + 0) (within_child g (omega arith) (path_at ns hs item) 0 (omega arith) a.level) in
      ⊎_elim
      (λ (q : item < length ns). (q, (let t = path_node ns hs item q in omega (arith, o.2))))
      (λ (q : length ns ≤ item). absurd (omega (arith, (s.linked some).large item q (omega (arith, o.2)), v.1)))
      (cases_lt item (length ns))

  -- a node that is ahead has a child
  pub ahead_child : (key item g : ℕ) → Ahead ns hs key item (suc g) → ((d : ℕ) → 0 ≤ d → d < 16 → child_in ns item d ≡ 0) → ⊥
  ahead_child key item g a z =
      let n = ahead_node key item g a in
      let i0 : item ≡ 0 → ⊥ = λ q. let tn = path_node ns hs item n.0 in let r : path_at ns hs item ≡ 1 = ap (path_at ns hs) q ∙ (s.linked some).root in omega (arith, n.1) in
      s.nonempty item n.0 i0 n.1 (λ d dl. z d (omega arith) dl)

  -- the first child of a node that is ahead
  pub ahead_down : (key item g c : ℕ) → Ahead ns hs key item (suc g) → c < 16 → ((d : ℕ) → 0 ≤ d → d < c → child_in ns item d ≡ 0) → (child_in ns item c ≡ 0 → ⊥)
      → Ahead ns hs key (child_in ns item c) g
  ahead_down key item g c a cl z ne =
      let n = ahead_node key item g a in
      let hi = a.high in
      let tn = path_node ns hs item n.0 in
      let lev : Within (suc g) (path_in ns item) = subst (Within (suc g)) tn a.level in
      let bf = a.before in
      let k : Scan ns hs key item g c = record {
        high = omega arith;
        node_in = n.0;
        step = omega arith;
        level = lev;
        before = omega arith;
        least = λ p lp. let al = a.least p lp in skip item g 0 c p (omega arith) n.0 lev (omega arith) z (omega arith) (omega arith);
      } in
      scan_found key item g c k cl ne

  pub ahead_end : (key item : ℕ) → Ahead ns hs key item 0
      → (length ns ≤ item) × (item - length ns < length hs) × (2 ^ 32 ≤ mark_in hs (item - length ns)) × (mark_in hs (item - length ns) < 2 ^ 33) × (mark_in hs (item - length ns) ≡ path_at ns hs item)
  ahead_end key item a =
      let lv = a.level in
      ⊎_elim
      (λ (q : item < length ns). let t = path_node ns hs item q in absurd (omega (arith, (s.linked some).small item q)))
      (λ (q : length ns ≤ item).
      let t = path_slot ns hs item q in
      (q, mark_within hs (item - length ns) (omega arith), omega arith, omega arith, sym t))
      (cases_lt item (length ns))

-- what the search ends at is the first key
pub first_end : {R : Type 0} (t : Tree R) (key item height : ℕ) → Sound t 0 → 0 < length (vec_items t.nodes) → Ahead (vec_items t.nodes) (heads_of t) key item height → height ≤ 0
    → (length (vec_items t.nodes) ≤ item) × (item - length (vec_items t.nodes) < length (heads_of t))
    × ((m n : ℕ) → n ≡ length (vec_items t.nodes) → m ≡ mark_in (heads_of t) (item - n) → (2 ^ 32 ≤ m) × (m < 2 ^ 33) × First t key (m - 2 ^ 32))
first_end t key item height s some a0 z =
    let ns = vec_items t.nodes in
    let hs = heads_of t in
    let a : Ahead ns hs key item 0 = subst (Ahead ns hs key item) (let e : height ≡ 0 = omega arith in e) a0 in
    let r = ahead_end s some key item a in (
      r.0,
      r.1,
      (λ m n ne me.
          let e : m ≡ mark_in hs (item - length ns) = me ∙ ap (λ y. mark_in hs (item - y)) ne in
          let lo = r.2 in
          let bf = a.before in
          let f : mark_in hs (item - length ns) ≡ 2 ^ 32 + (m - 2 ^ 32) = omega arith in (
            omega arith,
            omega (arith, r.3),
            record {
              after = omega (arith, r.4);
              held = filed_has (marks hs) (item - length ns) (m - 2 ^ 32) 0 (m - 2 ^ 32) (marks_at hs (item - length ns) ∙ f) refl;
              least = λ p l. omega (arith, a.least p l, r.4);
            },
          )),
    )
