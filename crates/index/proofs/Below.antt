-- Below each node in use lies a key, so that the nodes count the leading parts.
use Rattle.std.proofs.Common.{◌≡◌, ℕ, zero, suc, ◌+◌, ◌-◌, ◌*◌, ◌%◌, ◌^◌, ◌<◌, ◌≤◌, true, false, ltb, ◌⊎◌, List, [], ◌∷◌, length, get_or, sym, refl, ap, ◌∙◌, subst, inl, inr, ⊎_elim, arith}
use Rattle.std.proofs.lemmas.List.{get_or_past}
use Rattle.std.proofs.lemmas.Bool.{cases_lt, cases_eq, cases_Bool, lt-ltb, le-ltb, cond-true, cond-false}
use Rattle.index.specs.declared.node.Node.{Node}
use Rattle.index.specs.declared.slot.Head.{Head}
use Rattle.index.specs.Links.{up}
use Rattle.index.specs.Nodes.{path_in, parent_in, child_in}
use Rattle.index.specs.Slots.{marks, mark_in, slot_parent_in, no_head, key_mark}
use Rattle.index.specs.Sound.{path_at, parent_at, SoundIn, filed}
use Rattle.index.specs.Keys.{shares, missing}
use Rattle.index.proofs.Steps.{up_pos, up_up, up_same, within_child, within_parent, within_up, lead_up, up_to_lead, lead_zero}
use Rattle.index.specs.Nexts.{Within}
use Rattle.index.specs.Descents.{Descended}
use Rattle.index.proofs.Shape.{none_at, none_below, above}
use Rattle.index.proofs.Keys.{missing_steps, filed_has, filed_from}

pub marks_at : (hs : List Head) (p : ℕ) → get_or (marks hs) p 0 ≡ mark_in hs p
marks_at [] p = refl
marks_at (x ∷ hs) zero = refl
marks_at (x ∷ hs) (suc p) = marks_at hs p

pub path_node : (ns : List Node) (hs : List Head) (i : ℕ) → i < length ns → path_at ns hs i ≡ path_in ns i
path_node ns hs i l = cond-true (ltb i (length ns)) (path_in ns i) (mark_in hs (i - length ns)) (lt-ltb i (length ns) l)

pub path_slot : (ns : List Node) (hs : List Head) (i : ℕ) → length ns ≤ i → path_at ns hs i ≡ mark_in hs (i - length ns)
path_slot ns hs i l = cond-false (ltb i (length ns)) (path_in ns i) (mark_in hs (i - length ns)) (le-ltb i (length ns) l)

pub path_past : (ns : List Node) (hs : List Head) (p : ℕ) → path_at ns hs (length ns + p) ≡ mark_in hs p
path_past ns hs p = let e : (length ns + p) - length ns ≡ p = omega arith in path_slot ns hs (length ns + p) (omega arith) ∙ ap (mark_in hs) e

pub parent_node : (ns : List Node) (hs : List Head) (i : ℕ) → i < length ns → parent_at ns hs i ≡ parent_in ns i
parent_node ns hs i l = cond-true (ltb i (length ns)) (parent_in ns i) (slot_parent_in hs (i - length ns)) (lt-ltb i (length ns) l)

pub parent_slot : (ns : List Node) (hs : List Head) (i : ℕ) → length ns ≤ i → parent_at ns hs i ≡ slot_parent_in hs (i - length ns)
parent_slot ns hs i l = cond-false (ltb i (length ns)) (parent_in ns i) (slot_parent_in hs (i - length ns)) (le-ltb i (length ns) l)

pub mark_within : (hs : List Head) (p : ℕ) → 1 ≤ mark_in hs p → p < length hs
mark_within hs p l =
    ⊎_elim (λ (q : p < length hs). q)
    (λ (q : length hs ≤ p). let e : mark_in hs p ≡ 0 = ap (λ x. key_mark x.key) (get_or_past hs p no_head q) in absurd (omega arith))
    (cases_lt p (length hs))

-- the first of n numbers that is not 0, if there is one
pub some_child : (f : ℕ → ℕ) (n : ℕ) → ((c : ℕ) → c < n → f c ≡ 0) ⊎ ((c : ℕ) × (c < n) × (f c ≡ 0 → ⊥))
some_child f zero = inl (λ c l. absurd (omega arith))
some_child f (suc n) =
    ⊎_elim
    (λ (a : (c : ℕ) → c < n → f c ≡ 0).
    ⊎_elim
    (λ (e : f n ≡ 0). inl (λ c l. ⊎_elim (λ (q : c ≡ n). ap f q ∙ e) (λ (q : c ≡ n → ⊥). a c (omega arith)) (cases_eq c n)))
    (λ (e : f n ≡ 0 → ⊥). inr (n, omega arith, e))
    (cases_eq (f n) 0))
    (λ (b : (c : ℕ) × (c < n) × (f c ≡ 0 → ⊥)). inr (b.0, omega (arith, b.1), b.2))
    (some_child f n)

module _ {ns : List Node} {hs : List Head} {unused vacant : ℕ} (s : SoundIn ns hs unused vacant 0) (some : 0 < length ns) where
  pub big : (p : ℕ) → 1 ≤ mark_in hs p → 2 ^ 32 ≤ mark_in hs p
  big p l =
      let e = path_past ns hs p in
      omega (arith, (s.linked some).large (length ns + p) (omega arith) (omega arith))

  pub big_marks : (p : ℕ) → 1 ≤ get_or (marks hs) p 0 → 2 ^ 32 ≤ get_or (marks hs) p 0
  big_marks p l = let e = marks_at hs p in omega (arith, big p (omega arith))

  pub below : (h i T : ℕ) → h ≤ 7 → path_at ns hs i ≡ T → Within h T
      → (p : ℕ) × (q : ℕ) × (mark_in hs p ≡ 2 ^ 32 + q) × (up h (2 ^ 32 + q) ≡ T)
  below zero i T l e w =
      ⊎_elim
      (λ (a : i < length ns). let b = path_node ns hs i a in absurd (omega (arith, (s.linked some).small i a)))
      (λ (a : length ns ≤ i).
      let b = path_slot ns hs i a in
      let m : 2 ^ 32 + (T - 2 ^ 32) ≡ T = omega arith in
      (i - length ns, T - 2 ^ 32, omega arith, m))
      (cases_lt i (length ns))
  below (suc h) i T l e w =
      let o = within_parent (suc h) (omega arith) T w in
      ⊎_elim
      (λ (a : i < length ns).
      let b = path_node ns hs i a in
      let ni : i ≡ 0 → ⊥ = λ z. let r : path_at ns hs i ≡ 1 = ap (path_at ns hs) z ∙ (s.linked some).root in omega (arith, o.2) in
      ⊎_elim
      (λ (z : (c : ℕ) → c < 16 → child_in ns i c ≡ 0). absurd (s.nonempty i a ni (omega (arith, o.2)) z))
      (λ (k : (c : ℕ) × (c < 16) × (child_in ns i c ≡ 0 → ⊥)).
      let d = (s.linked some).down i k.0 k.1 k.2 in
      let r = below h (child_in ns i k.0) (16 * T + k.0) (omega arith) (omega (arith, d.1)) (within_child h (omega arith) T k.0 k.1 w) in
      (r.0, r.1, r.2, (let e2 = r.3 in let c16 = k.1 in omega arith)))
      (some_child (child_in ns i) 16))
      (λ (a : length ns ≤ i).
      let g = (s.linked some).large i a (omega (arith, o.2)) in
      let v = within_parent h (omega arith) (16 * T) (subst (Within h) (let z : 16 * T + 0 ≡ 16 * T = omega arith in z) (within_child h (omega arith) T 0 (omega arith) w)) in
      absurd (omega (arith, v.1)))
      (cases_lt i (length ns))

  -- the leading parts that a key lacks are as many as the steps that its way lacks
  pub missing_at : (g key i : ℕ) → g < 8 → key < 2 ^ 32 → path_at ns hs i ≡ up (suc g) (2 ^ 32 + key) → child_in ns i (up g (2 ^ 32 + key) % 16) ≡ 0
      → missing key (filed (marks hs)) ≡ g
  missing_at g key i l kl e z =
      let t = 2 ^ 32 + key in
      let r : missing key (filed (marks hs)) ≡ suc g - 1 = missing_steps key (filed (marks hs)) (suc g) (omega arith) (omega arith)
      (λ h a b.
      ⊎_elim
      (λ (y : shares h key (filed (marks hs)) ≡ true).
      let f = filed_from (marks hs) h key big_marks y in
      let m : path_at ns hs (length ns + f.0) ≡ 2 ^ 32 + f.1 = path_past ns hs f.0 ∙ (sym (marks_at hs f.0) ∙ f.3) in
      let w : up g (2 ^ 32 + f.1) ≡ up g t = up_same h g (2 ^ 32 + f.1) t (omega arith) (lead_up h f.1 key (omega arith) f.4) in
      let pos = up_pos g t (omega arith) (omega arith) in
      let j = above (s.linked some) g (2 ^ 32 + f.1) (length ns + f.0) m (omega arith) in
      let pos2 = up_pos (suc g) t (omega arith) (omega arith) in
      absurd (none_at (s.linked some) i (up g t) j.0 (omega arith) e z (j.1 ∙ w)))
      (λ (y : shares h key (filed (marks hs)) ≡ false). y)
      (cases_Bool (shares h key (filed (marks hs)))))
      (λ h a b.
      let pos = up_pos h t (omega arith) (omega arith) in
      let q : up (h - suc g) (up (suc g) t) ≡ up h t = up_up (h - suc g) (suc g) t ∙ (let x : (h - suc g) + suc g ≡ h = omega arith in ap (λ y. up y t) x) in
      let j = above (s.linked some) (h - suc g) (up (suc g) t) i e (omega arith) in
      let f = below h j.0 (up h t) b (j.1 ∙ q) (within_up h t (omega arith) (omega arith) (omega arith)) in
      filed_has (marks hs) f.0 f.1 h key (marks_at hs f.0 ∙ f.2) (up_to_lead h f.1 key (omega arith) f.3))
      in omega arith

  pub not_filed : (g key i : ℕ) → g < 8 → path_at ns hs i ≡ up (suc g) (2 ^ 32 + key) → child_in ns i (up g (2 ^ 32 + key) % 16) ≡ 0
      → shares 0 key (filed (marks hs)) ≡ false
  not_filed g key i l e z =
      ⊎_elim
      (λ (y : shares 0 key (filed (marks hs)) ≡ true).
      let f = filed_from (marks hs) 0 key big_marks y in
      let m : path_at ns hs (length ns + f.0) ≡ 2 ^ 32 + key = path_past ns hs f.0 ∙ (sym (marks_at hs f.0) ∙ (f.3 ∙ lead_zero f.1 key f.4)) in
      absurd (none_below (s.linked some) g (2 ^ 32 + key) i (length ns + f.0) (omega (arith, up_pos (suc g) (2 ^ 32 + key) (omega arith) (omega arith))) e z m))
      (λ (y : shares 0 key (filed (marks hs)) ≡ false). y)
      (cases_Bool (shares 0 key (filed (marks hs))))

module _ {ns : List Node} {hs : List Head} {unused vacant : ℕ} {key item height : ℕ} (s : SoundIn ns hs unused vacant 0) (w : Descended ns hs key item height) where
  pub end_none : 0 < height → shares 0 key (filed (marks hs)) ≡ false
  end_none l =
      ⊎_elim
      (λ (a : 0 < length ns).
      let e : height ≡ suc (height - 1) = omega arith in
      let hi = w.high in
      not_filed s a (height - 1) key item (omega arith) (w.here a ∙ ap (λ x. up x (2 ^ 32 + key)) e) (w.ends (height - 1) a e))
      (λ (a : length ns ≤ 0).
      ⊎_elim
      (λ (y : shares 0 key (filed (marks hs)) ≡ true).
      let b : (p : ℕ) → get_or (marks hs) p 0 ≡ 0 = λ p. marks_at hs p ∙ s.empty (omega arith) p in
      let f = filed_from (marks hs) 0 key (λ p u. absurd (omega (arith, b p))) y in
      absurd (omega (arith, b f.0, f.3)))
      (λ (y : shares 0 key (filed (marks hs)) ≡ false). y)
      (cases_Bool (shares 0 key (filed (marks hs)))))
      (cases_lt 0 (length ns))

  pub end_found : height ≡ 0 → (0 < length ns) × (length ns ≤ item) × (item - length ns < length hs) × (mark_in hs (item - length ns) ≡ 2 ^ 32 + key)
  end_found z =
      ⊎_elim
      (λ (a : 0 < length ns).
      let t : path_at ns hs item ≡ 2 ^ 32 + key = w.here a ∙ ap (λ x. up x (2 ^ 32 + key)) z in
      ⊎_elim
      (λ (b : item < length ns). let n = path_node ns hs item b in absurd (omega (arith, (s.linked a).small item b)))
      (λ (b : length ns ≤ item).
      let m : mark_in hs (item - length ns) ≡ 2 ^ 32 + key = sym (path_slot ns hs item b) ∙ t in
      (a, b, mark_within hs (item - length ns) (omega arith), m))
      (cases_lt item (length ns)))
      (λ (a : length ns ≤ 0). absurd (omega (arith, w.empty (omega arith))))
      (cases_lt 0 (length ns))

-- where a key is filed, there is a node
pub filed_some : {ns : List Node} {hs : List Head} {u v x : ℕ} → SoundIn ns hs u v x → (p key : ℕ) → mark_in hs p ≡ 2 ^ 32 + key → 0 < length ns
filed_some {ns = ns} s p key held =
    ⊎_elim (λ (a : 0 < length ns). a) (λ (b : length ns ≤ 0). absurd (omega (arith, s.empty (omega arith) p, held))) (cases_lt 0 (length ns))
