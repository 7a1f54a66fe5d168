use Rattle.std.proofs.Common.{◌≡◌, ℕ, zero, suc, ◌+◌, ◌*◌, ◌/◌, ◌%◌, ◌^◌, ◌<◌, ◌≤◌, ◌⊎◌, sym, ap, ◌∙◌, subst, inl, inr, ⊎_elim, arith}
use Rattle.std.proofs.lemmas.Bool.{cases_eq}
use Rattle.index.specs.Links.{up, Linked}

module _ {n : ℕ} {path parent : ℕ → ℕ} {child : ℕ → ℕ → ℕ} (s : Linked n path parent child) where
  -- the parent of an item in use, other than the root
  pub parent_of : (j : ℕ) → 1 < path j → (1 ≤ path (parent j)) × (path (parent j) ≡ path j / 16) × (child (parent j) (path j % 16) ≡ j)
  parent_of j h =
      let r = s.rise j h in
      let ne : child (parent j) (path j % 16) ≡ 0 → ⊥ = λ e. let z : j ≡ 0 = sym r.1 ∙ e in let t : path j ≡ 1 = ap path z ∙ s.root in omega arith in
      ((s.down (parent j) (path j % 16) (omega arith) ne).0, r.0, r.1)

  -- two items in use have two paths
  pub same : (f i j : ℕ) → path i ≤ f → 1 ≤ path i → path i ≡ path j → i ≡ j
  same zero i j l u e = absurd (omega arith)
  same (suc f) i j l u e =
      ⊎_elim
      (λ (o : path i ≡ 1). s.sole i o ∙ sym (s.sole j (sym e ∙ o)))
      (λ (o : path i ≡ 1 → ⊥).
      let a = parent_of i (omega arith) in
      let b = parent_of j (omega arith) in
      let p : parent i ≡ parent j = same f (parent i) (parent j) (omega arith) a.0 (omega arith) in
      sym a.2 ∙ (ap (λ x. child x (path i % 16)) p ∙ (ap (λ x. child (parent j) (x % 16)) e ∙ b.2)))
      (cases_eq (path i) 1)

  -- what is above an item in use is in use
  pub above : (h t j : ℕ) → path j ≡ t → 1 ≤ up h t → (i : ℕ) × (path i ≡ up h t)
  above zero t j e u = (j, e)
  above (suc h) t j e u =
      let a = above h t j e (omega arith) in
      let b = parent_of a.0 (omega arith) in
      (parent a.0, omega arith)

  -- where a node has no child, nothing has the path that the child would have
  pub none_at : (i t j : ℕ) → 1 ≤ path i → path i ≡ t / 16 → child i (t % 16) ≡ 0 → path j ≡ t → ⊥
  none_at i t j u e z k =
      let a = parent_of j (omega arith) in
      let p : parent j ≡ i = same (path i) (parent j) i (omega arith) a.0 (omega arith) in
      let q : j ≡ 0 = sym a.2 ∙ (ap (λ x. child x (path j % 16)) p ∙ (ap (λ x. child i (x % 16)) k ∙ z)) in
      let r : path j ≡ 1 = ap path q ∙ s.root in
      omega arith

  -- nor anything below that
  pub none_below : (h t i j : ℕ) → 1 ≤ path i → path i ≡ up (suc h) t → child i (up h t % 16) ≡ 0 → path j ≡ t → ⊥
  none_below h t i j u e z k =
      let a = above h t j k (omega arith) in
      none_at i (up h t) a.0 u e z a.1

-- the item x, which was free, is made the child of the node i at the step c
pub record Attached (path parent : ℕ → ℕ) (child : ℕ → ℕ → ℕ) (path' parent' : ℕ → ℕ) (child' : ℕ → ℕ → ℕ) (i c x : ℕ) : Type 0 where
  pub path_x : path' x ≡ 16 * path i + c
  pub path_o : (j : ℕ) → (j ≡ x → ⊥) → path' j ≡ path j
  pub parent_x : parent' x ≡ i
  pub parent_o : (j : ℕ) → (j ≡ x → ⊥) → parent' j ≡ parent j
  pub child_x : child' i c ≡ x
  pub child_o : (j d : ℕ) → d < 16 → ((j ≡ i) × (d ≡ c) → ⊥) → child' j d ≡ child j d

cases_two : (a b c d : ℕ) → ((a ≡ b) × (c ≡ d)) ⊎ ((a ≡ b) × (c ≡ d) → ⊥)
cases_two a b c d =
    ⊎_elim
    (λ (p : a ≡ b). ⊎_elim (λ (q : c ≡ d). inl (p, q)) (λ (q : c ≡ d → ⊥). inr (λ r. q r.1)) (cases_eq c d))
    (λ (p : a ≡ b → ⊥). inr (λ r. p r.0))
    (cases_eq a b)

module _ {n : ℕ} {path parent : ℕ → ℕ} {child : ℕ → ℕ → ℕ} {path' parent' : ℕ → ℕ} {child' : ℕ → ℕ → ℕ} {i c x : ℕ}
    (s : Linked n path parent child) (a : Attached path parent child path' parent' child' i c x) (free : path x ≡ 0) (used : 1 ≤ path i)
    (step : c < 16) (gap : child i c ≡ 0) where
  not_x : (j : ℕ) → 1 ≤ path j → j ≡ x → ⊥
  not_x j u e = let t : path j ≡ 0 = ap path e ∙ free in omega arith

  attached_down : (j d : ℕ) → d < 16 → (child' j d ≡ 0 → ⊥) → (1 ≤ path' j) × (path' (child' j d) ≡ 16 * path' j + d) × (parent' (child' j d) ≡ j)
  attached_down j d l ne =
      ⊎_elim
      (λ (p : (j ≡ i) × (d ≡ c)).
      let k : child' j d ≡ x = ap (λ y. child' y d) p.0 ∙ (ap (λ y. child' i y) p.1 ∙ a.child_x) in
      let tj : path' j ≡ path j = a.path_o j (not_x j (subst (λ y. 1 ≤ path y) (sym p.0) used)) in
      let ti : path j ≡ path i = ap path p.0 in
      let tk : path' (child' j d) ≡ 16 * path i + c = ap path' k ∙ a.path_x in
      (omega arith, omega (arith, p.1), ap parent' k ∙ (a.parent_x ∙ sym p.0)))
      (λ (p : (j ≡ i) × (d ≡ c) → ⊥).
      let k : child' j d ≡ child j d = a.child_o j d l p in
      let o = s.down j d l (λ e. ne (k ∙ e)) in
      let tj : path' j ≡ path j = a.path_o j (not_x j o.0) in
      let nk : child j d ≡ x → ⊥ = not_x (child j d) (omega (arith, o.1, o.0)) in
      let tk : path' (child' j d) ≡ path (child j d) = ap path' k ∙ a.path_o (child j d) nk in
      (omega (arith, o.0), omega (arith, o.1), ap parent' k ∙ (a.parent_o (child j d) nk ∙ o.2)))
      (cases_two j i d c)

  attached_rise : (j : ℕ) → 1 < path' j → (path' (parent' j) ≡ path' j / 16) × (child' (parent' j) (path' j % 16) ≡ j)
  attached_rise j h =
      ⊎_elim
      (λ (p : j ≡ x).
      let tj : path' j ≡ 16 * path i + c = ap path' p ∙ a.path_x in
      let oj : parent' j ≡ i = ap parent' p ∙ a.parent_x in
      let ti : path' (parent' j) ≡ path i = ap path' oj ∙ a.path_o i (not_x i used) in
      let m : path' j % 16 ≡ c = omega arith in
      (omega arith, ap (λ y. child' y (path' j % 16)) oj ∙ (ap (child' i) m ∙ (a.child_x ∙ sym p))))
      (λ (p : j ≡ x → ⊥).
      let tj : path' j ≡ path j = a.path_o j p in
      let r = parent_of s j (omega arith) in
      let oj : parent' j ≡ parent j = a.parent_o j p in
      let to : path' (parent' j) ≡ path (parent j) = ap path' oj ∙ a.path_o (parent j) (not_x (parent j) r.0) in
      let nj : j ≡ 0 → ⊥ = λ e. let t : path j ≡ 1 = ap path e ∙ s.root in omega arith in
      let ap2 : (parent j ≡ i) × (path j % 16 ≡ c) → ⊥ = λ q. nj (sym r.2 ∙ (ap (λ y. child y (path j % 16)) q.0 ∙ (ap (child i) q.1 ∙ gap))) in
      let k : child' (parent j) (path j % 16) ≡ child (parent j) (path j % 16) = a.child_o (parent j) (path j % 16) (omega arith) ap2 in
      (omega (arith, r.1), ap (λ y. child' y (path' j % 16)) oj ∙ (ap (λ y. child' (parent j) (y % 16)) tj ∙ (k ∙ r.2))))
      (cases_eq j x)

  pub attached : (x < n → 16 * path i + c < 2 ^ 29) → (n ≤ x → 2 ^ 32 ≤ 16 * path i + c) → Linked n path' parent' child'
  attached lo hi = record {
    root = a.path_o 0 (not_x 0 (omega (arith, s.root))) ∙ s.root;
    sole = λ j e. ⊎_elim
        (λ (p : j ≡ x). let t : path' j ≡ 16 * path i + c = ap path' p ∙ a.path_x in absurd (omega arith))
        (λ (p : j ≡ x → ⊥). s.sole j (sym (a.path_o j p) ∙ e)) (cases_eq j x);
    down = attached_down;
    rise = attached_rise;
    small = λ j l. ⊎_elim
        (λ (p : j ≡ x). let t : path' j ≡ 16 * path i + c = ap path' p ∙ a.path_x in omega (arith, lo (omega arith)))
        (λ (p : j ≡ x → ⊥). omega (arith, a.path_o j p, s.small j l)) (cases_eq j x);
    large = λ j l u. ⊎_elim
        (λ (p : j ≡ x). let t : path' j ≡ 16 * path i + c = ap path' p ∙ a.path_x in omega (arith, hi (omega arith)))
        (λ (p : j ≡ x → ⊥). let t = a.path_o j p in omega (arith, s.large j l (omega arith))) (cases_eq j x);
  }

-- the item x, which has no child, is freed
pub record Detached (path parent : ℕ → ℕ) (child : ℕ → ℕ → ℕ) (path' parent' : ℕ → ℕ) (child' : ℕ → ℕ → ℕ) (x : ℕ) : Type 0 where
  pub path_x : path' x ≡ 0
  pub parent_s : (j : ℕ) → parent' j ≡ parent j
  pub path_o : (j : ℕ) → (j ≡ x → ⊥) → path' j ≡ path j
  pub child_x : child' (parent x) (path x % 16) ≡ 0
  pub child_o : (j d : ℕ) → d < 16 → ((j ≡ parent x) × (d ≡ path x % 16) → ⊥) → child' j d ≡ child j d

module _ {n : ℕ} {path parent : ℕ → ℕ} {child : ℕ → ℕ → ℕ} {path' parent' : ℕ → ℕ} {child' : ℕ → ℕ → ℕ} {x : ℕ}
    (s : Linked n path parent child) (a : Detached path parent child path' parent' child' x) (used : 1 < path x)
    (empty : (c : ℕ) → c < 16 → child x c ≡ 0) where
  pub detached : Linked n path' parent' child'
  detached = record {
    root = a.path_o 0 (λ e. let t : path 0 ≡ path x = ap path e in omega (arith, s.root)) ∙ s.root;
    sole = λ j e. ⊎_elim
        (λ (p : j ≡ x). let t : path' j ≡ 0 = ap path' p ∙ a.path_x in absurd (omega arith))
        (λ (p : j ≡ x → ⊥). s.sole j (sym (a.path_o j p) ∙ e)) (cases_eq j x);
    down = λ j d l ne.
        let off : (j ≡ parent x) × (d ≡ path x % 16) → ⊥ = λ p. ne (ap (λ y. child' y d) p.0 ∙ (ap (child' (parent x)) p.1 ∙ a.child_x)) in
        let k : child' j d ≡ child j d = a.child_o j d l off in
        let nk : child j d ≡ 0 → ⊥ = λ e. ne (k ∙ e) in
        let o = s.down j d l nk in
        let tj : path' j ≡ path j = a.path_o j (λ e. nk (ap (λ y. child y d) e ∙ empty d l)) in
        let ny : child j d ≡ x → ⊥ = λ e. off (sym o.2 ∙ ap parent e, (let t : path (child j d) ≡ path x = ap path e in omega (arith, o.1))) in
        let tk : path' (child' j d) ≡ path (child j d) = ap path' k ∙ a.path_o (child j d) ny in
        (omega (arith, o.0), omega (arith, o.1), a.parent_s (child' j d) ∙ (ap parent k ∙ o.2));
    rise = λ j h. ⊎_elim
        (λ (p : j ≡ x). let t : path' j ≡ 0 = ap path' p ∙ a.path_x in absurd (omega arith))
        (λ (p : j ≡ x → ⊥).
        let tj : path' j ≡ path j = a.path_o j p in
        let r = parent_of s j (omega arith) in
        let nj : j ≡ 0 → ⊥ = λ e. let t : path j ≡ 1 = ap path e ∙ s.root in omega arith in
        let m : path j % 16 < 16 = omega arith in
        let to : path' (parent j) ≡ path (parent j) = a.path_o (parent j) (λ e. nj (sym r.2 ∙ (ap (λ y. child y (path j % 16)) e ∙ empty (path j % 16) m))) in
        let rx = parent_of s x used in
        let off : (parent j ≡ parent x) × (path j % 16 ≡ path x % 16) → ⊥ = λ q. p (sym r.2 ∙ (ap (λ y. child y (path j % 16)) q.0 ∙ (ap (child (parent x)) q.1 ∙ rx.2))) in
        let k : child' (parent j) (path j % 16) ≡ child (parent j) (path j % 16) = a.child_o (parent j) (path j % 16) m off in
        let o = a.parent_s j in
        let to2 : path' (parent' j) ≡ path (parent j) = ap path' o ∙ to in
        (omega (arith, r.1), ap (λ y. child' y (path' j % 16)) o ∙ (ap (λ y. child' (parent j) (y % 16)) tj ∙ (k ∙ r.2))))
        (cases_eq j x);
    small = λ j l. ⊎_elim
        (λ (p : j ≡ x). let t : path' j ≡ 0 = ap path' p ∙ a.path_x in omega arith)
        (λ (p : j ≡ x → ⊥). omega (arith, a.path_o j p, s.small j l)) (cases_eq j x);
    large = λ j l u. ⊎_elim
        (λ (p : j ≡ x). let t : path' j ≡ 0 = ap path' p ∙ a.path_x in absurd (omega arith))
        (λ (p : j ≡ x → ⊥). let t = a.path_o j p in omega (arith, s.large j l (omega arith))) (cases_eq j x);
  }
