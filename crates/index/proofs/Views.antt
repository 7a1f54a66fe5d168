-- Lists in the order of their keys.
use Rattle.std.proofs.Common.{◌≡◌, ℕ, suc, ◌+◌, ◌<◌, ◌≤◌, true, false, cond, ◌||◌, eqb, ltb, leb, List, [], ◌∷◌, ◌++◌, length, is_some, Some, None, Option, sym, refl, ap, ◌∙◌, subst, ⊎_elim, arith}
use Rattle.std.proofs.lemmas.Bool.{cases_eq, cases_lt, cases_order, cases_Bool, eq-eqb, ne_eqb, lt-ltb, le-ltb, le-leb, lt-leb, cond-true, cond-false, both_ways, or_left, or_right}
use Rattle.std.proofs.lemmas.List.{length-append}
use Rattle.index.specs.Keys.{lead, shares, parts, missing}
use Rattle.index.specs.Map.{look, put, without, from, FirstFrom, keys}
use Rattle.index.specs.View.{sorted}
use Rattle.index.proofs.Steps.{lead_zero}
use Rattle.index.proofs.Keys.{shares_in, parts_in, missing_like}

-- every key is above k
abbrev pub Above : {R : Type 0} → ℕ → List (ℕ × R) → Type 0
Above k [] = Unit {0}
Above k (e ∷ l) = (k < e.0) × Above k l

-- the keys rise
abbrev pub Rises : {R : Type 0} → List (ℕ × R) → Type 0
Rises [] = Unit {0}
Rises (e ∷ l) = Above e.0 l × Rises l

module _ {R : Type 0} where
  put_lt : (k : ℕ) (r : R) (e : ℕ × R) (l : List (ℕ × R)) → k < e.0 → put k r (e ∷ l) ≡ (k, r) ∷ e ∷ l
  put_lt k r e l p = cond-true (ltb k e.0) ((k, r) ∷ e ∷ l) (cond (eqb k e.0) ((k, r) ∷ l) (e ∷ put k r l)) (lt-ltb k e.0 p)

  put_eq : (k : ℕ) (r : R) (e : ℕ × R) (l : List (ℕ × R)) → k ≡ e.0 → put k r (e ∷ l) ≡ (k, r) ∷ l
  put_eq k r e l p = cond-false (ltb k e.0) ((k, r) ∷ e ∷ l) (cond (eqb k e.0) ((k, r) ∷ l) (e ∷ put k r l)) (le-ltb k e.0 (omega arith))
      ∙ cond-true (eqb k e.0) ((k, r) ∷ l) (e ∷ put k r l) (eq-eqb k e.0 p)

  put_gt : (k : ℕ) (r : R) (e : ℕ × R) (l : List (ℕ × R)) → e.0 < k → put k r (e ∷ l) ≡ e ∷ put k r l
  put_gt k r e l p = cond-false (ltb k e.0) ((k, r) ∷ e ∷ l) (cond (eqb k e.0) ((k, r) ∷ l) (e ∷ put k r l)) (le-ltb k e.0 (omega arith))
      ∙ cond-false (eqb k e.0) ((k, r) ∷ l) (e ∷ put k r l) (ne_eqb k e.0 (λ q. omega arith))

  pub look_hit : (k : ℕ) (e : ℕ × R) (l : List (ℕ × R)) → k ≡ e.0 → look k (e ∷ l) ≡ Some e.1
  look_hit k e l p = cond-true (eqb k e.0) (Some e.1) (look k l) (eq-eqb k e.0 p)

  pub look_miss : (k : ℕ) (e : ℕ × R) (l : List (ℕ × R)) → (k ≡ e.0 → ⊥) → look k (e ∷ l) ≡ look k l
  look_miss k e l p = cond-false (eqb k e.0) (Some e.1) (look k l) (ne_eqb k e.0 p)

  above_trans : (j k : ℕ) (l : List (ℕ × R)) → j < k → Above k l → Above j l
  above_trans j k [] p a = tt
  above_trans j k (e ∷ l) p a = let h = a.0 in (omega arith, above_trans j k l p a.1)

  pub look_above : (q k : ℕ) (l : List (ℕ × R)) → q ≤ k → Above k l → look q l ≡ None
  look_above q k [] p a = refl
  look_above q k (e ∷ l) p a = let h = a.0 in look_miss q e l (λ z. omega arith) ∙ look_above q k l p a.1

  above_put : (j k : ℕ) (r : R) (l : List (ℕ × R)) → j < k → Above j l → Above j (put k r l)
  above_put j k r [] p a = (p, tt)
  above_put j k r (e ∷ l) p a =
      ⊎_elim
      (λ (q : k ≡ e.0). subst (Above j) (sym (put_eq k r e l q)) (p, a.1))
      (⊎_elim
      (λ (q : k < e.0). subst (Above j) (sym (put_lt k r e l q)) (p, a))
      (λ (q : e.0 < k). subst (Above j) (sym (put_gt k r e l q)) (a.0, above_put j k r l p a.1)))
      (cases_order k e.0)

  pub rises_put : (k : ℕ) (r : R) (l : List (ℕ × R)) → Rises l → Rises (put k r l)
  rises_put k r [] a = (tt, tt)
  rises_put k r (e ∷ l) a =
      ⊎_elim
      (λ (q : k ≡ e.0). subst Rises (sym (put_eq k r e l q)) (subst (λ x. Above x l) (sym q) a.0, a.1))
      (⊎_elim
      (λ (q : k < e.0). subst Rises (sym (put_lt k r e l q)) ((q, above_trans k e.0 l q a.0), a))
      (λ (q : e.0 < k). subst Rises (sym (put_gt k r e l q)) (above_put e.0 k r l q a.0, rises_put k r l a.1)))
      (cases_order k e.0)

  pub rises_sorted : (l : List (ℕ × R)) → Rises (sorted l)
  rises_sorted [] = tt
  rises_sorted (e ∷ l) = rises_put e.0 e.1 (sorted l) (rises_sorted l)

  pub look_put_same : (k : ℕ) (r : R) (l : List (ℕ × R)) → look k (put k r l) ≡ Some r
  look_put_same k r [] = look_hit k (k, r) [] refl
  look_put_same k r (e ∷ l) =
      ⊎_elim
      (λ (q : k ≡ e.0). ap (look k) (put_eq k r e l q) ∙ look_hit k (k, r) l refl)
      (⊎_elim
      (λ (q : k < e.0). ap (look k) (put_lt k r e l q) ∙ look_hit k (k, r) (e ∷ l) refl)
      (λ (q : e.0 < k). ap (look k) (put_gt k r e l q) ∙ (look_miss k e (put k r l) (λ z. omega arith) ∙ look_put_same k r l)))
      (cases_order k e.0)

  pub look_put_other : (k q : ℕ) (r : R) (l : List (ℕ × R)) → (q ≡ k → ⊥) → look q (put k r l) ≡ look q l
  look_put_other k q r [] ne = look_miss q (k, r) [] ne
  look_put_other k q r (e ∷ l) ne =
      ⊎_elim
      (λ (z : k ≡ e.0). ap (look q) (put_eq k r e l z) ∙ (look_miss q (k, r) l ne ∙ sym (look_miss q e l (λ y. ne (y ∙ sym z)))))
      (⊎_elim
      (λ (z : k < e.0). ap (look q) (put_lt k r e l z) ∙ look_miss q (k, r) (e ∷ l) ne)
      (λ (z : e.0 < k). ap (look q) (put_gt k r e l z) ∙ ap (cond (eqb q e.0) (Some e.1)) (look_put_other k q r l ne)))
      (cases_order k e.0)

  -- the order of the keys changes no record
  pub look_sorted : (q : ℕ) (l : List (ℕ × R)) → look q (sorted l) ≡ look q l
  look_sorted q [] = refl
  look_sorted q (e ∷ l) =
      ⊎_elim
      (λ (z : q ≡ e.0). ap (λ x. look x (put e.0 e.1 (sorted l))) z ∙ (look_put_same e.0 e.1 (sorted l) ∙ sym (look_hit q e l z)))
      (λ (z : q ≡ e.0 → ⊥). look_put_other e.0 q e.1 (sorted l) z ∙ (look_sorted q l ∙ sym (look_miss q e l z)))
      (cases_eq q e.0)

  some_none : {x : R} → Some x ≡ None → ⊥
  some_none e = both_ways true (let z : is_some {T = R} None ≡ true = ap is_some (sym e) in absurd (both_ways false refl z)) refl

  -- lists in order with the same records are the same
  pub same_from_looks : (a b : List (ℕ × R)) → Rises a → Rises b → ((q : ℕ) → look q a ≡ look q b) → a ≡ b
  same_from_looks [] [] x y f = refl
  same_from_looks [] (e ∷ b) x y f = absurd (some_none (sym (look_hit e.0 e b refl) ∙ sym (f e.0)))
  same_from_looks (d ∷ a) [] x y f = absurd (some_none (sym (look_hit d.0 d a refl) ∙ f d.0))
  same_from_looks (d ∷ a) (e ∷ b) x y f =
      ⊎_elim
      (λ (z : d.0 ≡ e.0).
      let v : Some d.1 ≡ Some e.1 = sym (look_hit d.0 d a refl) ∙ (f d.0 ∙ look_hit d.0 e b z) in
      let w : d.1 ≡ e.1 = cc in
      let t : a ≡ b = same_from_looks a b x.1 y.1 (λ q.
      ⊎_elim
      (λ (u : q ≡ d.0). look_above q d.0 a (omega arith) x.0 ∙ sym (look_above q e.0 b (omega arith) y.0))
      (λ (u : q ≡ d.0 → ⊥). sym (look_miss q d a u) ∙ (f q ∙ look_miss q e b (λ i. u (i ∙ sym z))))
      (cases_eq q d.0)) in
      ap (λ i. (i, d.1) ∷ a) z ∙ (ap (λ i. (e.0, i) ∷ a) w ∙ ap (λ i. e ∷ i) t))
      (⊎_elim
      (λ (z : d.0 < e.0). absurd (some_none (sym (look_hit d.0 d a refl) ∙ (f d.0 ∙ look_above d.0 d.0 (e ∷ b) (omega arith) (z, above_trans d.0 e.0 b z y.0)))))
      (λ (z : e.0 < d.0). absurd (some_none (sym (look_hit e.0 e b refl) ∙ (sym (f e.0) ∙ look_above e.0 e.0 (d ∷ a) (omega arith) (z, above_trans e.0 d.0 a z x.0))))))
      (cases_order d.0 e.0)

  above_without : (j k : ℕ) (l : List (ℕ × R)) → Above j l → Above j (without k l)
  above_without j k [] a = tt
  above_without j k (e ∷ l) a =
      ⊎_elim
      (λ (z : k ≡ e.0). subst (Above j) (sym (cond-true (eqb k e.0) l (e ∷ without k l) (eq-eqb k e.0 z))) a.1)
      (λ (z : k ≡ e.0 → ⊥). subst (Above j) (sym (cond-false (eqb k e.0) l (e ∷ without k l) (ne_eqb k e.0 z))) (a.0, above_without j k l a.1))
      (cases_eq k e.0)

  pub rises_without : (k : ℕ) (l : List (ℕ × R)) → Rises l → Rises (without k l)
  rises_without k [] a = tt
  rises_without k (e ∷ l) a =
      ⊎_elim
      (λ (z : k ≡ e.0). subst Rises (sym (cond-true (eqb k e.0) l (e ∷ without k l) (eq-eqb k e.0 z))) a.1)
      (λ (z : k ≡ e.0 → ⊥). subst Rises (sym (cond-false (eqb k e.0) l (e ∷ without k l) (ne_eqb k e.0 z))) (above_without e.0 k l a.0, rises_without k l a.1))
      (cases_eq k e.0)

  pub look_without_same : (k : ℕ) (l : List (ℕ × R)) → Rises l → look k (without k l) ≡ None
  look_without_same k [] a = refl
  look_without_same k (e ∷ l) a =
      ⊎_elim
      (λ (z : k ≡ e.0). ap (look k) (cond-true (eqb k e.0) l (e ∷ without k l) (eq-eqb k e.0 z)) ∙ look_above k e.0 l (omega arith) a.0)
      (λ (z : k ≡ e.0 → ⊥). ap (look k) (cond-false (eqb k e.0) l (e ∷ without k l) (ne_eqb k e.0 z)) ∙ (look_miss k e (without k l) z ∙ look_without_same k l a.1))
      (cases_eq k e.0)

  pub look_without_other : (k q : ℕ) (l : List (ℕ × R)) → (q ≡ k → ⊥) → look q (without k l) ≡ look q l
  look_without_other k q [] ne = refl
  look_without_other k q (e ∷ l) ne =
      ⊎_elim
      (λ (z : k ≡ e.0). ap (look q) (cond-true (eqb k e.0) l (e ∷ without k l) (eq-eqb k e.0 z)) ∙ sym (look_miss q e l (λ y. ne (y ∙ sym z))))
      (λ (z : k ≡ e.0 → ⊥). ap (look q) (cond-false (eqb k e.0) l (e ∷ without k l) (ne_eqb k e.0 z)) ∙ ap (cond (eqb q e.0) (Some e.1)) (look_without_other k q l ne))
      (cases_eq k e.0)

  pub without_none : (k : ℕ) (l : List (ℕ × R)) → look k l ≡ None → without k l ≡ l
  without_none k [] z = refl
  without_none k (e ∷ l) z =
      ⊎_elim
      (λ (y : k ≡ e.0). absurd (some_none (sym (look_hit k e l y) ∙ z)))
      (λ (y : k ≡ e.0 → ⊥). cond-false (eqb k e.0) l (e ∷ without k l) (ne_eqb k e.0 y) ∙ ap (λ x. e ∷ x) (without_none k l (sym (look_miss k e l y) ∙ z)))
      (cases_eq k e.0)

  pub from_none : (k : ℕ) (l : List (ℕ × R)) → Rises l → ((q : ℕ) → k ≤ q → look q l ≡ None) → from k l ≡ None
  from_none k [] a f = refl
  from_none k (e ∷ l) a f =
      ⊎_elim
      (λ (z : e.0 < k).
      cond-false (leb k e.0) (Some e.0) (from k l) (lt-leb k e.0 z)
      ∙ from_none k l a.1 (λ q p. sym (look_miss q e l (λ y. omega arith)) ∙ f q p))
      (λ (z : k ≤ e.0). absurd (some_none (sym (look_hit e.0 e l refl) ∙ f e.0 z)))
      (cases_lt e.0 k)

  pub from_some : (k q : ℕ) (l : List (ℕ × R)) → Rises l → k ≤ q → (look q l ≡ None → ⊥) → ((j : ℕ) → k ≤ j → j < q → look j l ≡ None) → from k l ≡ Some q
  from_some k q [] a p here f = absurd (here refl)
  from_some k q (e ∷ l) a p here f =
      ⊎_elim
      (λ (z : e.0 < k).
      cond-false (leb k e.0) (Some e.0) (from k l) (lt-leb k e.0 z)
      ∙ from_some k q l a.1 p (λ y. here (look_miss q e l (λ w. omega arith) ∙ y)) (λ j u v. sym (look_miss j e l (λ y. omega arith)) ∙ f j u v))
      (λ (z : k ≤ e.0).
      cond-true (leb k e.0) (Some e.0) (from k l) (le-leb k e.0 z)
      ∙ ⊎_elim
      (λ (y : e.0 ≡ q). ap Some y)
      (⊎_elim
      (λ (y : e.0 < q). absurd (some_none (sym (look_hit e.0 e l refl) ∙ f e.0 z y)))
      (λ (y : q < e.0). absurd (here (look_above q q (e ∷ l) (omega arith) (y, above_trans q e.0 l y a.0)))))
      (cases_order e.0 q))
      (cases_lt e.0 k)

  -- a key that is not there is put between what is
  pub put_split : (k : ℕ) (r : R) (l : List (ℕ × R)) → look k l ≡ None → (F : List (ℕ × R)) × (B : List (ℕ × R)) × (l ≡ F ++ B) × (put k r l ≡ F ++ (k, r) ∷ B)
  put_split k r [] z = ([], [], refl, refl)
  put_split k r (e ∷ l) z =
      ⊎_elim
      (λ (q : k ≡ e.0). absurd (some_none (sym (look_hit k e l q) ∙ z)))
      (⊎_elim
      (λ (q : k < e.0). ([], e ∷ l, refl, put_lt k r e l q))
      (λ (q : e.0 < k).
      let i = put_split k r l (sym (look_miss k e l (λ y. omega arith)) ∙ z) in
      (e ∷ i.0, i.1, ap (λ x. e ∷ x) i.2, put_gt k r e l q ∙ ap (λ x. e ∷ x) i.3)))
      (cases_order k e.0)

  pub keys_append : (F B : List (ℕ × R)) → keys (F ++ B) ≡ keys F ++ keys B
  keys_append [] B = refl
  keys_append (e ∷ F) B = ap (λ x. e.0 ∷ x) (keys_append F B)

  -- no key stands twice
  abbrev pub Apart : List (ℕ × R) → Type 0
  Apart [] = Unit {0}
  Apart (e ∷ l) = (look e.0 l ≡ None) × Apart l

  keys_put : (k : ℕ) (r : R) (l : List (ℕ × R)) → look k l ≡ None → (F : List ℕ) × (B : List ℕ) × (keys l ≡ F ++ B) × (keys (put k r l) ≡ F ++ k ∷ B)
  keys_put k r l z =
      let i = put_split k r l z in
      (keys i.0, keys i.1, ap keys i.2 ∙ keys_append i.0 i.1, ap keys i.3 ∙ keys_append i.0 ((k, r) ∷ i.1))

  pub shares_sorted : (h k : ℕ) (l : List (ℕ × R)) → Apart l → shares h k (keys (sorted l)) ≡ shares h k (keys l)
  shares_sorted h k [] a = refl
  shares_sorted h k (e ∷ l) a =
      let i = keys_put e.0 e.1 (sorted l) (look_sorted e.0 l ∙ a.0) in
      ap (shares h k) i.3 ∙ (shares_in h k e.0 i.0 i.1 ∙ (ap (λ x. eqb (lead h e.0) (lead h k) || shares h k x) (sym i.2) ∙ ap (λ x. eqb (lead h e.0) (lead h k) || x) (shares_sorted h k l a.1)))

  pub missing_sorted : (k : ℕ) (l : List (ℕ × R)) → Apart l → missing k (keys (sorted l)) ≡ missing k (keys l)
  missing_sorted k l a = missing_like k (keys (sorted l)) (keys l) (λ h. shares_sorted h k l a)

  pub parts_sorted : (l : List (ℕ × R)) → Apart l → parts (keys (sorted l)) ≡ parts (keys l)
  parts_sorted [] a = refl
  parts_sorted (e ∷ l) a =
      let i = keys_put e.0 e.1 (sorted l) (look_sorted e.0 l ∙ a.0) in
      let p : parts (keys (sorted (e ∷ l))) ≡ missing e.0 (keys (sorted l)) + parts (keys (sorted l))
      = ap parts i.3 ∙ (parts_in e.0 i.0 i.1 ∙ ap (λ x. missing e.0 x + parts x) (sym i.2)) in
      let q : parts (keys (e ∷ l)) ≡ missing e.0 (keys l) + parts (keys l) = parts_in e.0 [] (keys l) in
      omega (arith, missing_sorted e.0 l a.1, parts_sorted l a.1)

  pub length_sorted : (l : List (ℕ × R)) → Apart l → length (sorted l) ≡ length l
  length_sorted [] a = refl
  length_sorted (e ∷ l) a =
      let i = put_split e.0 e.1 (sorted l) (look_sorted e.0 l ∙ a.0) in
      let p : length (sorted (e ∷ l)) ≡ length i.0 + suc (length i.1) = ap length i.3 ∙ length-append i.0 (e ∷ i.1) in
      let q : length (sorted l) ≡ length i.0 + length i.1 = ap length i.2 ∙ length-append i.0 i.1 in
      omega (arith, length_sorted l a.1)

  pub length_keys : (l : List (ℕ × R)) → length (keys l) ≡ length l
  length_keys [] = refl
  length_keys (e ∷ l) = ap suc (length_keys l)

  -- a key with a record is among the keys
  pub look_shares : (k : ℕ) (l : List (ℕ × R)) → is_some (look k l) ≡ true → shares 0 k (keys l) ≡ true
  look_shares k [] h = absurd (both_ways false refl h)
  look_shares k (e ∷ l) h =
      ⊎_elim
      (λ (z : k ≡ e.0). or_left (eqb (lead 0 e.0) (lead 0 k)) (shares 0 k (keys l)) (eq-eqb (lead 0 e.0) (lead 0 k) (ap (lead 0) (sym z))))
      (λ (z : k ≡ e.0 → ⊥). or_right (eqb (lead 0 e.0) (lead 0 k)) (shares 0 k (keys l)) (look_shares k l (ap is_some (sym (look_miss k e l z)) ∙ h)))
      (cases_eq k e.0)

  first_later : (k : ℕ) (e : ℕ × R) (l : List (ℕ × R)) (r : Option ℕ) → e.0 < k → FirstFrom k l r → FirstFrom k (e ∷ l) r
  first_later k e l None z f = λ q p. look_miss q e l (λ y. omega arith) ∙ f q p
  first_later k e l (Some x) z f =
      let lo = f.0 in
      (lo, ap is_some (look_miss x e l (λ y. omega arith)) ∙ f.1, (λ q p h. look_miss q e l (λ y. omega arith) ∙ f.2 q p h))

  -- `from` gives the first key
  pub first_from : (k : ℕ) (l : List (ℕ × R)) → Rises l → FirstFrom k l (from k l)
  first_from k [] a = λ q p. refl
  first_from k (e ∷ l) a =
      ⊎_elim
      (λ (z : e.0 < k).
      subst (FirstFrom k (e ∷ l)) (sym (cond-false (leb k e.0) (Some e.0) (from k l) (lt-leb k e.0 z))) (first_later k e l (from k l) z (first_from k l a.1)))
      (λ (z : k ≤ e.0).
      subst (FirstFrom k (e ∷ l)) (sym (cond-true (leb k e.0) (Some e.0) (from k l) (le-leb k e.0 z)))
      (z, ap is_some (look_hit e.0 e l refl), (λ q p h. look_miss q e l (λ y. omega arith) ∙ look_above q e.0 l (omega arith) a.0)))
      (cases_lt e.0 k)

  -- a key that is not among the keys has no record
  pub shares_look : (k : ℕ) (l : List (ℕ × R)) → shares 0 k (keys l) ≡ false → look k l ≡ None
  shares_look k [] h = refl
  shares_look k (e ∷ l) h =
      ⊎_elim
      (λ (z : k ≡ e.0).
      absurd (both_ways (shares 0 k (keys (e ∷ l))) h (or_left (eqb (lead 0 e.0) (lead 0 k)) (shares 0 k (keys l)) (eq-eqb (lead 0 e.0) (lead 0 k) (ap (lead 0) (sym z))))))
      (λ (z : k ≡ e.0 → ⊥).
      look_miss k e l z ∙ shares_look k l
      (⊎_elim
      (λ (t : shares 0 k (keys l) ≡ true). absurd (both_ways (shares 0 k (keys (e ∷ l))) h (or_right (eqb (lead 0 e.0) (lead 0 k)) (shares 0 k (keys l)) t)))
      (λ (t : shares 0 k (keys l) ≡ false). t)
      (cases_Bool (shares 0 k (keys l)))))
      (cases_eq k e.0)

  -- what is put under a key that has a record replaces it
  pub put_keys : (k : ℕ) (r : R) (l : List (ℕ × R)) → Rises l → (look k l ≡ None → ⊥) → keys (put k r l) ≡ keys l
  put_keys k r [] a h = absurd (h refl)
  put_keys k r (e ∷ l) a h =
      ⊎_elim
      (λ (q : k ≡ e.0). ap keys (put_eq k r e l q) ∙ ap (λ x. x ∷ keys l) q)
      (⊎_elim
      (λ (q : k < e.0). absurd (h (look_above k k (e ∷ l) (omega arith) (q, above_trans k e.0 l q a.0))))
      (λ (q : e.0 < k). ap keys (put_gt k r e l q) ∙ ap (λ x. e.0 ∷ x) (put_keys k r l a.1 (λ z. h (look_miss k e l (λ y. omega arith) ∙ z)))))
      (cases_order k e.0)

  -- a key with a record is taken out from between the others
  pub without_split : (k : ℕ) (l : List (ℕ × R)) → (look k l ≡ None → ⊥)
      → (F : List (ℕ × R)) × (r : R) × (B : List (ℕ × R)) × (l ≡ F ++ (k, r) ∷ B) × (without k l ≡ F ++ B)
  without_split k [] h = absurd (h refl)
  without_split k (e ∷ l) h =
      ⊎_elim
      (λ (q : k ≡ e.0). ([], e.1, l, ap (λ x. (x, e.1) ∷ l) (sym q), cond-true (eqb k e.0) l (e ∷ without k l) (eq-eqb k e.0 q)))
      (λ (q : k ≡ e.0 → ⊥).
      let i = without_split k l (λ z. h (look_miss k e l q ∙ z)) in
      (e ∷ i.0, i.1, i.2, ap (λ x. e ∷ x) i.3, cond-false (eqb k e.0) l (e ∷ without k l) (ne_eqb k e.0 q) ∙ ap (λ x. e ∷ x) i.4))
      (cases_eq k e.0)

  -- a key with no record is not among the keys
  pub look_not_shares : (k : ℕ) (l : List (ℕ × R)) → look k l ≡ None → shares 0 k (keys l) ≡ false
  look_not_shares k [] h = refl
  look_not_shares k (e ∷ l) h =
      ⊎_elim
      (λ (z : k ≡ e.0). absurd (some_none (sym (look_hit k e l z) ∙ h)))
      (λ (z : k ≡ e.0 → ⊥).
      ap (λ b. b || shares 0 k (keys l)) (ne_eqb (lead 0 e.0) (lead 0 k) (λ q. z (let s = lead_zero e.0 k q in omega arith)))
      ∙ look_not_shares k l (sym (look_miss k e l z) ∙ h))
      (cases_eq k e.0)
