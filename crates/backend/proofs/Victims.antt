-- The key that gives way.
use Rattle.std.proofs.Common.{◌≡◌, ℕ, ◌%◌, ◌^◌, ◌<◌, ◌≤◌, Bool, true, false, cond, eqb, ltb, List, [], ◌∷◌, Some, None, fold, Option, sym, refl, ap, ◌∙◌, subst, inl, inr, arith}
use Rattle.std.proofs.ByRecursion.{All-weaker}
use Rattle.std.proofs.lemmas.List.Sums.{sum_by-cons}
use Rattle.std.proofs.lemmas.Bool.{cases_eq, cond_both, cond-true, cond-false, eqb-true, eq-eqb, ltb-true, ltb-false}
use Rattle.std.specs.List.{AllByRecursion}
use Rattle.page.specs.Keys.{pool_of, ephemeral}
use Rattle.backend.specs.ListLaw.{OldestOfPool, GivesWay}
use Rattle.backend.specs.Victims.{pool_size, oldest_of, fuller, even_pools_above_0, fullest, victim}

none_some : {k : ℕ} → ◌≡◌ {A = Option ℕ} None (Some k) → ⊥
none_some h = let z : ◌≡◌ {A = ℕ} 0 1 = cc in omega arith

-- the oldest of a pool
oldest_head : (pool k j : ℕ) (ks : List ℕ) (b : Bool) → eqb (pool_of j) pool ≡ b → pool_of k ≡ pool → cond b (Some j) (oldest_of pool ks) ≡ Some k
    → (oldest_of pool ks ≡ Some k → OldestOfPool ks k) → OldestOfPool (j ∷ ks) k
oldest_head pool k j ks true t e h more =
    let same : j ≡ k = cc in
    record { older = []; newer = ks; among = ap (λ (i : ℕ). i ∷ ks) same; first = tt }
oldest_head pool k j ks false t e h more =
    let o = more h in
    record {
      older = j ∷ o.older;
      newer = o.newer;
      among = ap (λ (is : List ℕ). j ∷ is) o.among;
      first = (rw (e, t), o.first);
    }

oldest_pool_head : (pool k j : ℕ) (ks : List ℕ) (b : Bool) → eqb (pool_of j) pool ≡ b → cond b (Some j) (oldest_of pool ks) ≡ Some k
    → (oldest_of pool ks ≡ Some k → pool_of k ≡ pool) → pool_of k ≡ pool
oldest_pool_head pool k j ks true t h more = let same : j ≡ k = cc in ap pool_of (sym same) ∙ eqb-true _ _ t
oldest_pool_head pool k j ks false t h more = more h

oldest_pool : (pool k : ℕ) (ks : List ℕ) → oldest_of pool ks ≡ Some k → pool_of k ≡ pool
oldest_pool pool k [] h = absurd (none_some h)
oldest_pool pool k (j ∷ ks) h = oldest_pool_head pool k j ks (eqb (pool_of j) pool) refl h (oldest_pool pool k ks)

oldest_splits : (pool k : ℕ) (ks : List ℕ) → oldest_of pool ks ≡ Some k → OldestOfPool ks k
oldest_splits pool k [] h = absurd (none_some h)
oldest_splits pool k (j ∷ ks) h =
    oldest_head pool k j ks (eqb (pool_of j) pool) refl (oldest_pool pool k (j ∷ ks) h) h (oldest_splits pool k ks)

none_head : (pool j : ℕ) (ks : List ℕ) (b : Bool) → eqb (pool_of j) pool ≡ b → cond b (Some j) (oldest_of pool ks) ≡ None
    → (oldest_of pool ks ≡ None → pool_size ks pool ≡ 0) → pool_size (j ∷ ks) pool ≡ 0
none_head pool j ks true t h more = absurd (none_some (sym h))
none_head pool j ks false t h more =
    sum_by-cons (λ i. cond (eqb (pool_of i) pool) 1 0) j ks ∙ rw (cond-false {A = ℕ} (eqb (pool_of j) pool) 1 0 t, more h)

oldest_none : (pool : ℕ) (ks : List ℕ) → oldest_of pool ks ≡ None → pool_size ks pool ≡ 0
oldest_none pool [] h = refl
oldest_none pool (j ∷ ks) h = none_head pool j ks (eqb (pool_of j) pool) refl h (oldest_none pool ks)

-- numbers that ascend from a on
abbrev Ascends : ℕ → List ℕ → Type 0
Ascends a [] = Unit {0}
Ascends a (x ∷ xs) = (a < x) × Ascends x xs

ascends_from : (a x : ℕ) (xs : List ℕ) → a < x → Ascends x xs → Ascends a xs
ascends_from a x [] h t = tt
ascends_from a x (y ∷ ys) h t = (omega (arith, t.0), t.1)

-- choosing the fuller of two pools, again and again
module _ (ks : List ℕ) where
  chosen : ℕ → List ℕ → ℕ
  chosen a xs = fold (fuller ks) a xs

  chosen_has : (P : ℕ → Type 0) (a : ℕ) (xs : List ℕ) → P a → AllByRecursion P xs → P (chosen a xs)
  unfolding chosen
  chosen_has P a [] h t = h
  chosen_has P a (x ∷ xs) h t =
      chosen_has P (fuller ks a x) xs (cond_both (ltb (pool_size ks a) (pool_size ks x)) x a P (λ _. t.0) (λ _. h)) t.1

  chosen_most : (a : ℕ) (xs : List ℕ)
      → (pool_size ks a ≤ pool_size ks (chosen a xs)) × AllByRecursion (λ q. pool_size ks q ≤ pool_size ks (chosen a xs)) xs
  unfolding chosen
  chosen_most a [] = (omega arith, tt)
  chosen_most a (x ∷ xs) =
      let b = ltb (pool_size ks a) (pool_size ks x) in
      let r = chosen_most (fuller ks a x) xs in
      let l : (pool_size ks a ≤ pool_size ks (fuller ks a x)) × (pool_size ks x ≤ pool_size ks (fuller ks a x)) =
      cond_both b x a (λ y. (pool_size ks a ≤ pool_size ks y) × (pool_size ks x ≤ pool_size ks y))
      (λ t. (omega (arith, ltb-true _ _ t), omega arith)) (λ t. (omega arith, ltb-false _ _ t)) in
      (omega (arith, l.0, r.0), (omega (arith, l.1, r.0), r.1))

  -- of pools that ascend, those before the chosen one hold fewer
  lower_head : (a x : ℕ) (xs : List ℕ) (b : Bool) → ltb (pool_size ks a) (pool_size ks x) ≡ b → a < x
      → (c : ℕ) → pool_size ks x ≤ pool_size ks c
      → ((cond b x a < c → pool_size ks (cond b x a) < pool_size ks c) × AllByRecursion (λ q. q < c → pool_size ks q < pool_size ks c) xs)
      → (a < c → pool_size ks a < pool_size ks c) × AllByRecursion (λ q. q < c → pool_size ks q < pool_size ks c) (x ∷ xs)
  lower_head a x xs true t l c most r = ((λ h. omega (arith, ltb-true _ _ t)), (r.0, r.1))
  lower_head a x xs false t l c most r = (r.0, ((λ h. omega (arith, ltb-false _ _ t, r.0 (omega arith))), r.1))

  chosen_lowest : (a : ℕ) (xs : List ℕ) → Ascends a xs
      → (a < chosen a xs → pool_size ks a < pool_size ks (chosen a xs)) × AllByRecursion (λ q. q < chosen a xs → pool_size ks q < pool_size ks (chosen a xs)) xs
  unfolding chosen
  chosen_lowest a [] h = ((λ l. omega arith), tt)
  chosen_lowest a (x ∷ xs) h =
      let b = ltb (pool_size ks a) (pool_size ks x) in
      let up : Ascends (fuller ks a x) xs = cond_both b x a (λ y. Ascends y xs) (λ _. h.1) (λ _. ascends_from a x xs h.0 h.1) in
      lower_head a x xs b refl h.0 (chosen a (x ∷ xs)) (chosen_most a (x ∷ xs)).1.0 (chosen_lowest (fuller ks a x) xs up)

  fullest_is : fullest ks ≡ chosen 0 even_pools_above_0
  unfolding fullest chosen
  fullest_is = refl

  fullest_even : fullest ks % 2 ≡ 0
  fullest_even = rw fullest_is (chosen_has (λ q. q % 2 ≡ 0) 0 even_pools_above_0 refl (refl, (refl, (refl, (refl, (refl, (refl, (refl, tt))))))))

  fullest_most : AllByRecursion (λ q. pool_size ks q ≤ pool_size ks (fullest ks)) (0 ∷ even_pools_above_0)
  fullest_most = rw fullest_is (chosen_most 0 even_pools_above_0)

  ascending : Ascends 0 even_pools_above_0
  ascending = (omega arith, (omega arith, (omega arith, (omega arith, (omega arith, (omega arith, (omega arith, tt)))))))

  fullest_lowest : AllByRecursion (λ q. q < fullest ks → pool_size ks q < pool_size ks (fullest ks)) (0 ∷ even_pools_above_0)
  fullest_lowest = rw fullest_is (chosen_lowest 0 even_pools_above_0 ascending)

pub victim_gives_way : (ks : List ℕ) (k : ℕ) → victim ks ≡ Some k → GivesWay ks k
unfolding victim
victim_gives_way ks k h =
    let pool = oldest_pool (fullest ks) k ks h in
    record {
      even = rw pool (eq-eqb _ _ (fullest_even ks));
      oldest = oldest_splits (fullest ks) k ks h;
      most = rw pool (fullest_most ks);
      lowest = rw pool (fullest_lowest ks);
    }

-- what holds of each even pool holds of a number below 16 that is even
even_pool : (P : ℕ → Type 0) → AllByRecursion P (0 ∷ even_pools_above_0) → (p : ℕ) → p < 16 → p % 2 ≡ 0 → P p
even_pool P h p l e =
    let here : (q : ℕ) → P q → p ≡ q → P p = λ q t same. subst P (sym same) t in
    elim (cases_eq p 0) [ inl e ↦ here 0 h.0 e | inr n0 ↦ elim (cases_eq p 2) [ inl e ↦ here 2 h.1.0 e | inr n2 ↦ elim (cases_eq p 4) [ inl e ↦ here 4 h.1.1.0 e | inr n4 ↦ elim (cases_eq p 6) [ inl e ↦ here 6 h.1.1.1.0 e | inr n6 ↦ elim (cases_eq p 8) [ inl e ↦ here 8 h.1.1.1.1.0 e | inr n8 ↦ elim (cases_eq p 10) [ inl e ↦ here 10 h.1.1.1.1.1.0 e | inr n10 ↦ elim (cases_eq p 12) [ inl e ↦ here 12 h.1.1.1.1.1.1.0 e | inr n12 ↦ here 14 h.1.1.1.1.1.1.1.0 (omega arith) ] ] ] ] ] ] ]

size_head : (j : ℕ) (ks : List ℕ) → 1 ≤ pool_size (j ∷ ks) (pool_of j)
size_head j ks =
    let one : cond (eqb (pool_of j) (pool_of j)) 1 0 ≡ 1 = cond-true {A = ℕ} _ 1 0 (eq-eqb (pool_of j) (pool_of j) refl) in
    omega (arith, sum_by-cons (λ i. cond (eqb (pool_of i) (pool_of j)) 1 0) j ks, one)

size_more : (j pool : ℕ) (ks : List ℕ) → pool_size ks pool ≤ pool_size (j ∷ ks) pool
size_more j pool ks = omega (arith, sum_by-cons (λ i. cond (eqb (pool_of i) pool) 1 0) j ks)

persistent_head : (j : ℕ) (b : Bool) → ephemeral j ≡ b → (b ≡ true → ⊥) → ephemeral j ≡ false
persistent_head j true e n = absurd (n refl)
persistent_head j false e n = e

no_even : (ks : List ℕ) → AllByRecursion (λ k. k < 2 ^ 32) ks → AllByRecursion (λ q. pool_size ks q ≤ 0) (0 ∷ even_pools_above_0) → AllByRecursion (λ k. ephemeral k ≡ false) ks
no_even [] small h = tt
no_even (j ∷ ks) small h = (
  persistent_head j (ephemeral j) refl
      (λ e. omega (arith, size_head j ks, even_pool (λ q. pool_size (j ∷ ks) q ≤ 0) h (pool_of j) (omega (arith, small.0)) (eqb-true _ _ e))),
  no_even ks small.1 (All-weaker (λ q. pool_size (j ∷ ks) q ≤ 0) (λ q. pool_size ks q ≤ 0) (λ q t. omega (arith, t, size_more j q ks)) (0 ∷ even_pools_above_0) h),
)

pub no_victim : (ks : List ℕ) → AllByRecursion (λ k. k < 2 ^ 32) ks → victim ks ≡ None → AllByRecursion (λ k. ephemeral k ≡ false) ks
unfolding victim
no_victim ks small h =
    let zero_size = oldest_none (fullest ks) ks h in
    no_even ks small (All-weaker (λ q. pool_size ks q ≤ pool_size ks (fullest ks)) (λ q. pool_size ks q ≤ 0) (λ q t. omega (arith, t, zero_size)) (0 ∷ even_pools_above_0) (fullest_most ks))
