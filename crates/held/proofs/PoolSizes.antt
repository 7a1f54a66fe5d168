-- The sizes of the pools while the keys are counted one by one.
use Rattle.std.proofs.Common.{◌≡◌, ℕ, ◌+◌, ◌/◌, ◌^◌, ◌<◌, ◌≤◌, cond, eqb, List, [], ◌∷◌, length, get_or, set, sym, ap, ◌∙◌, ⊎_elim, arith}
use Rattle.std.proofs.lemmas.List.{get_or-set_same, get_or-set_other}
use Rattle.std.proofs.lemmas.Bool.{cases_eq, eq-eqb, ne_eqb}
use Rattle.backend.specs.Victims.{pool_size}
use Rattle.held.proofs.Counts.{count_cons}

size_hit : (k p : ℕ) (ks : List ℕ) → k / 2 ^ 28 ≡ p → pool_size (k ∷ ks) p ≡ 1 + pool_size ks p
size_hit k p ks e = count_cons (λ x. eqb (x / 2 ^ 28) p) k ks ∙ ap (λ b. cond b 1 0 + pool_size ks p) (eq-eqb (k / 2 ^ 28) p e)

size_miss : (k p : ℕ) (ks : List ℕ) → (k / 2 ^ 28 ≡ p → ⊥) → pool_size (k ∷ ks) p ≡ 0 + pool_size ks p
size_miss k p ks e = count_cons (λ x. eqb (x / 2 ^ 28) p) k ks ∙ ap (λ b. cond b 1 0 + pool_size ks p) (ne_eqb (k / 2 ^ 28) p e)

-- the sizes so far, with those of the keys to come, are those of all keys
abbrev pub Sums : List ℕ → List ℕ → List ℕ → Type 0
Sums sizes rest all = (p : ℕ) → p < 16 → get_or sizes p 0 + pool_size rest p ≡ pool_size all p

module _ (k : ℕ) (rest all sizes : List ℕ) (sixteen : length sizes ≡ 16) (pool : ℕ) (is : pool ≡ k / 2 ^ 28) (low : pool < 16) (sums : Sums sizes (k ∷ rest) all) where
  pub size_room : get_or sizes pool 0 + 1 ≤ pool_size all pool
  size_room = omega (arith, sums pool low, size_hit k pool rest (sym is))

  pub size_step : Sums (set sizes pool (get_or sizes pool 0 + 1)) rest all
  size_step p l =
      let s = sums p l in
      let more = get_or sizes pool 0 + 1 in
      ⊎_elim
      (λ (q : p ≡ pool).
      let m = size_hit k p rest (sym (q ∙ is)) in
      let v : get_or (set sizes pool more) p 0 ≡ more = ap (λ x. get_or (set sizes pool more) x 0) q ∙ get_or-set_same sizes pool more 0 (omega arith) in
      let w : get_or sizes p 0 ≡ get_or sizes pool 0 = ap (λ x. get_or sizes x 0) q in
      omega arith)
      (λ (q : p ≡ pool → ⊥).
      let m = size_miss k p rest (λ z. q (sym z ∙ sym is)) in
      let v = get_or-set_other sizes pool p more 0 q in
      omega arith)
      (cases_eq p pool)

-- once none is to come, the sizes are those of all keys
pub all_counted : (sizes all : List ℕ) → Sums sizes [] all → (p : ℕ) → p < 16 → get_or sizes p 0 ≡ pool_size all p
all_counted sizes all sums p l = let s = sums p l in omega arith
