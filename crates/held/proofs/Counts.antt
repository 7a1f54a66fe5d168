-- Counts of keys by their pools.
use Rattle.std.proofs.Common.{◌≡◌, ℕ, zero, suc, ◌+◌, ◌*◌, ◌/◌, ◌^◌, ◌<◌, ◌≤◌, Bool, true, false, cond, ◌&&◌, eqb, ltb, leb, List, [], ◌∷◌, length, is_some, Some, None, count_by, sym, refl, ap, ◌∙◌, subst, ⊎_elim, add-one, arith}
use Rattle.std.specs.List.{AllByRecursion}
use Rattle.std.proofs.ByRecursion.{All-weaker}
use Rattle.std.proofs.lemmas.List.Sums.{sum_by-cons, count_by-le-length}
use Rattle.std.proofs.lemmas.Bool.{cases_eq, cases_lt, eq-eqb, ne_eqb, le-leb, lt-leb, lt-ltb, le-ltb, and_from, and_left, and_right, cond-true, cond-false, cond_both, both_ways}
use Rattle.backend.specs.Victims.{pool_size, oldest_of, fullest, victim}
use Rattle.page.specs.declared.keys.Key.{Key}
use Rattle.held.specs.Holdings.{Holding, keys, place_of, FirstHeld}
use Rattle.held.specs.Pools.{between, fullest_of}
use Rattle.held.specs.Rings.{Absent, Apart}
use Rattle.held.proofs.Places.{place_hit, place_miss, some_none, none_from_absent}

pub count_cons : (p : ℕ → Bool) (x : ℕ) (xs : List ℕ) → count_by p (x ∷ xs) ≡ cond (p x) 1 0 + count_by p xs
count_cons p x xs = sum_by-cons (λ y. cond (p y) 1 0) x xs

count_alike : (p q : ℕ → Bool) (xs : List ℕ) → AllByRecursion (λ x. p x ≡ q x) xs → count_by p xs ≡ count_by q xs
count_alike p q [] a = refl
count_alike p q (x ∷ xs) a =
    count_cons p x xs ∙ (ap (λ b. cond b 1 0 + count_by p xs) a.0 ∙ (ap (λ n. cond (q x) 1 0 + n) (count_alike p q xs a.1) ∙ sym (count_cons q x xs)))

count_none : (p : ℕ → Bool) (xs : List ℕ) → AllByRecursion (λ x. p x ≡ false) xs → count_by p xs ≡ 0
count_none p [] a = refl
count_none p (x ∷ xs) a = count_cons p x xs ∙ (ap (λ b. cond b 1 0 + count_by p xs) a.0 ∙ (let e = count_none p xs a.1 in omega arith))

-- the keys of a pool lie between two numbers
in_pool : (pool k : ℕ) → eqb (k / 2 ^ 28) pool ≡ (leb (pool * 2 ^ 28) k && ltb k (pool * 2 ^ 28 + 2 ^ 28))
in_pool pool k =
    ⊎_elim
    (λ (e : k / 2 ^ 28 ≡ pool). eq-eqb (k / 2 ^ 28) pool e ∙ sym (and_from (leb (pool * 2 ^ 28) k) (ltb k (pool * 2 ^ 28 + 2 ^ 28)) (le-leb (pool * 2 ^ 28) k (omega arith)) (lt-ltb k (pool * 2 ^ 28 + 2 ^ 28) (omega arith))))
    (λ (e : k / 2 ^ 28 ≡ pool → ⊥).
    ne_eqb (k / 2 ^ 28) pool e
    ∙ ⊎_elim
    (λ (l : k < pool * 2 ^ 28). sym (and_left (leb (pool * 2 ^ 28) k) (ltb k (pool * 2 ^ 28 + 2 ^ 28)) (lt-leb (pool * 2 ^ 28) k l)))
    (λ (l : pool * 2 ^ 28 ≤ k). sym (and_right (leb (pool * 2 ^ 28) k) (ltb k (pool * 2 ^ 28 + 2 ^ 28)) (le-ltb k (pool * 2 ^ 28 + 2 ^ 28) (omega arith))))
    (cases_lt k (pool * 2 ^ 28)))
    (cases_eq (k / 2 ^ 28) pool)

pub pool_between : (ks : List ℕ) (pool : ℕ) → pool_size ks pool ≡ between ks (pool * 2 ^ 28) (pool * 2 ^ 28 + 2 ^ 28)
pool_between ks pool = ap (λ (p : ℕ → Bool). count_by p ks) (λ i k. in_pool pool k i)

-- there is no pool above 15
pub pool_none : (ks : List ℕ) (pool : ℕ) → AllByRecursion (λ k. k < 2 ^ 32) ks → 15 < pool → pool_size ks pool ≡ 0
pool_none ks pool a l = count_none (λ k. eqb (k / 2 ^ 28) pool) ks (All-weaker (λ k. k < 2 ^ 32) (λ k. eqb (k / 2 ^ 28) pool ≡ false) (λ k h. ne_eqb (k / 2 ^ 28) pool (λ e. omega arith)) ks a)

pub between_none : (ks : List ℕ) (low high : ℕ) → AllByRecursion (λ k. low ≤ k → k < high → ⊥) ks → between ks low high ≡ 0
between_none ks low high a =
    count_none (λ k. leb low k && ltb k high) ks
    (All-weaker (λ k. low ≤ k → k < high → ⊥) (λ k. (leb low k && ltb k high) ≡ false)
    (λ k h.
    ⊎_elim
    (λ (l : k < low). and_left (leb low k) (ltb k high) (lt-leb low k l))
    (λ (l : low ≤ k).
    ⊎_elim
    (λ (u : k < high). absurd (h l u))
    (λ (u : high ≤ k). and_right (leb low k) (ltb k high) (le-ltb k high u))
    (cases_lt k high))
    (cases_lt k low)) ks a)

pub between_empty : (ks : List ℕ) (low high : ℕ) → high ≤ low → between ks low high ≡ 0
between_empty [] low high l = refl
between_empty (k ∷ ks) low high l =
    let p : ℕ → Bool = λ j. leb low j && ltb j high in
    let miss : p k ≡ false =
    ⊎_elim
    (λ (u : k < low). and_left (leb low k) (ltb k high) (lt-leb low k u))
    (λ (u : low ≤ k). and_right (leb low k) (ltb k high) (le-ltb k high (omega arith)))
    (cases_lt k low) in
    count_cons p k ks ∙ (ap (λ b. cond b 1 0 + count_by p ks) miss ∙ (let e = between_empty ks low high l in omega arith))

module _ (low high x : ℕ) (lx : low ≤ x) (xh : x < high) where
  -- a key that is not from low to x
  past : (k : ℕ) → (low ≤ k → k < x → ⊥) → (k ≡ x → ⊥) → (leb low k && ltb k high) ≡ (leb (x + 1) k && ltb k high)
  past k h ne =
      ap (λ b. b && ltb k high)
      (⊎_elim
      (λ (l : k < low). lt-leb low k l ∙ sym (lt-leb (x + 1) k (omega arith)))
      (λ (l : low ≤ k).
      ⊎_elim
      (λ (u : k < x). absurd (h l u))
      (λ (u : x ≤ k). let v : x + 1 ≤ k = omega arith in le-leb low k l ∙ sym (le-leb (x + 1) k v))
      (cases_lt k x))
      (cases_lt k low))

  past_all : (ks : List ℕ) → AllByRecursion (λ k. low ≤ k → k < x → ⊥) ks → Absent x ks → AllByRecursion (λ k. (leb low k && ltb k high) ≡ (leb (x + 1) k && ltb k high)) ks
  past_all [] a b = tt
  past_all (k ∷ ks) a b = (past k a.0 b.0, past_all ks a.1 b.1)

  -- the first key counts one, and the others lie after it
  pub between_step : (ks : List ℕ) → Apart ks → (Absent x ks → ⊥) → AllByRecursion (λ k. low ≤ k → k < x → ⊥) ks → between ks low high ≡ 1 + between ks (x + 1) high
  between_step [] ap₀ m a = absurd (m tt)
  between_step (k ∷ ks) ap₀ m a =
      let p : ℕ → Bool = λ j. leb low j && ltb j high in
      let q : ℕ → Bool = λ j. leb (x + 1) j && ltb j high in
      ⊎_elim
      (λ (e : k ≡ x).
      let hit : p k ≡ true = and_from (leb low k) (ltb k high) (le-leb low k (omega arith)) (lt-ltb k high (omega arith)) in
      let miss : q k ≡ false = and_left (leb (x + 1) k) (ltb k high) (lt-leb (x + 1) k (omega arith)) in
      let rest : count_by p ks ≡ count_by q ks = count_alike p q ks (past_all ks a.1 (subst (λ z. Absent z ks) e ap₀.0)) in
      let c₁ : count_by p (k ∷ ks) ≡ 1 + count_by p ks = count_cons p k ks ∙ ap (λ b. cond b 1 0 + count_by p ks) hit in
      let c₂ : count_by q (k ∷ ks) ≡ 0 + count_by q ks = count_cons q k ks ∙ ap (λ b. cond b 1 0 + count_by q ks) miss in
      omega arith)
      (λ (e : k ≡ x → ⊥).
      let same : p k ≡ q k = past k a.0 e in
      let rest : count_by p ks ≡ 1 + count_by q ks = between_step ks ap₀.1 (λ z. m (e, z)) a.1 in
      let c₁ : count_by p (k ∷ ks) ≡ cond (q k) 1 0 + count_by p ks = count_cons p k ks ∙ ap (λ b. cond b 1 0 + count_by p ks) same in
      let c₂ = count_cons q k ks in
      omega arith)
      (cases_eq k x)

-- keys with no place are not held
pub none_held : (H : List Holding) (P : ℕ → Type 0) → ((q : ℕ) → P q → place_of q H ≡ None) → AllByRecursion (λ k. P k → ⊥) (keys H)
none_held [] P f = tt
none_held (x ∷ H) P f = (
  (λ p. some_none (sym (place_hit x.key x H refl) ∙ f x.key p)),
  none_held H P (λ q p.
      ⊎_elim
      (λ (e : x.key ≡ q). absurd (some_none (sym (place_hit q x H e) ∙ f q p)))
      (λ (e : x.key ≡ q → ⊥). sym (place_miss q x H e) ∙ f q p)
      (cases_eq x.key q)),
)

pub not_absent : (k : ℕ) (H : List Holding) → is_some (place_of k H) ≡ true → Absent k (keys H) → ⊥
not_absent k H e a = both_ways false refl (ap is_some (sym (none_from_absent k H a)) ∙ e)

-- what the first key from `low` on says of the count
pub between_first_none : (H : List Holding) (low high : ℕ) → FirstHeld low H None → between (keys H) low high ≡ 0
between_first_none H low high f =
    between_none (keys H) low high (All-weaker (λ k. low ≤ k → ⊥) (λ k. low ≤ k → k < high → ⊥) (λ k h l u. h l) (keys H) (none_held H (λ q. low ≤ q) f))

pub between_first_past : (H : List Holding) (low high : ℕ) (x : Key) → FirstHeld low H (Some x) → high ≤ x.number → between (keys H) low high ≡ 0
between_first_past H low high x f l =
    between_none (keys H) low high (All-weaker (λ k. (low ≤ k) × (k < high) → ⊥) (λ k. low ≤ k → k < high → ⊥) (λ k h a b. h (a, b)) (keys H) (none_held H (λ q. (low ≤ q) × (q < high)) (λ q p. f.2 q p.0 (let u = p.1 in omega arith))))

pub between_first : (H : List Holding) (low high : ℕ) (x : Key) → Apart (keys H) → FirstHeld low H (Some x) → x.number < high → between (keys H) low high ≡ 1 + between (keys H) (x.number + 1) high
between_first H low high x a f l =
    between_step low high x.number f.0 l (keys H) a (not_absent x.number H f.1)
    (All-weaker (λ k. (low ≤ k) × (k < x.number) → ⊥) (λ k. low ≤ k → k < x.number → ⊥) (λ k h p q. h (p, q)) (keys H) (none_held H (λ q. (low ≤ q) × (q < x.number)) (λ q p. f.2 q p.0 p.1)))

-- the fullest of one pool more
pub fullest_takes : (f : ℕ → ℕ) (n b : ℕ) → b ≡ fullest_of f n → f b < f (2 * n + 2) → 2 * n + 2 ≡ fullest_of f (n + 1)
fullest_takes f n b e l =
    sym (ap (fullest_of f) (add-one n) ∙ cond-true (ltb (f (fullest_of f n)) (f (2 * n + 2))) (2 * n + 2) (fullest_of f n) (lt-ltb (f (fullest_of f n)) (f (2 * n + 2)) (subst (λ x. f x < f (2 * n + 2)) e l)))

pub fullest_keeps : (f : ℕ → ℕ) (n b : ℕ) → b ≡ fullest_of f n → f (2 * n + 2) ≤ f b → b ≡ fullest_of f (n + 1)
fullest_keeps f n b e l =
    e ∙ sym (ap (fullest_of f) (add-one n) ∙ cond-false (ltb (f (fullest_of f n)) (f (2 * n + 2))) (2 * n + 2) (fullest_of f n) (le-ltb (f (fullest_of f n)) (f (2 * n + 2)) (subst (λ x. f (2 * n + 2) ≤ f x) e l)))

fullest_low : (f : ℕ → ℕ) (n : ℕ) → n ≤ 7 → fullest_of f n < 16
fullest_low f zero l = omega arith
fullest_low f (suc n) l = cond_both (ltb (f (fullest_of f n)) (f (2 * n + 2))) (2 * n + 2) (fullest_of f n) (λ x. x < 16) (λ _. omega arith) (λ _. fullest_low f n (omega arith))

-- equal sizes of the pools to 15 have the same fullest
pub fullest_alike : (f g : ℕ → ℕ) → ((p : ℕ) → p < 16 → f p ≡ g p) → (n : ℕ) → n ≤ 7 → fullest_of f n ≡ fullest_of g n
fullest_alike f g h zero l = refl
fullest_alike f g h (suc n) l =
    let e = fullest_alike f g h n (omega arith) in
    let a : f (fullest_of f n) ≡ g (fullest_of g n) = h (fullest_of f n) (fullest_low f n (omega arith)) ∙ ap g e in
    let b : f (2 * n + 2) ≡ g (2 * n + 2) = h (2 * n + 2) (omega arith) in
    ap (λ x. cond (ltb x (f (2 * n + 2))) (2 * n + 2) (fullest_of f n)) a
    ∙ (ap (λ x. cond (ltb (g (fullest_of g n)) x) (2 * n + 2) (fullest_of f n)) b
    ∙ ap (λ x. cond (ltb (g (fullest_of g n)) (g (2 * n + 2))) (2 * n + 2) x) e)

-- the even pool that holds most of the keys
pub fullest_is : (ks : List ℕ) → fullest ks ≡ fullest_of (pool_size ks) 7
unfolding fullest
fullest_is ks = refl

pub victim_is : (ks : List ℕ) → victim ks ≡ oldest_of (fullest ks) ks
unfolding victim
victim_is ks = refl

pub between_few : (ks : List ℕ) (low high : ℕ) → length ks ≤ 4096 → between ks low high ≤ 4096
between_few ks low high l = omega (arith, count_by-le-length (λ k. leb low k && ltb k high) ks)

pub pool_few : (ks : List ℕ) (pool : ℕ) → length ks ≤ 4096 → pool_size ks pool ≤ 4096
pool_few ks pool l = omega (arith, count_by-le-length (λ k. eqb (k / 2 ^ 28) pool) ks)
