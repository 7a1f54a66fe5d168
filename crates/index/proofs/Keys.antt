use Rattle.std.proofs.Common.{◌≡◌, ℕ, zero, suc, ◌+◌, ◌-◌, ◌*◌, ◌^◌, ◌<◌, ◌≤◌, Bool, true, false, ◌||◌, eqb, leb, List, [], ◌∷◌, ◌++◌, length, get_or, set, sym, refl, ap, ◌∙◌, ⊎_elim, suc-mul, arith}
use Rattle.std.proofs.lemmas.Bool.{cases_eq, cases_lt, cases_Bool, eqb-true, eq-eqb, ne_eqb, cond-true, cond-false, or_cases, or_left, or_right, le-leb, lt-leb, leb-true, both_ways}
use Rattle.std.proofs.lemmas.List.{get_or-set_same, set-set, set-get_or, length-set}
use Rattle.index.specs.Sound.{filed}
use Rattle.index.specs.Keys.{lead, shares, distinct, total, parts, missing, unless}

eqb_sym : (a b : ℕ) → eqb a b ≡ eqb b a
eqb_sym a b =
    ⊎_elim (λ (e : a ≡ b). eq-eqb a b e ∙ sym (eq-eqb b a (sym e)))
    (λ (e : a ≡ b → ⊥). ne_eqb a b e ∙ sym (ne_eqb b a (λ q. e (sym q)))) (cases_eq a b)

-- one leading part stands for another that is equal
shares_like : (h k q : ℕ) (ks : List ℕ) → lead h k ≡ lead h q → shares h k ks ≡ shares h q ks
shares_like h k q [] e = refl
shares_like h k q (x ∷ xs) e = ap (λ y. eqb (lead h x) y || shares h k xs) e ∙ ap (λ y. eqb (lead h x) (lead h q) || y) (shares_like h k q xs e)

-- what a key in the middle adds to a search
pub shares_in : (h k q : ℕ) (F B : List ℕ) → shares h k (F ++ q ∷ B) ≡ (eqb (lead h q) (lead h k) || shares h k (F ++ B))
shares_in h k q [] B = refl
shares_in h k q (x ∷ F) B = ap (λ y. eqb (lead h x) (lead h k) || y) (shares_in h k q F B) ∙ swap (eqb (lead h x) (lead h k)) (eqb (lead h q) (lead h k)) (shares h k (F ++ B))
  where
    swap : (a b c : Bool) → (a || (b || c)) ≡ (b || (a || c))
    swap true true c = refl
    swap true false c = refl
    swap false true c = refl
    swap false false c = refl

-- a key, wherever it stands in the list, adds the leading parts that no other has
distinct_in : (h k : ℕ) (F B : List ℕ) → distinct h (F ++ k ∷ B) ≡ unless (shares h k (F ++ B)) + distinct h (F ++ B)
distinct_in h k [] B = refl
distinct_in h k (x ∷ F) B =
    let i = distinct_in h k F B in
    let l : unless (shares h x (F ++ k ∷ B)) ≡ unless (eqb (lead h k) (lead h x) || shares h x (F ++ B)) = ap unless (shares_in h x k F B) in
    ⊎_elim
    (λ (e : lead h k ≡ lead h x).
    let a : unless (eqb (lead h k) (lead h x) || shares h x (F ++ B)) ≡ 0 = ap (λ b. unless (b || shares h x (F ++ B))) (eq-eqb (lead h k) (lead h x) e) in
    let b : unless (eqb (lead h x) (lead h k) || shares h k (F ++ B)) ≡ 0 = ap (λ b. unless (b || shares h k (F ++ B))) (eq-eqb (lead h x) (lead h k) (sym e)) in
    let d : unless (shares h k (F ++ B)) ≡ unless (shares h x (F ++ B)) = ap unless (shares_like h k x (F ++ B) e) in
    omega arith)
    (λ (e : lead h k ≡ lead h x → ⊥).
    let a : unless (eqb (lead h k) (lead h x) || shares h x (F ++ B)) ≡ unless (shares h x (F ++ B)) = ap (λ b. unless (b || shares h x (F ++ B))) (ne_eqb (lead h k) (lead h x) e) in
    let b : unless (eqb (lead h x) (lead h k) || shares h k (F ++ B)) ≡ unless (shares h k (F ++ B)) = ap (λ b. unless (b || shares h k (F ++ B))) (ne_eqb (lead h x) (lead h k) (λ q. e (sym q))) in
    omega arith)
    (cases_eq (lead h k) (lead h x))

total_sum : (f g t : ℕ → ℕ) (n : ℕ) → ((h : ℕ) → t h ≡ f h + g h) → total t n ≡ total f n + total g n
total_sum f g t zero e = refl
total_sum f g t (suc n) e = let i = total_sum f g t n e in let j = e (suc n) in omega arith

pub parts_in : (k : ℕ) (F B : List ℕ) → parts (F ++ k ∷ B) ≡ missing k (F ++ B) + parts (F ++ B)
unfolding parts missing
parts_in k F B = total_sum (λ h. unless (shares h k (F ++ B))) (λ h. distinct h (F ++ B)) (λ h. distinct h (F ++ k ∷ B)) 7 (λ h. distinct_in h k F B)

-- a sum of ones below H, and of zeros from H on
total_steps : (f : ℕ → ℕ) (n H : ℕ) → 1 ≤ H → ((h : ℕ) → 1 ≤ h → h ≤ n → h < H → f h ≡ 1) → ((h : ℕ) → 1 ≤ h → h ≤ n → H ≤ h → f h ≡ 0)
    → (n < H → total f n ≡ n) × (H ≤ suc n → total f n ≡ H - 1)
total_steps f zero H l a b = ((λ p. refl), (λ p. omega arith))
total_steps f (suc n) H l a b =
    let i = total_steps f n H l (λ h p q r. a h p (omega arith) r) (λ h p q r. b h p (omega arith) r) in (
      (λ p. omega (arith, a (suc n) (omega arith) (omega arith) p, i.0 (omega arith))),
      (λ p. ⊎_elim
          (λ (q : suc n < H). omega (arith, a (suc n) (omega arith) (omega arith) q, i.0 (omega arith)))
          (λ (q : H ≤ suc n). omega (arith, b (suc n) (omega arith) (omega arith) q, i.1 (omega arith)))
          (cases_lt (suc n) H)),
    )

pub missing_steps : (k : ℕ) (ks : List ℕ) (H : ℕ) → 1 ≤ H → H ≤ 8 → ((h : ℕ) → 1 ≤ h → h < H → shares h k ks ≡ false) → ((h : ℕ) → H ≤ h → h ≤ 7 → shares h k ks ≡ true)
    → missing k ks ≡ H - 1
unfolding missing
missing_steps k ks H l u a b =
    (total_steps (λ h. unless (shares h k ks)) 7 H l
    (λ h p q r. cond-false (shares h k ks) 0 1 (a h p r))
    (λ h p q r. cond-true (shares h k ks) 0 1 (b h r q))).1 (omega arith)

-- a slot that is filled adds its key
pub filed_add : (ms : List ℕ) (p k : ℕ) → p < length ms → get_or ms p 0 ≡ 0
    → (F : List ℕ) × (B : List ℕ) × (filed ms ≡ F ++ B) × (filed (set ms p (2 ^ 32 + k)) ≡ F ++ k ∷ B)
filed_add [] p k l e = absurd (omega arith)
filed_add (m ∷ ms) zero k l e = (
  [],
  filed ms,
  cond-false (leb 1 m) ((m - 2 ^ 32) ∷ filed ms) (filed ms) (lt-leb 1 m (omega arith)),
  (let s : (2 ^ 32 + k) - 2 ^ 32 ≡ k = omega arith in
      cond-true (leb 1 (2 ^ 32 + k)) (((2 ^ 32 + k) - 2 ^ 32) ∷ filed ms) (filed ms) (le-leb 1 (2 ^ 32 + k) (omega arith)) ∙ ap (λ x. x ∷ filed ms) s),
)
filed_add (m ∷ ms) (suc p) k l e =
    let i = filed_add ms p k (omega arith) e in
    ⊎_elim
    (λ (t : leb 1 m ≡ true). (
      (m - 2 ^ 32) ∷ i.0,
      i.1,
      cond-true (leb 1 m) ((m - 2 ^ 32) ∷ filed ms) (filed ms) t ∙ ap (λ x. (m - 2 ^ 32) ∷ x) i.2,
      cond-true (leb 1 m) ((m - 2 ^ 32) ∷ filed (set ms p (2 ^ 32 + k))) (filed (set ms p (2 ^ 32 + k))) t ∙ ap (λ x. (m - 2 ^ 32) ∷ x) i.3,
    ))
    (λ (t : leb 1 m ≡ false). (
      i.0,
      i.1,
      cond-false (leb 1 m) ((m - 2 ^ 32) ∷ filed ms) (filed ms) t ∙ i.2,
      cond-false (leb 1 m) ((m - 2 ^ 32) ∷ filed (set ms p (2 ^ 32 + k))) (filed (set ms p (2 ^ 32 + k))) t ∙ i.3,
    ))
    (cases_Bool (leb 1 m))

-- a slot that is emptied takes its key away
pub filed_drop : (ms : List ℕ) (p k : ℕ) → p < length ms → get_or ms p 0 ≡ 2 ^ 32 + k
    → (F : List ℕ) × (B : List ℕ) × (filed (set ms p 0) ≡ F ++ B) × (filed ms ≡ F ++ k ∷ B)
filed_drop ms p k l e =
    let i = filed_add (set ms p 0) p k (rw length-set l) (get_or-set_same ms p 0 0 l) in
    let back : set (set ms p 0) p (2 ^ 32 + k) ≡ ms = set-set ms p 0 (2 ^ 32 + k) ∙ (ap (set ms p) (sym e) ∙ set-get_or ms p 0) in
    (i.0, i.1, i.2, ap filed (sym back) ∙ i.3)

-- a key that is filed is found
pub filed_has : (ms : List ℕ) (p q h k : ℕ) → get_or ms p 0 ≡ 2 ^ 32 + q → lead h q ≡ lead h k → shares h k (filed ms) ≡ true
filed_has [] p q h k e s = absurd (omega arith)
filed_has (m ∷ ms) zero q h k e s =
    let t : leb 1 m ≡ true = le-leb 1 m (omega arith) in
    let f : m - 2 ^ 32 ≡ q = omega arith in
    ap (shares h k) (cond-true (leb 1 m) ((m - 2 ^ 32) ∷ filed ms) (filed ms) t)
    ∙ or_left (eqb (lead h (m - 2 ^ 32)) (lead h k)) (shares h k (filed ms)) (eq-eqb (lead h (m - 2 ^ 32)) (lead h k) (ap (lead h) f ∙ s))
filed_has (m ∷ ms) (suc p) q h k e s =
    let i = filed_has ms p q h k e s in
    ⊎_elim
    (λ (t : leb 1 m ≡ true). ap (shares h k) (cond-true (leb 1 m) ((m - 2 ^ 32) ∷ filed ms) (filed ms) t) ∙ or_right (eqb (lead h (m - 2 ^ 32)) (lead h k)) (shares h k (filed ms)) i)
    (λ (t : leb 1 m ≡ false). ap (shares h k) (cond-false (leb 1 m) ((m - 2 ^ 32) ∷ filed ms) (filed ms) t) ∙ i)
    (cases_Bool (leb 1 m))

-- what is found is filed
pub filed_from : (ms : List ℕ) (h k : ℕ) → ((p : ℕ) → 1 ≤ get_or ms p 0 → 2 ^ 32 ≤ get_or ms p 0) → shares h k (filed ms) ≡ true
    → (p : ℕ) × (q : ℕ) × (p < length ms) × (get_or ms p 0 ≡ 2 ^ 32 + q) × (lead h q ≡ lead h k)
filed_from [] h k big s = absurd (both_ways false refl s)
filed_from (m ∷ ms) h k big s =
    let later : shares h k (filed ms) ≡ true → (p : ℕ) × (q : ℕ) × (p < length (m ∷ ms)) × (get_or (m ∷ ms) p 0 ≡ 2 ^ 32 + q) × (lead h q ≡ lead h k)
    = λ t. let i = filed_from ms h k (λ p. big (suc p)) t in (suc i.0, i.1, omega (arith, i.2), i.3, i.4) in
    ⊎_elim
    (λ (t : leb 1 m ≡ true).
    let g = big 0 (leb-true 1 m t) in
    ⊎_elim
    (λ (e : eqb (lead h (m - 2 ^ 32)) (lead h k) ≡ true). (0, m - 2 ^ 32, omega arith, omega arith, eqb-true (lead h (m - 2 ^ 32)) (lead h k) e))
    later
    (or_cases (eqb (lead h (m - 2 ^ 32)) (lead h k)) (shares h k (filed ms)) (sym (ap (shares h k) (cond-true (leb 1 m) ((m - 2 ^ 32) ∷ filed ms) (filed ms) t)) ∙ s)))
    (λ (t : leb 1 m ≡ false). later (sym (ap (shares h k) (cond-false (leb 1 m) ((m - 2 ^ 32) ∷ filed ms) (filed ms) t)) ∙ s))
    (cases_Bool (leb 1 m))

-- a list with a key has a leading part of each length
distinct_some : (h k : ℕ) (ks : List ℕ) → 1 ≤ distinct h (k ∷ ks)
distinct_some h k [] = omega arith
distinct_some h k (q ∷ qs) = let i = distinct_some h q qs in omega arith

total_some : (f : ℕ → ℕ) (n : ℕ) → ((h : ℕ) → 1 ≤ f h) → n ≤ total f n
total_some f zero e = omega arith
total_some f (suc n) e = omega (arith, e (suc n), total_some f n e)

pub parts_some : (k : ℕ) (F B : List ℕ) → 7 ≤ parts (F ++ k ∷ B)
unfolding parts
parts_some k [] B = total_some (λ h. distinct h (k ∷ B)) 7 (λ h. distinct_some h k B)
parts_some k (x ∷ F) B = total_some (λ h. distinct h (x ∷ (F ++ k ∷ B))) 7 (λ h. distinct_some h x (F ++ k ∷ B))

total_like : (f g : ℕ → ℕ) (n : ℕ) → ((h : ℕ) → f h ≡ g h) → total f n ≡ total g n
total_like f g zero e = refl
total_like f g (suc n) e = let i = total_like f g n e in let j = e (suc n) in omega arith

pub missing_like : (k : ℕ) (ks qs : List ℕ) → ((h : ℕ) → shares h k ks ≡ shares h k qs) → missing k ks ≡ missing k qs
unfolding missing
missing_like k ks qs e = total_like (λ h. unless (shares h k ks)) (λ h. unless (shares h k qs)) 7 (λ h. ap unless (e h))

distinct_le : (h : ℕ) (ks : List ℕ) → distinct h ks ≤ length ks
distinct_le h [] = omega arith
distinct_le h (k ∷ ks) = let i = distinct_le h ks in let u = unless_le (shares h k ks) in omega arith
  where
    unless_le : (b : Bool) → unless b ≤ 1
    unless_le true = omega arith
    unless_le false = omega arith

total_le : (f : ℕ → ℕ) (n b : ℕ) → ((h : ℕ) → f h ≤ b) → total f n ≤ n * b
total_le f zero b e = omega arith
total_le f (suc n) b e = let i = total_le f n b e in let j = e (suc n) in let m : suc n * b ≡ b + n * b = suc-mul n b ∙ (let y : n * b + b ≡ b + n * b = omega arith in y) in omega arith

pub parts_le : (ks : List ℕ) → parts ks ≤ 7 * length ks
unfolding parts
parts_le ks = total_le (λ h. distinct h ks) 7 (length ks) (λ h. distinct_le h ks)

pub missing_le : (k : ℕ) (ks : List ℕ) → missing k ks ≤ 7
unfolding missing
missing_le k ks = total_le (λ h. unless (shares h k ks)) 7 1 (λ h. unless_le (shares h k ks))
  where
    unless_le : (b : Bool) → unless b ≤ 1
    unless_le true = omega arith
    unless_le false = omega arith
