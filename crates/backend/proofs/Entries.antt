-- Entries that were divided by a test of their keys: what a key holds, that keys stay apart, and how many pages a pool has.
use Rattle.std.proofs.Common.{◌≡◌, ℕ, ◌+◌, Bool, true, false, cond, eqb, List, [], ◌∷◌, ◌++◌, Some, None, count_by, filter, Option, sym, refl, ap, ◌∙◌, arith}
use Rattle.std.proofs.lemmas.List.Sums.{sum_by-cons}
use Rattle.std.proofs.lemmas.Bool.{both_ways, cond-false, ne_eqb}
use Rattle.std.specs.List.{AllByRecursion}
use Rattle.backend.specs.Meaning.{Apart}
use Rattle.backend.specs.Rules.{Entry, lookup}

-- a key that the second list lacks holds what it holds in the first
pub lookup_first : (k : ℕ) (xs ys : List Entry) → lookup k ys ≡ None → lookup k (xs ++ ys) ≡ lookup k xs
lookup_first k [] ys none = none
lookup_first k (e ∷ xs) ys none = ap (λ (o : Option (List ℕ)). cond (eqb e.key k) (Some e.page) o) (lookup_first k xs ys none)

some_at : (k : ℕ) (e : Entry) (o : Option (List ℕ)) (b : Bool) → cond b (Some e.page) o ≡ None → b ≡ false
some_at k e o true h = let z : ◌≡◌ {A = ℕ} 0 1 = cc in absurd (omega arith)
some_at k e o false h = refl

pub lookup_second : (k : ℕ) (xs ys : List Entry) → lookup k xs ≡ None → lookup k (xs ++ ys) ≡ lookup k ys
lookup_second k [] ys none = refl
lookup_second k (e ∷ xs) ys none =
    let other = some_at k e (lookup k xs) (eqb e.key k) none in
    cond-false (eqb e.key k) _ _ other ∙ lookup_second k xs ys (sym (cond-false (eqb e.key k) _ _ other) ∙ none)

module _ (q : ℕ → Bool) where
  abbrev pub by_key : Entry → Bool
  by_key e = q e.key

  module _ (k : ℕ) where
    other_key : (e : Entry) (b : Bool) → q e.key ≡ b → (q k ≡ b → ⊥) → eqb e.key k ≡ false
    other_key e b h differ = ne_eqb _ _ (λ same. differ (ap q (sym same) ∙ h))

    kept_head : (e : Entry) (rest es : List Entry) → q k ≡ true → lookup k rest ≡ lookup k es
        → (b : Bool) → q e.key ≡ b → lookup k (cond b (e ∷ rest) rest) ≡ lookup k (e ∷ es)
    kept_head e rest es h more true s = ap (λ (o : Option (List ℕ)). cond (eqb e.key k) (Some e.page) o) more
    kept_head e rest es h more false s = more ∙ sym (cond-false (eqb e.key k) _ _ (other_key e false s (λ f. both_ways (q k) f h)))

    pub lookup_kept : q k ≡ true → (es : List Entry) → lookup k (filter by_key es) ≡ lookup k es
    lookup_kept h [] = refl
    lookup_kept h (e ∷ es) = kept_head e (filter by_key es) es h (lookup_kept h es) (q e.key) refl

    left_head : (e : Entry) (rest : List Entry) → q k ≡ false → lookup k rest ≡ None
        → (b : Bool) → q e.key ≡ b → lookup k (cond b (e ∷ rest) rest) ≡ None
    left_head e rest h more true s = cond-false (eqb e.key k) _ _ (other_key e true s (λ f. both_ways (q k) h f)) ∙ more
    left_head e rest h more false s = more

    pub lookup_left : q k ≡ false → (es : List Entry) → lookup k (filter by_key es) ≡ None
    lookup_left h [] = refl
    lookup_left h (e ∷ es) = left_head e (filter by_key es) h (lookup_left h es) (q e.key) refl

    still_none : (es : List Entry) (b : Bool) → q k ≡ b → lookup k es ≡ None → lookup k (filter by_key es) ≡ None
    still_none es true h none = lookup_kept h es ∙ none
    still_none es false h none = lookup_left h es

  apart_head : (e : Entry) (rest : List Entry) → lookup e.key rest ≡ None → Apart rest → (b : Bool) → Apart (cond b (e ∷ rest) rest)
  apart_head e rest none more true = (none, more)
  apart_head e rest none more false = more

  pub apart_kept : (es : List Entry) → Apart es → Apart (filter by_key es)
  apart_kept [] h = tt
  apart_kept (e ∷ es) h =
      apart_head e (filter by_key es) (still_none e.key es (q e.key) refl h.0) (apart_kept es h.1) (q e.key)

-- keys that the second list lacks stay apart from it
pub apart_append : (xs ys : List Entry) → Apart xs → Apart ys → AllByRecursion (λ e. lookup e.key ys ≡ None) xs → Apart (xs ++ ys)
apart_append [] ys h i none = i
apart_append (e ∷ xs) ys h i none =
    (lookup_first e.key xs ys none.0 ∙ h.0, apart_append xs ys h.1 i none.1)

module _ (p q : Entry → Bool) where
  -- a count is the same of what a test keeps, where what it counts passes the test
  same_head : (e : Entry) (rest es : List Entry) → (p e ≡ true → q e ≡ true) → count_by p rest ≡ count_by p es
      → (a b : Bool) → p e ≡ a → q e ≡ b → count_by p (cond b (e ∷ rest) rest) ≡ count_by p (e ∷ es)
  same_head e rest es passes more a true s t =
      sum_by-cons (λ x. cond (p x) 1 0) e rest ∙ ap (λ (n : ℕ). cond (p e) 1 0 + n) more ∙ sym (sum_by-cons (λ x. cond (p x) 1 0) e es)
  same_head e rest es passes more true false s t = absurd (both_ways (q e) t (passes s))
  same_head e rest es passes more false false s t =
      let none : ◌≡◌ {A = ℕ} (cond (p e) 1 0) 0 = cond-false (p e) _ _ s in
      more ∙ sym (sum_by-cons (λ x. cond (p x) 1 0) e es ∙ rw none (omega arith))

  pub count_same : ((e : Entry) → p e ≡ true → q e ≡ true) → (es : List Entry) → count_by p (filter q es) ≡ count_by p es
  count_same passes [] = refl
  count_same passes (e ∷ es) =
      same_head e (filter q es) es (passes e) (count_same passes es) (p e) (q e) refl refl

  -- it is 0 where what it counts fails the test
  none_head : (e : Entry) (rest : List Entry) → (p e ≡ true → q e ≡ false) → count_by p rest ≡ 0
      → (a b : Bool) → p e ≡ a → q e ≡ b → count_by p (cond b (e ∷ rest) rest) ≡ 0
  none_head e rest fails more a false s t = more
  none_head e rest fails more true true s t = absurd (both_ways (q e) (fails s) t)
  none_head e rest fails more false true s t =
      let none : ◌≡◌ {A = ℕ} (cond (p e) 1 0) 0 = cond-false (p e) _ _ s in
      sum_by-cons (λ x. cond (p x) 1 0) e rest ∙ rw (none, more)

  pub count_none : ((e : Entry) → p e ≡ true → q e ≡ false) → (es : List Entry) → count_by p (filter q es) ≡ 0
  count_none fails [] = refl
  count_none fails (e ∷ es) =
      none_head e (filter q es) (fails e) (count_none fails es) (p e) (q e) refl refl
