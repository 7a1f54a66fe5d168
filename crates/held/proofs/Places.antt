-- The places of keys, in lists of holdings.
use Rattle.std.proofs.Common.{◌≡◌, ℕ, true, false, cond, not, eqb, List, [], ◌∷◌, ◌++◌, is_some, Some, None, Option, sym, refl, ap, ◌∙◌, ⊎_elim, arith}
use Rattle.std.proofs.lemmas.List.{map-append}
use Rattle.std.proofs.lemmas.Bool.{cases_eq, eq-eqb, ne_eqb, cond-true, cond-false, not_from_true, not_from_false, both_ways}
use Rattle.held.specs.declared.table.Record.{Record}
use Rattle.held.specs.Holdings.{Holding, keys, taken, place_of, without_key}
use Rattle.held.specs.Records.{key_in}
use Rattle.held.specs.Rings.{Absent}
use Rattle.held.specs.Whole.{held_at}

pub some_none : {x : ℕ} → Some x ≡ None → ⊥
some_none e = let z : ◌≡◌ {A = ℕ} 0 1 = cc in omega arith

pub none_from_false : (o : Option ℕ) → is_some o ≡ false → o ≡ None
none_from_false None e = refl
none_from_false (Some x) e = absurd (both_ways true e refl)

pub place_hit : (k : ℕ) (x : Holding) (H : List Holding) → x.key ≡ k → place_of k (x ∷ H) ≡ Some x.place
place_hit k x H e = cond-true (eqb x.key k) (Some x.place) (place_of k H) (eq-eqb x.key k e)

pub place_miss : (k : ℕ) (x : Holding) (H : List Holding) → (x.key ≡ k → ⊥) → place_of k (x ∷ H) ≡ place_of k H
place_miss k x H ne = cond-false (eqb x.key k) (Some x.place) (place_of k H) (ne_eqb x.key k ne)

-- a key with no place is not among the keys
pub absent_from_none : (k : ℕ) (H : List Holding) → place_of k H ≡ None → Absent k (keys H)
absent_from_none k [] e = tt
absent_from_none k (x ∷ H) e =
    let ne : x.key ≡ k → ⊥ = λ q. some_none (sym (place_hit k x H q) ∙ e) in
    (ne, absent_from_none k H (sym (place_miss k x H ne) ∙ e))

pub none_from_absent : (k : ℕ) (H : List Holding) → Absent k (keys H) → place_of k H ≡ None
none_from_absent k [] a = refl
none_from_absent k (x ∷ H) a = place_miss k x H a.0 ∙ none_from_absent k H a.1

pub place_push_same : (k : ℕ) (H : List Holding) (x : Holding) → place_of k H ≡ None → x.key ≡ k → place_of k (H ++ x ∷ []) ≡ Some x.place
place_push_same k [] x e q = place_hit k x [] q
place_push_same k (y ∷ H) x e q =
    let ne : y.key ≡ k → ⊥ = λ z. some_none (sym (place_hit k y H z) ∙ e) in
    place_miss k y (H ++ x ∷ []) ne ∙ place_push_same k H x (sym (place_miss k y H ne) ∙ e) q

pub place_push_other : (k : ℕ) (H : List Holding) (x : Holding) → (x.key ≡ k → ⊥) → place_of k (H ++ x ∷ []) ≡ place_of k H
place_push_other k [] x ne = place_miss k x [] ne
place_push_other k (y ∷ H) x ne = ap (cond (eqb y.key k) (Some y.place)) (place_push_other k H x ne)

without_hit : (k : ℕ) (x : Holding) (H : List Holding) → x.key ≡ k → without_key k (x ∷ H) ≡ without_key k H
without_hit k x H e = cond-false (not (eqb x.key k)) (x ∷ without_key k H) (without_key k H) (not_from_true (eqb x.key k) (eq-eqb x.key k e))

without_miss : (k : ℕ) (x : Holding) (H : List Holding) → (x.key ≡ k → ⊥) → without_key k (x ∷ H) ≡ x ∷ without_key k H
without_miss k x H ne = cond-true (not (eqb x.key k)) (x ∷ without_key k H) (without_key k H) (not_from_false (eqb x.key k) (ne_eqb x.key k ne))

pub without_absent : (k : ℕ) (H : List Holding) → Absent k (keys H) → without_key k H ≡ H
without_absent k [] a = refl
without_absent k (x ∷ H) a = without_miss k x H a.0 ∙ ap (λ z. x ∷ z) (without_absent k H a.1)

pub place_without_same : (k : ℕ) (H : List Holding) → place_of k (without_key k H) ≡ None
place_without_same k [] = refl
place_without_same k (x ∷ H) =
    ⊎_elim
    (λ (e : x.key ≡ k). ap (place_of k) (without_hit k x H e) ∙ place_without_same k H)
    (λ (e : x.key ≡ k → ⊥). ap (place_of k) (without_miss k x H e) ∙ (place_miss k x (without_key k H) e ∙ place_without_same k H))
    (cases_eq x.key k)

pub place_without_other : (k q : ℕ) (H : List Holding) → (q ≡ k → ⊥) → place_of q (without_key k H) ≡ place_of q H
place_without_other k q [] ne = refl
place_without_other k q (x ∷ H) ne =
    ⊎_elim
    (λ (e : x.key ≡ k). ap (place_of q) (without_hit k x H e) ∙ (place_without_other k q H ne ∙ sym (place_miss q x H (λ z. ne (sym z ∙ e)))))
    (λ (e : x.key ≡ k → ⊥). ap (place_of q) (without_miss k x H e) ∙ ap (cond (eqb x.key q) (Some x.place)) (place_without_other k q H ne))
    (cases_eq x.key k)

abbrev pub hold : List Record → ℕ → Holding
hold t p = record { key = key_in t p; place = p }

module _ (t : List Record) where
  pub held_append : (xs ys : List ℕ) → held_at t (xs ++ ys) ≡ held_at t xs ++ held_at t ys
  held_append xs ys = map-append (hold t) xs ys

  pub taken_held : (ps : List ℕ) → taken (held_at t ps) ≡ ps
  taken_held [] = refl
  taken_held (p ∷ ps) = ap (λ x. p ∷ x) (taken_held ps)

  pub keys_held : (xs : List ℕ) (p : ℕ) (ys : List ℕ) → keys (held_at t (xs ++ p ∷ ys)) ≡ keys (held_at t xs) ++ key_in t p ∷ keys (held_at t ys)
  keys_held [] p ys = refl
  keys_held (x ∷ xs) p ys = ap (λ z. key_in t x ∷ z) (keys_held xs p ys)

  pub keys_held_append : (xs ys : List ℕ) → keys (held_at t (xs ++ ys)) ≡ keys (held_at t xs) ++ keys (held_at t ys)
  keys_held_append [] ys = refl
  keys_held_append (x ∷ xs) ys = ap (λ z. key_in t x ∷ z) (keys_held_append xs ys)

  -- the place of a held key stands among the places
  pub held_split : (k p : ℕ) (ps : List ℕ) → place_of k (held_at t ps) ≡ Some p
      → (xs : List ℕ) × (ys : List ℕ) × (ps ≡ xs ++ p ∷ ys) × (key_in t p ≡ k)
  held_split k p [] e = absurd (some_none (sym e))
  held_split k p (x ∷ ps) e =
      ⊎_elim
      (λ (q : key_in t x ≡ k).
      let is : Some x ≡ Some p = sym (place_hit k (hold t x) (held_at t ps) q) ∙ e in
      let same : x ≡ p = cc in
      ([], ps, ap (λ z. z ∷ ps) same, ap (key_in t) (sym same) ∙ q))
      (λ (q : key_in t x ≡ k → ⊥).
      let r = held_split k p ps (sym (place_miss k (hold t x) (held_at t ps) q) ∙ e) in
      (x ∷ r.0, r.1, ap (λ z. x ∷ z) r.2, r.3))
      (cases_eq (key_in t x) k)

  -- a key that stands once
  pub without_held : (k : ℕ) (xs : List ℕ) (p : ℕ) (ys : List ℕ) → key_in t p ≡ k → Absent k (keys (held_at t (xs ++ ys))) → without_key k (held_at t (xs ++ p ∷ ys)) ≡ held_at t (xs ++ ys)
  without_held k [] p ys e a = without_hit k (hold t p) (held_at t ys) e ∙ without_absent k (held_at t ys) a
  without_held k (x ∷ xs) p ys e a = without_miss k (hold t x) (held_at t (xs ++ p ∷ ys)) a.0 ∙ ap (λ z. hold t x ∷ z) (without_held k xs p ys e a.1)

  module _ (t' : List Record) where
    pub held_same : ((j : ℕ) → key_in t' j ≡ key_in t j) → (ps : List ℕ) → held_at t' ps ≡ held_at t ps
    held_same f [] = refl
    held_same f (p ∷ ps) = ap (λ k. record { key = k; place = p } ∷ held_at t' ps) (f p) ∙ ap (λ z. hold t p ∷ z) (held_same f ps)

    pub held_other : (p : ℕ) → ((j : ℕ) → (j ≡ p → ⊥) → key_in t' j ≡ key_in t j) → (ps : List ℕ) → Absent p ps → held_at t' ps ≡ held_at t ps
    held_other p f [] a = refl
    held_other p f (x ∷ ps) a = ap (λ k. record { key = k; place = x } ∷ held_at t' ps) (f x a.0) ∙ ap (λ z. hold t x ∷ z) (held_other p f ps a.1)
