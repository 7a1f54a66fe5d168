-- Pages that leave a list of held pages. Of the page that gives way it is used only that it is ephemeral and held.
use Rattle.std.proofs.Common.{◌≡◌, ℕ, zero, suc, ◌^◌, ◌<◌, ◌≤◌, Bool, true, false, cond, not, ◌&&◌, eqb, ltb, ◌⊎◌, List, [], ◌∷◌, ◌++◌, length, is_some, Some, None, Option, sym, refl, ap, ◌∙◌, inl, inr, arith}
use Rattle.std.proofs.ByRecursion.{all_kept_by, All-append}
use Rattle.std.proofs.lemmas.List.{nil_from_length}
use Rattle.std.proofs.lemmas.List.Sums.{length-filter, count_by-le-length}
use Rattle.std.proofs.lemmas.Bool.{and_parts, and_from, cond-true, cond-false, eqb-true, eq-eqb, ne_eqb, ltb-true, lt-ltb, not-true, not_from_true, not_from_false, false≢true, true≢false}
use Rattle.std.specs.List.{AllByRecursion}
use Rattle.page.specs.Keys.{ephemeral}
use Rattle.backend.specs.Listing.{keys_of, without, one, without_any, evicted, evicted_upto, room_made, tidy}
use Rattle.backend.specs.Meaning.{Apart, Sized}
use Rattle.backend.specs.Rules.{Entry, lookup}
use Rattle.backend.specs.Victims.{victim}
use Rattle.backend.proofs.Entries.{lookup_kept, lookup_left, apart_kept, apart_append}
use Rattle.backend.proofs.Moving.{none_found}
use Rattle.backend.proofs.Victims.{victim_gives_way}

module _ (named : ℕ → Bool) (es : List Entry) where
  pub lookup_other : (j : ℕ) → named j ≡ false → lookup j (without named es) ≡ lookup j es
  lookup_other j h = lookup_kept (λ i. not (named i)) j (not_from_false (named j) h) es

  pub lookup_named : (j : ℕ) → named j ≡ true → lookup j (without named es) ≡ None
  lookup_named j h = lookup_left (λ i. not (named i)) j (not_from_true (named j) h) es

-- what the test of a list says
pub tidy_apart : (es : List Entry) → tidy es ≡ true → Apart es
tidy_apart [] h = tt
tidy_apart (e ∷ es) h =
    let p = and_parts (not (is_some (lookup e.key es))) (ltb e.key (2 ^ 32) && (eqb (length e.page) 256 && tidy es)) h in
    let q = and_parts _ _ (and_parts (ltb e.key (2 ^ 32)) (eqb (length e.page) 256 && tidy es) p.1).1 in
    (none_found _ (not-true _ p.0), tidy_apart es q.1)

pub tidy_sized : (es : List Entry) → tidy es ≡ true → AllByRecursion Sized es
tidy_sized [] h = tt
tidy_sized (e ∷ es) h =
    let p = and_parts (not (is_some (lookup e.key es))) (ltb e.key (2 ^ 32) && (eqb (length e.page) 256 && tidy es)) h in
    let r = and_parts (ltb e.key (2 ^ 32)) (eqb (length e.page) 256 && tidy es) p.1 in
    let q = and_parts _ _ r.1 in
    ((ltb-true _ _ r.0, eqb-true _ _ q.0), tidy_sized es q.1)

pub tidy_from : (es : List Entry) → Apart es → AllByRecursion Sized es → tidy es ≡ true
tidy_from [] a s = refl
tidy_from (e ∷ es) a s =
    and_from _ _ (ap (λ (o : Option (List ℕ)). not (is_some o)) a.0)
    (and_from _ _ (lt-ltb _ _ s.0.0) (and_from _ _ (eq-eqb _ _ s.0.1) (tidy_from es a.1 s.1)))

pub tidy_without : (named : ℕ → Bool) (es : List Entry) → tidy es ≡ true → tidy (without named es) ≡ true
tidy_without named es h =
    tidy_from (without named es) (apart_kept (λ i. not (named i)) es (tidy_apart es h)) (all_kept_by _ Sized es (tidy_sized es h))

-- a key that a list lacks is none of its keys
absent_head : (k : ℕ) (p : List ℕ) (e : Entry) (o : Option (List ℕ)) (b : Bool) → eqb e.key k ≡ b → cond b (Some e.page) o ≡ None
    → (o ≡ None) × (lookup e.key (record { key = k; page = p } ∷ []) ≡ None)
absent_head k p e o true t n = let z : ◌≡◌ {A = ℕ} 0 1 = cc in absurd (omega arith)
absent_head k p e o false t n = (n, cond-false (eqb k e.key) _ _ (ne_eqb _ _ (λ same. true≢false (sym (eq-eqb _ _ (sym same)) ∙ t))))

absent_all : (k : ℕ) (p : List ℕ) (es : List Entry) → lookup k es ≡ None → AllByRecursion (λ e. lookup e.key (record { key = k; page = p } ∷ []) ≡ None) es
absent_all k p [] h = tt
absent_all k p (e ∷ es) h =
    let r = absent_head k p e (lookup k es) (eqb e.key k) refl h in
    (r.1, absent_all k p es r.0)

pub tidy_push : (k : ℕ) (p : List ℕ) (es : List Entry) → tidy es ≡ true → lookup k es ≡ None → k < 2 ^ 32 → length p ≡ 256
    → tidy (es ++ record { key = k; page = p } ∷ []) ≡ true
tidy_push k p es h none small whole =
    tidy_from _ (apart_append es _ (tidy_apart es h) (refl, tt) (absent_all k p es none)) (All-append Sized es _ (tidy_sized es h) ((small, whole), tt))

-- a list from which only ephemeral pages went
pub record Thinned (es fs : List Entry) : Type 0 where
  pub tidied : tidy es ≡ true → tidy fs ≡ true
  pub kept : (j : ℕ) → (lookup j fs ≡ lookup j es) ⊎ ((ephemeral j ≡ true) × (lookup j fs ≡ None))

pub thinned_none : {es fs : List Entry} → Thinned es fs → (j : ℕ) → lookup j es ≡ None → lookup j fs ≡ None
thinned_none t j none = elim (t.kept j) [ inl same ↦ same ∙ none | inr gone ↦ gone.1 ]

thinned_same : (es : List Entry) → Thinned es es
thinned_same es = record { tidied = λ h. h; kept = λ j. inl refl }

thinned_on : {es fs gs : List Entry} → Thinned es fs → Thinned fs gs → Thinned es gs
thinned_on a b = record {
  tidied = λ h. b.tidied (a.tidied h);
  kept = λ j. elim (b.kept j) [ inl same ↦ elim (a.kept j) [ inl was ↦ inl (same ∙ was) | inr gone ↦ inr (gone.0, same ∙ gone.1) ] | inr gone ↦ inr gone ];
}

thinned_one : (k : ℕ) (es : List Entry) → ephemeral k ≡ true → Thinned es (without (one k) es)
thinned_one k es e = record { tidied = tidy_without (one k) es; kept = λ j. way j (eqb j k) refl }
  where
    way : (j : ℕ) (b : Bool) → eqb j k ≡ b
        → (lookup j (without (one k) es) ≡ lookup j es) ⊎ ((ephemeral j ≡ true) × (lookup j (without (one k) es) ≡ None))
    way j true t = inr (ap ephemeral (eqb-true _ _ t) ∙ e, lookup_named (one k) es j t)
    way j false t = inl (lookup_other (one k) es j t)

thinned_any : (o : Option ℕ) (es : List Entry) → victim (keys_of es) ≡ o → Thinned es (without_any o es)
thinned_any None es h = thinned_same es
thinned_any (Some k) es h = thinned_one k es (victim_gives_way (keys_of es) k h).even

module _ (lacks : List Entry → Bool) where
  thinned_if : (es fs : List Entry) (b : Bool) → Thinned es fs → Thinned es (cond b fs es)
  thinned_if es fs true t = t
  thinned_if es fs false t = thinned_same es

  thinned_upto : (n : ℕ) (es : List Entry) → Thinned es (evicted_upto lacks n es)
  thinned_upto zero es = thinned_same es
  thinned_upto (suc n) es =
      thinned_if es (evicted_upto lacks n (evicted es)) (lacks es) (thinned_on (thinned_any (victim (keys_of es)) es refl) (thinned_upto n (evicted es)))

  pub thinned_room : (es : List Entry) → Thinned es (room_made lacks es)
  unfolding room_made
  thinned_room es = thinned_upto (length es) es

  -- where no ephemeral page is held, none goes
  stuck : (n : ℕ) (es : List Entry) → victim (keys_of es) ≡ None → evicted_upto lacks n es ≡ es
  stuck zero es h = refl
  stuck (suc n) es h =
      let same : evicted es ≡ es = ap (λ (o : Option ℕ). without_any o es) h in
      same_either (lacks es) (ap (evicted_upto lacks n) same ∙ stuck n es h)
    where
      same_either : (b : Bool) → evicted_upto lacks n (evicted es) ≡ es → cond b (evicted_upto lacks n (evicted es)) es ≡ es
      same_either true e = e
      same_either false e = refl

  pub room_enough : (es : List Entry) → lacks es ≡ false → room_made lacks es ≡ es
  unfolding room_made
  room_enough [] h = refl
  room_enough (e ∷ es) h = cond-false (lacks (e ∷ es)) _ _ h

  pub room_none : (es : List Entry) → victim (keys_of es) ≡ None → room_made lacks es ≡ es
  unfolding room_made
  room_none es h = stuck (length es) es h

held_head : (k : ℕ) (e : Entry) (o : Option (List ℕ)) (b : Bool) → (b ≡ true) ⊎ (is_some o ≡ true) → is_some (cond b (Some e.page) o) ≡ true
held_head k e o true h = refl
held_head k e o false (inl h) = absurd (false≢true h)
held_head k e o false (inr h) = h

held_among : (k : ℕ) (es : List Entry) (older newer : List ℕ) → keys_of es ≡ older ++ k ∷ newer → is_some (lookup k es) ≡ true
held_among k [] [] newer h = let z : ◌≡◌ {A = ℕ} 0 1 = cc in absurd (omega arith)
held_among k [] (i ∷ older) newer h = let z : ◌≡◌ {A = ℕ} 0 1 = cc in absurd (omega arith)
held_among k (e ∷ es) [] newer h = let same : e.key ≡ k = cc in held_head k e (lookup k es) (eqb e.key k) (inl (eq-eqb _ _ same))
held_among k (e ∷ es) (i ∷ older) newer h =
    let rest : keys_of es ≡ older ++ k ∷ newer = cc in
    held_head k e (lookup k es) (eqb e.key k) (inr (held_among k es older newer rest))

-- the page that gives way is held
pub victim_held : (es : List Entry) (k : ℕ) → victim (keys_of es) ≡ Some k → is_some (lookup k es) ≡ true
victim_held es k h = let o = (victim_gives_way (keys_of es) k h).oldest in held_among k es o.older o.newer o.among

no_longer : (named : ℕ → Bool) (es : List Entry) → length (without named es) ≤ length es
no_longer named es = omega (arith, length-filter (λ e. not (named e.key)) es, count_by-le-length (λ e. not (named e.key)) es)

shorter_head : (e : Entry) (rest es : List Entry) (o : Option (List ℕ)) (b : Bool) → length rest ≤ length es
    → (is_some o ≡ true → length rest < length es) → is_some (cond b (Some e.page) o) ≡ true
    → length (cond (not b) (e ∷ rest) rest) < suc (length es)
shorter_head e rest es o true le more h = omega arith
shorter_head e rest es o false le more h = omega (arith, more h)

pub shorter : (k : ℕ) (es : List Entry) → is_some (lookup k es) ≡ true → length (without (one k) es) < length es
shorter k [] h = absurd (false≢true h)
shorter k (e ∷ es) h =
    shorter_head e (without (one k) es) es (lookup k es) (eqb e.key k) (no_longer (one k) es) (shorter k es) h

module _ (lacks : List Entry → Bool) where
  turn_empty : (o : Option ℕ) → without_any o [] ≡ []
  turn_empty None = refl
  turn_empty (Some k) = refl

  upto_empty_if : (n : ℕ) (b : Bool) → evicted_upto lacks n [] ≡ [] → cond b (evicted_upto lacks n (evicted [])) [] ≡ []
  upto_empty_if n true e = ap (evicted_upto lacks n) (turn_empty (victim [])) ∙ e
  upto_empty_if n false e = refl

  upto_empty : (n : ℕ) → evicted_upto lacks n [] ≡ []
  upto_empty zero = refl
  upto_empty (suc n) = upto_empty_if n (lacks []) (upto_empty n)

  turn_any : (n m : ℕ) (es : List Entry) (o : Option ℕ) → victim (keys_of es) ≡ o
      → ((k : ℕ) → length (without (one k) es) < length es → evicted_upto lacks n (without (one k) es) ≡ evicted_upto lacks m (without (one k) es))
      → evicted_upto lacks n (without_any o es) ≡ evicted_upto lacks m (without_any o es)
  turn_any n m es None e more = stuck lacks n es e ∙ sym (stuck lacks m es e)
  turn_any n m es (Some k) e more = more k (shorter k es (victim_held es k e))

  -- more turns than there are pages change nothing
  upto_any : (n m : ℕ) (es : List Entry) → length es ≤ n → length es ≤ m → evicted_upto lacks n es ≡ evicted_upto lacks m es
  upto_any zero m es h i = let none = nil_from_length es (omega arith) in rw none (sym (upto_empty m))
  upto_any (suc n) zero es h i = let none = nil_from_length es (omega arith) in rw none (upto_empty (suc n))
  upto_any (suc n) (suc m) es h i =
      ap (λ (fs : List Entry). cond (lacks es) fs es)
      (turn_any n m es (victim (keys_of es)) refl (λ k less. upto_any n m (without (one k) es) (omega arith) (omega arith)))

  pub room_more : (es : List Entry) (k : ℕ) → lacks es ≡ true → victim (keys_of es) ≡ Some k → room_made lacks es ≡ room_made lacks (without (one k) es)
  unfolding room_made
  room_more es k h e =
      let less = shorter k es (victim_held es k e) in
      let n = length es in
      upto_any n (suc n) es (omega arith) (omega arith)
      ∙ (cond-true (lacks es) _ _ h
      ∙ (ap (λ (o : Option ℕ). evicted_upto lacks n (without_any o es)) e ∙ upto_any n (length (without (one k) es)) (without (one k) es) (omega arith) (omega arith)))
