-- Divider keeps the meaning of the two backends that keep it on its sides.
use Rattle.std.specs.Prelude.{◌≡◌, ℕ, ◌+◌, ◌/◌, ◌%◌, ◌^◌, Bool, true, false, cond, not, ◌&&◌, List, [], ◌++◌, Some, None, count_by, filter, ◌==◌, nat_eq, refl}
use Rattle.std.proofs.Common.{inl, inr, sym, ap, subst, ◌∙◌, add-zero, zero-add}
use Rattle.std.proofs.Math.Nat.{div-div-eq-div-mul}
use Rattle.std.proofs.ByRecursion.{All-append, all_kept_by, All-weaker, kept_by_passes}
use Rattle.std.proofs.lemmas.List.Sums.{sum_by-append}
use Rattle.std.proofs.lemmas.Bool.{and_parts, and_from, cond-true, cond-false, eqb-true, not_from_true, not_from_false}
use Rattle.std.specs.List.{AllByRecursion}
use Rattle.page.specs.Counts.{count_of, one_more}
use Rattle.page.specs.Keys.{pool_of, ephemeral}
use Rattle.page.specs.declared.counts.Count.{Count}
use Rattle.backend.specs.Meaning.{Meaning, New, Step, PutLaw, GetLaw, DropLaw, Kept, Apart, Sized}
use Rattle.backend.specs.Rules.{Entry, Rules, Valid, lookup, held, pool_object, pool_pages}
use Rattle.backend.specs.States.{View, encode, decode}
use Rattle.backend.specs.Codec.{decode_encode}
use Rattle.layers.specs.Divider.{even_side, odd_side, sides, moved, even, odd, divider_rules}
use Rattle.backend.proofs.Entries.{lookup_first, lookup_second, lookup_kept, lookup_left, apart_kept, apart_append, count_same, count_none}

-- what the divider holds, given what its sides hold
abbrev both : List Entry → List Entry → List Entry
both es fs = filter even es ++ filter odd fs

lookup_both : (es fs : List Entry) (k : ℕ) (b : Bool) → ephemeral k ≡ b → lookup k (both es fs) ≡ cond b (lookup k es) (lookup k fs)
lookup_both es fs k true e =
    lookup_first k (filter even es) (filter odd fs) (lookup_left (λ j. not (ephemeral j)) k (not_from_true _ e) fs)
    ∙ lookup_kept ephemeral k e es
lookup_both es fs k false e =
    lookup_second k (filter even es) (filter odd fs) (lookup_left ephemeral k e es)
    ∙ lookup_kept (λ j. not (ephemeral j)) k (not_from_false _ e) fs

apart_both : (es fs : List Entry) → Apart es → Apart fs → Apart (both es fs)
apart_both es fs h i =
    apart_append (filter even es) (filter odd fs) (apart_kept ephemeral es h) (apart_kept (λ j. not (ephemeral j)) fs i)
    (All-weaker (λ e. even e ≡ true) (λ e. lookup e.key (filter odd fs) ≡ None)
    (λ e t. lookup_left (λ j. not (ephemeral j)) e.key (not_from_true _ t) fs)
    (filter even es) (kept_by_passes even es))

sized_both : (es fs : List Entry) → AllByRecursion Sized es → AllByRecursion Sized fs → AllByRecursion Sized (both es fs)
sized_both es fs h i = All-append Sized (filter even es) (filter odd fs) (all_kept_by even Sized es h) (all_kept_by odd Sized fs i)

-- a pool's number has the parity of its keys
in_pool : (pool : ℕ) (e : Entry) → (pool_of e.key == pool) ≡ true → ephemeral e.key ≡ (pool % 2 == 0)
in_pool pool e h = ap (λ (n : ℕ). nat_eq (n % 2) 0) (eqb-true _ _ h)

count_both : (es fs : List Entry) (pool : ℕ) (b : Bool) → (pool % 2 == 0) ≡ b
    → count_by (λ e. nat_eq (pool_of e.key) pool) (both es fs)
    ≡ cond b (count_by (λ e. nat_eq (pool_of e.key) pool) es) (count_by (λ e. nat_eq (pool_of e.key) pool) fs)
count_both es fs pool true e =
    let counted : Entry → Bool = λ x. nat_eq (pool_of x.key) pool in
    sum_by-append (λ x. cond (counted x) 1 0) (filter even es) (filter odd fs)
    ∙ ap (λ (n : ℕ). count_by counted (filter even es) + n) (count_none counted odd (λ x h. not_from_true _ (in_pool pool x h ∙ e)) fs)
    ∙ add-zero _
    ∙ count_same counted even (λ x h. in_pool pool x h ∙ e) es
count_both es fs pool false e =
    let counted : Entry → Bool = λ x. nat_eq (pool_of x.key) pool in
    sum_by-append (λ x. cond (counted x) 1 0) (filter even es) (filter odd fs)
    ∙ ap (λ (n : ℕ). n + count_by counted (filter odd fs)) (count_none counted even (λ x h. in_pool pool x h ∙ e) es)
    ∙ zero-add _
    ∙ count_same counted odd (λ x h. not_from_false _ (in_pool pool x h ∙ e)) fs

-- what a divider's state reads as, once it was written
module _ (s t u : List ℕ) (o : Count) where
  at_sides : (P : List ℕ → List ℕ → Type 0) → P t u → P (even_side (sides s o t u)) (odd_side (sides s o t u))
  at_sides P h = subst (λ (v : View). P v.first v.second) (sym (decode_encode _)) h

  sides_label : (decode (sides s o t u)).label ≡ (decode s).label
  sides_label = ap (λ (v : View). v.label) (decode_encode _)

  sides_offers : (decode (sides s o t u)).offers ≡ o
  sides_offers = ap (λ (v : View). v.offers) (decode_encode _)

module _ (R S : Rules) where
  pub divider_held : (s : List ℕ) (k : ℕ) → held (divider_rules R S) s k ≡ cond (ephemeral k) (held R (even_side s) k) (held S (odd_side s) k)
  divider_held s k = lookup_both (R.pages (even_side s)) (S.pages (odd_side s)) k (ephemeral k) refl

  pub divider_pool_pages : (s : List ℕ) (pool : ℕ)
      → pool_pages (divider_rules R S) s pool ≡ cond (pool % 2 == 0) (pool_pages R (even_side s) pool) (pool_pages S (odd_side s) pool)
  divider_pool_pages s pool = count_both (R.pages (even_side s)) (S.pages (odd_side s)) pool (pool % 2 == 0) refl

  stays_in : (Q : Rules) (s : List ℕ) (named : ℕ → Bool) → Valid Q s → Step Q s s named
  stays_in Q s named v = record { valid = v; label = refl; others = λ j e. inl refl }

  module _ (s t u : List ℕ) (o : Count) where
    -- what the divider holds after its sides came to t and u
    held_after : (k : ℕ) (b : Bool) → ephemeral k ≡ b → held (divider_rules R S) (sides s o t u) k ≡ cond b (held R t k) (held S u k)
    held_after k b e = at_sides s t u o (λ x y. lookup k (both (R.pages x) (S.pages y)) ≡ cond b (held R t k) (held S u k)) (lookup_both (R.pages t) (S.pages u) k b e)

    held_before : (k : ℕ) (b : Bool) → ephemeral k ≡ b → held (divider_rules R S) s k ≡ cond b (held R (even_side s) k) (held S (odd_side s) k)
    held_before k b e = lookup_both (R.pages (even_side s)) (S.pages (odd_side s)) k b e

    kept_both : (j : ℕ) (b : Bool) → ephemeral j ≡ b → Kept R (even_side s) t j → Kept S (odd_side s) u j → Kept (divider_rules R S) s (sides s o t u) j
    kept_both j true e h i =
        elim h [
          | inl same ↦ inl (held_after j true e ∙ same ∙ sym (held_before j true e))
          | inr gone ↦ inr (gone.0, held_after j true e ∙ gone.1)
        ]
    kept_both j false e h i =
        elim i [
          | inl same ↦ inl (held_after j false e ∙ same ∙ sym (held_before j false e))
          | inr gone ↦ inr (gone.0, held_after j false e ∙ gone.1)
        ]

    step_both : (named : ℕ → Bool) → Step R (even_side s) t named → Step S (odd_side s) u named → Step (divider_rules R S) s (sides s o t u) named
    step_both named h i = record {
      valid = at_sides s t u o (λ x y. (R.valid x && S.valid y) ≡ true) (and_from _ _ h.valid i.valid);
      label = sides_label s t u o;
      others = λ j e. kept_both j (ephemeral j) refl (h.others j e) (i.others j e);
    }

    drop_both : (named : ℕ → Bool) → o ≡ (decode s).offers
        → Step R (even_side s) t named → Step S (odd_side s) u named
        → ((j : ℕ) → named j ≡ true → cond (ephemeral j) (held R t j) (held S u j) ≡ None)
        → DropLaw (divider_rules R S) s (sides s o t u) named
    drop_both named same h i gone = record {
      step = step_both named h i;
      counted = sides_offers s t u o ∙ same;
      gone = λ j e. held_after j (ephemeral j) refl ∙ gone j e;
    }

  -- a drop reaches the side of the key, and names keys of that side only
  drop_at : (s t u : List ℕ) (k : ℕ) (named : ℕ → Bool) → ((j : ℕ) → named j ≡ true → ephemeral j ≡ ephemeral k)
      → Valid R (even_side s) → Valid S (odd_side s) → DropLaw R (even_side s) t named → DropLaw S (odd_side s) u named
      → (b : Bool) → ephemeral k ≡ b → DropLaw (divider_rules R S) s (moved s (decode s).offers k t u) named
  drop_at s t u k named side v w h i true e =
      subst (λ (n : List ℕ). DropLaw (divider_rules R S) s n named) (sym (cond-true (ephemeral k) _ _ e))
      (drop_both s t (odd_side s) (decode s).offers named refl h.step (stays_in S (odd_side s) named w)
      (λ j n. cond-true (ephemeral j) _ _ (side j n ∙ e) ∙ h.gone j n))
  drop_at s t u k named side v w h i false e =
      subst (λ (n : List ℕ). DropLaw (divider_rules R S) s n named) (sym (cond-false (ephemeral k) _ _ e))
      (drop_both s (even_side s) u (decode s).offers named refl (stays_in R (even_side s) named v) i.step
      (λ j n. cond-false (ephemeral j) _ _ (side j n ∙ e) ∙ i.gone j n))

  same_key : (k j : ℕ) → (j == k) ≡ true → ephemeral j ≡ ephemeral k
  same_key k j h = ap (λ (n : ℕ). ephemeral n) (eqb-true _ _ h)

  same_object : (k j : ℕ) → (pool_object j == pool_object k) ≡ true → ephemeral j ≡ ephemeral k
  same_object k j h =
      let pool : (n : ℕ) → n / 2 ^ 12 / 2 ^ 16 ≡ n / 2 ^ 28 = λ n. div-div-eq-div-mul n (2 ^ 12) (2 ^ 16) in
      ap (λ (n : ℕ). nat_eq (n % 2) 0) (sym (pool j) ∙ ap (λ (n : ℕ). n / 2 ^ 16) (eqb-true _ _ h) ∙ pool k)

  same_pool : (k j : ℕ) → (pool_of j == pool_of k) ≡ true → ephemeral j ≡ ephemeral k
  same_pool k j h = ap (λ (n : ℕ). nat_eq (n % 2) 0) (eqb-true _ _ h)

  get_at : (s : List ℕ) (k : ℕ) → Valid R (even_side s) → Valid S (odd_side s) → GetLaw R (even_side s) k → GetLaw S (odd_side s) k
      → (b : Bool) → ephemeral k ≡ b → GetLaw (divider_rules R S) s k
  get_at s k v w h i true e =
      let t = R.get_next (even_side s) k in
      let o = (decode s).offers in
      let n = sides s o t (odd_side s) in
      let there : n ≡ (divider_rules R S).get_next s k = sym (cond-true (ephemeral k) _ _ e) in
      record {
        step = subst (λ (x : List ℕ). Step (divider_rules R S) s x (λ j. nat_eq j k)) there (step_both s t (odd_side s) o _ h.step (stays_in S (odd_side s) _ w));
        counted = subst (λ (x : List ℕ). (decode x).offers ≡ o) there (sides_offers s t (odd_side s) o);
        ephemeral_gone = λ c. subst (λ (x : List ℕ). held (divider_rules R S) x k ≡ None) there (held_after s t (odd_side s) o k true e ∙ h.ephemeral_gone c);
        persistent_kept = λ c. subst (λ (x : List ℕ). held (divider_rules R S) x k ≡ held (divider_rules R S) s k) there
            (held_after s t (odd_side s) o k true e ∙ h.persistent_kept c ∙ sym (held_before s t (odd_side s) o k true e));
      }
  get_at s k v w h i false e =
      let u = S.get_next (odd_side s) k in
      let o = (decode s).offers in
      let n = sides s o (even_side s) u in
      let there : n ≡ (divider_rules R S).get_next s k = sym (cond-false (ephemeral k) _ _ e) in
      record {
        step = subst (λ (x : List ℕ). Step (divider_rules R S) s x (λ j. nat_eq j k)) there (step_both s (even_side s) u o _ (stays_in R (even_side s) _ v) i.step);
        counted = subst (λ (x : List ℕ). (decode x).offers ≡ o) there (sides_offers s (even_side s) u o);
        ephemeral_gone = λ c. subst (λ (x : List ℕ). held (divider_rules R S) x k ≡ None) there (held_after s (even_side s) u o k false e ∙ i.ephemeral_gone c);
        persistent_kept = λ c. subst (λ (x : List ℕ). held (divider_rules R S) x k ≡ held (divider_rules R S) s k) there
            (held_after s (even_side s) u o k false e ∙ i.persistent_kept c ∙ sym (held_before s (even_side s) u o k false e));
      }

  put_at : (s : List ℕ) (k : ℕ) (p : List ℕ) → Valid R (even_side s) → Valid S (odd_side s) → PutLaw R (even_side s) k p → PutLaw S (odd_side s) k p
      → (b : Bool) → ephemeral k ≡ b → PutLaw (divider_rules R S) s k p
  put_at s k p v w h i true e =
      let t = R.put_next (even_side s) k p in
      let o = one_more (decode s).offers in
      let n = sides s o t (odd_side s) in
      let there : n ≡ (divider_rules R S).put_next s k p = sym (cond-true (ephemeral k) _ _ e) in
      let told : R.put_refusal (even_side s) k p ≡ (divider_rules R S).put_refusal s k p = sym (cond-true (ephemeral k) _ _ e) in
      record {
        step = subst (λ (x : List ℕ). Step (divider_rules R S) s x (λ j. nat_eq j k)) there (step_both s t (odd_side s) o _ h.step (stays_in S (odd_side s) _ w));
        counted = subst (λ (x : List ℕ). (decode x).offers ≡ o) there (sides_offers s t (odd_side s) o);
        accepted = λ a. subst (λ (x : List ℕ). held (divider_rules R S) x k ≡ Some p) there (held_after s t (odd_side s) o k true e ∙ h.accepted (told ∙ a));
        refused = λ d a.
            let r = h.refused d (told ∙ a) in
            (subst (λ (x : List ℕ). held (divider_rules R S) x k ≡ None) there (held_after s t (odd_side s) o k true e ∙ r.0), r.1, r.2);
      }
  put_at s k p v w h i false e =
      let u = S.put_next (odd_side s) k p in
      let o = one_more (decode s).offers in
      let n = sides s o (even_side s) u in
      let there : n ≡ (divider_rules R S).put_next s k p = sym (cond-false (ephemeral k) _ _ e) in
      let told : S.put_refusal (odd_side s) k p ≡ (divider_rules R S).put_refusal s k p = sym (cond-false (ephemeral k) _ _ e) in
      record {
        step = subst (λ (x : List ℕ). Step (divider_rules R S) s x (λ j. nat_eq j k)) there (step_both s (even_side s) u o _ (stays_in R (even_side s) _ v) i.step);
        counted = subst (λ (x : List ℕ). (decode x).offers ≡ o) there (sides_offers s (even_side s) u o);
        accepted = λ a. subst (λ (x : List ℕ). held (divider_rules R S) x k ≡ Some p) there (held_after s (even_side s) u o k false e ∙ i.accepted (told ∙ a));
        refused = λ d a.
            let r = i.refused d (told ∙ a) in
            (subst (λ (x : List ℕ). held (divider_rules R S) x k ≡ None) there (held_after s (even_side s) u o k false e ∙ r.0), r.1, r.2);
      }

  pub divider_keeps : Meaning R → Meaning S → Meaning (divider_rules R S)
  divider_keeps m n =
      let first : (s : List ℕ) → Valid (divider_rules R S) s → Valid R (even_side s) = λ s v. (and_parts _ _ v).0 in
      let second : (s : List ℕ) → Valid (divider_rules R S) s → Valid S (odd_side s) = λ s v. (and_parts _ _ v).1 in
      record {
        apart = λ s v. apart_both _ _ (m.apart (even_side s) (first s v)) (n.apart (odd_side s) (second s v));
        sized = λ s v. sized_both _ _ (m.sized (even_side s) (first s v)) (n.sized (odd_side s) (second s v));
        put = λ s k p v b l.
            put_at s k p (first s v) (second s v) (m.put (even_side s) k p (first s v) b l) (n.put (odd_side s) k p (second s v) b l) (ephemeral k) refl;
        get = λ s k v.
            get_at s k (first s v) (second s v) (m.get (even_side s) k (first s v)) (n.get (odd_side s) k (second s v)) (ephemeral k) refl;
        drop_page = λ s k v.
            drop_at s _ _ k _ (same_key k) (first s v) (second s v) (m.drop_page (even_side s) k (first s v)) (n.drop_page (odd_side s) k (second s v)) (ephemeral k) refl;
        drop_object = λ s k v.
            drop_at s _ _ k _ (same_object k) (first s v) (second s v) (m.drop_object (even_side s) k (first s v)) (n.drop_object (odd_side s) k (second s v)) (ephemeral k) refl;
        drop_pool = λ s k v.
            drop_at s _ _ k _ (same_pool k) (first s v) (second s v) (m.drop_pool (even_side s) k (first s v)) (n.drop_pool (odd_side s) k (second s v)) (ephemeral k) refl;
      }

  -- over new backends a divider that nothing was offered to is new
  pub divider_new : (v : View) → v.offers ≡ count_of 0 → New R v.first → New S v.second → New (divider_rules R S) (encode v)
  divider_new v fresh n m = record {
    valid = subst (λ (d : View). (R.valid d.first && S.valid d.second) ≡ true) (sym (decode_encode v)) (and_from _ _ n.valid m.valid);
    empty = subst (λ (d : View). both (R.pages d.first) (S.pages d.second) ≡ []) (sym (decode_encode v)) (rw (n.empty, m.empty) refl);
    unoffered = subst (λ (d : View). d.offers ≡ count_of 0) (sym (decode_encode v)) fresh;
  }

  -- what the divider holds, by its view
  module _ (v : View) where
    pub view_held : (k : ℕ) → held (divider_rules R S) (encode v) k ≡ cond (ephemeral k) (held R v.first k) (held S v.second k)
    view_held k =
        subst (λ (d : View). lookup k (both (R.pages d.first) (S.pages d.second)) ≡ cond (ephemeral k) (held R v.first k) (held S v.second k))
        (sym (decode_encode v)) (lookup_both (R.pages v.first) (S.pages v.second) k (ephemeral k) refl)

    pub view_pool_pages : (pool : ℕ)
        → pool_pages (divider_rules R S) (encode v) pool ≡ cond (pool % 2 == 0) (pool_pages R v.first pool) (pool_pages S v.second pool)
    view_pool_pages pool =
        subst
        (λ (d : View).
        count_by (λ e. nat_eq (pool_of e.key) pool) (both (R.pages d.first) (S.pages d.second))
        ≡ cond (pool % 2 == 0) (pool_pages R v.first pool) (pool_pages S v.second pool))
        (sym (decode_encode v)) (count_both (R.pages v.first) (S.pages v.second) pool (pool % 2 == 0) refl)

    pub view_refusal : (k : ℕ) (p : List ℕ)
        → (divider_rules R S).put_refusal (encode v) k p ≡ cond (ephemeral k) (R.put_refusal v.first k p) (S.put_refusal v.second k p)
    view_refusal k p =
        ap (λ (d : View). cond (ephemeral k) (R.put_refusal d.first k p) (S.put_refusal d.second k p)) (decode_encode v)

-- a call on a key, by the divider's view: o is what it does to the offer count, f and g to the sides
module _ (v : View) (k : ℕ) (o : Count → Count) (f g : List ℕ → List ℕ) where
  abbrev pub by_side : View → List ℕ
  by_side d =
      cond (ephemeral k)
      (encode (record { label = d.label; offers = o d.offers; first = f d.first; second = d.second }))
      (encode (record { label = d.label; offers = o d.offers; first = d.first; second = g d.second }))

  pub moved_even : ephemeral k ≡ true → by_side (decode (encode v))
      ≡ encode (record { label = v.label; offers = o v.offers; first = f v.first; second = v.second })
  moved_even e = ap (λ (d : View). by_side d) (decode_encode v) ∙ cond-true (ephemeral k) _ _ e

  pub moved_odd : ephemeral k ≡ false → by_side (decode (encode v))
      ≡ encode (record { label = v.label; offers = o v.offers; first = v.first; second = g v.second })
  moved_odd e = ap (λ (d : View). by_side d) (decode_encode v) ∙ cond-false (ephemeral k) _ _ e
