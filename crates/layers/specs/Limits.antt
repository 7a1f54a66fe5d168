-- Quota keeps the meaning of a backend that keeps it below.
use Rattle.std.specs.Prelude.{◌≡◌, ℕ, Bool, true, false, cond, List, [], is_some, Some, None, Option, nat_eq, refl}
use Rattle.std.proofs.Common.{inl, inr, sym, ap, subst, ◌∙◌, arith}
use Rattle.std.proofs.lemmas.Bool.{and_parts, cond-true, cond-false, not-true, true≢false}
use Rattle.page.specs.Counts.{count_of, one_more}
use Rattle.page.specs.declared.counts.Count.{Count}
use Rattle.backend.specs.Meaning.{Meaning, New, Step, PutLaw, GetLaw, DropLaw, Kept}
use Rattle.backend.specs.Rules.{Rules, Valid, held}
use Rattle.backend.specs.States.{View, encode, decode}
use Rattle.backend.specs.declared.refusals.Refusal.{Refusal}
use Rattle.backend.specs.declared.refusals.Cause.TheVariants.{OverLimit}
use Rattle.backend.specs.Codec.{decode_encode}
use Rattle.layers.specs.Quota.{below, over, full, at_limit, quota_rules}

-- what a quota's state reads as, once it was written
module _ (s t : List ℕ) (o : Count) where
  pub at_below : (P : List ℕ → Type 0) → P t → P (below (over s o t))
  at_below P h = subst P (sym (ap (λ (v : View). v.second) (decode_encode _))) h

  over_label : (decode (over s o t)).label ≡ (decode s).label
  over_label = ap (λ (v : View). v.label) (decode_encode _)

  over_offers : (decode (over s o t)).offers ≡ o
  over_offers = ap (λ (v : View). v.offers) (decode_encode _)

module _ (R : Rules) where
  -- a step below is a step of the quota
  step_up : (s t : List ℕ) (o : Count) (named : ℕ → Bool) → Step R (below s) t named → Step (quota_rules R) s (over s o t) named
  step_up s t o named h = record {
    valid = at_below s t o (Valid R) h.valid;
    label = over_label s t o;
    others = λ j e. at_below s t o (λ u. Kept R (below s) u j) (h.others j e);
  }

  drop_up : (s t : List ℕ) (named : ℕ → Bool) → DropLaw R (below s) t named → DropLaw (quota_rules R) s (over s (decode s).offers t) named
  drop_up s t named h =
      let o = (decode s).offers in
      record {
        step = step_up s t o named h.step;
        counted = over_offers s t o;
        gone = λ j e. at_below s t o (λ u. held R u j ≡ None) (h.gone j e);
      }

  get_up : (s : List ℕ) (k : ℕ) → GetLaw R (below s) k → GetLaw (quota_rules R) s k
  get_up s k h =
      let t = R.get_next (below s) k in
      let o = (decode s).offers in
      record {
        step = step_up s t o (λ j. nat_eq j k) h.step;
        counted = over_offers s t o;
        ephemeral_gone = λ e. at_below s t o (λ u. held R u k ≡ None) (h.ephemeral_gone e);
        persistent_kept = λ e. at_below s t o (λ u. held R u k ≡ held R (below s) k) (h.persistent_kept e);
      }

  pub no_page : (o : Option (List ℕ)) → is_some o ≡ false → o ≡ None
  no_page None e = refl
  no_page (Some p) e = absurd (true≢false e)

  stays : (s : List ℕ) (named : ℕ → Bool) → Valid R s → Step R s s named
  stays s named v = record { valid = v; label = refl; others = λ j e. inl refl }

  some_same : (d e : Refusal) → Some d ≡ Some e → d ≡ e
  some_same d e q = cc

  -- a put that the limit refuses changes nothing below, one that it lets pass is the put below
  put_at : (s : List ℕ) (k : ℕ) (p : List ℕ) (b : Bool) → at_limit R s k ≡ b → Valid R (below s) → PutLaw R (below s) k p → PutLaw (quota_rules R) s k p
  put_at s k p true e v h =
      let t = cond (at_limit R s k) (below s) (R.put_next (below s) k p) in
      let c : t ≡ below s = cond-true (at_limit R s k) _ _ e in
      let o = one_more (decode s).offers in
      let none = no_page (held R (below s) k) (not-true _ (and_parts _ _ e).0) in
      let refusal : Refusal = record { cause = OverLimit; key = record { number = k }; label = (decode s).label } in
      let told : cond (at_limit R s k) (Some refusal) (R.put_refusal (below s) k p) ≡ Some refusal = cond-true (at_limit R s k) _ _ e in
      record {
        step = step_up s t o (λ j. nat_eq j k) (subst (λ (u : List ℕ). Step R (below s) u (λ j. nat_eq j k)) (sym c) (stays (below s) (λ j. nat_eq j k) v));
        counted = over_offers s t o;
        accepted = λ a. let q : Some refusal ≡ None = sym told ∙ a in let z : ◌≡◌ {A = ℕ} 0 1 = cc in absurd (omega arith);
        refused = λ d a.
            let same = some_same refusal d (sym told ∙ a) in (
              at_below s t o (λ u. held R u k ≡ None) (subst (λ (u : List ℕ). held R u k ≡ None) (sym c) none),
              ap (λ (r : Refusal). r.key.number) (sym same),
              inr (ap (λ (r : Refusal). r.cause) (sym same)),
            );
      }
  put_at s k p false e v h =
      let t = cond (at_limit R s k) (below s) (R.put_next (below s) k p) in
      let c : t ≡ R.put_next (below s) k p = cond-false (at_limit R s k) _ _ e in
      let o = one_more (decode s).offers in
      let told : (q : Option Refusal) → cond (at_limit R s k) q (R.put_refusal (below s) k p) ≡ R.put_refusal (below s) k p
      = λ q. cond-false (at_limit R s k) _ _ e in
      record {
        step = step_up s t o (λ j. nat_eq j k) (subst (λ (u : List ℕ). Step R (below s) u (λ j. nat_eq j k)) (sym c) h.step);
        counted = over_offers s t o;
        accepted = λ a. at_below s t o (λ u. held R u k ≡ Some p) (subst (λ (u : List ℕ). held R u k ≡ Some p) (sym c) (h.accepted (sym (told _) ∙ a)));
        refused = λ d a.
            let r = h.refused d (sym (told _) ∙ a) in
            (at_below s t o (λ u. held R u k ≡ None) (subst (λ (u : List ℕ). held R u k ≡ None) (sym c) r.0), r.1, r.2);
      }

  pub quota_keeps : Meaning R → Meaning (quota_rules R)
  quota_keeps m = record {
    apart = λ s v. m.apart (below s) v;
    sized = λ s v. m.sized (below s) v;
    put = λ s k p v b l. put_at s k p (at_limit R s k) refl v (m.put (below s) k p v b l);
    get = λ s k v. get_up s k (m.get (below s) k v);
    drop_page = λ s k v. drop_up s (R.drop_page_next (below s) k) _ (m.drop_page (below s) k v);
    drop_object = λ s k v. drop_up s (R.drop_object_next (below s) k) _ (m.drop_object (below s) k v);
    drop_pool = λ s k v. drop_up s (R.drop_pool_next (below s) k) _ (m.drop_pool (below s) k v);
  }

  -- over a new backend a quota that nothing was offered to is new
  pub quota_new : (v : View) → v.offers ≡ count_of 0 → New R v.second → New (quota_rules R) (encode v)
  quota_new v fresh n = record {
    valid = subst (λ (d : View). Valid R d.second) (sym (decode_encode v)) n.valid;
    empty = subst (λ (d : View). R.pages d.second ≡ []) (sym (decode_encode v)) n.empty;
    unoffered = subst (λ (d : View). d.offers ≡ count_of 0) (sym (decode_encode v)) fresh;
  }

  -- a put, by the quota's view
  module _ (v : View) (k : ℕ) (p : List ℕ) where
    pub put_full_refusal : full R v.first v.second k ≡ true
        → (quota_rules R).put_refusal (encode v) k p ≡ Some (record { cause = OverLimit; key = record { number = k }; label = v.label })
    put_full_refusal e =
        subst
        (λ (d : View).
        cond (full R d.first d.second k) (Some (record { cause = OverLimit; key = record { number = k }; label = d.label })) (R.put_refusal d.second k p)
        ≡ Some (record { cause = OverLimit; key = record { number = k }; label = v.label }))
        (sym (decode_encode v)) (cond-true _ _ _ e)

    pub put_full_next : full R v.first v.second k ≡ true
        → (quota_rules R).put_next (encode v) k p ≡ encode (record { label = v.label; offers = one_more v.offers; first = v.first; second = v.second })
    put_full_next e =
        subst
        (λ (d : View).
        encode (record { label = d.label; offers = one_more d.offers; first = d.first; second = cond (full R d.first d.second k) d.second (R.put_next d.second k p) })
        ≡ encode (record { label = v.label; offers = one_more v.offers; first = v.first; second = v.second }))
        (sym (decode_encode v))
        (ap (λ (t : List ℕ). encode (record { label = v.label; offers = one_more v.offers; first = v.first; second = t })) (cond-true _ _ _ e))

    pub put_pass_refusal : full R v.first v.second k ≡ false → (quota_rules R).put_refusal (encode v) k p ≡ R.put_refusal v.second k p
    put_pass_refusal e =
        subst
        (λ (d : View).
        cond (full R d.first d.second k) (Some (record { cause = OverLimit; key = record { number = k }; label = d.label })) (R.put_refusal d.second k p)
        ≡ R.put_refusal v.second k p)
        (sym (decode_encode v)) (cond-false _ _ _ e)

    pub put_pass_next : full R v.first v.second k ≡ false
        → (quota_rules R).put_next (encode v) k p
        ≡ encode (record { label = v.label; offers = one_more v.offers; first = v.first; second = R.put_next v.second k p })
    put_pass_next e =
        subst
        (λ (d : View).
        encode (record { label = d.label; offers = one_more d.offers; first = d.first; second = cond (full R d.first d.second k) d.second (R.put_next d.second k p) })
        ≡ encode (record { label = v.label; offers = one_more v.offers; first = v.first; second = R.put_next v.second k p }))
        (sym (decode_encode v))
        (ap (λ (t : List ℕ). encode (record { label = v.label; offers = one_more v.offers; first = v.first; second = t })) (cond-false _ _ _ e))
