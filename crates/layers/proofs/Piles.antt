-- The law of piles, from that of each layer.
use Rattle.std.proofs.Common.{◌≡◌, ℕ, ◌%◌, Bool, true, false, cond, not, eqb, List, is_some, Some, Option, sym, refl, ap, ◌∙◌, subst}
use Rattle.std.proofs.lemmas.Bool.{and_from, and_parts, cond-true, cond-false, le-leb, leb-true, not-true}
use Rattle.page.specs.Counts.{one_more}
use Rattle.page.specs.Keys.{ephemeral}
use Rattle.page.specs.declared.counts.Count.{Count}
use Rattle.backend.specs.Meaning.{Meaning}
use Rattle.backend.specs.Rules.{Rules, held}
use Rattle.backend.specs.States.{View, decode}
use Rattle.backend.specs.declared.refusals.Cause.TheVariants.{OverLimit}
use Rattle.backend.specs.declared.refusals.Refusal.{Refusal}
use Rattle.backend.specs.Codec.{decode_encode}
use Rattle.layers.specs.Divider.{even_side, odd_side, moved, divider_rules}
use Rattle.layers.specs.Piles.{Pile, base, quota, divider, rules_of, BasesKeep, AtLimit, Follows, QuotaLaw, SideLaw, base_of, base_state, stopped_by, Answered, ReachesBase, PilesLaw}
use Rattle.layers.specs.Quota.{below, over, at_limit, quota_rules}
use Rattle.layers.specs.Limits.{at_below, no_page, quota_keeps}
use Rattle.layers.specs.Sides.{divider_held, divider_pool_pages, divider_keeps}

keep_all : (p : Pile) → BasesKeep p → Meaning (rules_of p)
keep_all (base R) h = h
keep_all (quota p) h = quota_keeps (rules_of p) (keep_all p h)
keep_all (divider p q) h = divider_keeps (rules_of p) (rules_of q) (keep_all p h.0) (keep_all q h.1)

follows : (s t : List ℕ) (o : Count) → Follows s (over s o t) t
follows s t o = record {
  under = ap (λ (v : View). v.second) (decode_encode _);
  limits_stay = ap (λ (v : View). v.first) (decode_encode _);
  label_stays = ap (λ (v : View). v.label) (decode_encode _);
}

module _ (R : Rules) (s : List ℕ) (k : ℕ) where
  full_is : AtLimit R s k → at_limit R s k ≡ true
  full_is h = and_from _ _ (ap (λ (o : Option (List ℕ)). not (is_some o)) h.0) (le-leb _ _ h.1)

  full_only : (b : Bool) → at_limit R s k ≡ b → (AtLimit R s k → ⊥) → at_limit R s k ≡ false
  full_only false e h = e
  full_only true e h = absurd (h (no_page R _ (not-true _ (and_parts _ _ e).0), leb-true _ _ (and_parts _ _ e).1))

quota_law : (R : Rules) → QuotaLaw R
quota_law R = record {
  holds = λ s k. refl;
  counts = λ s pool. refl;
  refuses = λ s k p h.
      let e = full_is R s k h in (
        cond-true (at_limit R s k) _ _ e,
        subst (λ (u : List ℕ). Follows s ((quota_rules R).put_next s k p) u) (cond-true (at_limit R s k) _ _ e) (follows s _ _),
      );
  passes = λ s k p h.
      let e = full_only R s k (at_limit R s k) refl h in (
        cond-false (at_limit R s k) _ _ e,
        subst (λ (u : List ℕ). Follows s ((quota_rules R).put_next s k p) u) (cond-false (at_limit R s k) _ _ e) (follows s _ _),
      );
  get = λ s k. follows s _ _;
  drop_page = λ s k. follows s _ _;
  drop_object = λ s k. follows s _ _;
  drop_pool = λ s k. follows s _ _;
}

module _ (s t u : List ℕ) (o : Count) (k : ℕ) where
  reach_even : ephemeral k ≡ true → (even_side (moved s o k t u) ≡ t) × (odd_side (moved s o k t u) ≡ odd_side s)
  reach_even e =
      subst (λ (x : List ℕ). (even_side x ≡ t) × (odd_side x ≡ odd_side s)) (sym (cond-true (ephemeral k) _ _ e))
      (ap (λ (v : View). v.first) (decode_encode _), ap (λ (v : View). v.second) (decode_encode _))

  reach_odd : ephemeral k ≡ false → (odd_side (moved s o k t u) ≡ u) × (even_side (moved s o k t u) ≡ even_side s)
  reach_odd e =
      subst (λ (x : List ℕ). (odd_side x ≡ u) × (even_side x ≡ even_side s)) (sym (cond-false (ephemeral k) _ _ e))
      (ap (λ (v : View). v.second) (decode_encode _), ap (λ (v : View). v.first) (decode_encode _))

module _ (R S : Rules) where
  even_law : SideLaw (divider_rules R S) R true even_side odd_side
  even_law = record {
    holds = λ s k e. divider_held R S s k ∙ cond-true (ephemeral k) _ _ e;
    counts = λ s pool e. divider_pool_pages R S s pool ∙ cond-true (eqb (pool % 2) 0) _ _ e;
    refuses = λ s k p e. cond-true (ephemeral k) _ _ e;
    put = λ s k p e. reach_even s _ _ _ k e;
    get = λ s k e. reach_even s _ _ _ k e;
    drop_page = λ s k e. reach_even s _ _ _ k e;
    drop_object = λ s k e. reach_even s _ _ _ k e;
    drop_pool = λ s k e. reach_even s _ _ _ k e;
  }

  odd_law : SideLaw (divider_rules R S) S false odd_side even_side
  odd_law = record {
    holds = λ s k e. divider_held R S s k ∙ cond-false (ephemeral k) _ _ e;
    counts = λ s pool e. divider_pool_pages R S s pool ∙ cond-false (eqb (pool % 2) 0) _ _ e;
    refuses = λ s k p e. cond-false (ephemeral k) _ _ e;
    put = λ s k p e. reach_odd s _ _ _ k e;
    get = λ s k e. reach_odd s _ _ _ k e;
    drop_page = λ s k e. reach_odd s _ _ _ k e;
    drop_object = λ s k e. reach_odd s _ _ _ k e;
    drop_pool = λ s k e. reach_odd s _ _ _ k e;
  }

held_by_side : (k : ℕ) (b : Bool) (x y : Option (List ℕ)) (P Q : Rules) (s t : List ℕ) → x ≡ held P s k → y ≡ held Q t k
    → cond b x y ≡ held (cond b P Q) (cond b s t) k
held_by_side k true x y P Q s t h i = h
held_by_side k false x y P Q s t h i = i

held_at_base : (p : Pile) (s : List ℕ) (k : ℕ) → held (rules_of p) s k ≡ held (base_of p k) (base_state p s k) k
held_at_base (base R) s k = refl
held_at_base (quota p) s k = held_at_base p (below s) k
held_at_base (divider p q) s k =
    divider_held (rules_of p) (rules_of q) s k
    ∙ held_by_side k (ephemeral k) _ _ (base_of p k) (base_of q k) (base_state p (even_side s) k) (base_state q (odd_side s) k)
    (held_at_base p (even_side s) k) (held_at_base q (odd_side s) k)

-- a get or a drop, by what each layer makes of it
module _ (next : Rules → List ℕ → ℕ → List ℕ)
    (at_quota : (R : Rules) (s : List ℕ) (k : ℕ) → below (next (quota_rules R) s k) ≡ next R (below s) k)
    (at_even : (R S : Rules) (s : List ℕ) (k : ℕ) → ephemeral k ≡ true → even_side (next (divider_rules R S) s k) ≡ next R (even_side s) k)
    (at_odd : (R S : Rules) (s : List ℕ) (k : ℕ) → ephemeral k ≡ false → odd_side (next (divider_rules R S) s k) ≡ next S (odd_side s) k) where
  reach_side : (p q : Pile) (s : List ℕ) (k : ℕ)
      → base_state p (next (rules_of p) (even_side s) k) k ≡ next (base_of p k) (base_state p (even_side s) k) k
      → base_state q (next (rules_of q) (odd_side s) k) k ≡ next (base_of q k) (base_state q (odd_side s) k) k
      → (b : Bool) → ephemeral k ≡ b
      → cond b (base_state p (even_side (next (rules_of (divider p q)) s k)) k) (base_state q (odd_side (next (rules_of (divider p q)) s k)) k)
      ≡ next (cond b (base_of p k) (base_of q k)) (cond b (base_state p (even_side s) k) (base_state q (odd_side s) k)) k
  reach_side p q s k h i true e = ap (λ (t : List ℕ). base_state p t k) (at_even (rules_of p) (rules_of q) s k e) ∙ h
  reach_side p q s k h i false e = ap (λ (t : List ℕ). base_state q t k) (at_odd (rules_of p) (rules_of q) s k e) ∙ i

  reach_base : ReachesBase next
  reach_base (base R) s k = refl
  reach_base (quota p) s k = ap (λ (t : List ℕ). base_state p t k) (at_quota (rules_of p) s k) ∙ reach_base p (below s) k
  reach_base (divider p q) s k = reach_side p q s k (reach_base p (even_side s) k) (reach_base q (odd_side s) k) (ephemeral k) refl

-- a put at a quota: it stops the put, or the one below answers
put_at_quota : (p : Pile) (k : ℕ) (page : List ℕ) (label : ℕ) (st : Option ℕ) (r : Option Refusal) (b n : List ℕ)
    → Answered st r (base_state p n k) (base_of p k) (base_state p b k) k page
    → (full : Bool)
    → Answered (cond full (Some label) st) (cond full (Some (record { cause = OverLimit; key = record { number = k }; label = label })) r)
    (base_state p (cond full b n) k) (base_of p k) (base_state p b k) k page
put_at_quota p k page label st r b n h true = (refl, refl)
put_at_quota p k page label st r b n h false = h

-- a put at a divider: the side of the key answers
put_at_side : (p q : Pile) (s : List ℕ) (k : ℕ) (page : List ℕ)
    → Answered (stopped_by p (even_side s) k) ((rules_of p).put_refusal (even_side s) k page)
    (base_state p ((rules_of p).put_next (even_side s) k page) k) (base_of p k) (base_state p (even_side s) k) k page
    → Answered (stopped_by q (odd_side s) k) ((rules_of q).put_refusal (odd_side s) k page)
    (base_state q ((rules_of q).put_next (odd_side s) k page) k) (base_of q k) (base_state q (odd_side s) k) k page
    → (b : Bool) → ephemeral k ≡ b
    → Answered (cond b (stopped_by p (even_side s) k) (stopped_by q (odd_side s) k))
    (cond b ((rules_of p).put_refusal (even_side s) k page) ((rules_of q).put_refusal (odd_side s) k page))
    (cond b (base_state p (even_side ((rules_of (divider p q)).put_next s k page)) k) (base_state q (odd_side ((rules_of (divider p q)).put_next s k page)) k))
    (cond b (base_of p k) (base_of q k))
    (cond b (base_state p (even_side s) k) (base_state q (odd_side s) k)) k page
put_at_side p q s k page h i true e =
    subst
    (λ (t : List ℕ). Answered (stopped_by p (even_side s) k) ((rules_of p).put_refusal (even_side s) k page) (base_state p t k) (base_of p k) (base_state p (even_side s) k) k page)
    (sym ((even_law (rules_of p) (rules_of q)).put s k page e).0) h
put_at_side p q s k page h i false e =
    subst
    (λ (t : List ℕ). Answered (stopped_by q (odd_side s) k) ((rules_of q).put_refusal (odd_side s) k page) (base_state q t k) (base_of q k) (base_state q (odd_side s) k) k page)
    (sym ((odd_law (rules_of p) (rules_of q)).put s k page e).0) i

put_at_base : (p : Pile) (s : List ℕ) (k : ℕ) (page : List ℕ)
    → Answered (stopped_by p s k) ((rules_of p).put_refusal s k page) (base_state p ((rules_of p).put_next s k page) k) (base_of p k) (base_state p s k) k page
put_at_base (base R) s k page = (refl, refl)
put_at_base (quota p) s k page =
    let R = rules_of p in
    let t = cond (at_limit R s k) (below s) (R.put_next (below s) k page) in
    at_below s t (one_more (decode s).offers)
    (λ u.
    Answered (stopped_by (quota p) s k) ((quota_rules R).put_refusal s k page) (base_state p u k) (base_of p k) (base_state p (below s) k) k page)
    (put_at_quota p k page (decode s).label (stopped_by p (below s) k) (R.put_refusal (below s) k page) (below s) (R.put_next (below s) k page)
    (put_at_base p (below s) k page) (at_limit R s k))
put_at_base (divider p q) s k page =
    put_at_side p q s k page (put_at_base p (even_side s) k page) (put_at_base q (odd_side s) k page) (ephemeral k) refl

pub piles_law : PilesLaw
piles_law = record {
  states = decode_encode;
  keep = keep_all;
  quotas = λ p. quota_law (rules_of p);
  even_sides = λ p q. even_law (rules_of p) (rules_of q);
  odd_sides = λ p q. odd_law (rules_of p) (rules_of q);
  holds = held_at_base;
  puts = put_at_base;
  gets =
      reach_base (λ R. R.get_next) (λ R s k. ((quota_law R).get s k).under)
      (λ R S s k e. ((even_law R S).get s k e).0) (λ R S s k e. ((odd_law R S).get s k e).0);
  drops_page =
      reach_base (λ R. R.drop_page_next) (λ R s k. ((quota_law R).drop_page s k).under)
      (λ R S s k e. ((even_law R S).drop_page s k e).0) (λ R S s k e. ((odd_law R S).drop_page s k e).0);
  drops_object =
      reach_base (λ R. R.drop_object_next) (λ R s k. ((quota_law R).drop_object s k).under)
      (λ R S s k e. ((even_law R S).drop_object s k e).0) (λ R S s k e. ((odd_law R S).drop_object s k e).0);
  drops_pool =
      reach_base (λ R. R.drop_pool_next) (λ R s k. ((quota_law R).drop_pool s k).under)
      (λ R S s k e. ((even_law R S).drop_pool s k e).0) (λ R S s k e. ((odd_law R S).drop_pool s k e).0);
}
