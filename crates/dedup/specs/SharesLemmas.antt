-- The contents of held pages, as keys come and go.
use Rattle.std.specs.Prelude.{◌≡◌, ℕ, ◌+◌, Bool, true, false, cond, not, List, [], ◌∷◌, ◌++◌, Some, None, Option, ◌==◌, refl}
use Rattle.std.proofs.Common.{sym, ap, subst, ◌∙◌, arith}
use Rattle.std.proofs.lemmas.List.{map-append}
use Rattle.std.proofs.lemmas.List.Sums.{sum_by-cons}
use Rattle.std.proofs.lemmas.Bool.{cond-true, eqb-true, ne_eqb, not_from_false}
use Rattle.std.specs.List.{AllByRecursion}
use Rattle.held.specs.Entries.{entries_by}
use Rattle.held.specs.Holdings.{Holding, keys, taken, place_of, without_key}
use Rattle.held.specs.Rings.{Absent, Apart}
use Rattle.dedup.specs.Shares.{contents_by, uses}
use Rattle.dedup.specs.Counting.{PagesAre}

pub pages_are : (page_of : ℕ → List ℕ) (g : ℕ → ℕ) (H : List Holding) → PagesAre page_of (entries_by (λ p. page_of (g p)) H) (contents_by g H)
pages_are page_of g [] = tt
pages_are page_of g (x ∷ H) = (refl, pages_are page_of g H)

pub contents_same : (g h : ℕ → ℕ) (H : List Holding) → AllByRecursion (λ p. g p ≡ h p) (taken H) → contents_by g H ≡ contents_by h H
contents_same g h [] same = refl
contents_same g h (x ∷ H) same = let a = same.0 in let b = contents_same g h H same.1 in cc

pub contents_push : (g : ℕ → ℕ) (H : List Holding) (k p : ℕ) → contents_by g (H ++ record { key = k; place = p } ∷ []) ≡ contents_by g H ++ g p ∷ []
contents_push g H k p = map-append (λ x. g x.place) H _

without_absent : (k : ℕ) (H : List Holding) → Absent k (keys H) → without_key k H ≡ H
without_absent k [] h = refl
without_absent k (x ∷ H) h =
    cond-true (not (x.key == k)) _ _ (not_from_false _ (ne_eqb _ _ h.0)) ∙ ap (λ (R : List Holding). x ∷ R) (without_absent k H h.1)

module _ (g : ℕ → ℕ) (k p j : ℕ) where
  uses_head : (x : Holding) (H : List Holding) → uses j (contents_by g (x ∷ H)) ≡ cond (g x.place == j) 1 0 + uses j (contents_by g H)
  uses_head x H = sum_by-cons (λ c. cond (c == j) 1 0) (g x.place) (contents_by g H)

  less_head : (x : Holding) (H R : List Holding) (b : Bool) (o : Option ℕ) → (x.key == k) ≡ b → cond b (Some x.place) o ≡ Some p
      → (b ≡ true → R ≡ H) → (o ≡ Some p → uses j (contents_by g H) ≡ cond (g p == j) 1 0 + uses j (contents_by g R))
      → uses j (contents_by g (x ∷ H)) ≡ cond (g p == j) 1 0 + uses j (contents_by g (cond (not b) (x ∷ R) R))
  less_head x H R true o t h all more =
      let at : x.place ≡ p = cc in
      uses_head x H ∙ (ap (λ (q : ℕ). cond (g q == j) 1 0 + uses j (contents_by g H)) at ∙ ap (λ (S : List Holding). cond (g p == j) 1 0 + uses j (contents_by g S)) (sym (all refl)))
  less_head x H R false o t h all more = omega (arith, uses_head x H, uses_head x R, more h)

  -- a key's content has one user more than without it
  pub contents_less : (H : List Holding) → Apart (keys H) → place_of k H ≡ Some p
      → uses j (contents_by g H) ≡ cond (g p == j) 1 0 + uses j (contents_by g (without_key k H))
  contents_less [] apart h = let z : ◌≡◌ {A = ℕ} 0 1 = cc in absurd (omega arith)
  contents_less (x ∷ H) apart h =
      less_head x H (without_key k H) (x.key == k) (place_of k H) refl h
      (λ t. without_absent k H (subst (λ (q : ℕ). Absent q (keys H)) (eqb-true _ _ t) apart.0)) (contents_less H apart.1)

-- a key that is not held takes nothing with it
pub without_none : (k : ℕ) (H : List Holding) → place_of k H ≡ None → without_key k H ≡ H
without_none k [] h = refl
without_none k (x ∷ H) h = way (x.key == k) refl h (without_none k H)
  where
    way : (b : Bool) → (x.key == k) ≡ b → cond b (Some x.place) (place_of k H) ≡ None → (place_of k H ≡ None → without_key k H ≡ H)
        → cond (not b) (x ∷ without_key k H) (without_key k H) ≡ x ∷ H
    way true t e more = let z : ◌≡◌ {A = ℕ} 0 1 = cc in absurd (omega arith)
    way false t e more = ap (λ (R : List Holding). x ∷ R) (more e)
