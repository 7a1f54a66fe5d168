-- A get, a drop and a put, one after another, move a page.
use Rattle.std.proofs.Common.{◌≡◌, ℕ, ◌^◌, ◌<◌, Bool, true, false, eqb, List, length, is_some, Some, None, Ok, Err, Option, Result, sym, refl, ap, ◌∙◌, inl, inr, arith}
use Rattle.std.proofs.lemmas.Bool.{eq-eqb, false≢true, true≢false}
use Rattle.page.specs.Keys.{ephemeral}
use Rattle.backend.specs.Meaning.{Meaning, Kept}
use Rattle.backend.specs.Moves.{Moved}
use Rattle.backend.specs.Outcomes.{copied, granted_unless}
use Rattle.backend.specs.Rules.{Rules, Valid, held}
use Rattle.backend.specs.declared.refusals.Refusal.{Refusal}

pub some_copied : (o : Option (List ℕ)) (out : List ℕ) → is_some o ≡ true → o ≡ Some (copied o out)
some_copied None out h = absurd (false≢true h)
some_copied (Some p) out h = refl

pub none_found : (o : Option (List ℕ)) → is_some o ≡ false → o ≡ None
none_found None h = refl
none_found (Some p) h = absurd (true≢false h)

pub same_found : (a b : Bool) (r : Result Bool Refusal) → r ≡ Ok a → r ≡ Ok b → a ≡ b
same_found a b r h i = cc

pub granted : (o : Option Refusal) (r : Result Unit Refusal) → r ≡ granted_unless o → r ≡ Ok tt → o ≡ None
granted None r h i = refl
granted (Some e) r h i = let z : ◌≡◌ {A = ℕ} 0 1 = cc in absurd (omega arith)

pub not_granted : (o : Option Refusal) (d : Refusal) (r : Result Unit Refusal) → r ≡ granted_unless o → r ≡ Err d → o ≡ Some d
not_granted None d r h i = let z : ◌≡◌ {A = ℕ} 0 1 = cc in absurd (omega arith)
not_granted (Some e) d r h i = cc

module _ (R : Rules) where
  kept_on : (s t u : List ℕ) (j : ℕ) → Kept R s t j → Kept R t u j → Kept R s u j
  kept_on s t u j (inl a) (inl b) = inl (b ∙ a)
  kept_on s t u j (inr a) (inl b) = inr (a.0, b ∙ a.1)
  kept_on s t u j (inl a) (inr b) = inr b
  kept_on s t u j (inr a) (inr b) = inr b

  kept_none : (s t : List ℕ) (j : ℕ) → Kept R s t j → held R s j ≡ None → held R t j ≡ None
  kept_none s t j (inl a) none = a ∙ none
  kept_none s t j (inr a) none = a.1

  module _ (m : Meaning R) (s : List ℕ) (v : Valid R s) (from to : ℕ) where
    got_none : held R s from ≡ None → (b : Bool) → ephemeral from ≡ b → held R (R.get_next s from) from ≡ None
    got_none none true e = (m.get s from v).ephemeral_gone e
    got_none none false e = (m.get s from v).persistent_kept e ∙ none

    pub missed : held R s from ≡ None → Moved R s (R.get_next s from) from to (Ok false)
    missed none = record {
      arrived = (
        sym (ap (λ (o : Option (List ℕ)). is_some o) none),
        λ h. absurd (false≢true h),
        λ _ e. (m.get s from v).step.others to e,
      );
      left = λ _. got_none none (ephemeral from) refl;
      others = λ j a _. (m.get s from v).step.others j a;
    }

    module _ (page : List ℕ) (was : held R s from ≡ Some page) (fits : to < 2 ^ 32) (whole : length page ≡ 256) where
      abbrev got : List ℕ
      got = R.get_next s from

      abbrev dropped : List ℕ
      dropped = R.drop_page_next got from

      abbrev offered : List ℕ
      offered = R.put_next dropped to page

      got_valid : Valid R got
      got_valid = (m.get s from v).step.valid

      dropped_valid : Valid R dropped
      dropped_valid = (m.drop_page got from got_valid).step.valid

      left_behind : eqb from to ≡ false → held R offered from ≡ None
      left_behind e =
          kept_none dropped offered from ((m.put dropped to page dropped_valid fits whole).step.others from e)
          ((m.drop_page got from got_valid).gone from (eq-eqb from from refl))

      others_kept : (j : ℕ) → eqb j from ≡ false → eqb j to ≡ false → Kept R s offered j
      others_kept j a b =
          kept_on s dropped offered j
          (kept_on s got dropped j ((m.get s from v).step.others j a) ((m.drop_page got from got_valid).step.others j a))
          ((m.put dropped to page dropped_valid fits whole).step.others j b)

      pub arrives : R.put_refusal dropped to page ≡ None → Moved R s offered from to (Ok true)
      arrives e = record {
        arrived = (
          sym (ap (λ (o : Option (List ℕ)). is_some o) was),
          λ _. (m.put dropped to page dropped_valid fits whole).accepted e ∙ sym was,
          λ h. absurd (true≢false h),
        );
        left = left_behind;
        others = others_kept;
      }

      pub is_refused : (d : Refusal) → R.put_refusal dropped to page ≡ Some d → Moved R s offered from to (Err d)
      is_refused d e =
          let r = (m.put dropped to page dropped_valid fits whole).refused d e in
          record {
            arrived = (ap (λ (o : Option (List ℕ)). is_some o) was, r.0, r.1);
            left = left_behind;
            others = others_kept;
          }
