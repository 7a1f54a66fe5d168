-- The first frame that holds a page.
use Rattle.std.proofs.Common.{◌≡◌, ℕ, suc, ◌+◌, true, List, [], ◌∷◌, get_or, Some, None, Option, sym, refl, ap, ◌∙◌, inl, inr, arith}
use Rattle.std.proofs.lemmas.Bool.{cases_Bool, cond-true, cond-false}
use Rattle.std.specs.List.{position, position_from}
use Rattle.std.proofs.lemmas.Iterator.Adapters.{position_from-zero}
use Rattle.frames.specs.declared.pages.Page.{Page}
use Rattle.frames.specs.declared.states.Frame.{Frame}
use Rattle.frames.specs.Clock.{filled, find, holds, later}
use Rattle.frames.specs.Held.{pages_in}
use Rattle.frames.specs.States.{held}

-- the library's search for the first frame that holds the page is that of the rule

counted_on : ℕ → Option ℕ → Option ℕ
counted_on i None = None
counted_on i (Some k) = Some (i + k)

counted_later : (i : ℕ) (o : Option ℕ) → counted_on (i + 1) o ≡ counted_on i (later o)
unfolding counted_on
counted_later i None = refl
counted_later i (Some k) = ap Some (omega arith)

counted_none : (o : Option ℕ) → counted_on 0 o ≡ o
unfolding counted_on
counted_none None = refl
counted_none (Some k) = ap Some (omega arith)

found_from : (p : Page) (fs : List Frame) (i : ℕ) → position_from (λ f. holds p (held f)) i fs ≡ counted_on i (find p (pages_in fs))
unfolding counted_on find
found_from p [] i = refl
found_from p (f ∷ fs) i =
    let later_on = found_from p fs (i + 1) ∙ counted_later i (find p (pages_in fs)) in
    elim (cases_Bool (holds p (held f))) [ inl h ↦ rw h (ap Some (omega arith)) | inr h ↦ rw h later_on ]

pub find_is : (p : Page) (fs : List Frame) → position (λ f. holds p (held f)) fs ≡ find p (pages_in fs)
find_is p fs = position_from-zero (λ f. holds p (held f)) fs ∙ found_from p fs 0 ∙ counted_none (find p (pages_in fs))

-- a page is found in a frame that is filled

is_filled : (p : Page) (x : Option Page) → holds p x ≡ true → filled x ≡ true
is_filled p None e = e
is_filled p (Some q) e = refl

pub later_some : (o : Option ℕ) (i : ℕ) → later o ≡ Some i → (j : ℕ) × (o ≡ Some j) × (i ≡ suc j)
later_some None i e = absurd (let z : ◌≡◌ {A = ℕ} 0 1 = cc in omega arith)
later_some (Some j) i e = (j, refl, cc)

pub found_filled : (p : Page) (xs : List (Option Page)) (i : ℕ) → find p xs ≡ Some i → filled (get_or xs i None) ≡ true
unfolding find
found_filled p [] i e = absurd (let z : ◌≡◌ {A = ℕ} 0 1 = cc in omega arith)
found_filled p (x ∷ xs) i e =
    elim (cases_Bool (holds p x)) [
      | inl h ↦
          let at : i ≡ 0 = let a = cond-true (holds p x) (Some 0) (later (find p xs)) h in cc in
          ap (λ (n : ℕ). filled (get_or (x ∷ xs) n None)) at ∙ is_filled p x h
      | inr h ↦
          let l = later_some (find p xs) i (sym (cond-false (holds p x) (Some 0) (later (find p xs)) h) ∙ e) in
          ap (λ (n : ℕ). filled (get_or (x ∷ xs) n None)) l.2 ∙ found_filled p xs l.0 l.1
    ]
