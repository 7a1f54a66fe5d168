-- Pages that are equal.
use Rattle.std.specs.Prelude.{◌≡◌, ℕ, Bool, true, false, List, [], ◌∷◌, ◌==◌, ◌≢◌, refl}
use Rattle.std.proofs.Common.{sym, ap, ◌∙◌}
use Rattle.std.proofs.lemmas.Bool.{and_parts, and_from, eqb-true, eq-eqb, false≢true}
use Rattle.dedup.specs.Different.{same_page}

pub equal_pages : (xs ys : List ℕ) → same_page xs ys ≡ true → xs ≡ ys
unfolding same_page
equal_pages [] [] h = refl
equal_pages [] (y ∷ ys) h = absurd (false≢true h)
equal_pages (x ∷ xs) [] h = absurd (false≢true h)
equal_pages (x ∷ xs) (y ∷ ys) h =
    let p = and_parts (x == y) (same_page xs ys) h in
    let heads = eqb-true x y p.0 in
    let tails = equal_pages xs ys p.1 in
    cc

pub page_itself : (xs : List ℕ) → same_page xs xs ≡ true
unfolding same_page
page_itself [] = refl
page_itself (x ∷ xs) = and_from _ _ (eq-eqb x x refl) (page_itself xs)

pub same_pages : (xs ys : List ℕ) → xs ≡ ys → same_page xs ys ≡ true
same_pages xs ys h = ap (same_page xs) (sym h) ∙ page_itself xs

different_head : (xs ys : List ℕ) (b : Bool) → same_page xs ys ≡ b → (xs ≢ ys) → same_page xs ys ≡ false
different_head xs ys true e h = absurd (h (equal_pages xs ys e))
different_head xs ys false e h = e

pub other_pages : (xs ys : List ℕ) → (xs ≢ ys) → same_page xs ys ≡ false
other_pages xs ys h = different_head xs ys (same_page xs ys) refl h
