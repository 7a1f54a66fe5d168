-- What the answers of a page that is taken up say of the area.
use Rattle.std.proofs.Common.{◌≡◌, ℕ, ◌<◌, ◌≤◌, List, length, get_or, Some, None, Option, sym, ap, ◌∙◌, inr, arith}
use Rattle.std.proofs.lemmas.List.{length-set}
use Rattle.page.specs.Memory.{pages_in, page_at}
use Rattle.page.proofs.Areas.{length_put_page, same_place, other_places}
use Rattle.contents.specs.Calls.{Absent, Stored, Refused, Acquired, LaidDown}

-- what a caller of `acquire` learns beside which case it is
pub record Told (users area page : List ℕ) (r : Option ℕ) (users_after area_after : List ℕ) : Type 0 where
  pub outcome : Acquired users area page r users_after area_after
  pub same_size : length users_after ≡ length users
  pub same_length : length area_after ≡ length area
  pub holds : (i : ℕ) → r ≡ Some i → page_at area_after i ≡ page
  pub others : (j : ℕ) → 1 ≤ get_or users j 0 → page_at area_after j ≡ page_at area j

module _ (users area page : List ℕ) (paged : length users ≤ pages_in area) where
  told_none : (users_after area_after : List ℕ) → users_after ≡ users → area_after ≡ area → Refused users area page → Told users area page None users_after area_after
  told_none users_after area_after u a why = record {
    outcome = (u, a, why);
    same_size = ap length u;
    same_length = ap length a;
    holds = λ i e. absurd (let z : ◌≡◌ {A = ℕ} 0 1 = cc in omega arith);
    others = λ j _. ap (λ x. page_at x j) a;
  }

  told_stored : (i : ℕ) (users_after area_after : List ℕ) → length page ≡ 256 → Stored users area page i users_after area_after → Told users area page (Some i) users_after area_after
  told_stored i users_after area_after whole s =
      let exists : i < pages_in area = let l = s.within in omega arith in
      record {
        outcome = (whole, inr s);
        same_size = ap length s.users_now ∙ length-set users i 1;
        same_length = ap length s.area_now ∙ length_put_page area i page exists whole;
        holds = λ k e. (let same : i ≡ k = cc in ap (page_at area_after) (sym same) ∙ ap (λ x. page_at x i) s.area_now ∙ same_place area i page exists whole);
        others = λ j used. ap (λ x. page_at x j) s.area_now ∙ other_places area i page exists whole j (λ e. let z : get_or users j 0 ≡ 0 = rw e s.free in omega arith);
      }

  -- a page that is not there
  pub told_absent : Absent users area page → length page ≡ 256 → (r : Option ℕ) (users_after area_after : List ℕ)
      → LaidDown users area page r users_after area_after → Told users area page r users_after area_after
  told_absent absent whole (Some i) users_after area_after s = told_stored i users_after area_after whole s
  told_absent absent whole None users_after area_after full = told_none users_after area_after full.1 full.2 (inr (inr (absent, full.0)))
