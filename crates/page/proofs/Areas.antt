-- The laws of bytes laid over an area, and of its pages. A size is a variable as long as it can be: at 256 the search goes element by element.
use Rattle.std.proofs.Common.{◌≡◌, ℕ, ◌+◌, ◌-◌, ◌<◌, ◌≤◌, ◌⊎◌, List, length, take, drop, ap, ◌∙◌, inl, inr, arith, rules}
use native.Mathlib.Nat.{add-sub_cancel_left}
use borrow.Rule.Slice.PartMut.{put_mid}
use Rattle.std.proofs.lemmas.List.{places, same_lists, drop-drop, take_at, drop_at, length-take-le, length-drop}
use Rattle.std.proofs.lemmas.Bool.{cases_lt}
use Rattle.page.specs.Memory.{pages_in, start_of, page_at, OthersKept, overlaid, put_page, put_run}

-- what a slice holds once its part from `at` on is `bytes`
pub overlaid_by : (area : List ℕ) (at : ℕ) (bytes part : List ℕ) → part ≡ bytes
    → put_mid at (at + length bytes - at) area part ≡ overlaid area at bytes
unfolding overlaid
overlaid_by area at bytes part e = rw (add-sub_cancel_left at (length bytes), drop-drop (length bytes) at area, e)

-- the part of a slice that is a page
pub page_read : (area : List ℕ) (place start : ℕ) → start ≡ start_of place → take (start + 256 - start) (drop start area) ≡ page_at area place
unfolding page_at
page_read area place start e = rw (add-sub_cancel_left start 256, e)

pub length_page_at : (area : List ℕ) (place : ℕ) → place < pages_in area → length (page_at area place) ≡ 256
unfolding page_at
length_page_at area place exists = length-take-le 256 (drop (start_of place) area) (rw length-drop (omega arith))

module _ (area : List ℕ) (at : ℕ) (bytes : List ℕ) (fits : at + length bytes ≤ length area) where
  pub length_overlaid : length (overlaid area at bytes) ≡ length area
  unfolding overlaid
  length_overlaid = search (rules, places)

  -- the bytes laid over are there
  pub part_laid : (size : ℕ) → length bytes ≡ size → take size (drop at (overlaid area at bytes)) ≡ bytes
  unfolding overlaid
  part_laid size e = ap (take size) (drop_at (take at area) _ at (length-take-le at area (omega arith))) ∙ take_at bytes _ size e

  -- a part that they do not reach is as it was
  pub part_apart : (from size : ℕ) → (from + size ≤ at) ⊎ (at + length bytes ≤ from)
      → take size (drop from (overlaid area at bytes)) ≡ take size (drop from area)
  unfolding overlaid
  part_apart from size away = same_lists _ _ (search (rules, places)) (λ k d h. grind (arith, places))

  -- and so is what stands behind them
  pub rest_apart : (n : ℕ) → at + length bytes ≤ n → drop n (overlaid area at bytes) ≡ drop n area
  unfolding overlaid
  rest_apart n behind = same_lists _ _ (search (rules, places)) (λ k d h. grind (arith, places))

-- a part around them has them as far from its start
pub part_around : (area : List ℕ) (from at : ℕ) (bytes : List ℕ) (size : ℕ) → at + length bytes ≤ size → from + size ≤ length area
    → take size (drop from (overlaid area (from + at) bytes)) ≡ overlaid (take size (drop from area)) at bytes
unfolding overlaid
part_around area from at bytes size within fits = same_lists _ _ (search (rules, places)) (λ k d h. grind (arith, places))

-- bytes laid over one page leave the others as they were
laid_within : (area : List ℕ) (place at : ℕ) (bytes : List ℕ) → place < pages_in area → start_of place ≤ at → at + length bytes ≤ start_of place + 256
    → OthersKept area (overlaid area at bytes) place
unfolding page_at
laid_within area place at bytes exists from to other ne =
    part_apart area at bytes (omega arith) (start_of other) 256 (elim (cases_lt other place) [ inl l ↦ inl (omega arith) | inr g ↦ inr (omega arith) ])

module _ (area : List ℕ) (place : ℕ) (page : List ℕ) (exists : place < pages_in area) (whole : length page ≡ 256) where
  pub length_put_page : length (put_page area place page) ≡ length area
  length_put_page = length_overlaid area (start_of place) page (omega arith)

  pub same_place : page_at (put_page area place page) place ≡ page
  unfolding page_at
  same_place = part_laid area (start_of place) page (omega arith) 256 whole

  pub other_places : OthersKept area (put_page area place page) place
  other_places = laid_within area place (start_of place) page exists (omega arith) (omega arith)

module _ (area : List ℕ) (place at : ℕ) (run : List ℕ) (exists : place < pages_in area) (within : at + length run ≤ 256) where
  pub length_put_run : length (put_run area place at run) ≡ length area
  length_put_run = length_overlaid area (start_of place + at) run (omega arith)

  pub same_place_run : page_at (put_run area place at run) place ≡ overlaid (page_at area place) at run
  unfolding page_at
  same_place_run = part_around area (start_of place) at run 256 within (omega arith)

  pub other_places_run : OthersKept area (put_run area place at run) place
  other_places_run = laid_within area place (start_of place + at) run exists (omega arith) (omega arith)
