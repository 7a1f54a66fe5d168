-- What the searches for a page and for a free content find.
use Rattle.std.proofs.Common.{◌≡◌, ℕ, ◌<◌, ◌≤◌, List, length, get_or, vec_items, MatchOption, Some, None, Option, sym, ap, ◌∙◌, zero-add, arith}
use Rattle.std.specs.List.{AllWithin, HoldsAt, range_with_len}
use Rattle.std.proofs.lemmas.List.FromFn.{get_or-range_with_len, length-range_with_len}
use Rattle.contents.specs.declared.records.ContentRecord.{ContentRecord}
use Rattle.contents.specs.declared.store.Contents.{Contents}
use Rattle.page.specs.Memory.{page_at}
use Rattle.contents.specs.Calls.{Found, Holds}
use Rattle.contents.specs.Fingerprint.{fingerprint_of}
use Rattle.contents.specs.Records.{users_in}
use Rattle.contents.specs.View.{contents_area, fingerprints_of, users_of}
use Rattle.contents.proofs.Columns.{blank, fingerprints_read, length_users, users_read}
use Rattle.contents.proofs.Facts.{whole_of}
use Rattle.contents.proofs.Prints.{print_tells}

pub free_found : (rs : List ContentRecord) (r : Option ℕ)
    → MatchOption r (AllWithin (λ (x : ContentRecord). 1 ≤ x.users) rs 0 (length rs)) (λ i. (i < length rs) × HoldsAt (λ (x : ContentRecord). x.users ≡ 0) rs i × AllWithin (λ (x : ContentRecord). 1 ≤ x.users) rs 0 i)
    → MatchOption r ((k : ℕ) → k < length (users_in rs) → 1 ≤ get_or (users_in rs) k 0) (λ i. (i < length (users_in rs)) × (get_or (users_in rs) i 0 ≡ 0))
free_found rs None all = λ k h.
    let l : k < length rs = omega (arith, length_users rs) in
    let used = all k blank (omega arith) l in
    omega (arith, users_read rs k blank l)
free_found rs (Some i) f = (omega (arith, f.0, length_users rs), users_read rs i blank f.0 ∙ f.1 blank)

-- the content i has this record
module _ (contents : Contents) (page : List ℕ) (i : ℕ) (r : ContentRecord) (l : i < length (vec_items contents.records)) (at : r ≡ get_or (vec_items contents.records) i r) where
  users_there : get_or (users_of contents) i 0 ≡ r.users
  users_there = users_read (vec_items contents.records) i r l ∙ ap (λ (x : ContentRecord). x.users) (sym at)

  pub holds_when : (r.users ≡ 0 → ⊥) → page_at (contents_area contents) i ≡ page → Holds (users_of contents) (contents_area contents) page i
  holds_when used same = record {
    within = omega (arith, length_users (vec_items contents.records));
    used = let u = users_there in omega arith;
    same = same;
  }

  pub used_when : Holds (users_of contents) (contents_area contents) page i → r.users ≡ 0 → ⊥
  used_when holds none = let u = users_there in omega (arith, holds.used)

  pub printed_when : Holds (users_of contents) (contents_area contents) page i → r.fingerprint ≡ fingerprint_of page
  printed_when holds =
      ap (λ (x : ContentRecord). x.fingerprint) at
      ∙ sym (fingerprints_read (vec_items contents.records) i r l)
      ∙ print_tells (users_of contents) (fingerprints_of contents) (contents_area contents) page i (whole_of contents).printed holds

pub page_found : (users area page : List ℕ) (n : ℕ) (r : Option ℕ) → length users ≡ n
    → MatchOption r (AllWithin (λ i. Holds users area page i → ⊥) (range_with_len 0 n) 0 (length (range_with_len 0 n))) (λ i. Holds users area page i × (k : ℕ) × (k < length (range_with_len 0 n)) × HoldsAt (λ y. y ≡ i) (range_with_len 0 n) k × AllWithin (λ i. Holds users area page i → ⊥) (range_with_len 0 n) 0 k)
    → Found users area page r
page_found users area page n None long none = λ i holds.
    let l : i < n = omega (arith, holds.within) in
    none i 0 (omega arith) (omega (arith, length-range_with_len 0 n)) (rw (get_or-range_with_len 0 n i 0 l, zero-add) holds)
page_found users area page n (Some i) long found = found.0
