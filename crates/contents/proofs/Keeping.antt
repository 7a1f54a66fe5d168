-- What keeps contents whole.
use Rattle.std.proofs.Common.{◌≡◌, ℕ, ◌+◌, ◌-◌, ◌<◌, ◌≤◌, ◌⊎◌, List, length, get_or, set, replicate, cond, is_ok, Ok, Result, sym, ap, ◌∙◌, inl, inr, arith}
use Rattle.std.proofs.lemmas.List.{length-set, length-replicate, get_or-set_same, get_or-set_other, get_or-replicate}
use Rattle.std.proofs.lemmas.Bool.{cases_eq}
use Rattle.std.proofs.lemmas.Bool.Decides.{nat_tests}
use Rattle.page.specs.Memory.{outcome, pages_in, page_at, put_page, whole_page}
use Rattle.page.proofs.Areas.{length_put_page, same_place, other_places}
use Rattle.page.specs.declared.memory.PageRefusal.{PageRefusal}
use Rattle.contents.specs.Calls.{Absent}
use Rattle.contents.specs.Fingerprint.{fingerprint_of}
use Rattle.contents.specs.Records.{in_use_in}
use Rattle.contents.specs.Whole.{Printed, Apart, Whole}
use Rattle.contents.proofs.InUse.{used_within, in_use_stored, in_use_shared, in_use_freed, in_use_none}

-- other counts, where what is in use then was in use
recounted : {us fs area : List ℕ} {count : ℕ} → Whole us fs area count → (us' : List ℕ) → length us' ≡ length us
    → ((k : ℕ) → 1 ≤ get_or us' k 0 → 1 ≤ get_or us k 0) → (count' : ℕ) → count' ≡ in_use_in us' → Whole us' fs area count'
recounted w us' long was count' counted = record {
  few = rw long w.few;
  paged = rw long w.paged;
  level = w.level ∙ sym long;
  counted = counted;
  printed = λ i used. w.printed i (was i used);
  apart = λ i j ui uj same. w.apart i j (was i ui) (was j uj) same;
}

module _ {us fs area : List ℕ} {count : ℕ} (w : Whole us fs area count) (i : ℕ) (used : 1 ≤ get_or us i 0) where
  was_used : (v k : ℕ) → 1 ≤ get_or (set us i v) k 0 → 1 ≤ get_or us k 0
  was_used v k h = elim (cases_eq k i) [ inl e ↦ rw e used | inr ne ↦ rw (get_or-set_other us i k v 0 ne) at h ]

  -- a content in use keeps users
  pub whole_shared : (v : ℕ) → 1 ≤ v → Whole (set us i v) fs area count
  whole_shared v more = recounted w (set us i v) (length-set us i v) (was_used v) count (w.counted ∙ sym (in_use_shared us i v used (used_within us i used) more))

  -- it loses its last user
  pub whole_freed : (v : ℕ) → v ≡ 0 → Whole (set us i v) fs area (count - 1)
  whole_freed v none = recounted w (set us i v) (length-set us i v) (was_used v) (count - 1) (let e = in_use_freed us i (used_within us i used) used in let n = w.counted in rw none (omega arith))

-- contents of which none is in use
pub whole_none : (n : ℕ) (fs area : List ℕ) → n ≤ 4096 → n ≤ pages_in area → length fs ≡ n → Whole (replicate n 0) fs area 0
whole_none n fs area few paged level =
    let none : ℕ = 0 in
    let long = length-replicate n none in
    let free : (i : ℕ) → 1 ≤ get_or (replicate n 0) i 0 → ⊥ = λ i used. (let l = used_within (replicate n 0) i used in let z = get_or-replicate n i none none (omega arith) in omega arith) in
    record {
      few = rw long few;
      paged = rw long paged;
      level = level ∙ sym long;
      counted = sym (in_use_none n);
      printed = λ i used. absurd (free i used);
      apart = λ i j ui uj same. absurd (free i ui);
    }

-- page memory takes a whole page at a place that it has
module _ (area : List ℕ) (place : ℕ) (page : List ℕ) (exists : place < pages_in area) (whole : length page ≡ 256) (answer : Result Unit PageRefusal)
    (is : answer ≡ outcome area place (whole_page (length page))) where
  pub taken_in : answer ≡ Ok tt
  taken_in = is ∙ fits
    where
      fits : outcome area place (whole_page (length page)) ≡ Ok tt
      fits = grind (arith, nat_tests)

  pub laid_in : (after : List ℕ) → after ≡ cond (is_ok answer) (put_page area place page) area → after ≡ put_page area place page
  laid_in after e = rw taken_in at e

module _ {us fs area : List ℕ} {count : ℕ} (w : Whole us fs area count) (page : List ℕ) (i : ℕ) (l : i < length us) (free : get_or us i 0 ≡ 0)
    (absent : Absent us area page) (whole : length page ≡ 256) where
  exists : i < pages_in area
  exists = let p = w.paged in omega arith

  -- a page in use lies elsewhere
  elsewhere : (k : ℕ) → 1 ≤ get_or us k 0 → page_at (put_page area i page) k ≡ page_at area k
  elsewhere k used = other_places area i page exists whole k (λ e. let z : get_or us k 0 ≡ 0 = rw e free in omega arith)

  after : (k : ℕ) → 1 ≤ get_or (set us i 1) k 0 → (k ≡ i) ⊎ (1 ≤ get_or us k 0)
  after k h = elim (cases_eq k i) [ inl e ↦ inl e | inr ne ↦ inr (rw (get_or-set_other us i k 1 0 ne) at h) ]

  new_apart : (k : ℕ) → 1 ≤ get_or us k 0 → page_at (put_page area i page) k ≡ page → ⊥
  new_apart k used e = absent k (record { within = used_within us k used; used = used; same = sym (elsewhere k used) ∙ e })

  printed_after : Printed (set us i 1) (set fs i (fingerprint_of page)) (put_page area i page)
  printed_after k h =
      elim (after k h) [
        | inl e ↦ rw e (get_or-set_same fs i (fingerprint_of page) 0 (let v = w.level in omega arith) ∙ ap fingerprint_of (sym (same_place area i page exists whole)))
        | inr used ↦ (let ne : k ≡ i → ⊥ = λ e. (let z : get_or us k 0 ≡ 0 = rw e free in omega arith) in get_or-set_other fs i k (fingerprint_of page) 0 ne ∙ w.printed k used ∙ ap fingerprint_of (sym (elsewhere k used)))
      ]

  apart_after : Apart (set us i 1) (put_page area i page)
  apart_after j k hj hk same =
      elim (after j hj) [
        | inl ej ↦ elim (after k hk) [
          | inl ek ↦ ej ∙ sym ek
          | inr uk ↦ absurd (new_apart k uk (sym same ∙ ap (page_at (put_page area i page)) ej ∙ same_place area i page exists whole))
        ]
        | inr uj ↦ elim (after k hk) [
          | inl ek ↦ absurd (new_apart j uj (same ∙ ap (page_at (put_page area i page)) ek ∙ same_place area i page exists whole))
          | inr uk ↦ w.apart j k uj uk (sym (elsewhere j uj) ∙ same ∙ elsewhere k uk)
        ]
      ]

  -- a new page becomes a content that was free
  pub whole_stored : Whole (set us i 1) (set fs i (fingerprint_of page)) (put_page area i page) (count + 1)
  whole_stored =
      let long = length-set us i 1 in
      record {
        few = rw long w.few;
        paged = rw (long, length_put_page area i page exists whole) w.paged;
        level = length-set fs i (fingerprint_of page) ∙ w.level ∙ sym long;
        counted = let n = w.counted in let s = in_use_stored us i l free in omega arith;
        printed = printed_after;
        apart = apart_after;
      }
