-- What an access keeps.
use Rattle.std.proofs.Common.{◌≡◌, ℕ, zero, suc, ◌<◌, ◌≤◌, true, false, eqb, List, [], ◌∷◌, length, get_or, Some, None, Option, sym, refl, ap, ◌∙◌, subst, inl, inr, arith, get_or-set_other, get_or-set_same}
use Rattle.std.proofs.lemmas.List.{length-set}
use Rattle.std.proofs.lemmas.Bool.{and_parts, cases_Bool, cases_eq, cond-true, cond-false, eqb-true}
use Rattle.std.proofs.lemmas.Bool.Decides.{nat_tests}
use Rattle.frames.specs.declared.pages.Page.{Page}
use Rattle.frames.specs.declared.pages.Page.TheVariants.{File, Anonymous}
use Rattle.frames.specs.Clock.{Clock, access, evictee, find, given, hit, holds, later, refilled, swept, taken}
use Rattle.frames.specs.Law.{Accessed, SoundClock, page_at}
use Rattle.frames.specs.Pages.{same_page}
use Rattle.frames.specs.Turn.{Turn, frames_on}
use Rattle.frames.proofs.Found.{later_some}
use Rattle.frames.proofs.Turns.{clock_turn, next_below}

-- two pages are the same where the test says so

pub same_is : (p q : Page) → same_page p q ≡ true → p ≡ q
same_is (File o i) (File x j) e = let a = and_parts (eqb o x) (eqb i j) e in let b = eqb-true o x a.0 in let d = eqb-true i j a.1 in cc
same_is (File o i) (Anonymous j) e = absurd (let z : ◌≡◌ {A = ℕ} 0 1 = cc in omega arith)
same_is (Anonymous i) (File x j) e = absurd (let z : ◌≡◌ {A = ℕ} 0 1 = cc in omega arith)
same_is (Anonymous i) (Anonymous j) e = ap Anonymous (eqb-true i j e)

pub same_self : (p : Page) → same_page p p ≡ true
same_self (File o i) = grind (arith, nat_tests)
same_self (Anonymous i) = grind (arith, nat_tests)

-- a page that is found is in that frame, and one that is not found is in none

pub found_at : (p : Page) (xs : List (Option Page)) (i : ℕ) → find p xs ≡ Some i → get_or xs i None ≡ Some p
unfolding find
found_at p [] i e = absurd (let z : ◌≡◌ {A = ℕ} 0 1 = cc in omega arith)
found_at p (x ∷ xs) i e =
    elim (cases_Bool (holds p x)) [
      | inl h ↦
          let at : i ≡ 0 = let a = cond-true (holds p x) (Some 0) (later (find p xs)) h in cc in
          ap (λ (n : ℕ). get_or (x ∷ xs) n None) at ∙ held_page x h
      | inr h ↦
          let l = later_some (find p xs) i (sym (cond-false (holds p x) (Some 0) (later (find p xs)) h) ∙ e) in
          ap (λ (n : ℕ). get_or (x ∷ xs) n None) l.2 ∙ found_at p xs l.0 l.1
    ]
  where
    held_page : (x : Option Page) → holds p x ≡ true → x ≡ Some p
    held_page None e = absurd (let z : ◌≡◌ {A = ℕ} 0 1 = cc in omega arith)
    held_page (Some q) e = ap Some (sym (same_is p q e))

pub not_found : (p : Page) (xs : List (Option Page)) (i : ℕ) → find p xs ≡ None → get_or xs i None ≡ Some p → ⊥
unfolding find
not_found p [] i e h = let z : ◌≡◌ {A = ℕ} 0 1 = cc in omega arith
not_found p (x ∷ xs) zero e h =
    let t : holds p x ≡ true = ap (holds p) h ∙ same_self p in
    let a = cond-true (holds p x) (Some 0) (later (find p xs)) t in
    let z : ◌≡◌ {A = ℕ} 0 1 = cc in omega arith
not_found p (x ∷ xs) (suc i) e h =
    elim (cases_Bool (holds p x)) [
      | inl t ↦ let a = cond-true (holds p x) (Some 0) (later (find p xs)) t in let z : ◌≡◌ {A = ℕ} 0 1 = cc in omega arith
      | inr f ↦ not_found p xs i (no_later (find p xs) (sym (cond-false (holds p x) (Some 0) (later (find p xs)) f) ∙ e)) h
    ]
  where
    no_later : (o : Option ℕ) → later o ≡ None → o ≡ None
    no_later None e = refl
    no_later (Some j) e = absurd (let z : ◌≡◌ {A = ℕ} 0 1 = cc in omega arith)

-- a frame that holds a page is one of the frames
pub within : (xs : List (Option Page)) (i : ℕ) (p : Page) → get_or xs i None ≡ Some p → i < length xs
within [] i p e = absurd (let z : ◌≡◌ {A = ℕ} 0 1 = cc in omega arith)
within (x ∷ xs) zero p e = omega arith
within (x ∷ xs) (suc i) p e = let l = within xs i p e in omega arith

-- the frame that is taken is one of the frames

on_within : (n hand k : ℕ) → hand < n → k ≤ n → frames_on n hand k < n
on_within n hand k h l = grind (arith, nat_tests)

module _ (c : Clock) (p : Page) (n : ℕ) (s : SoundClock n c) where
  hit_case : (i : ℕ) → find p c.pages ≡ Some i → Accessed c (hit c i) None p
  hit_case i e =
      let at = found_at p c.pages i e in
      let l : i < length c.marks = omega (arith, within c.pages i p at, s.frames, s.marks) in
      record {
        frame = i;
        there = at;
        marked = get_or-set_same c.marks i true false l;
        stays = λ j q h _. h;
        gone = λ j q e _. let z : ◌≡◌ {A = ℕ} 0 1 = cc in omega arith;
        came = λ j q h _. h;
      }

  hit_sound : (i : ℕ) → SoundClock n (hit c i)
  hit_sound i = record { frames = s.frames; marks = length-set c.marks i true ∙ s.marks; hand = s.hand; once = s.once }

  module _ (some : 0 < n) where
    the_turn : Turn c.pages c.marks (swept c) c.hand (taken c)
    the_turn = clock_turn c (s.frames ∙ sym s.marks) (let a = s.frames in let b = s.hand in omega arith)

    taken_within : taken c < length c.pages
    taken_within =
        let t = the_turn.passing in
        subst (λ (x : ℕ). x < length c.pages) (sym t.arrives)
        (on_within (length c.pages) c.hand the_turn.over (let a = s.frames in let b = s.hand in omega arith) t.at_most_round)

    swept_long : length (swept c) ≡ n
    swept_long = the_turn.passing.same_length ∙ s.marks

    module _ (none : find p c.pages ≡ None) where
      at_taken : page_at (refilled c (Some p)) (taken c) ≡ Some p
      at_taken = get_or-set_same c.pages (taken c) (Some p) None taken_within

      elsewhere : (i : ℕ) → (i ≡ taken c → ⊥) → page_at (refilled c (Some p)) i ≡ page_at c i
      elsewhere i ne = get_or-set_other c.pages (taken c) i (Some p) None ne

      -- what stands in the taken frame is p
      is_p : (i : ℕ) (q : Page) → i ≡ taken c → page_at (refilled c (Some p)) i ≡ Some q → q ≡ p
      is_p i q at h = let e = sym h ∙ ap (page_at (refilled c (Some p))) at ∙ at_taken in cc

      fault_case : Accessed c (refilled c (Some p)) (page_at c (taken c)) p
      fault_case = record {
        frame = taken c;
        there = at_taken;
        marked = get_or-set_same (swept c) (taken c) true false (let a = taken_within in let b = swept_long in let d = s.frames in omega arith);
        stays = λ i q h keeps. elim (cases_eq i (taken c)) [
          | inl at ↦ absurd (keeps (sym (ap (page_at c) at) ∙ h))
          | inr ne ↦ elsewhere i ne ∙ h
        ];
        gone = λ i q was h. elim (cases_eq i (taken c)) [
          | inl at ↦ not_found p c.pages (taken c) none (was ∙ ap Some (is_p i q at h))
          | inr ne ↦ ne (s.once i (taken c) q (sym (elsewhere i ne) ∙ h) was)
        ];
        came = λ i q h ne'. elim (cases_eq i (taken c)) [
          | inl at ↦ absurd (ne' (is_p i q at h))
          | inr ne ↦ sym (elsewhere i ne) ∙ h
        ];
      }

      fault_sound : SoundClock n (refilled c (Some p))
      fault_sound = record {
        frames = length-set c.pages (taken c) (Some p) ∙ s.frames;
        marks = length-set (swept c) (taken c) true ∙ swept_long;
        hand = let b = next_below (length c.pages) (taken c) in let a = s.frames in omega arith;
        once = λ i j q hi hj. elim (cases_eq i (taken c)) [
          | inl ai ↦ elim (cases_eq j (taken c)) [
            | inl aj ↦ ai ∙ sym aj
            | inr nj ↦ absurd (not_found p c.pages j none (sym (elsewhere j nj) ∙ hj ∙ ap Some (is_p i q ai hi)))
          ]
          | inr ni ↦ elim (cases_eq j (taken c)) [
            | inl aj ↦ absurd (not_found p c.pages i none (sym (elsewhere i ni) ∙ hi ∙ ap Some (is_p j q aj hj)))
            | inr nj ↦ s.once i j q (sym (elsewhere i ni) ∙ hi) (sym (elsewhere j nj) ∙ hj)
          ]
        ];
      }

  pub accessed : 0 < n → Accessed c (access c p) (evictee c p) p
  accessed some = go (find p c.pages) refl
    where
      go : (o : Option ℕ) → find p c.pages ≡ o → Accessed c (given o (hit c) (refilled c (Some p))) (given {B = Option Page} o (λ i. None) (page_at c (taken c))) p
      go None e = fault_case some e
      go (Some i) e = hit_case i e

  pub access_sound : 0 < n → SoundClock n (access c p)
  access_sound some = go (find p c.pages) refl
    where
      go : (o : Option ℕ) → find p c.pages ≡ o → SoundClock n (given o (hit c) (refilled c (Some p)))
      go None e = fault_sound some e
      go (Some i) e = hit_sound i
