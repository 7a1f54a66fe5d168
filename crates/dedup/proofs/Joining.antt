-- Pages that join and leave the deduplicating store.
use Rattle.std.proofs.Common.{◌≡◌, ℕ, ◌+◌, ◌-◌, ◌<◌, ◌≤◌, true, false, not, eqb, ◌⊎◌, List, [], ◌∷◌, ◌++◌, length, get_or, drop, set, Some, None, sym, refl, ap, ◌∙◌, inl, inr, arith}
use Rattle.std.proofs.lemmas.List.Elements.{filter-append}
use Rattle.std.proofs.ByRecursion.{All-weaker}
use Rattle.std.proofs.lemmas.List.{append-nil, get_or-set_same, get_or-set_other}
use Rattle.std.proofs.lemmas.Bool.{cond-false, eq-eqb, not_from_true}
use Rattle.std.specs.List.{AllByRecursion}
use Rattle.page.specs.Memory.{pages_in, start_of, page_at}
use Rattle.page.proofs.Areas.{rest_apart}
use Rattle.backend.specs.Rules.{Entry}
use Rattle.contents.specs.Calls.{Shared, Stored, Refused}
use Rattle.held.specs.Entries.{entries_by}
use Rattle.held.specs.Holdings.{Holding, keys, taken, place_of, without_key}
use Rattle.held.specs.Rings.{Absent, Apart}
use Rattle.held.proofs.Entries.{push_entries, same_entries}
use Rattle.dedup.specs.Different.{dedup_lack}
use Rattle.dedup.specs.Shares.{contents_by, uses}
use Rattle.dedup.specs.Counting.{Counted, OneEach, counted_push, counted_less}
use Rattle.dedup.specs.Kept.{users_of_taken, few_users, holds_held, absent_not_held, lacks_contents, has_equal, has_content}
use Rattle.dedup.specs.SharesLemmas.{contents_same, contents_push, contents_less, without_none}

-- a key that was pushed and taken out again
pub without_pushed : (k p : ℕ) (H : List Holding) → place_of k H ≡ None → without_key k (H ++ record { key = k; place = p } ∷ []) ≡ H
without_pushed k p H none =
    filter-append (λ x. not (eqb x.key k)) H _
    ∙ (ap (λ (R : List Holding). without_key k H ++ R) (cond-false (not (eqb k k)) _ _ (not_from_true _ (eq-eqb k k refl)))
    ∙ (append-nil (without_key k H) ∙ without_none k H none))

all_two : (P Q R : ℕ → Type 0) → ((x : ℕ) → P x → Q x → R x) → (xs : List ℕ) → AllByRecursion P xs → AllByRecursion Q xs → AllByRecursion R xs
all_two P Q R both [] p q = tt
all_two P Q R both (x ∷ xs) p q = (both x p.0 q.0, all_two P Q R both xs p.1 q.1)

pub fixed_same : (size n size_after n_after : ℕ) (area area_after : List ℕ) → size_after ≡ size → n_after ≡ n → drop (start_of n) area_after ≡ drop (start_of n) area
    → ◌≡◌ {A = List ℕ} (size_after ∷ n_after ∷ drop (start_of n_after) area_after) (size ∷ n ∷ drop (start_of n) area)
fixed_same size n size_after n_after area area_after s m behind =
    ap (λ (i : ℕ). i ∷ n_after ∷ drop (start_of n_after) area_after) s
    ∙ (ap (λ (i : ℕ). size ∷ i ∷ drop (start_of i) area_after) m ∙ ap (λ (bytes : List ℕ). size ∷ n ∷ bytes) behind)

module _ (users area noted : List ℕ) (H : List Holding) (counted : Counted users (contents_by (λ q. get_or noted q 0) H)) (each : OneEach users (page_at area)) where
  abbrev held : List Entry
  held = entries_by (λ q. page_at area (get_or noted q 0)) H

  -- a page that found no content lacks a place
  pub refused_lacks : (fixed : List ℕ) (page : List ℕ) → get_or fixed 1 0 ≡ length users → length page ≡ 256 → length H ≤ 4096
      → Refused users area page → dedup_lack fixed held page ≡ true
  refused_lacks fixed page second whole few (inl ne) = absurd (ne whole)
  refused_lacks fixed page second whole few (inr (inl full)) =
      absurd (omega (arith, full.1.1, few_users users area (λ q. get_or noted q 0) H counted each full.0))
  refused_lacks fixed page second whole few (inr (inr none)) =
      lacks_contents users area (λ q. get_or noted q 0) H counted each fixed (get_or fixed 0 0) page refl second
      (absent_not_held users area (λ q. get_or noted q 0) H counted each page none.0) (omega (arith, none.1))

  module _ (k p i : ℕ) (page users_after area_after : List ℕ) (fresh : Absent p (taken H)) (within : p < length noted)
      (taken_up : Shared users area page i users_after area_after ⊎ Stored users area page i users_after area_after) where
    abbrev noted_after : ℕ → ℕ
    noted_after q = get_or (set noted p i) q 0

    content_within : i < length users
    content_within = elim taken_up [ inl s ↦ s.holds.within | inr s ↦ s.within ]

    users_now_are : users_after ≡ set users i (get_or users i 0 + 1)
    users_now_are = elim taken_up [ inl s ↦ s.users_now | inr s ↦ s.users_now ∙ ap (λ (n : ℕ). set users i (n + 1)) (sym s.free) ]

    noted_here : noted_after p ≡ i
    noted_here = get_or-set_same noted p i 0 within

    noted_elsewhere : AllByRecursion (λ q. noted_after q ≡ get_or noted q 0) (taken H)
    noted_elsewhere = All-weaker (λ q. q ≡ p → ⊥) (λ q. noted_after q ≡ get_or noted q 0) (λ q ne. get_or-set_other noted p q i 0 ne) (taken H) fresh

    pub joined_counted : Counted users_after (contents_by noted_after (H ++ record { key = k; place = p } ∷ []))
    joined_counted =
        let cs = contents_by (λ q. get_or noted q 0) H in
        let now : contents_by noted_after (H ++ record { key = k; place = p } ∷ []) ≡ cs ++ i ∷ [] =
        contents_push noted_after H k p
        ∙ (ap (λ (c : ℕ). contents_by noted_after H ++ c ∷ []) noted_here
        ∙ ap (λ (ds : List ℕ). ds ++ i ∷ []) (contents_same noted_after (λ q. get_or noted q 0) H noted_elsewhere)) in
        λ j. ap (λ (us : List ℕ). get_or us j 0) users_now_are ∙ (counted_push users cs i content_within counted j ∙ ap (uses j) (sym now))

    module _ (there : page_at area_after i ≡ page) (others : (j : ℕ) → 1 ≤ get_or users j 0 → page_at area_after j ≡ page_at area j) where
      pub joined_entries : entries_by (λ q. page_at area_after (noted_after q)) (H ++ record { key = k; place = p } ∷ []) ≡ held ++ record { key = k; page = page } ∷ []
      joined_entries =
          let f : ℕ → List ℕ = λ q. page_at area_after (noted_after q) in
          let old : ℕ → List ℕ = λ q. page_at area (get_or noted q 0) in
          push_entries f H k p
          ∙ (ap (λ (q : List ℕ). entries_by f H ++ record { key = k; page = q } ∷ []) (ap (page_at area_after) noted_here ∙ there)
          ∙ ap (λ (es : List Entry). es ++ record { key = k; page = page } ∷ [])
          (same_entries f old H
          (all_two (λ q. noted_after q ≡ get_or noted q 0) (λ q. 1 ≤ get_or users (get_or noted q 0) 0) (λ q. f q ≡ old q)
          (λ q same used. ap (page_at area_after) same ∙ others (get_or noted q 0) used) (taken H) noted_elsewhere
          (users_of_taken users area (λ q. get_or noted q 0) H counted each))))

    -- it did not lack a place
    pub joined_place : (fixed : List ℕ) (size : ℕ) → get_or fixed 0 0 ≡ size → get_or fixed 1 0 ≡ length users → length H < size → dedup_lack fixed held page ≡ false
    joined_place fixed size first second room =
        elim taken_up [
          | inl s ↦ has_equal users area (λ q. get_or noted q 0) H counted each fixed size page first second room (holds_held users area (λ q. get_or noted q 0) H counted each page i s.holds)
          | inr s ↦ has_content users area (λ q. get_or noted q 0) H counted each fixed size page first second room s.room
        ]

    pub joined_behind : length page ≡ 256 → length users ≤ pages_in area → drop (start_of (length users)) area_after ≡ drop (start_of (length users)) area
    joined_behind whole fits =
        elim taken_up [
          | inl s ↦ ap (drop (start_of (length users))) s.area_now
          | inr s ↦
              ap (drop (start_of (length users))) s.area_now
              ∙ rest_apart area (start_of i) page (omega (arith, s.within)) (start_of (length users)) (omega (arith, s.within))
        ]

  -- a key went, and its content has one user less
  pub left_counted : (k p : ℕ) → Apart (keys H) → place_of k H ≡ Some p
      → Counted (set users (get_or noted p 0) (get_or users (get_or noted p 0) 0 - 1)) (contents_by (λ q. get_or noted q 0) (without_key k H))
  left_counted k p apart h =
      counted_less users (contents_by (λ q. get_or noted q 0) H) (contents_by (λ q. get_or noted q 0) (without_key k H)) (get_or noted p 0) counted
      (λ j. contents_less (λ q. get_or noted q 0) k p j H apart h)
