-- Pages by the contents that are noted at the places of held keys.
use Rattle.std.specs.Prelude.{◌≡◌, ℕ, ◌^◌, ◌<◌, ◌≤◌, Bool, true, false, cond, not, ◌&&◌, List, [], ◌∷◌, length, replicate, is_some, Some, None, Option, ◌==◌, nat_eq, nat_le, nat_lt, slice_index, slice_index_or, refl}
use Rattle.std.proofs.Common.{inl, inr, ap, subst, ◌∙◌, arith}
use Rattle.std.proofs.Math.Path.{sym}
use Rattle.std.proofs.ByRecursion.{All-weaker}
use Rattle.std.proofs.lemmas.List.{get_or_past, get_or-replicate, length-map, length-replicate}
use Rattle.std.proofs.lemmas.List.Sums.{sum_by-cons, count_by-le-length}
use Rattle.std.proofs.lemmas.Bool.{cases_lt, and_from, and_left, and_right, cond-true, eq-eqb, le-leb, lt-leb, lt-ltb, not_from_true, not_from_false, or_left, or_right, or_from}
use Rattle.std.specs.List.{AllByRecursion}
use Rattle.page.specs.Counts.{count_of}
use Rattle.page.specs.Memory.{page_at}
use Rattle.page.specs.declared.counts.Count.TheVariants.{Exact}
use Rattle.backend.specs.Rules.{Entry}
use Rattle.contents.specs.Calls.{Holds, Absent as PageAbsent, Found}
use Rattle.contents.specs.Records.{in_use_in}
use Rattle.held.specs.Entries.{entries_by}
use Rattle.held.proofs.Entries.{length_entries, met, place_taken}
use Rattle.backend.specs.Finding.{found, filled}
use Rattle.backend.specs.Outcomes.{is_page}
use Rattle.held.specs.Holdings.{Holding, taken, place_of}
use Rattle.dedup.specs.Different.{page_held, different, dedup_lack}
use Rattle.dedup.specs.Shares.{contents_by, uses}
use Rattle.dedup.specs.Counting.{Counted, OneEach, held_if_used, used_if_held, different_is, used_within}
use Rattle.dedup.specs.SharesLemmas.{pages_are}

pub flipped : (r b : Bool) → b ≡ not r → r ≡ not b
flipped true b h = ap not (sym h)
flipped false b h = ap not (sym h)

-- the content of a held key has a user
uses_more : (i : ℕ) (g : ℕ → ℕ) (x : Holding) (H : List Holding) → uses i (contents_by g H) ≤ uses i (contents_by g (x ∷ H))
uses_more i g x H = omega (arith, sum_by-cons (λ c. cond (c == i) 1 0) (g x.place) (contents_by g H))

uses_first : (g : ℕ → ℕ) (x : Holding) (H : List Holding) → 1 ≤ uses (g x.place) (contents_by g (x ∷ H))
uses_first g x H =
    let c = g x.place in
    omega (arith, sum_by-cons (λ d. cond (d == c) 1 0) c (contents_by g H), cond-true {A = ℕ} (c == c) 1 0 (eq-eqb c c refl))

pub all_used : (g : ℕ → ℕ) (H : List Holding) → AllByRecursion (λ p. 1 ≤ uses (g p) (contents_by g H)) (taken H)
all_used g [] = tt
all_used g (x ∷ H) = (
  uses_first g x H,
  All-weaker (λ p. 1 ≤ uses (g p) (contents_by g H)) (λ p. 1 ≤ uses (g p) (contents_by g (x ∷ H))) (λ p h. omega (arith, h, uses_more (g p) g x H)) (taken H) (all_used g H),
)

module _ (users area : List ℕ) (g : ℕ → ℕ) (H : List Holding) (counted : Counted users (contents_by g H)) (each : OneEach users (page_at area)) where
  abbrev es : List Entry
  es = entries_by (λ p. page_at area (g p)) H

  pub users_of_taken : AllByRecursion (λ p. 1 ≤ slice_index users (g p)) (taken H)
  users_of_taken =
      All-weaker (λ p. 1 ≤ uses (g p) (contents_by g H)) (λ p. 1 ≤ slice_index users (g p)) (λ p h. omega (arith, h, counted (g p))) (taken H) (all_used g H)

  pub few_users : (i : ℕ) → slice_index users i ≤ length H
  few_users i = omega (arith, counted i, count_by-le-length (λ c. nat_eq c i) (contents_by g H), length-map H (λ x. g x.place))

  pub in_use_different : in_use_in users ≡ different es
  unfolding in_use_in
  in_use_different = sym (different_is (page_at area) users es (contents_by g H) (pages_are (page_at area) g H) counted each)

  pub holds_held : (page : List ℕ) (i : ℕ) → Holds users area page i → page_held page es ≡ true
  holds_held page i h =
      subst (λ (q : List ℕ). page_held q es ≡ true) h.same
      (held_if_used (page_at area) i es (contents_by g H) (pages_are (page_at area) g H) (omega (arith, h.used, counted i)))

  not_held_if : (page : List ℕ) (b : Bool) → page_held page es ≡ b → PageAbsent users area page → page_held page es ≡ false
  not_held_if page false t absent = t
  not_held_if page true t absent =
      let r = used_if_held (page_at area) page es (contents_by g H) (pages_are (page_at area) g H) t in
      let used : 1 ≤ slice_index_or users r.0 0 = omega (arith, r.1, counted r.0) in
      absurd (absent r.0 (record { within = used_within users r.0 used; used = used; same = r.2 }))

  pub absent_not_held : (page : List ℕ) → PageAbsent users area page → page_held page es ≡ false
  absent_not_held page absent = not_held_if page (page_held page es) refl absent

  pub found_held : (page : List ℕ) (r : Option ℕ) → Found users area page r → page_held page es ≡ is_some r
  found_held page None h = absent_not_held page h
  found_held page (Some i) h = holds_held page i h

  -- when a place is lacking: the list is full, or the page is not held and every content is in use
  module _ (fixed : List ℕ) (size : ℕ) (page : List ℕ) (first : slice_index_or fixed 0 0 ≡ size) (second : slice_index_or fixed 1 0 ≡ length users) where
    pub lacks_places : size ≤ length H → dedup_lack fixed es page ≡ true
    lacks_places h = or_left (nat_le (slice_index fixed 0) (length es)) _ (le-leb (slice_index fixed 0) (length es) (omega (arith, first, h, length_entries (λ p. page_at area (g p)) H)))

    pub lacks_contents : page_held page es ≡ false → length users ≤ in_use_in users → dedup_lack fixed es page ≡ true
    lacks_contents h full =
        or_right (nat_le (slice_index fixed 0) (length es)) _ (and_from _ _ (not_from_false (page_held page es) h) (le-leb (slice_index fixed 1) (different es) (omega (arith, second, full, in_use_different))))

    has_place : length H < size → nat_le (slice_index fixed 0) (length es) ≡ false
    has_place h = lt-leb (slice_index fixed 0) (length es) (omega (arith, first, h, length_entries (λ p. page_at area (g p)) H))

    pub has_equal : length H < size → page_held page es ≡ true → dedup_lack fixed es page ≡ false
    has_equal h k = or_from _ _ (has_place h) (and_left _ _ (not_from_true _ k))

    pub has_content : length H < size → in_use_in users < length users → dedup_lack fixed es page ≡ false
    has_content h free = or_from _ _ (has_place h) (and_right (not (page_held page es)) _ (lt-leb (slice_index fixed 1) (different es) (omega (arith, second, free, in_use_different))))

    -- where every content is in use, only a page that is held has a place
    pub lack_is : length H < size → length users ≤ in_use_in users → (r : Option ℕ) → Found users area page r → not (is_some r) ≡ dedup_lack fixed es page
    lack_is room full None h = sym (lacks_contents (absent_not_held page h) full)
    lack_is room full (Some i) h = sym (has_equal room (holds_held page i h))

  -- a held key's page is that of a content that there is
  pub read_there : (k p : ℕ) (out : List ℕ) → place_of k H ≡ Some p
      → ((nat_lt (g p) (length users) && length out == 256) ≡ found k out es) × (cond (nat_lt (g p) (length users) && length out == 256) (page_at area (g p)) out ≡ filled k out es)
  read_there k p out h =
      let used = place_taken (λ q. 1 ≤ slice_index users (g q)) k p H users_of_taken h in
      let there = met (λ q. page_at area (g q)) k H out p h in
      let same : (nat_lt (g p) (length users) && length out == 256) ≡ is_page out =
      ap (λ (b : Bool). b && length out == 256) (lt-ltb _ _ (used_within users (g p) used)) in
      (same ∙ there.0, ap (λ (b : Bool). cond b (page_at area (g p)) out) same ∙ there.1)

-- a small number is its own count
pub exact_is : (n m : ℕ) → n ≡ m → m ≤ 4096 → Exact n ≡ count_of m
exact_is n m same small = ap Exact same ∙ sym (cond-true (nat_lt m (2 ^ 32)) _ _ (lt-ltb m (2 ^ 32) (omega arith)))

pub get_or_zeros : (n i : ℕ) → ◌≡◌ {A = ℕ} (slice_index (replicate n 0) i) 0
get_or_zeros n i = elim (cases_lt i n) [ inl l ↦ get_or-replicate n i 0 0 l | inr g ↦ get_or_past (replicate n 0) i 0 (omega (arith, length-replicate {A = ℕ} n 0)) ]
