-- Contents counted by their users. `cs` has the content of each held page, `users` the number of users of each content, and the
-- page of a content lies at its place of `area`.
use Rattle.std.specs.Prelude.{◌≡◌, ℕ, suc, ◌+◌, ◌-◌, ◌<◌, ◌≤◌, Bool, true, false, cond, ◌||◌, leb, List, [], ◌∷◌, ◌++◌, length, count_by, ◌==◌, ◌≢◌, nat_le, slice_index, slice_index_or, slice_set, refl}
use Rattle.std.proofs.Math.Logic.{inl, inr}
use Rattle.std.proofs.Common.{sym, ap, ◌∙◌, arith}
use Rattle.std.proofs.lemmas.List.{get_or_past, get_or-set_same, get_or-set_other}
use Rattle.std.proofs.lemmas.List.Sums.{sum_by-cons, sum_by_push, sum_by-set}
use Rattle.std.proofs.lemmas.Bool.{cases_eq, cases_lt, cond-true, cond-false, eq-eqb, ne_eqb, le-leb, lt-leb, or_left, or_right, false≢true}
use Rattle.backend.specs.Rules.{Entry}
use Rattle.dedup.specs.Shares.{uses}
use Rattle.dedup.specs.Different.{same_page, page_held, different}
use Rattle.dedup.specs.Equal.{equal_pages, same_pages}

-- each content has as many users as held pages have it
abbrev pub Counted : List ℕ → List ℕ → Type 0
Counted users cs = (i : ℕ) → slice_index users i ≡ uses i cs

-- contents in use with equal pages are one
abbrev pub OneEach : List ℕ → (ℕ → List ℕ) → Type 0
OneEach users page_of = (i j : ℕ) → 1 ≤ slice_index users i → 1 ≤ slice_index users j → page_of i ≡ page_of j → i ≡ j

-- entries by their contents: keys make no difference to how many pages are different
abbrev pub PagesAre : (ℕ → List ℕ) → List Entry → List ℕ → Type 0
PagesAre page_of [] [] = Unit {0}
PagesAre page_of [] (c ∷ cs) = ⊥
PagesAre page_of (e ∷ es) [] = ⊥
PagesAre page_of (e ∷ es) (c ∷ cs) = (e.page ≡ page_of c) × PagesAre page_of es cs

uses_cons : (i c : ℕ) (cs : List ℕ) → uses i (c ∷ cs) ≡ cond (c == i) 1 0 + uses i cs
uses_cons i c cs = sum_by-cons (λ x. cond (x == i) 1 0) c cs

uses_here : (c : ℕ) (cs : List ℕ) → uses c (c ∷ cs) ≡ 1 + uses c cs
uses_here c cs = uses_cons c c cs ∙ ap (λ (n : ℕ). n + uses c cs) (cond-true {A = ℕ} (c == c) 1 0 (eq-eqb c c refl))

uses_there : (i c : ℕ) (cs : List ℕ) → (c ≢ i) → uses i (c ∷ cs) ≡ uses i cs
uses_there i c cs ne = uses_cons i c cs ∙ rw (cond-false {A = ℕ} (c == i) 1 0 (ne_eqb c i ne)) (omega arith)

-- a content in use is the content of a held page, whose page is then held
pub held_if_used : (page_of : ℕ → List ℕ) (i : ℕ) (es : List Entry) (cs : List ℕ) → PagesAre page_of es cs → 1 ≤ uses i cs → page_held (page_of i) es ≡ true
held_if_used page_of i [] [] same h = absurd (omega arith)
held_if_used page_of i [] (c ∷ cs) same h = absurd same
held_if_used page_of i (e ∷ es) [] same h = absurd same
held_if_used page_of i (e ∷ es) (c ∷ cs) same h =
    elim (cases_eq c i) [
      | inl here ↦ or_left _ _ (same_pages _ _ (same.0 ∙ ap page_of here))
      | inr ne ↦ or_right _ _ (held_if_used page_of i es cs same.1 (omega (arith, uses_there i c cs ne)))
    ]

-- a held page is that of a content in use
pub used_if_held : (page_of : ℕ → List ℕ) (p : List ℕ) (es : List Entry) (cs : List ℕ) → PagesAre page_of es cs → page_held p es ≡ true
    → (i : ℕ) × (1 ≤ uses i cs) × (page_of i ≡ p)
used_if_held page_of p [] cs same h = absurd (false≢true h)
used_if_held page_of p (e ∷ es) [] same h = absurd same
used_if_held page_of p (e ∷ es) (c ∷ cs) same h = way (same_page e.page p) refl h (used_if_held page_of p es cs same.1)
  where
    way : (b : Bool) → same_page e.page p ≡ b → (b || page_held p es) ≡ true → (page_held p es ≡ true → (i : ℕ) × (1 ≤ uses i cs) × (page_of i ≡ p))
        → (i : ℕ) × (1 ≤ uses i (c ∷ cs)) × (page_of i ≡ p)
    way true t k more = (c, omega (arith, uses_here c cs), sym same.0 ∙ equal_pages _ _ t)
    way false t k more = let r = more k in (r.0, omega (arith, r.1, uses_cons r.0 c cs), r.2)

none_used : (users : List ℕ) → ((i : ℕ) → slice_index users i ≡ 0) → count_by (λ n. leb 1 n) users ≡ 0
none_used [] h = refl
none_used (n ∷ users) h =
    let none : n ≡ 0 = h 0 in
    sum_by-cons (λ m. cond (nat_le 1 m) 1 0) n users ∙ rw (none, none_used users (λ i. h (suc i)))

-- a content in use is one of those that there are
pub used_within : (users : List ℕ) (i : ℕ) → 1 ≤ slice_index users i → i < length users
used_within users i h = elim (cases_lt i (length users)) [ inl l ↦ l | inr g ↦ absurd (omega (arith, get_or_past users i 0 g)) ]

module _ (users : List ℕ) (c n : ℕ) (within : c < length users) where
  in_use_set : count_by (λ m. leb 1 m) (slice_set users c n) + cond (nat_le 1 (slice_index users c)) 1 0 ≡ count_by (λ m. leb 1 m) users + cond (nat_le 1 n) 1 0
  in_use_set = sum_by-set (λ m. cond (nat_le 1 m) 1 0) users c n 0 within

module _ (page_of : ℕ → List ℕ) (users : List ℕ) (c : ℕ) (cs : List ℕ) (counted : Counted users (c ∷ cs)) (each : OneEach users page_of) where
  used_here : slice_index_or users c 0 ≡ 1 + uses c cs
  used_here = counted c ∙ uses_here c cs

  here_within : c < length users
  here_within = used_within users c (omega (arith, used_here))

  -- the users without those of the first held page
  others : List ℕ
  others = slice_set users c (uses c cs)

  counted_others : Counted others cs
  unfolding others
  counted_others i =
      elim (cases_eq i c) [
        | inl same ↦ rw same (get_or-set_same users c (uses c cs) 0 here_within)
        | inr ne ↦ get_or-set_other users c i (uses c cs) 0 ne ∙ (counted i ∙ uses_there i c cs (λ e. ne (sym e)))
      ]

  fewer : (i : ℕ) → 1 ≤ slice_index others i → 1 ≤ slice_index users i
  fewer i h = omega (arith, counted_others i, counted i, uses_cons i c cs)

  each_others : OneEach others page_of
  each_others i j h k e = each i j (fewer i h) (fewer j k) e

  -- one content more is in use where no other held page has it
  step_in_use : (b : Bool) → nat_le 1 (uses c cs) ≡ b → cond b 0 1 + count_by (λ n. leb 1 n) others ≡ count_by (λ n. leb 1 n) users
  unfolding others
  step_in_use b t =
      let s = in_use_set users c (uses c cs) here_within in
      let one : ◌≡◌ {A = ℕ} (cond (nat_le 1 (slice_index users c)) 1 0) 1 = cond-true {A = ℕ} _ 1 0 (le-leb 1 (slice_index users c) (omega (arith, used_here))) in
      either b t s one
    where
      either : (b : Bool) → nat_le 1 (uses c cs) ≡ b
          → count_by (λ m. leb 1 m) (slice_set users c (uses c cs)) + cond (nat_le 1 (slice_index users c)) 1 0 ≡ count_by (λ m. leb 1 m) users + cond (nat_le 1 (uses c cs)) 1 0
          → ◌≡◌ {A = ℕ} (cond (nat_le 1 (slice_index users c)) 1 0) 1
          → cond b 0 1 + count_by (λ n. leb 1 n) (slice_set users c (uses c cs)) ≡ count_by (λ n. leb 1 n) users
      either true t s one = omega (arith, s, one, cond-true {A = ℕ} (nat_le 1 (uses c cs)) 1 0 t)
      either false t s one = omega (arith, s, one, cond-false {A = ℕ} (nat_le 1 (uses c cs)) 1 0 t)

  -- the first page is held again exactly where its content has other users
  again : (es : List Entry) (p : List ℕ) → PagesAre page_of es cs → p ≡ page_of c → page_held p es ≡ nat_le 1 (uses c cs)
  again es p same is =
      elim (cases_lt (uses c cs) 1) [
        | inl none ↦ not_again (page_held p es) refl none ∙ sym (lt-leb 1 (uses c cs) none)
        | inr some ↦ ap (λ (q : List ℕ). page_held q es) is ∙ (held_if_used page_of c es cs same some ∙ sym (le-leb 1 (uses c cs) some))
      ]
    where
      not_again : (b : Bool) → page_held p es ≡ b → uses c cs < 1 → page_held p es ≡ false
      not_again false t none = t
      not_again true t none =
          let r = used_if_held page_of p es cs same t in
          let i = r.0 in
          let eq = each i c (omega (arith, r.1, counted i, uses_cons i c cs)) (omega (arith, used_here)) (r.2 ∙ is) in
          absurd (omega (arith, r.1, none, ap (λ (j : ℕ). uses j cs) eq))

-- the different pages that are held are the contents in use
pub different_is : (page_of : ℕ → List ℕ) (users : List ℕ) (es : List Entry) (cs : List ℕ) → PagesAre page_of es cs → Counted users cs → OneEach users page_of
    → different es ≡ count_by (λ n. leb 1 n) users
different_is page_of users [] [] same counted each = sym (none_used users counted)
different_is page_of users [] (c ∷ cs) same counted each = absurd same
different_is page_of users (e ∷ es) [] same counted each = absurd same
different_is page_of users (e ∷ es) (c ∷ cs) same counted each =
    ap (λ (b : Bool). cond b 0 1 + different es) (again page_of users c cs counted each es e.page same.1 same.0)
    ∙ (ap (λ (n : ℕ). cond (nat_le 1 (uses c cs)) 0 1 + n)
    (different_is page_of (others page_of users c cs counted each) es cs same.1 (counted_others page_of users c cs counted each) (each_others page_of users c cs counted each))
    ∙ step_in_use page_of users c cs counted each (nat_le 1 (uses c cs)) refl)

uses_push : (j i : ℕ) (cs : List ℕ) → uses j (cs ++ i ∷ []) ≡ uses j cs + cond (i == j) 1 0
uses_push j i cs = sum_by_push (λ c. cond (c == j) 1 0) cs i

-- one held page more
pub counted_push : (users cs : List ℕ) (i : ℕ) → i < length users → Counted users cs → Counted (slice_set users i (slice_index users i + 1)) (cs ++ i ∷ [])
counted_push users cs i within counted j =
    elim (cases_eq j i) [
      | inl same ↦
          rw same
          (get_or-set_same users i (slice_index users i + 1) 0 within
          ∙ omega (arith, counted i, uses_push i i cs, cond-true {A = ℕ} (i == i) 1 0 (eq-eqb i i refl)))
      | inr ne ↦
          get_or-set_other users i j (slice_index users i + 1) 0 ne
          ∙ omega (arith, counted j, uses_push j i cs, cond-false {A = ℕ} (i == j) 1 0 (ne_eqb i j (λ e. ne (sym e))))
    ]

-- one held page less
pub counted_less : (users cs rest : List ℕ) (c : ℕ) → Counted users cs → ((j : ℕ) → uses j cs ≡ cond (c == j) 1 0 + uses j rest)
    → Counted (slice_set users c (slice_index users c - 1)) rest
counted_less users cs rest c counted split j =
    elim (cases_eq j c) [
      | inl same ↦
          rw same
          (let within = used_within users c (omega (arith, counted c, split c, cond-true {A = ℕ} (c == c) 1 0 (eq-eqb c c refl))) in
          get_or-set_same users c (slice_index users c - 1) 0 within
          ∙ omega (arith, counted c, split c, cond-true {A = ℕ} (c == c) 1 0 (eq-eqb c c refl)))
      | inr ne ↦
          get_or-set_other users c j (slice_index users c - 1) 0 ne
          ∙ omega (arith, counted j, split j, cond-false {A = ℕ} (c == j) 1 0 (ne_eqb c j (λ e. ne (sym e))))
    ]
