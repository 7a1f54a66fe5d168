-- The rule's sweep is a turn of the hand.
use Rattle.std.proofs.Common.{◌≡◌, ℕ, zero, suc, ◌+◌, ◌-◌, ◌<◌, ◌≤◌, Bool, true, false, cond, List, [], ◌∷◌, length, get_or, set, None, Option, sym, refl, ap, ◌∙◌, subst, inl, inr, arith, get_or-set_other}
use Rattle.std.proofs.lemmas.List.{length-set}
use Rattle.std.proofs.lemmas.Bool.{and_from, and_parts, both_ways, cases_Bool, cases_eq, cases_lt, cond-true, cond-false}
use Rattle.std.proofs.lemmas.Bool.Decides.{nat_tests}
use Rattle.frames.specs.declared.pages.Page.{Page}
use Rattle.frames.specs.Clock.{Clock, filled, next_place, passes, sweep, swept, taken}
use Rattle.frames.specs.Turn.{Passing, Turn, frames_on}
use Rattle.frames.proofs.Tables.{get_set_same}

-- how many marks are set
abbrev marks_set : List Bool → ℕ
marks_set [] = 0
marks_set (m ∷ ms) = cond m 1 0 + marks_set ms

one_less : (ms : List Bool) (i : ℕ) → get_or ms i false ≡ true → marks_set (set ms i false) + 1 ≡ marks_set ms
one_less [] i e = absurd (let z : ◌≡◌ {A = ℕ} 0 1 = cc in omega arith)
one_less (m ∷ ms) zero e = rw e (omega arith)
one_less (m ∷ ms) (suc i) e = let r = one_less ms i e in omega arith

at_most_all : (ms : List Bool) → marks_set ms ≤ length ms
at_most_all [] = omega arith
at_most_all (true ∷ ms) = let r = at_most_all ms in omega arith
at_most_all (false ∷ ms) = let r = at_most_all ms in omega arith

-- the next place is one of the places, if there are any
pub next_below : (n i : ℕ) → next_place n i ≤ n - 1
next_below n i = grind (arith, nat_tests)

module _ (n hand : ℕ) (h : hand < n) where
  one_on : (k : ℕ) → k < n → frames_on n hand (k + 1) ≡ next_place n (frames_on n hand k)
  one_on k l = grind (arith, nat_tests)

  round : frames_on n hand n ≡ hand
  round = grind (arith, nat_tests)

  apart : (j k : ℕ) → j < k → k < n → frames_on n hand k ≡ frames_on n hand j → ⊥
  apart j k l m e = grind (arith, nat_tests)

  start : frames_on n hand 0 ≡ hand
  start = grind (arith, nat_tests)

-- one frame more
module _ (pages : List (Option Page)) (before after : List Bool) (hand : ℕ) (h : hand < length pages) (k i : ℕ) (p : Passing k pages before after hand i) (e : passes pages after i ≡ true) where
  marked : get_or after i false ≡ true
  marked = (and_parts (filled (get_or pages i None)) (get_or after i false) e).1

  -- all round, the first frame's mark would be cleared
  not_round : k < length pages
  not_round = elim (cases_lt k (length pages)) [
    | inl l ↦ l
    | inr g ↦
        let all : k ≡ length pages = let m = p.at_most_round in omega arith in
        let here : i ≡ frames_on (length pages) hand 0 = p.arrives ∙ ap (frames_on (length pages) hand) all ∙ round (length pages) hand h ∙ sym (start (length pages) hand h) in
        absurd (both_ways (get_or after i false) (ap (λ (x : ℕ). get_or after x false) here ∙ p.cleared 0 (omega arith)) marked)
  ]

  not_passed : (j : ℕ) → j < k → i ≡ frames_on (length pages) hand j → ⊥
  not_passed j l q = apart (length pages) hand h j k l not_round (sym p.arrives ∙ q)

  was_passed : passes pages before i ≡ true
  was_passed = and_from (filled (get_or pages i None)) (get_or before i false) (and_parts (filled (get_or pages i None)) (get_or after i false) e).0 (sym (p.kept i not_passed) ∙ marked)

  one_more : Passing (k + 1) pages before (set after i false) hand (next_place (length pages) i)
  one_more = record {
    arrives = ap (next_place (length pages)) p.arrives ∙ sym (one_on (length pages) hand h k not_round);
    at_most_round = let l = not_round in omega arith;
    same_length = length-set after i false ∙ p.same_length;
    passed = λ j l. elim (cases_eq j k) [
      | inl q ↦ ap (λ (x : ℕ). passes pages before (frames_on (length pages) hand x)) q ∙ ap (passes pages before) (sym p.arrives) ∙ was_passed
      | inr ne ↦ p.passed j (omega arith)
    ];
    cleared = λ j l. elim (cases_eq (frames_on (length pages) hand j) i) [
      | inl q ↦ ap (λ (x : ℕ). get_or (set after i false) x false) q ∙ get_set_same after i false
      | inr ne ↦
          let jk : j < k = elim (cases_eq j k) [ inl q ↦ absurd (ne (ap (frames_on (length pages) hand) q ∙ sym p.arrives)) | inr d ↦ omega arith ] in
          get_or-set_other after i (frames_on (length pages) hand j) false false ne ∙ p.cleared j jk
    ];
    kept = λ x away.
        get_or-set_other after i x false false (λ q. away k (omega arith) (q ∙ p.arrives))
        ∙ p.kept x (λ j l. away j (omega arith));
  }

turn_from : (steps : ℕ) (pages : List (Option Page)) (before after : List Bool) (hand : ℕ) → hand < length pages → (k i : ℕ)
    → Passing k pages before after hand i → marks_set after ≤ steps
    → Turn pages before (sweep steps pages after i).0 hand (sweep steps pages after i).1
unfolding sweep
turn_from zero pages before after hand h k i p enough = record { over = k; passing = p; stops = stopped (passes pages after i) refl }
  where
    stopped : (b : Bool) → passes pages after i ≡ b → b ≡ false
    stopped true e = absurd (let o = one_less after i (and_parts (filled (get_or pages i None)) (get_or after i false) e).1 in omega arith)
    stopped false e = refl
turn_from (suc steps) pages before after hand h k i p enough =
    elim (cases_Bool (passes pages after i)) [
      | inl e ↦
          subst (λ (s : List Bool × ℕ). Turn pages before s.0 hand s.1)
          (sym (cond-true (passes pages after i) (sweep steps pages (set after i false) (next_place (length pages) i)) (after, i) e))
          (turn_from steps pages before (set after i false) hand h (k + 1) (next_place (length pages) i) (one_more pages before after hand h k i p e)
          (let o = one_less after i (and_parts (filled (get_or pages i None)) (get_or after i false) e).1 in omega arith))
      | inr e ↦
          subst (λ (s : List Bool × ℕ). Turn pages before s.0 hand s.1)
          (sym (cond-false (passes pages after i) (sweep steps pages (set after i false) (next_place (length pages) i)) (after, i) e))
          (record { over = k; passing = p; stops = e })
    ]

pub clock_turn : (c : Clock) → length c.pages ≡ length c.marks → c.hand < length c.pages → Turn c.pages c.marks (swept c) c.hand (taken c)
unfolding swept taken
clock_turn c len h =
    turn_from (length c.pages) c.pages c.marks c.marks c.hand h 0 c.hand
    (record {
      arrives = sym (start (length c.pages) c.hand h);
      at_most_round = omega arith;
      same_length = refl;
      passed = λ j l. absurd (omega arith);
      cleared = λ j l. absurd (omega arith);
      kept = λ i away. refl;
    })
    (let m = at_most_all c.marks in omega arith)
