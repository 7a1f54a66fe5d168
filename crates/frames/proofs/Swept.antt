-- The hand as it goes round: each step of the loop is a step of the rule's sweep.
use Rattle.std.proofs.Common.{◌≡◌, ℕ, zero, suc, ◌+◌, ◌<◌, ◌≤◌, Bool, true, false, cond, ◌&&◌, List, length, get_or, set, None, count_by, sym, refl, ap, ◌∙◌, arith}
use Rattle.std.proofs.lemmas.List.{get_or-map, length-map, length-set, map-set}
use Rattle.std.proofs.Math.Seq.{map-set_same}
use Rattle.std.proofs.lemmas.List.Sums.{count_by-le-length, sum_by-set}
use Rattle.std.proofs.lemmas.Bool.{and_parts, cond-true, cond-false}
use Rattle.std.proofs.lemmas.Bool.Decides.{nat_tests}
use Rattle.frames.specs.declared.states.Frame.{Frame}
use Rattle.frames.specs.Clock.{filled, next_place, passes, sweep}
use Rattle.frames.specs.Held.{dirty_in, marks_in, pages_in}
use Rattle.frames.specs.States.{dirty, held}

-- whether the hand passes over a frame
abbrev pub passed : Frame → Bool
passed f = filled (held f) && f.marked

abbrev pub unmarked : Frame → Frame
unmarked f = record { state = f.state; marked = false }

-- how many frames are marked
abbrev pub marks_left : List Frame → ℕ
marks_left = count_by (λ f. f.marked)

-- the hand went from `hand` to `place` over the frames that were `before`; as many steps as are left are enough
pub record Turning (steps : ℕ) (before after : List Frame) (hand place : ℕ) : Type 0 where
  pub len : length after ≡ length before
  pub within : place < length before
  pub enough : marks_left after ≤ steps
  pub pages : pages_in after ≡ pages_in before
  pub dirty : dirty_in after ≡ dirty_in before
  pub goes_on : sweep steps (pages_in before) (marks_in after) place ≡ sweep (length before) (pages_in before) (marks_in before) hand

pub turning : (before : List Frame) (hand : ℕ) → hand < length before → Turning (length before) before before hand hand
turning before hand l = record { len = refl; within = l; enough = count_by-le-length _ before; pages = refl; dirty = refl; goes_on = refl }

-- what the rule sees of a frame is what the code sees
passes_is : (fs : List Frame) (i : ℕ) (d : Frame) → i < length fs → passes (pages_in fs) (marks_in fs) i ≡ passed (get_or fs i d)
passes_is fs i d l =
    let a = get_or-map held fs i d None l in
    let b = get_or-map (λ (f : Frame). f.marked) fs i d false l in
    cc

cleared_marks : (fs : List Frame) (i : ℕ) (d : Frame) → marks_in (set fs i (unmarked (get_or fs i d))) ≡ set (marks_in fs) i false
cleared_marks fs i d = map-set (λ (f : Frame). f.marked) fs i (unmarked (get_or fs i d))

pub fewer : (fs : List Frame) (i : ℕ) (d : Frame) → i < length fs → (get_or fs i d).marked ≡ true
    → marks_left (set fs i (unmarked (get_or fs i d))) + 1 ≡ marks_left fs
fewer fs i d l m =
    let s = sum_by-set (λ (f : Frame). cond f.marked 1 0) fs i (unmarked (get_or fs i d)) d l in
    let one : ◌≡◌ {A = ℕ} (cond (get_or fs i d).marked 1 0) 1 = ap (λ (x : Bool). cond {A = ℕ} x 1 0) m in
    omega (arith, s, one)

module _ (before after : List Frame) (hand place : ℕ) (d : Frame) where
  -- the hand stops
  pub stopped : (steps : ℕ) → Turning steps before after hand place → passed (get_or after place d) ≡ false
      → sweep steps (pages_in before) (marks_in after) place ≡ (marks_in after, place)
  unfolding sweep
  stopped zero t p = refl
  stopped (suc steps) t p =
      let l : place < length after = omega (arith, t.len, t.within) in
      cond-false _ _ _ (ap (λ ps. passes ps (marks_in after) place) (sym t.pages) ∙ passes_is after place d l ∙ p)

  -- the hand passes a frame
  pub turned_on : (steps : ℕ) → Turning steps before after hand place → passed (get_or after place d) ≡ true
      → (left : ℕ) × Turning left before (set after place (unmarked (get_or after place d))) hand (next_place (length before) place)
  unfolding sweep
  turned_on zero t p =
      let l : place < length after = omega (arith, t.len, t.within) in
      absurd (omega (arith, t.enough, fewer after place d l (and_parts (filled (held (get_or after place d))) _ p).1))
  turned_on (suc steps) t p =
      let l : place < length after = omega (arith, t.len, t.within) in
      let cleared = set after place (unmarked (get_or after place d)) in (
        steps,
        record {
          len = length-set after place (unmarked (get_or after place d)) ∙ t.len;
          within = let w = t.within in grind (arith, nat_tests);
          enough = omega (arith, t.enough, fewer after place d l (and_parts (filled (held (get_or after place d))) _ p).1);
          pages = map-set_same held after place (unmarked (get_or after place d)) d refl ∙ t.pages;
          dirty = map-set_same dirty after place (unmarked (get_or after place d)) d refl ∙ t.dirty;
          goes_on =
              ap (λ ms. sweep steps (pages_in before) ms (next_place (length before) place)) (cleared_marks after place d)
              ∙ ap (λ n. sweep steps (pages_in before) (set (marks_in after) place false) (next_place n place)) (sym (length-map before held))
              ∙ sym (cond-true (passes (pages_in before) (marks_in after) place) _ (marks_in after, place) (ap (λ ps. passes ps (marks_in after) place) (sym t.pages) ∙ passes_is after place d l ∙ p))
              ∙ t.goes_on;
        },
      )
