-- The hand of the code and the hand of the rule take the same frame.
use Rattle.std.proofs.Common.{◌≡◌, ℕ, ◌<◌, Bool, List, length, set, Option, sym, ap, ◌∙◌, subst, arith}
use Rattle.std.proofs.lemmas.List.{length-map, set_past}
use Rattle.std.proofs.lemmas.Bool.Decides.{nat_tests}
use Rattle.frames.specs.declared.pages.Page.{Page}
use Rattle.frames.specs.declared.states.Frame.{Frame}
use Rattle.frames.specs.declared.table.Frames.{Frames}
use Rattle.frames.specs.Clock.{Clock, filled, next_place, refilled, sweep, swept, taken, turned}
use Rattle.frames.specs.Held.{clock, dirties, dirty_in, frames_of, marks_in, pages_in}
use Rattle.frames.specs.States.{held}
use Rattle.frames.specs.Turn.{Turn}
use Rattle.frames.proofs.Tables.{lent, lent_is, lent_long}
use Rattle.frames.proofs.Turns.{clock_turn}
use Rattle.frames.proofs.Views.{as_many_marks, frame_count}

abbrev pub lent_sweep : Frames → List Bool × ℕ
lent_sweep fs = sweep (length (lent fs)) (pages_in (lent fs)) (marks_in (lent fs)) fs.hand

same_sweep : (fs : Frames) → lent_sweep fs ≡ sweep (length (clock fs).pages) (clock fs).pages (clock fs).marks (clock fs).hand
unfolding clock
same_sweep fs =
    ap (λ (xs : List Frame). sweep (length xs) (pages_in xs) (marks_in xs) fs.hand) (lent_is fs)
    ∙ ap (λ (n : ℕ). sweep n (pages_in (frames_of fs)) (marks_in (frames_of fs)) fs.hand) (sym (length-map (frames_of fs) held))

pub at_taken : (fs : Frames) (r : ℕ) → r ≡ (lent_sweep fs).1 → r ≡ taken (clock fs)
unfolding taken
at_taken fs r e = e ∙ ap (λ s. s.1) (same_sweep fs)

-- `after` has the frames ys that the sweep left, and its hand on the next frame
module _ (fs after : Frames) (ys : List Frame) (is : frames_of after ≡ ys) where
  pub clock_turned : (r : ℕ) → r ≡ (lent_sweep fs).1 → marks_in ys ≡ (lent_sweep fs).0 → pages_in ys ≡ pages_in (lent fs)
      → after.hand ≡ next_place fs.count r → clock after ≡ turned (clock fs)
  unfolding clock swept
  clock_turned r at marks pages hand =
      let a = ap pages_in is ∙ pages ∙ ap pages_in (lent_is fs) in
      let b = ap marks_in is ∙ marks ∙ ap (λ s. s.0) (same_sweep fs) in
      let d = hand ∙ ap (next_place fs.count) (at_taken fs r at) ∙ ap (λ n. next_place n (taken (clock fs))) (sym (frame_count fs)) in
      cc

  pub dirties_turned : dirty_in ys ≡ dirty_in (lent fs) → dirties after ≡ dirties fs
  unfolding dirties
  dirties_turned e = ap dirty_in is ∙ e ∙ ap dirty_in (lent_is fs)

pub swept_long : (fs : Frames) (ys : List Frame) → pages_in ys ≡ pages_in (lent fs) → length ys ≡ fs.count
swept_long fs ys e = lent_long fs ys (sym (length-map ys held) ∙ ap length e ∙ length-map (lent fs) held)

on_a_frame : (fs : Frames) → (fs.count ≡ 0 → ⊥) → (clock fs).hand < length (clock fs).pages
unfolding clock
on_a_frame fs some = let w = fs.within in let n = frame_count fs in omega arith

-- with no frames the hand stays

pub none_swept : (c : Clock) → length c.pages ≡ 0 → swept c ≡ c.marks
unfolding sweep swept
none_swept c z = ap (λ (n : ℕ). (sweep n c.pages c.marks c.hand).0) z

pub next_of_none : (n i : ℕ) → n ≡ 0 → next_place n i ≡ 0
next_of_none n i z = grind (arith, nat_tests)

hand_of_none : (fs : Frames) → fs.count ≡ 0 → (clock fs).hand ≡ 0
unfolding clock
hand_of_none fs z = omega (arith, fs.within)

pub no_turn : (fs : Frames) → fs.count ≡ 0 → clock fs ≡ turned (clock fs)
no_turn fs z =
    ap (λ (ms : List Bool). record { pages = (clock fs).pages; marks = ms; hand = (clock fs).hand }) (sym (none_swept (clock fs) (frame_count fs ∙ z)))
    ∙ ap (λ (h : ℕ). record { pages = (clock fs).pages; marks = swept (clock fs); hand = h }) (hand_of_none fs z ∙ sym (next_of_none _ (taken (clock fs)) (frame_count fs ∙ z)))

-- with frames it makes a turn
pub frames_turn : (fs after : Frames) (r : ℕ) → (fs.count ≡ 0 → ⊥) → r ≡ taken (clock fs) → clock after ≡ turned (clock fs)
    → Turn (clock fs).pages (clock fs).marks (clock after).marks (clock fs).hand r
frames_turn fs after r some at e =
    subst (λ (i : ℕ). Turn (clock fs).pages (clock fs).marks (clock after).marks (clock fs).hand i) (sym at)
    (subst (λ (ms : List Bool). Turn (clock fs).pages (clock fs).marks ms (clock fs).hand (taken (clock fs))) (sym (ap (λ (c : Clock). c.marks) e))
    (clock_turn (clock fs) (as_many_marks fs) (on_a_frame fs some)))

-- without frames nothing can be put in one
pub none_refilled : (c : Clock) (x : Option Page) → length c.pages ≡ 0 → length c.marks ≡ 0 → refilled c x ≡ turned c
none_refilled c x z m =
    ap (λ (ps : List (Option Page)). record { pages = ps; marks = set (swept c) (taken c) (filled x); hand = (turned c).hand })
    (set_past c.pages (taken c) x (omega arith))
    ∙ ap (λ (ms : List Bool). record { pages = c.pages; marks = ms; hand = (turned c).hand })
    (set_past (swept c) (taken c) (filled x) (omega (arith, ap length (none_swept c z))))
