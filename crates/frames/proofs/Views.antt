-- What a change of one frame changes in the clock and in the dirty flags.
use Rattle.std.proofs.Common.{◌≡◌, ℕ, ◌≤◌, Bool, true, false, ◌||◌, map, length, get_or, take, set, replicate, Some, None, Option, sym, refl, ap, ◌∙◌}
use Rattle.std.proofs.lemmas.List.{length-map, map-set, set-get_or, take-replicate}
use Rattle.std.proofs.lemmas.Bool.{false≢true}
use Rattle.frames.specs.declared.pages.Page.{Page}
use Rattle.frames.specs.declared.states.Access.{Access}
use Rattle.frames.specs.declared.states.Access.TheVariants as A
use Rattle.frames.specs.declared.states.Frame.{Frame}
use Rattle.frames.specs.declared.states.FrameEvent.TheVariants.{Emptying, WriteBack}
use Rattle.frames.specs.declared.states.FrameState.{FrameState}
use Rattle.frames.specs.declared.states.FrameState.TheVariants.{Empty, Clean, Dirty}
use Rattle.frames.specs.declared.table.Frames.{Frames}
use Rattle.frames.specs.Clock.{Clock, empty_clock, filled}
use Rattle.frames.specs.Held.{blank, clock, dirties, frames_of, is_write}
use Rattle.frames.specs.States.{dirty, event_of, held, held_in, is_dirty, next_mark, next_state}
use Rattle.std.proofs.Math.ListN.{get_or-map}
use Rattle.frames.proofs.Tables.{count_of, map_replicate}

abbrev pub with_frame : Clock → ℕ → Option Page → Bool → Clock
with_frame c i x m = record { pages = set c.pages i x; marks = set c.marks i m; hand = c.hand }

-- one frame has changed to f
module _ (before after : Frames) (i : ℕ) (f : Frame) (e : frames_of after ≡ set (frames_of before) i f) where
  pub clock_set : after.hand ≡ before.hand → (x : Option Page) (m : Bool) → held f ≡ x → f.marked ≡ m → clock after ≡ with_frame (clock before) i x m
  unfolding clock
  clock_set h x m hx hm =
      let a = ap (map held) e ∙ map-set held (frames_of before) i f ∙ ap (set (map held (frames_of before)) i) hx in
      let b = ap (map (λ (g : Frame). g.marked)) e ∙ map-set (λ (g : Frame). g.marked) (frames_of before) i f ∙ ap (set (map (λ (g : Frame). g.marked) (frames_of before)) i) hm in
      cc

  pub dirties_set : (d : Bool) → dirty f ≡ d → dirties after ≡ set (dirties before) i d
  unfolding dirties
  dirties_set d hd = ap (map dirty) e ∙ map-set dirty (frames_of before) i f ∙ ap (set (map dirty (frames_of before)) i) hd

-- what is seen of a frame, also where there is no such frame
pub page_seen : (fs : Frames) (i : ℕ) → get_or (clock fs).pages i None ≡ held (get_or (frames_of fs) i blank)
unfolding clock
page_seen fs i = get_or-map held (frames_of fs) i blank

pub mark_seen : (fs : Frames) (i : ℕ) → get_or (clock fs).marks i false ≡ (get_or (frames_of fs) i blank).marked
unfolding clock
mark_seen fs i = get_or-map (λ (f : Frame). f.marked) (frames_of fs) i blank

pub dirty_seen : (fs : Frames) (i : ℕ) → get_or (dirties fs) i false ≡ dirty (get_or (frames_of fs) i blank)
unfolding dirties
dirty_seen fs i = get_or-map dirty (frames_of fs) i blank

-- a frame that is set to what it holds
pub pages_same : (fs : Frames) (i : ℕ) → set (clock fs).pages i (held (get_or (frames_of fs) i blank)) ≡ (clock fs).pages
pages_same fs i = ap (set (clock fs).pages i) (sym (page_seen fs i)) ∙ set-get_or (clock fs).pages i None

marks_same : (fs : Frames) (i : ℕ) → set (clock fs).marks i (get_or (frames_of fs) i blank).marked ≡ (clock fs).marks
marks_same fs i = ap (set (clock fs).marks i) (sym (mark_seen fs i)) ∙ set-get_or (clock fs).marks i false

pub clock_same : (fs : Frames) (i : ℕ) → with_frame (clock fs) i (held (get_or (frames_of fs) i blank)) (get_or (frames_of fs) i blank).marked ≡ clock fs
clock_same fs i =
    ap (λ ps. record { pages = ps; marks = set (clock fs).marks i (get_or (frames_of fs) i blank).marked; hand = (clock fs).hand }) (pages_same fs i)
    ∙ ap (λ ms. record { pages = (clock fs).pages; marks = ms; hand = (clock fs).hand }) (marks_same fs i)

-- there are as many marks and flags as frames

pub frame_count : (fs : Frames) → length (clock fs).pages ≡ fs.count
unfolding clock
frame_count fs = length-map (frames_of fs) held ∙ count_of fs

pub as_many_marks : (fs : Frames) → length (clock fs).pages ≡ length (clock fs).marks
unfolding clock
as_many_marks fs = length-map (frames_of fs) held ∙ sym (length-map (frames_of fs) (λ f. f.marked))

pub as_many_dirties : (fs : Frames) → length (clock fs).pages ≡ length (dirties fs)
unfolding clock dirties
as_many_dirties fs = length-map (frames_of fs) held ∙ sym (length-map (frames_of fs) dirty)

-- a new table
module _ (fs : Frames) (n : ℕ) (table : fs.table ≡ replicate 16 blank) (count : fs.count ≡ n) (few : n ≤ 16) where
  all_blank : frames_of fs ≡ replicate n blank
  all_blank = ap (λ (k : ℕ). take k fs.table) count ∙ ap (take n) table ∙ take-replicate n 16 blank few

  pub clock_new : fs.hand ≡ 0 → clock fs ≡ empty_clock n 0
  unfolding clock
  clock_new h =
      let a = ap (map held) all_blank ∙ map_replicate held n blank in
      let b = ap (map (λ (f : Frame). f.marked)) all_blank ∙ map_replicate (λ (f : Frame). f.marked) n blank in
      cc

  pub dirties_new : dirties fs ≡ replicate n false
  unfolding dirties
  dirties_new = ap (map dirty) all_blank ∙ map_replicate dirty n blank

-- each event, as it shows in a frame's page and flag

pub state_emptied : (s : FrameState) → next_state s Emptying ≡ Empty
state_emptied Empty = refl
state_emptied (Clean p) = refl
state_emptied (Dirty p) = refl

pub held_emptied : (s : FrameState) → held_in (next_state s Emptying) ≡ None
held_emptied s = ap held_in (state_emptied s)

pub clean_emptied : (s : FrameState) → is_dirty (next_state s Emptying) ≡ false
clean_emptied s = ap is_dirty (state_emptied s)

pub held_written_back : (s : FrameState) → held_in (next_state s WriteBack) ≡ held_in s
held_written_back Empty = refl
held_written_back (Clean p) = refl
held_written_back (Dirty p) = refl

pub clean_written_back : (s : FrameState) → is_dirty (next_state s WriteBack) ≡ false
clean_written_back Empty = refl
clean_written_back (Clean p) = refl
clean_written_back (Dirty p) = refl

pub held_accessed : (s : FrameState) (a : Access) (q : Page) → filled (held_in s) ≡ true → held_in (next_state s (event_of a q)) ≡ held_in s
held_accessed Empty a q h = absurd (false≢true h)
held_accessed (Clean p) A.Read q h = refl
held_accessed (Clean p) A.Write q h = refl
held_accessed (Dirty p) A.Read q h = refl
held_accessed (Dirty p) A.Write q h = refl

pub dirty_accessed : (s : FrameState) (a : Access) (q : Page) → is_dirty (next_state s (event_of a q)) ≡ (is_dirty s || is_write a)
dirty_accessed Empty A.Read q = refl
dirty_accessed Empty A.Write q = refl
dirty_accessed (Clean p) A.Read q = refl
dirty_accessed (Clean p) A.Write q = refl
dirty_accessed (Dirty p) A.Read q = refl
dirty_accessed (Dirty p) A.Write q = refl

pub marked_accessed : (m : Bool) (a : Access) (q : Page) → next_mark m (event_of a q) ≡ true
marked_accessed m A.Read q = refl
marked_accessed m A.Write q = refl

-- an empty frame that is accessed

pub held_filled : (s : FrameState) (a : Access) (q : Page) → held_in s ≡ None → held_in (next_state s (event_of a q)) ≡ Some q
held_filled Empty A.Read q e = refl
held_filled Empty A.Write q e = refl
held_filled (Clean p) a q e = cc
held_filled (Dirty p) a q e = cc

pub dirty_filled : (s : FrameState) (a : Access) (q : Page) → held_in s ≡ None → is_dirty (next_state s (event_of a q)) ≡ is_write a
dirty_filled Empty A.Read q e = refl
dirty_filled Empty A.Write q e = refl
dirty_filled (Clean p) a q e = cc
dirty_filled (Dirty p) a q e = cc
