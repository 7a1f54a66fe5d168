-- What the code's frames stand for: a clock, and for each frame whether its page is dirty.
use Rattle.std.specs.Prelude.{ℕ, Bool, true, false, cond, ◌||◌, List, map, take, Option, slice_index_or, slice_set}
use Rattle.frames.specs.declared.pages.Page.{Page}
use Rattle.frames.specs.declared.pages.PageSet.{PageSet}
use Rattle.frames.specs.declared.states.Access.{Access}
use Rattle.frames.specs.declared.states.Access.TheVariants.{Read, Write}
use Rattle.frames.specs.declared.states.Frame.{Frame}
use Rattle.frames.specs.declared.states.FrameEvent.TheVariants.{Emptying}
use Rattle.frames.specs.declared.states.FrameState.TheVariants.{Empty}
use Rattle.frames.specs.declared.table.Frames.{Frames}
use Rattle.frames.specs.Clock.{Clock, emptied_page, filled, find, given, taken}
use Rattle.frames.specs.Pages.{in_set}
use Rattle.frames.specs.States.{after_event, dirty, held}

-- what a read past the end of a table would give
abbrev pub blank : Frame
blank = record { state = Empty; marked = false }

abbrev pub marks_in : List Frame → List Bool
marks_in = map (λ f. f.marked)

abbrev pub pages_in : List Frame → List (Option Page)
pages_in = map held

abbrev pub dirty_in : List Frame → List Bool
dirty_in = map dirty

-- the frames that the guest has, of those that there is room for
abbrev pub frames_of : Frames → List Frame
frames_of fs = take fs.count fs.table

unfoldable pub clock : Frames → Clock
clock fs = record { pages = pages_in (frames_of fs); marks = marks_in (frames_of fs); hand = fs.hand }

-- for each frame whether its page is dirty
unfoldable pub dirties : Frames → List Bool
dirties fs = dirty_in (frames_of fs)

-- a frame is emptied unless it holds a page that is not in the set
abbrev pub emptied_frame : PageSet → Frame → Frame
emptied_frame s f = cond (filled (emptied_page (in_set s) (held f))) f (after_event f Emptying)

abbrev pub is_write : Access → Bool
is_write Read = false
is_write Write = true

-- which frames are dirty after an access to the page in the frame i
abbrev pub hit_dirty : List Bool → ℕ → Access → List Bool
hit_dirty ds i a = slice_set ds i (slice_index_or ds i false || is_write a)

-- which frames are dirty after an access to a page
abbrev pub access_dirty : Clock → List Bool → Page → Access → List Bool
access_dirty c ds p a = given (find p c.pages) (λ i. hit_dirty ds i a) (slice_set ds (taken c) (is_write a))
