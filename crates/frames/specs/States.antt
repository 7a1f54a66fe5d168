-- What each event does to a frame.
use Rattle.std.specs.Prelude.{Bool, true, false, Some, None, Option}
use Rattle.frames.specs.declared.pages.Page.{Page}
use Rattle.frames.specs.declared.states.Access.{Access}
use Rattle.frames.specs.declared.states.Access.TheVariants as A
use Rattle.frames.specs.declared.states.Frame.{Frame}
use Rattle.frames.specs.declared.states.FrameEvent.{FrameEvent}
use Rattle.frames.specs.declared.states.FrameEvent.TheVariants.{Read, Write, WriteBack, Emptying}
use Rattle.frames.specs.declared.states.FrameState.{FrameState}
use Rattle.frames.specs.declared.states.FrameState.TheVariants.{Empty, Clean, Dirty}

-- what an access to a page does to its frame
abbrev pub event_of : Access → Page → FrameEvent
event_of A.Read p = Read p
event_of A.Write p = Write p

-- the outcome of each event in each state
abbrev pub next_state : FrameState → FrameEvent → FrameState
next_state Empty (Read q) = Clean q
next_state Empty (Write q) = Dirty q
next_state Empty WriteBack = Empty
next_state Empty Emptying = Empty
next_state (Clean p) (Read q) = Clean p
next_state (Clean p) (Write q) = Dirty p
next_state (Clean p) WriteBack = Clean p
next_state (Clean p) Emptying = Empty
next_state (Dirty p) (Read q) = Dirty p
next_state (Dirty p) (Write q) = Dirty p
next_state (Dirty p) WriteBack = Clean p
next_state (Dirty p) Emptying = Empty

-- an access sets the mark, and emptying clears it
abbrev pub next_mark : Bool → FrameEvent → Bool
next_mark m (Read q) = true
next_mark m (Write q) = true
next_mark m WriteBack = m
next_mark m Emptying = false

-- the frame after an event
abbrev pub after_event : Frame → FrameEvent → Frame
after_event frame event = record { state = next_state frame.state event; marked = next_mark frame.marked event }

abbrev pub held_in : FrameState → Option Page
held_in Empty = None
held_in (Clean p) = Some p
held_in (Dirty p) = Some p

-- the page in a frame
abbrev pub held : Frame → Option Page
held frame = held_in frame.state

abbrev pub is_dirty : FrameState → Bool
is_dirty Empty = false
is_dirty (Clean p) = false
is_dirty (Dirty p) = true

-- whether a frame's page was written since it came or was written back
abbrev pub dirty : Frame → Bool
dirty frame = is_dirty frame.state
