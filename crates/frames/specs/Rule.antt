-- The frame rule: which page is in which frame of which guest, and how many pages were evicted. It is fed the dimensions and
-- the calls with their arguments, and nothing else: neither bytes of pages nor what the pile holds.
use Rattle.std.specs.Prelude.{ℕ, zero, suc, ◌+◌, Bool, true, false, cond, not, List, [], ◌∷◌, length, replicate, Some, None, Option, ◌==◌, nat_lt, slice_index_or, slice_set}
use Rattle.frames.specs.declared.pages.Page.{Page}
use Rattle.frames.specs.declared.pages.Page.TheVariants.{File, Anonymous}
use Rattle.frames.specs.declared.refusals.HostRefusal.{HostRefusal}
use Rattle.frames.specs.declared.refusals.HostRefusal.TheVariants.{Closed, OpenAlready, NoSuchGuest, NotAdmitted, AdmittedAlready, NoSuchPage, BadLength, NoFrames}
use Rattle.frames.specs.Clock.{Clock, access, emptied, empty_clock, evictee, given}
use Rattle.frames.specs.Pages.{Dimensions, exists, file_from, same_page}

-- a guest stands first in a call's arguments. A read has the length of the caller's buffer, a write an offset and bytes;
-- a truncation has a file and the index of the first page that goes, a release the index of an anonymous page.
pub data Call : Type 0 where
  opening : Call
  closing : Call
  admission : ℕ → Call
  leaving : ℕ → Call
  read : ℕ → Page → ℕ → Call
  write : ℕ → Page → ℕ → List ℕ → Call
  truncation : ℕ → ℕ → ℕ → Call
  release : ℕ → ℕ → Call
  sync : ℕ → Call
  question : ℕ → Call

-- open or closed, which guests are admitted, and each guest's frames and hand
pub record Shape : Type 0 where
  pub opened : Bool
  pub admitted : List Bool
  pub clocks : List Clock

-- the state of the rule: that, and the evictions so far
pub record Rule : Type 0 where
  pub shape : Shape
  pub evictions : ℕ

abbrev pub is_admitted : Shape → ℕ → Bool
is_admitted S g = slice_index_or S.admitted g false

abbrev pub clock_of : Shape → ℕ → Clock
clock_of S g = slice_index_or S.clocks g (empty_clock 0 0)

abbrev pub opened_as : Bool → Shape → Shape
opened_as b S = record { opened = b; admitted = S.admitted; clocks = S.clocks }

abbrev pub admitted_as : Bool → Shape → ℕ → Shape
admitted_as b S g = record { opened = S.opened; admitted = slice_set S.admitted g b; clocks = S.clocks }

abbrev pub with_clock : Shape → ℕ → Clock → Shape
with_clock S g c = record { opened = S.opened; admitted = S.admitted; clocks = slice_set S.clocks g c }

-- at making: closed, no guest of the four admitted, every frame empty
abbrev pub new_shape : Dimensions → Shape
new_shape D = record { opened = false; admitted = replicate 4 false; clocks = replicate 4 (empty_clock D.frames 0) }

abbrev pub new_rule : Dimensions → Rule
new_rule D = record { shape = new_shape D; evictions = 0 }

-- CHECKS: the first that fails refuses the call

-- a test that refuses where it is true, and the refusal
abbrev pub Check : Type 0
Check = Bool × HostRefusal

abbrev pub first : List Check → Option HostRefusal
first [] = None
first (t ∷ ts) = cond t.0 (Some t.1) (first ts)

abbrev pub is_closed : Shape → Check
is_closed S = (not S.opened, Closed)

abbrev pub is_open : Shape → Check
is_open S = (S.opened, OpenAlready)

abbrev pub no_guest : ℕ → Check
no_guest g = (nat_lt 3 g, NoSuchGuest)

abbrev pub not_admitted : Shape → ℕ → Check
not_admitted S g = (not (is_admitted S g), NotAdmitted)

abbrev pub is_in : Shape → ℕ → Check
is_in S g = (is_admitted S g, AdmittedAlready)

abbrev pub no_page : Dimensions → Page → Check
no_page D p = (not (exists D p), NoSuchPage)

-- a read wants a buffer of 256 bytes, and a write stays below byte 256
abbrev pub not_a_page_long : ℕ → Check
not_a_page_long n = (not (n == 256), BadLength)

abbrev pub past_the_page : ℕ → Check
past_the_page n = (nat_lt 256 n, BadLength)

abbrev pub no_frames : Dimensions → Check
no_frames D = ((D.frames == 0), NoFrames)

unfoldable pub check : Dimensions → Shape → Call → Option HostRefusal
check D S opening = first (is_open S ∷ [])
check D S closing = first (is_closed S ∷ [])
check D S (admission g) = first (is_closed S ∷ no_guest g ∷ is_in S g ∷ no_frames D ∷ [])
check D S (leaving g) = first (is_closed S ∷ no_guest g ∷ not_admitted S g ∷ [])
check D S (read g p n) = first (is_closed S ∷ no_guest g ∷ not_admitted S g ∷ no_page D p ∷ not_a_page_long n ∷ [])
check D S (write g p at bytes) = first (is_closed S ∷ no_guest g ∷ not_admitted S g ∷ no_page D p ∷ past_the_page (at + length bytes) ∷ [])
check D S (truncation g o i) = first (is_closed S ∷ no_guest g ∷ not_admitted S g ∷ no_page D (File o i) ∷ [])
check D S (release g i) = first (is_closed S ∷ no_guest g ∷ not_admitted S g ∷ no_page D (Anonymous i) ∷ [])
check D S (sync g) = first (is_closed S ∷ no_guest g ∷ not_admitted S g ∷ [])
check D S (question g) = first (no_guest g ∷ [])

-- WHAT A GRANTED CALL DOES

-- an admitted guest starts with empty frames and its hand on frame 0
abbrev pub admit : Dimensions → Shape → ℕ → Shape
admit D S g = with_clock (admitted_as true S g) g (empty_clock D.frames 0)

-- a guest that leaves has its frames emptied; its hand stays
abbrev pub leave : Dimensions → Shape → ℕ → Shape
leave D S g = with_clock (admitted_as false S g) g (empty_clock D.frames (clock_of S g).hand)

-- of the guests 0 to n - 1 those that are admitted leave
abbrev pub leave_below : Dimensions → Shape → ℕ → Shape
leave_below D S zero = S
leave_below D S (suc n) = let T : Shape = leave_below D S n in cond (is_admitted T n) (leave D T n) T

unfoldable pub moved : Dimensions → Shape → Call → Shape
moved D S opening = opened_as true S
moved D S closing = opened_as false (leave_below D S 4)
moved D S (admission g) = admit D S g
moved D S (leaving g) = leave D S g
moved D S (read g p n) = with_clock S g (access (clock_of S g) p)
moved D S (write g p at bytes) = with_clock S g (access (clock_of S g) p)
moved D S (truncation g o i) = with_clock S g (emptied (file_from o i) (clock_of S g))
moved D S (release g i) = with_clock S g (emptied (same_page (Anonymous i)) (clock_of S g))
moved D S (sync g) = S
moved D S (question g) = S

-- the page that a granted call evicts: only a read or a write can
unfoldable pub evicts : Shape → Call → Option Page
evicts S opening = None
evicts S closing = None
evicts S (admission g) = None
evicts S (leaving g) = None
evicts S (read g p n) = evictee (clock_of S g) p
evicts S (write g p at bytes) = evictee (clock_of S g) p
evicts S (truncation g o i) = None
evicts S (release g i) = None
evicts S (sync g) = None
evicts S (question g) = None

-- a call that is refused leaves the rule as it was
abbrev pub rule_step : Dimensions → Rule → Call → Rule
rule_step D r call =
    given (check D r.shape call) (λ refusal. r)
    (record { shape = moved D r.shape call; evictions = r.evictions + given (evicts r.shape call) (λ p. 1) 0 })

-- the rule after some calls, the latest first
unfoldable pub rule_after : Dimensions → List Call → Rule
rule_after D [] = new_rule D
rule_after D (call ∷ past) = rule_step D (rule_after D past) call
