-- The numbers of the host's refusals.
use Rattle.std.specs.Prelude.{ℕ}
use Rattle.frames.specs.declared.refusals.HostRefusal.{HostRefusal}
use Rattle.frames.specs.declared.refusals.HostRefusal.TheVariants.{Closed, OpenAlready, NoSuchGuest, NotAdmitted, AdmittedAlready, NoSuchPage, BadLength, NoFrames, PageLost}

abbrev pub refusal_number : HostRefusal → ℕ
refusal_number Closed = 1
refusal_number OpenAlready = 2
refusal_number NoSuchGuest = 3
refusal_number NotAdmitted = 4
refusal_number AdmittedAlready = 5
refusal_number NoSuchPage = 6
refusal_number BadLength = 7
refusal_number NoFrames = 8
refusal_number PageLost = 9
