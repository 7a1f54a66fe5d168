-- What a line stands for.
use Rattle.std.specs.Prelude.{ℕ, ◌+◌, cond, List, [], ◌∷◌, Some, None, Ok, Err, Option, Result, ◌==◌, nat_lt}
use Rattle.tokens.specs.Cuts.{pieces}
use Rattle.tokens.specs.Numbers.{number_of}
use Rattle.tokens.specs.Tokens.{some}
use Rattle.command.specs.declared.commands.FilePage.{FilePage}
use Rattle.command.specs.declared.commands.AnonymousPage.{AnonymousPage}
use Rattle.command.specs.declared.commands.ByteWrite.{ByteWrite}
use Rattle.command.specs.declared.commands.Command.{Command}
use Rattle.command.specs.declared.commands.Command.TheVariants.{Admit, Leave, ReadFile, ReadAnonymous, WriteFile, WriteAnonymous, Truncate, Release, Sync, Counts}
use Rattle.command.specs.declared.commands.LineRefusal.{LineRefusal}
use Rattle.command.specs.declared.commands.LineRefusal.TheVariants.{UnknownLetter, BadField}

-- the fields that are left, and the number of the first of them
pub record Cursor : Type 0 where
  pub next : ℕ
  pub fields : List (List ℕ)

-- what was read, with what is left, or the refusal
abbrev pub Read : Type 0 → Type 0
Read X = Result (X × Cursor) LineRefusal

abbrev pub then : {X Y : Type 0} → Read X → (X → Cursor → Read Y) → Read Y
then (Ok p) f = f p.0 p.1
then (Err e) f = Err e

abbrev pub making : {X Y : Type 0} → Read X → (X → Y) → Read Y
making (Ok p) f = Ok (f p.0, p.1)
making (Err e) f = Err e

-- a field that writes a number, or none
abbrev pub field_read : ℕ → List (List ℕ) → Option ℕ → Read ℕ
field_read n rest None = Err (BadField n)
field_read n rest (Some v) = Ok (v, record { next = n + 1; fields = rest })

-- the number that the next field writes
abbrev pub number_from : ℕ → List (List ℕ) → Read ℕ
number_from n [] = Err (BadField n)
number_from n (f ∷ fs) = field_read n fs (number_of f)

abbrev pub number : Cursor → Read ℕ
number s = number_from s.next s.fields

-- the same, where it is a byte
abbrev pub at_most_255 : ℕ → Read ℕ → Read ℕ
at_most_255 n (Ok p) = cond (nat_lt p.0 256) (Ok p) (Err (BadField n))
at_most_255 n (Err e) = Err e

abbrev pub byte : Cursor → Read ℕ
byte s = at_most_255 s.next (number s)

abbrev pub file_page : Cursor → Read FilePage
file_page s = then (number s) (λ g s. then (number s) (λ o s. making (number s) (λ i. record { guest = g; file = o; page = i })))

abbrev pub anonymous_page : Cursor → Read AnonymousPage
anonymous_page s = then (number s) (λ g s. making (number s) (λ i. record { guest = g; page = i }))

abbrev pub byte_write : Cursor → Read ByteWrite
byte_write s = then (number s) (λ at s. making (byte s) (λ b. record { at = at; byte = b }))

-- the command with this letter
abbrev pub command : ℕ → Cursor → Read Command
command c s =
    cond (c == 65) (making (number s) Admit)  -- A
    (cond (c == 76) (making (number s) Leave)  -- L
    (cond (c == 82) (making (file_page s) ReadFile)  -- R
    (cond (c == 114) (making (anonymous_page s) ReadAnonymous)  -- r
    (cond (c == 87) (then (file_page s) (λ p s. making (byte_write s) (WriteFile p)))  -- W
    (cond (c == 119) (then (anonymous_page s) (λ p s. making (byte_write s) (WriteAnonymous p)))  -- w
    (cond (c == 84) (making (file_page s) Truncate)  -- T
    (cond (c == 70) (making (anonymous_page s) Release)  -- F
    (cond (c == 83) (making (number s) Sync)  -- S
    (cond (c == 67) (making (number s) Counts)  -- C
    (Err UnknownLetter))))))))))

-- a command is all of its line: no field may be left
abbrev pub whole : Read Command → Result Command LineRefusal
whole (Ok p) = cond (some p.1.fields) (Err (BadField p.1.next)) (Ok p.0)
whole (Err e) = Err e

-- a line: its letter, then a space before each field
abbrev pub read_line : List ℕ → Result Command LineRefusal
read_line [] = Err UnknownLetter
read_line (c ∷ []) = whole (command c (record { next = 1; fields = [] }))
read_line (c ∷ d ∷ s) = cond (d == 32) (whole (command c (record { next = 1; fields = pieces 32 s }))) (Err UnknownLetter)
