-- The text of a command: its letter, then a space before each number.
use Rattle.std.specs.Prelude.{◌≡◌, ℕ, ◌^◌, ◌<◌, List, [], ◌∷◌, ◌++◌, Ok, decimal, Result}
use Rattle.std.specs.List.{flat_map}
use Rattle.command.specs.declared.commands.LineRefusal.{LineRefusal}
use Rattle.command.specs.declared.commands.FilePage.{FilePage}
use Rattle.command.specs.declared.commands.AnonymousPage.{AnonymousPage}
use Rattle.command.specs.declared.commands.ByteWrite.{ByteWrite}
use Rattle.command.specs.declared.commands.Command.{Command}
use Rattle.command.specs.declared.commands.Command.TheVariants.{Admit, Leave, ReadFile, ReadAnonymous, WriteFile, WriteAnonymous, Truncate, Release, Sync, Counts}

abbrev pub command_letter : Command → ℕ
command_letter (Admit guest) = 65
command_letter (Leave guest) = 76
command_letter (ReadFile page) = 82
command_letter (ReadAnonymous page) = 114
command_letter (WriteFile page write) = 87
command_letter (WriteAnonymous page write) = 119
command_letter (Truncate from) = 84
command_letter (Release page) = 70
command_letter (Sync guest) = 83
command_letter (Counts guest) = 67

abbrev pub file_page_numbers : FilePage → List ℕ
file_page_numbers p = p.guest ∷ p.file ∷ p.page ∷ []

abbrev pub anonymous_page_numbers : AnonymousPage → List ℕ
anonymous_page_numbers p = p.guest ∷ p.page ∷ []

abbrev pub write_numbers : ByteWrite → List ℕ
write_numbers w = w.at ∷ w.byte ∷ []

abbrev pub command_numbers : Command → List ℕ
command_numbers (Admit guest) = guest ∷ []
command_numbers (Leave guest) = guest ∷ []
command_numbers (ReadFile page) = file_page_numbers page
command_numbers (ReadAnonymous page) = anonymous_page_numbers page
command_numbers (WriteFile page write) = file_page_numbers page ++ write_numbers write
command_numbers (WriteAnonymous page write) = anonymous_page_numbers page ++ write_numbers write
command_numbers (Truncate from) = file_page_numbers from
command_numbers (Release page) = anonymous_page_numbers page
command_numbers (Sync guest) = guest ∷ []
command_numbers (Counts guest) = guest ∷ []

abbrev pub command_text : Command → List ℕ
command_text c = command_letter c ∷ flat_map (λ n. 32 ∷ decimal n) (command_numbers c)

-- the numbers have 16 bits, and a byte that is written has 8
abbrev pub FilePageFits : FilePage → Type 0
FilePageFits p = (p.guest < 2 ^ 16) × (p.file < 2 ^ 16) × (p.page < 2 ^ 16)

abbrev pub AnonymousPageFits : AnonymousPage → Type 0
AnonymousPageFits p = (p.guest < 2 ^ 16) × (p.page < 2 ^ 16)

abbrev pub WriteFits : ByteWrite → Type 0
WriteFits w = (w.at < 2 ^ 16) × (w.byte < 2 ^ 8)

abbrev pub CommandFits : Command → Type 0
CommandFits (Admit guest) = guest < 2 ^ 16
CommandFits (Leave guest) = guest < 2 ^ 16
CommandFits (ReadFile page) = FilePageFits page
CommandFits (ReadAnonymous page) = AnonymousPageFits page
CommandFits (WriteFile page write) = FilePageFits page × WriteFits write
CommandFits (WriteAnonymous page write) = AnonymousPageFits page × WriteFits write
CommandFits (Truncate from) = FilePageFits from
CommandFits (Release page) = AnonymousPageFits page
CommandFits (Sync guest) = guest < 2 ^ 16
CommandFits (Counts guest) = guest < 2 ^ 16

-- An answer to a line is exact: a command's text reads as that command, and no other line does.
pub record ExactReading (line : List ℕ) (answer : Result Command LineRefusal) : Type 0 where
  pub back : (c : Command) → CommandFits c → line ≡ command_text c → answer ≡ Ok c
  pub only : (c : Command) → answer ≡ Ok c → (line ≡ command_text c) × CommandFits c
