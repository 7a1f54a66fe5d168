-- A line of a script as a row, and the lines that a script hands out.
use Rattle.std.specs.Prelude.{◌≡◌, ◌+◌, List, [], ◌∷◌, length, Some, None, Option, IfSome, is_some, if◌then◌else◌}
use Rattle.std.specs.Option.{option_map}
use Rattle.script.specs.Lines.{Row, lines_of}
use Rattle.script.specs.declared.source.Line.{Line}
use Rattle.script.specs.declared.source.Script.{Script}

abbrev pub row : Line → Row
row l = record { text = l.text.now; ended = l.ended }

abbrev pub first_row : List Row → Option Row
first_row [] = None
first_row (l ∷ ls) = Some l

abbrev pub later_rows : List Row → List Row
later_rows [] = []
later_rows (l ∷ ls) = ls

-- What a call for the next line does: it gives the first of the lines that are left, with its number and place, and leaves the others.
pub record TakesLine (was : Script) (line : Option Line) (is : Script) : Type 0 where
  pub value : option_map row line ≡ first_row (lines_of was.rest.now)
  pub after : lines_of is.rest.now ≡ later_rows (lines_of was.rest.now)
  pub number : IfSome line (λ l. (l.number ≡ was.lines + 1) × (l.place ≡ was.place))
  pub lines : is.lines ≡ (if is_some line then was.lines + 1 else was.lines)
  pub end : is.place + length is.rest.now ≡ was.place + length was.rest.now
  pub level : is.level ≡ was.level
