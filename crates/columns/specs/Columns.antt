-- The text of a line of output: right-justified columns, then a line feed.
use Rattle.std.specs.Prelude.{◌≡◌, ℕ, ◌-◌, ◌^◌, ◌<◌, List, [], ◌∷◌, ◌++◌, length, replicate, decimal}
use Rattle.std.specs.List.{flat_map, AllByRecursion}
use Rattle.page.specs.Counts.{count_text}
use Rattle.page.specs.declared.counts.Count.{Count}
use Rattle.page.specs.declared.counts.Count.TheVariants.{Exact, Over}
use Rattle.columns.specs.declared.OutputLine.{OutputLine}
use Rattle.columns.specs.declared.Values.{Values}
use Rattle.columns.specs.declared.Values.TheVariants.{Nothing, Number, Counts}

-- the bytes in a column of that width, with spaces in front
unfoldable pub right : ℕ → List ℕ → List ℕ
right width bytes = replicate (width - length bytes) 32 ++ bytes

-- a value's column
abbrev pub value_text : Count → List ℕ
value_text count = right 11 (count_text count)

-- the values after the number and the answer, in order
abbrev pub values_of : Values → List Count
values_of Nothing = []
values_of (Number n) = Exact n ∷ []
values_of (Counts counts) = counts

-- a line: its number in 6 columns, its answer in 4, each value in 11, a line feed
unfoldable pub line_text : OutputLine → List ℕ
line_text o =
    right 6 (decimal o.line) ++ right 4 (decimal o.answer) ++ flat_map value_text (values_of o.values) ++ (10 ∷ [])

-- Here a number is any natural number, and an array is a list of any length.
-- The three below say what the types say in the code: u32, [Count; 9], u16 and u8.
abbrev pub Counted : Count → Type 0
Counted (Exact n) = n < 2 ^ 32
Counted Over = Unit {0}

abbrev pub Valued : Values → Type 0
Valued Nothing = Unit {0}
Valued (Number n) = n < 2 ^ 32
Valued (Counts counts) = (length counts ≡ 9) × AllByRecursion Counted counts

pub record Printable (o : OutputLine) : Type 0 where
  pub line : o.line < 2 ^ 16
  pub answer : o.answer < 2 ^ 8
  pub values : Valued o.values
