-- What is left of a line.
use Rattle.std.specs.Prelude.{ℕ, List, length}
use Rattle.tokens.specs.declared.parts.Rest.{Rest}
use Rattle.tokens.specs.declared.parts.Rest.TheVariants.{Line, Fields, Nothing}

-- the whole line, or its fields with a space between each two, or nothing
pub data Left : Type 0 where
  line : List ℕ → Left
  fields : List ℕ → Left
  nothing : Left

abbrev pub left : Rest → Left
left (Line s) = line s.now
left (Fields s) = fields s.now
left Nothing = nothing

-- how many bytes that is
abbrev pub span : Left → ℕ
span (line s) = length s
span (fields s) = length s
span nothing = 0
