-- The refusals of a script and its lines, each with its number and its value.
use Rattle.std.specs.Prelude.{ℕ}
use Rattle.command.specs.declared.commands.LineRefusal.{LineRefusal}
use Rattle.command.specs.declared.commands.LineRefusal.TheVariants.{UnknownLetter, BadField}

abbrev pub line_refusal_number : LineRefusal → ℕ
line_refusal_number UnknownLetter = 31
line_refusal_number (BadField field) = 32

abbrev pub line_refusal_value : LineRefusal → ℕ
line_refusal_value UnknownLetter = 0
line_refusal_value (BadField field) = field
