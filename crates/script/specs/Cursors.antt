-- A reader of a line as the fields that it has left.
use Rattle.std.specs.Prelude.{Ok, Err, Result}
use Rattle.script.specs.Reading.{Cursor, Read}
use Rattle.tokens.specs.Spans.{left}
use Rattle.tokens.specs.Tokens.{fields_in}
use Rattle.command.specs.declared.commands.LineRefusal.{LineRefusal}
use Rattle.script.specs.declared.reader.Reader.{Reader}

abbrev pub cursor : Reader → Cursor
cursor r = record { next = r.field; fields = fields_in (left r.tokens.rest) }

-- an answer together with the reader after it
abbrev pub outcome : {X : Type 0} → Result X LineRefusal → Reader → Read X
outcome (Ok x) r = Ok (x, cursor r)
outcome (Err e) r = Err e
