-- What a record of a table holds. Past the table's end all is 0.
use Rattle.std.specs.Prelude.{ℕ, List, slice_index_or}
use Rattle.held.specs.declared.table.Record.{Record}

abbrev pub blank : Record
blank = record { key = record { number = 0 }; older = 0; newer = 0 }

abbrev pub key_in : List Record → ℕ → ℕ
key_in table place = (slice_index_or table place blank).key.number

abbrev pub older_in : List Record → ℕ → ℕ
older_in table place = (slice_index_or table place blank).older

abbrev pub newer_in : List Record → ℕ → ℕ
newer_in table place = (slice_index_or table place blank).newer
