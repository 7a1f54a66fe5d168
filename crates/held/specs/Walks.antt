-- The held keys, one after another.
use Rattle.std.specs.Prelude.{ℕ, zero, suc, cond, List, [], ◌∷◌, length, nat_lt}
use Rattle.held.specs.declared.keys.Keys.{Keys}
use Rattle.held.specs.declared.table.Record.{Record}
use Rattle.held.specs.Records.{key_in, newer_in}

-- the keys at n places of a table, each newer than the one before it; past the table's end there are none
abbrev pub keys_from : List Record → ℕ → ℕ → List ℕ
keys_from table place zero = []
keys_from table place (suc n) = cond (nat_lt place (length table)) (key_in table place ∷ keys_from table (newer_in table place) n) []

-- the keys that are still to come
abbrev pub keys_left : Keys → List ℕ
keys_left s = keys_from s.table.now s.place s.left
