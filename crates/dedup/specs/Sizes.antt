-- How many pages the deduplicating store holds at most, and how many different ones.
use Rattle.std.specs.Prelude.{ℕ, ◌/◌, min}
use Rattle.index.specs.Map.{room}

-- the least of 4,096 and its index's room
abbrev pub most_pages : ℕ → ℕ → ℕ
most_pages slots nodes = min 4096 (room slots nodes)

-- the least of 4,096, the whole pages in its page bytes and its content records
abbrev pub most_different : ℕ → ℕ → ℕ
most_different bytes records = min 4096 (min (bytes / 256) records)
