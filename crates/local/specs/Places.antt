-- When the local store lacks a place.
use Rattle.std.specs.Prelude.{ℕ, ◌/◌, min, Bool, List, length, nat_le, slice_index}
use Rattle.backend.specs.Rules.{Entry}
use Rattle.index.specs.Map.{room}

-- how many pages it holds at most: the least of 4,096, the whole pages in its page bytes and its index's room
abbrev pub capacity : ℕ → ℕ → ℕ → ℕ
capacity bytes slots nodes = min (min (bytes / 256) 4096) (room slots nodes)

-- it lacks a place when it holds as many pages as it can; the first of what is fixed says how many
abbrev pub local_lack : List ℕ → List Entry → List ℕ → Bool
local_lack fixed es p = nat_le (slice_index fixed 0) (length es)
