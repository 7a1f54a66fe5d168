-- What always holds of the table and the index of the held keys.
use Rattle.std.specs.Prelude.{◌≡◌, ℕ, ◌+◌, ◌-◌, ◌^◌, ◌<◌, ◌≤◌, List, map, length}
use Rattle.std.specs.List.{AllByRecursion}
use Rattle.index.specs.Map.{look, room}
use Rattle.held.specs.declared.table.Record.{Record}
use Rattle.held.specs.Holdings.{Holding, keys, place_of}
use Rattle.held.specs.Records.{key_in, older_in, newer_in}
use Rattle.held.specs.Rings.{walk, Apart, Rings}

-- the held places, from the one after the end of their ring on
abbrev pub places : ℕ → ℕ → List Record → List ℕ
places size count table = walk (newer_in table) (newer_in table size) count

-- the free places
abbrev pub spare : ℕ → ℕ → List Record → List ℕ
spare size count table = walk (newer_in table) (newer_in table (size + 1)) (size - count)

-- what is held at places of a table
abbrev pub held_at : List Record → List ℕ → List Holding
held_at table ps = map (λ p. record { key = key_in table p; place = p }) ps

-- the map is what the index has filed, which has room for every key
pub record WholeIn (size count : ℕ) (table : List Record) (filed : List (ℕ × ℕ)) (slots nodes : ℕ) : Type 0 where
  pub rings : Rings (newer_in table) (older_in table) size size (size + 1) (places size count table) (spare size count table)
  pub fits : count ≤ size
  pub small : size ≤ 4096
  pub long : length table ≡ size + 2
  pub roomy : size ≤ room slots nodes
  pub keys_small : AllByRecursion (λ k. k < 2 ^ 32) (keys (held_at table (places size count table)))
  pub keys_apart : Apart (keys (held_at table (places size count table)))
  pub filed_count : length filed ≡ count
  pub filed_places : (k : ℕ) → look k filed ≡ place_of k (held_at table (places size count table))
