-- Held keys with the pages that lie at their places.
use Rattle.std.specs.Prelude.{ℕ, List, map}
use Rattle.backend.specs.Rules.{Entry}
use Rattle.held.specs.Holdings.{Holding}

abbrev pub entry_by : (ℕ → List ℕ) → Holding → Entry
entry_by page_of x = record { key = x.key; page = page_of x.place }

abbrev pub entries_by : (ℕ → List ℕ) → List Holding → List Entry
entries_by page_of H = map (entry_by page_of) H
