-- The pages that the local store holds.
use Rattle.std.specs.Prelude.{ℕ, List, ◌∷◌, drop}
use Rattle.page.specs.Memory.{area_of, page_at, start_of}
use Rattle.backend.specs.Rules.{Entry}
use Rattle.held.specs.Entries.{entries_by}
use Rattle.held.specs.View.{holdings, size_of}
use Rattle.local.specs.declared.pages.LocalPages.{LocalPages}

-- the page of a held key lies at the key's place
abbrev pub local_entries : LocalPages → List Entry
local_entries b = entries_by (page_at (area_of b.memory)) (holdings b.held)

-- how many pages it can hold, and the bytes behind the last of them
abbrev pub local_fixed : LocalPages → List ℕ
local_fixed b = size_of b.held ∷ drop (start_of (size_of b.held)) (area_of b.memory)
