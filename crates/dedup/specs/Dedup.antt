-- The pages that the deduplicating store holds.
use Rattle.std.specs.Prelude.{ℕ, List, ◌∷◌, length, drop, vec_items, slice_index}
use Rattle.page.specs.Memory.{page_at, start_of}
use Rattle.backend.specs.Rules.{Entry}
use Rattle.contents.specs.View.{users_of, contents_area}
use Rattle.held.specs.Entries.{entries_by}
use Rattle.held.specs.View.{holdings, size_of}
use Rattle.dedup.specs.declared.pages.SharedPages.{SharedPages}

-- the page of a held key is that of the content noted at the key's place
abbrev pub shared_entries : SharedPages → List Entry
shared_entries b = entries_by (λ p. page_at (contents_area b.contents) (slice_index (vec_items b.content_at) p)) (holdings b.held)

-- how many pages it can hold, how many different ones, and the bytes behind the last of them
abbrev pub shared_fixed : SharedPages → List ℕ
shared_fixed b =
    size_of b.held ∷ length (users_of b.contents) ∷ drop (start_of (length (users_of b.contents))) (contents_area b.contents)
