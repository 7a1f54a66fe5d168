-- What contents are, to those who use them.
use Rattle.std.specs.Prelude.{ℕ, List, vec_items}
use Rattle.page.specs.Memory.{area_of, page_at}
use Rattle.contents.specs.declared.store.Contents.{Contents}
use Rattle.contents.specs.Records.{users_in, fingerprints_in}

-- how many use each content
abbrev pub users_of : Contents → List ℕ
users_of contents = users_in (vec_items contents.records)

abbrev pub fingerprints_of : Contents → List ℕ
fingerprints_of contents = fingerprints_in (vec_items contents.records)

-- all the bytes, with those past the last content
abbrev pub contents_area : Contents → List ℕ
contents_area contents = area_of contents.memory

-- the page of a content
abbrev pub content_page : Contents → ℕ → List ℕ
content_page contents i = page_at (contents_area contents) i
