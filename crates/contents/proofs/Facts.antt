-- What always holds of contents.
use Rattle.std.proofs.Common.{◌≡◌, ℕ, ◌<◌, ◌≤◌, length, get_or, vec_items, vec_len, arith}
use Rattle.page.specs.Memory.{pages_in}
use Rattle.page.proofs.Areas.{length_page_at}
use Rattle.contents.specs.declared.store.Contents.{Contents}
use Rattle.contents.specs.View.{users_of, fingerprints_of, contents_area, content_page}
use Rattle.contents.specs.Whole.{Whole}
use Rattle.contents.proofs.Columns.{length_users}
use Rattle.contents.proofs.Unique.{kept}

pub whole_of : (c : Contents) → Whole (users_of c) (fingerprints_of c) (contents_area c) c.in_use
whole_of c = kept c.whole

-- as many counts as records
pub size_is : (c : Contents) → length (users_of c) ≡ vec_len c.records
size_is c = let v = c.records.ok.0 in omega (arith, length_users (vec_items c.records))

-- two different contents in use are different pages
pub pages_apart : (c : Contents) (i j : ℕ) → 1 ≤ get_or (users_of c) i 0 → 1 ≤ get_or (users_of c) j 0 → content_page c i ≡ content_page c j → i ≡ j
pages_apart c = (whole_of c).apart

pub size_limit : (c : Contents) → length (users_of c) ≤ 4096
size_limit c = (whole_of c).few

pub size_paged : (c : Contents) → length (users_of c) ≤ pages_in (contents_area c)
size_paged c = (whole_of c).paged

pub page_length : (c : Contents) (i : ℕ) → i < length (users_of c) → length (content_page c i) ≡ 256
page_length c i h = length_page_at (contents_area c) i (let p = size_paged c in omega arith)
