-- Memory cut into pages of 256 bytes: where a page lies, which calls are refused, and what a write leaves.
-- An area is the list of all the bytes, with those past the last whole page.
use Rattle.std.specs.Prelude.{◌≡◌, ℕ, ◌+◌, ◌*◌, ◌/◌, Bool, cond, List, ◌++◌, length, take, drop, replicate, Ok, Err, Some, None, Option, vec_items, Result, ◌==◌, ◌≢◌, nat_le, nat_lt}
use Rattle.page.specs.declared.memory.PageMemory.{PageMemory}
use Rattle.page.specs.declared.memory.PageRefusal.{PageRefusal}
use Rattle.page.specs.declared.memory.PageRefusal.TheVariants.{NoSuchPage, BadLength}

abbrev pub refusal_number : PageRefusal → ℕ
refusal_number NoSuchPage = 6
refusal_number BadLength = 7

-- all the bytes of the memory
abbrev pub area_of : PageMemory → List ℕ
area_of memory = vec_items memory.bytes

-- how many whole pages an area has
abbrev pub pages_in : List ℕ → ℕ
pages_in area = length area / 256

-- the byte that the page at a place begins at
abbrev pub start_of : ℕ → ℕ
start_of place = place * 256

-- the page at a place
unfoldable pub page_at : List ℕ → ℕ → List ℕ
page_at area place = take 256 (drop (start_of place) area)

-- the page at a place, if there is one
abbrev pub page_of : List ℕ → ℕ → Option (List ℕ)
page_of area place = cond (nat_lt place (pages_in area)) (Some (page_at area place)) None

-- whether every page but that at one place is as it was
abbrev pub OthersKept : List ℕ → List ℕ → ℕ → Type 0
OthersKept before after place = (other : ℕ) → (other ≢ place) → page_at after other ≡ page_at before other

-- the area with bytes laid over it from `at` on
unfoldable pub overlaid : List ℕ → ℕ → List ℕ → List ℕ
overlaid area at bytes = take at area ++ (bytes ++ drop (at + length bytes) area)

-- the area with a run laid over the page at a place, from the page's byte `at` on
abbrev pub put_run : List ℕ → ℕ → ℕ → List ℕ → List ℕ
put_run area place at run = overlaid area (start_of place + at) run

-- the area with another page at a place
abbrev pub put_page : List ℕ → ℕ → List ℕ → List ℕ
put_page area place page = overlaid area (start_of place) page

-- a page of zeros
unfoldable pub zero_page : List ℕ
zero_page = replicate 256 0

-- what a call on the page at a place answers, where `fits` is its test of lengths
abbrev pub outcome : List ℕ → ℕ → Bool → Result Unit PageRefusal
outcome area place fits = cond (nat_lt place (pages_in area)) (cond fits (Ok tt) (Err BadLength)) (Err NoSuchPage)

-- whether so many bytes are a page
abbrev pub whole_page : ℕ → Bool
whole_page bytes = bytes == 256

-- whether so many bytes from `at` on lie in a page
abbrev pub within_page : ℕ → ℕ → Bool
within_page at bytes = nat_le (at + bytes) 256
