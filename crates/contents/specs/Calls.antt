-- What a search for a page answers, and what taking a page up answers and leaves.
-- `users` are the counts of users, content by content, and the page of content i lies at place i of `area`.
use Rattle.std.specs.Prelude.{◌≡◌, ℕ, ◌+◌, ◌<◌, ◌≤◌, ◌⊎◌, List, length, Some, None, Option, ◌≢◌, slice_index, slice_index_or, slice_set}
use Rattle.page.specs.Memory.{page_at, put_page}
use Rattle.contents.specs.Records.{in_use_in}

-- content i has users, and is this page
pub record Holds (users area page : List ℕ) (i : ℕ) : Type 0 where
  pub within : i < length users
  pub used : 1 ≤ slice_index users i
  pub same : page_at area i ≡ page

abbrev pub Absent : List ℕ → List ℕ → List ℕ → Type 0
Absent users area page = (i : ℕ) → Holds users area page i → ⊥

-- what a search for the page answers
abbrev pub Found : List ℕ → List ℕ → List ℕ → Option ℕ → Type 0
Found users area page None = Absent users area page
Found users area page (Some i) = Holds users area page i

-- the page was there, and has one user more
pub record Shared (users area page : List ℕ) (i : ℕ) (users_after area_after : List ℕ) : Type 0 where
  pub holds : Holds users area page i
  pub room : slice_index_or users i 0 < 65535
  pub users_now : users_after ≡ slice_set users i (slice_index users i + 1)
  pub area_now : area_after ≡ area

-- the page was not there, and is now a content that was free
pub record Stored (users area page : List ℕ) (i : ℕ) (users_after area_after : List ℕ) : Type 0 where
  pub absent : Absent users area page
  pub within : i < length users
  pub free : slice_index_or users i 0 ≡ 0
  pub room : in_use_in users < length users
  pub users_now : users_after ≡ slice_set users i 1
  pub area_now : area_after ≡ put_page area i page

-- why a page is not taken up: it is no page; the content that it is has as many users as can be counted; it is not there, and no content is free
abbrev pub Refused : List ℕ → List ℕ → List ℕ → Type 0
Refused users area page =
    (length page ≢ 256)
    ⊎ (((i : ℕ) × (Holds users area page i × (slice_index users i ≡ 65535)))
    ⊎ (Absent users area page × (in_use_in users ≡ length users)))

-- what taking a page up answers and leaves
abbrev pub Acquired : List ℕ → List ℕ → List ℕ → Option ℕ → List ℕ → List ℕ → Type 0
Acquired users area page (Some i) users_after area_after =
    (length page ≡ 256) × (Shared users area page i users_after area_after ⊎ Stored users area page i users_after area_after)
Acquired users area page None users_after area_after = (users_after ≡ users) × (area_after ≡ area) × Refused users area page

-- what one user more of a content in use answers and leaves
abbrev pub CountedUp : List ℕ → List ℕ → ℕ → Option ℕ → List ℕ → List ℕ → Type 0
CountedUp users area content (Some i) users_after area_after =
    (i ≡ content) × (slice_index users content < 65535) × (users_after ≡ slice_set users content (slice_index users content + 1)) × (area_after ≡ area)
CountedUp users area content None users_after area_after = (slice_index users content ≡ 65535) × (users_after ≡ users) × (area_after ≡ area)

-- what storing a page that is not there answers and leaves
abbrev pub LaidDown : List ℕ → List ℕ → List ℕ → Option ℕ → List ℕ → List ℕ → Type 0
LaidDown users area page (Some i) users_after area_after = Stored users area page i users_after area_after
LaidDown users area page None users_after area_after = (in_use_in users ≡ length users) × (users_after ≡ users) × (area_after ≡ area)
