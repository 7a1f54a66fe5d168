-- What always holds of the users, the fingerprints and the area, where `count` contents are in use.
use Rattle.std.specs.Prelude.{◌≡◌, ℕ, ◌≤◌, List, length, slice_index}
use Rattle.page.specs.Memory.{pages_in, page_at}
use Rattle.contents.specs.Fingerprint.{fingerprint_of}
use Rattle.contents.specs.Records.{in_use_in}

-- each content in use has the fingerprint of its page
abbrev pub Printed : List ℕ → List ℕ → List ℕ → Type 0
Printed users fingerprints area = (i : ℕ) → 1 ≤ slice_index users i → slice_index fingerprints i ≡ fingerprint_of (page_at area i)

-- two different contents in use are different pages
abbrev pub Apart : List ℕ → List ℕ → Type 0
Apart users area = (i j : ℕ) → 1 ≤ slice_index users i → 1 ≤ slice_index users j → page_at area i ≡ page_at area j → i ≡ j

pub record Whole (users fingerprints area : List ℕ) (count : ℕ) : Type 0 where
  pub few : length users ≤ 4096
  pub paged : length users ≤ pages_in area
  pub level : length fingerprints ≡ length users
  pub counted : count ≡ in_use_in users
  pub printed : Printed users fingerprints area
  pub apart : Apart users area
