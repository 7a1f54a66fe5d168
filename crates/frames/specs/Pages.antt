-- A guest's pages: which exist, sets of them, and the keys that stand for them.
use Rattle.std.specs.Prelude.{◌≡◌, ℕ, ◌+◌, ◌*◌, ◌^◌, Bool, true, false, cond, ◌&&◌, Some, None, Option, ◌==◌, nat_le, nat_lt}
use Rattle.page.specs.Keys.{number_of}
use Rattle.page.specs.declared.keys.Key.{Key}
use Rattle.frames.specs.declared.pages.Page.{Page}
use Rattle.frames.specs.declared.pages.Page.TheVariants.{File, Anonymous}
use Rattle.frames.specs.declared.pages.PageSet.{PageSet}
use Rattle.frames.specs.declared.pages.PageSet.TheVariants.{FileFrom, One, All}

-- how many frames a guest has, and how many pages a file and a guest's anonymous memory have
pub record Dimensions : Type 0 where
  pub frames : ℕ
  pub file_pages : ℕ
  pub anonymous_pages : ℕ

abbrev pub same_page : Page → Page → Bool
same_page (File o i) (File p j) = o == p && i == j
same_page (File o i) (Anonymous j) = false
same_page (Anonymous i) (File p j) = false
same_page (Anonymous i) (Anonymous j) = i == j

-- a guest has files 0 to 7
abbrev pub exists : Dimensions → Page → Bool
exists D (File o i) = nat_lt o 8 && nat_lt i D.file_pages
exists D (Anonymous i) = nat_lt i D.anonymous_pages

-- the pages of the file o from the index i on
abbrev pub file_from : ℕ → ℕ → Page → Bool
file_from o i (File p j) = p == o && nat_le i j
file_from o i (Anonymous j) = false

abbrev pub in_set : PageSet → Page → Bool
in_set (FileFrom o i) p = file_from o i p
in_set (One q) p = same_page q p
in_set All p = true

-- the pool, the object and the index of a page of the guest g
abbrev pub page_pool : ℕ → Page → ℕ
page_pool g (File o i) = 2 * g
page_pool g (Anonymous i) = 2 * g + 1

abbrev pub page_object : Page → ℕ
page_object (File o i) = o
page_object (Anonymous i) = 0

abbrev pub page_index : Page → ℕ
page_index (File o i) = i
page_index (Anonymous i) = i

-- the number of its key
abbrev pub key_number : ℕ → Page → ℕ
key_number g p = number_of (page_pool g p) (page_object p) (page_index p)

-- whether a guest can have the page at all
abbrev pub valid_page : ℕ → Page → Bool
valid_page g p = nat_lt g 4 && nat_lt (page_object p) 8 && nat_lt (page_index p) (2 ^ 12)

-- its key; none where there can be no such page
abbrev pub page_key : ℕ → Page → Option Key
page_key g p = cond (valid_page g p) (Some (record { number = key_number g p })) None

-- the key k is that of no other page of any guest
abbrev pub NamesOnly : Key → ℕ → Page → Type 0
NamesOnly k g p = (h : ℕ) (q : Page) → page_key h q ≡ Some k → (h ≡ g) × (q ≡ p)
