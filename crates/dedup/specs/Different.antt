-- Different pages in a list of held pages, and when the deduplicating store lacks a place.
use Rattle.std.specs.Prelude.{ℕ, ◌+◌, Bool, true, false, cond, not, ◌&&◌, ◌||◌, List, [], ◌∷◌, length, ◌==◌, nat_le, slice_index}
use Rattle.backend.specs.Rules.{Entry}

-- whether two pages are equal in all their bytes
unfoldable pub same_page : List ℕ → List ℕ → Bool
same_page [] [] = true
same_page [] (y ∷ ys) = false
same_page (x ∷ xs) [] = false
same_page (x ∷ xs) (y ∷ ys) = x == y && same_page xs ys

-- whether a held page equals this one
abbrev pub page_held : List ℕ → List Entry → Bool
page_held p [] = false
page_held p (e ∷ es) = same_page e.page p || page_held p es

-- how many different pages are held
abbrev pub different : List Entry → ℕ
different [] = 0
different (e ∷ es) = cond (page_held e.page es) 0 1 + different es

-- It lacks a place when it holds as many pages as it can, or when the offered page equals no held page and as many different
-- pages are held as can be. The first of what is fixed says how many pages, the second how many different ones.
abbrev pub dedup_lack : List ℕ → List Entry → List ℕ → Bool
dedup_lack fixed es p = nat_le (slice_index fixed 0) (length es) || (not (page_held p es) && nat_le (slice_index fixed 1) (different es))
