-- What is found in a list of held pages, and what may join it.
use Rattle.std.specs.Prelude.{◌≡◌, ℕ, ◌<◌, ◌≤◌, Bool, true, cond, not, ◌&&◌, List, is_some, Some, None, Option}
use Rattle.page.specs.declared.keys.Key.{Key}
use Rattle.backend.specs.Outcomes.{is_page, copied}
use Rattle.backend.specs.Rules.{Entry, lookup}

-- the first held key that is not below k, or none
abbrev pub FirstHeld : ℕ → List Entry → Option Key → Type 0
FirstHeld k es None = (j : ℕ) → k ≤ j → lookup j es ≡ None
FirstHeld k es (Some x) = (k ≤ x.number) × (is_some (lookup x.number es) ≡ true) × ((j : ℕ) → k ≤ j → j < x.number → lookup j es ≡ None)

abbrev pub key_number : Option Key → Option ℕ
key_number None = None
key_number (Some k) = Some k.number

-- whether a page can join: it is a page, its key is not held, and it does not lack a place
abbrev pub joins : Bool → ℕ → List ℕ → List Entry → Bool
joins lacking k p es = is_page p && (not (is_some (lookup k es)) && not lacking)

-- whether a page is found and copied, and what the buffer holds then
abbrev pub found : ℕ → List ℕ → List Entry → Bool
found k out es = is_page out && is_some (lookup k es)

abbrev pub filled : ℕ → List ℕ → List Entry → List ℕ
filled k out es = cond (is_page out) (copied (lookup k es) out) out
