-- A guest's frames and hand: where a page is, which frame a fault takes, and what an access and emptying leave.
use Rattle.std.specs.Prelude.{ℕ, zero, suc, ◌+◌, Bool, true, false, cond, ◌&&◌, List, [], ◌∷◌, map, length, replicate, Some, None, Option, nat_lt, slice_index_or, slice_set}
use Rattle.frames.specs.declared.pages.Page.{Page}
use Rattle.frames.specs.Pages.{same_page}

-- for each frame its page, or none, and its mark; and the frame that the hand stands on
pub record Clock : Type 0 where
  pub pages : List (Option Page)
  pub marks : List Bool
  pub hand : ℕ

-- so many empty frames
abbrev pub empty_clock : ℕ → ℕ → Clock
empty_clock frames hand = record { pages = replicate frames None; marks = replicate frames false; hand = hand }

-- what f gives of the value, if there is one, else y
abbrev pub given : {A B : Type 0} → Option A → (A → B) → B → B
given (Some x) f y = f x
given None f y = y

abbrev pub filled : Option Page → Bool
filled None = false
filled (Some p) = true

-- the frame that holds a page

abbrev pub holds : Page → Option Page → Bool
holds p None = false
holds p (Some q) = same_page p q

abbrev pub later : Option ℕ → Option ℕ
later None = None
later (Some i) = Some (suc i)

unfoldable pub find : Page → List (Option Page) → Option ℕ
find p [] = None
find p (x ∷ xs) = cond (holds p x) (Some 0) (later (find p xs))

-- the frame after i; after the last of f frames comes frame 0
abbrev pub next_place : ℕ → ℕ → ℕ
next_place f i = cond (nat_lt (i + 1) f) (i + 1) 0

-- whether the hand passes over the frame i: it is filled and marked
abbrev pub passes : List (Option Page) → List Bool → ℕ → Bool
passes ps ms i = filled (slice_index_or ps i None) && slice_index_or ms i false

-- from the frame i on, the hand passes over marked frames and clears each mark, until one is unmarked or empty: the marks
-- after that, and the frame. Once it has passed all frames no mark is left, so as many steps as there are frames are enough.
unfoldable pub sweep : ℕ → List (Option Page) → List Bool → ℕ → List Bool × ℕ
sweep zero ps ms i = (ms, i)
sweep (suc steps) ps ms i = cond (passes ps ms i) (sweep steps ps (slice_set ms i false) (next_place (length ps) i)) (ms, i)

unfoldable pub swept : Clock → List Bool
swept c = (sweep (length c.pages) c.pages c.marks c.hand).0

-- the frame that a fault takes
unfoldable pub taken : Clock → ℕ
taken c = (sweep (length c.pages) c.pages c.marks c.hand).1

-- the hand has gone round: marks are cleared, and it stands on the frame after the one that is taken
abbrev pub turned : Clock → Clock
turned c = record { pages = c.pages; marks = swept c; hand = next_place (length c.pages) (taken c) }

-- the frame i holds x, and is marked where that is a page
abbrev pub put_in : Clock → ℕ → Option Page → Clock
put_in c i x = record { pages = slice_set c.pages i x; marks = slice_set c.marks i (filled x); hand = c.hand }

-- after a fault the taken frame holds x
abbrev pub refilled : Clock → Option Page → Clock
refilled c x = put_in (turned c) (taken c) x

-- an access to the page in the frame i
abbrev pub hit : Clock → ℕ → Clock
hit c i = record { pages = c.pages; marks = slice_set c.marks i true; hand = c.hand }

-- an access to the page p; it is a fault where p is in no frame
abbrev pub access : Clock → Page → Clock
access c p = given (find p c.pages) (hit c) (refilled c (Some p))

-- the page that an access to p evicts: the one that the frame held which a fault takes
abbrev pub evictee : Clock → Page → Option Page
evictee c p = given (find p c.pages) (λ i. None) (slice_index_or c.pages (taken c) None)

-- frames whose page is in a set are emptied

abbrev pub emptied_page : (Page → Bool) → Option Page → Option Page
emptied_page t None = None
emptied_page t (Some p) = cond (t p) None (Some p)

-- of a flag for each frame, those of the frames that are empty then are lowered
unfoldable pub lowered : (Page → Bool) → List (Option Page) → List Bool → List Bool
lowered t [] bs = bs
lowered t (x ∷ xs) [] = []
lowered t (x ∷ xs) (b ∷ bs) = cond (filled (emptied_page t x)) b false ∷ lowered t xs bs

abbrev pub emptied : (Page → Bool) → Clock → Clock
emptied t c = record { pages = map (emptied_page t) c.pages; marks = lowered t c.pages c.marks; hand = c.hand }
