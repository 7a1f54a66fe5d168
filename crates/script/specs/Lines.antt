-- The lines of a script, and the level that its first line sets.
use Rattle.std.specs.Prelude.{◌≡◌, ℕ, Bool, true, false, cond, ◌&&◌, List, [], ◌∷◌, ◌++◌, length, Some, None, Ok, Err, Option, Result, ◌==◌, ◌≢◌, nat_le}
use Rattle.std.specs.List.{flat_map, AllByRecursion}
use Rattle.script.specs.declared.levels.Level.{Level}
use Rattle.script.specs.declared.levels.Level.TheVariants.{Bare, Shared, Packed}
use Rattle.script.specs.declared.levels.ScriptRefusal.{ScriptRefusal}
use Rattle.script.specs.declared.levels.ScriptRefusal.TheVariants.{TooLong, NoLevel}

-- a line, and whether a line feed ends it
pub record Row : Type 0 where
  pub text : List ℕ
  pub ended : Bool

-- one byte more at the front of the first line
abbrev pub widened : ℕ → List Row → List Row
widened c [] = record { text = c ∷ []; ended = false } ∷ []
widened c (l ∷ ls) = record { text = c ∷ l.text; ended = l.ended } ∷ ls

abbrev pub lines_of : List ℕ → List Row
lines_of [] = []
lines_of (c ∷ s) = cond (c == 10) (record { text = []; ended = true } ∷ lines_of s) (widened c (lines_of s))

-- a line with its end
abbrev pub with_end : Row → List ℕ
with_end l = l.text ++ cond l.ended (10 ∷ []) []

-- no byte is a line feed
abbrev pub NoFeed : List ℕ → Type 0
NoFeed s = AllByRecursion (λ c. c ≢ 10) s

-- only the last line may lack its end, and then it is not empty
abbrev pub AllEnded : List Row → Type 0
AllEnded [] = Unit {0}
AllEnded (l ∷ []) = l.ended ≡ false → l.text ≢ []
AllEnded (l ∷ m ∷ ls) = (l.ended ≡ true) × AllEnded (m ∷ ls)

-- Lines are the lines of a script: with their ends they join to it, and each ends at the first line feed.
pub record LinesLaw (script : List ℕ) (lines : List Row) : Type 0 where
  pub join : flat_map with_end lines ≡ script
  pub feeds : AllByRecursion (λ l. NoFeed l.text) lines
  pub ends : AllEnded lines

-- the first line's text
abbrev pub first_text : List Row → List ℕ
first_text [] = []
first_text (l ∷ ls) = l.text

abbrev pub digit_level : ℕ → Option Level
digit_level d = cond (d == 49) (Some Bare) (cond (d == 50) (Some Shared) (cond (d == 51) (Some Packed) None))

-- the level of a line that is exactly `P 1`, `P 2` or `P 3`
abbrev pub level_line : List ℕ → Option Level
level_line [] = None
level_line (p ∷ []) = None
level_line (p ∷ q ∷ []) = None
level_line (p ∷ q ∷ d ∷ []) = cond (p == 80 && q == 32) (digit_level d) None
level_line (p ∷ q ∷ d ∷ e ∷ s) = None

abbrev pub level_or : Option Level → Result Level ScriptRefusal
level_or None = Err NoLevel
level_or (Some l) = Ok l

-- the level of a script of at most 65,536 bytes
abbrev pub script_level : List ℕ → Result Level ScriptRefusal
script_level s = cond (nat_le (length s) 65536) (level_or (level_line (first_text (lines_of s)))) (Err TooLong)

abbrev pub script_refusal_number : ScriptRefusal → ℕ
script_refusal_number TooLong = 33
script_refusal_number NoLevel = 33

abbrev pub level_number : Level → ℕ
level_number Bare = 1
level_number Shared = 2
level_number Packed = 3
