-- A turn of the hand, in the words of the rule.
use Rattle.std.specs.Prelude.{◌≡◌, ℕ, ◌+◌, ◌-◌, ◌<◌, ◌≤◌, Bool, true, false, cond, List, length, Option, ◌≢◌, nat_lt, slice_index_or}
use Rattle.frames.specs.declared.pages.Page.{Page}
use Rattle.frames.specs.Clock.{passes}

-- the frame that is k frames on from the hand, in a ring of n
abbrev pub frames_on : ℕ → ℕ → ℕ → ℕ
frames_on n hand k = cond (nat_lt (hand + k) n) (hand + k) (hand + k - n)

-- the hand goes from one frame to another, k frames on, over frames that are all filled and marked, and clears just their marks
pub record Passing (k : ℕ) (pages : List (Option Page)) (before after : List Bool) (from to : ℕ) : Type 0 where
  pub arrives : to ≡ frames_on (length pages) from k
  pub at_most_round : k ≤ length pages
  pub same_length : length after ≡ length before
  pub passed : (j : ℕ) → j < k → passes pages before (frames_on (length pages) from j) ≡ true
  pub cleared : (j : ℕ) → j < k → slice_index_or after (frames_on (length pages) from j) false ≡ false
  pub kept : (i : ℕ) → ((j : ℕ) → j < k → i ≢ frames_on (length pages) from j) → slice_index_or after i false ≡ slice_index_or before i false

-- it stops at the first frame that is unmarked or empty
pub record Turn (pages : List (Option Page)) (before after : List Bool) (from to : ℕ) : Type 0 where
  pub over : ℕ
  pub passing : Passing over pages before after from to
  pub stops : passes pages after to ≡ false
