-- The lines of a script, over plain lists.
use Rattle.std.proofs.Common.{◌≡◌, ℕ, suc, ◌+◌, ◌<◌, ◌≤◌, Bool, true, false, cond, not, eqb, ltb, List, [], ◌∷◌, length, take, drop, Some, sym, refl, ap, ◌∙◌, add-one, one-add, arith, lt-ltb, eqb-true, le-leb}
use Prim.Native.Nat.compare
use borrow.Author.Tests.{eqb-false}
use Rattle.std.proofs.lemmas.List.Folds.{length-prefix_len}
use Rattle.std.specs.List.{flat_map, AllByRecursion}
use Rattle.tokens.specs.Cuts.{before}
use Rattle.script.specs.Lines.{Row, widened, lines_of, with_end, NoFeed, AllEnded, LinesLaw, first_text, level_line, level_or, script_level}
use Rattle.script.specs.Rows.{first_row, later_rows}

-- the first line, and the lines behind its end
abbrev Cut : List ℕ → ℕ → List Row
Cut s k = record { text = take k s; ended = ltb k (length s) } ∷ lines_of (drop (k + 1) s)

at_feed : (c : ℕ) (s : List ℕ) → record { text = []; ended = true } ∷ lines_of s ≡ Cut (c ∷ s) 0
at_feed c s = rw (lt-ltb 0 (suc (length s)) (omega arith))

past_byte : (c : ℕ) (s : List ℕ) (k : ℕ) → widened c (Cut s k) ≡ Cut (c ∷ s) (1 + k)
past_byte c s k = rw (one-add, add-one, add-one, compare.suc-suc)

by_feed : (c : ℕ) (s : List ℕ) (k : ℕ) (b : Bool) → widened c (lines_of s) ≡ Cut (c ∷ s) (1 + k)
    → cond b (record { text = []; ended = true } ∷ lines_of s) (widened c (lines_of s)) ≡ Cut (c ∷ s) (cond (not b) (1 + k) 0)
by_feed c s k true e = at_feed c s
by_feed c s k false e = e

pub lines_step : (s : List ℕ) → 0 < length s → lines_of s ≡ Cut s (before 10 s)
lines_step [] h = absurd (omega arith)
lines_step (c ∷ []) h = by_feed c [] (before 10 []) (eqb c 10) refl
lines_step (c ∷ d ∷ s) h =
    by_feed c (d ∷ s) (before 10 (d ∷ s)) (eqb c 10) (ap (widened c) (lines_step (d ∷ s) (omega arith)) ∙ past_byte c (d ∷ s) (before 10 (d ∷ s)))

pub first_line : (s text : List ℕ) → 0 < length s → text ≡ take (before 10 s) s
    → Some (record { text = text; ended = ltb (length text) (length s) }) ≡ first_row (lines_of s)
first_line s text some e = rw (lines_step s some, e, length-prefix_len)

pub later_lines : (s rest : List ℕ) → 0 < length s → rest ≡ drop (before 10 s + 1) s → lines_of rest ≡ later_rows (lines_of s)
later_lines s rest some e = rw (lines_step s some, e)

pub fewer_lines : (s rest : List ℕ) → 0 < length s → rest ≡ drop (before 10 s + 1) s → length (lines_of rest) < length (lines_of s)
fewer_lines s rest some e = rw (lines_step s some, e) (omega arith)

-- the laws of lines
joined_widened : (c : ℕ) (ls : List Row) → flat_map with_end (widened c ls) ≡ c ∷ flat_map with_end ls
joined_widened c [] = refl
joined_widened c (l ∷ ls) = refl

join_cond : (c : ℕ) (s : List ℕ) (b : Bool) → (b ≡ true → c ≡ 10) → flat_map with_end (lines_of s) ≡ s
    → flat_map with_end (cond b (record { text = []; ended = true } ∷ lines_of s) (widened c (lines_of s))) ≡ c ∷ s
join_cond c s true same ih = rw (same refl) (ap (λ (t : List ℕ). 10 ∷ t) ih)
join_cond c s false same ih = joined_widened c (lines_of s) ∙ ap (λ (t : List ℕ). c ∷ t) ih

lines_join : (s : List ℕ) → flat_map with_end (lines_of s) ≡ s
lines_join [] = refl
lines_join (c ∷ s) = join_cond c s (eqb c 10) (eqb-true c 10) (lines_join s)

abbrev Feedless : List Row → Type 0
Feedless ls = AllByRecursion (λ l. NoFeed l.text) ls

feeds_widened : (c : ℕ) (ls : List Row) → (c ≡ 10 → ⊥) → Feedless ls → Feedless (widened c ls)
feeds_widened c [] h a = ((h, tt), tt)
feeds_widened c (l ∷ ls) h a = ((h, a.0), a.1)

feeds_cond : (c : ℕ) (ls : List Row) (b : Bool) → (b ≡ false → c ≡ 10 → ⊥) → Feedless ls
    → Feedless (cond b (record { text = []; ended = true } ∷ ls) (widened c ls))
feeds_cond c ls true h a = (tt, a)
feeds_cond c ls false h a = feeds_widened c ls (h refl) a

lines_feeds : (s : List ℕ) → Feedless (lines_of s)
lines_feeds [] = tt
lines_feeds (c ∷ s) = feeds_cond c (lines_of s) (eqb c 10) (eqb-false c 10) (lines_feeds s)

ends_widened : (c : ℕ) (ls : List Row) → AllEnded ls → AllEnded (widened c ls)
ends_widened c [] a = λ e t. cc
ends_widened c (l ∷ []) a = λ e t. cc
ends_widened c (l ∷ m ∷ ls) a = a

ends_more : (ls : List Row) → AllEnded ls → AllEnded (record { text = []; ended = true } ∷ ls)
ends_more [] a = λ e t. cc
ends_more (l ∷ ls) a = (refl, a)

ends_cond : (c : ℕ) (ls : List Row) (b : Bool) → AllEnded ls → AllEnded (cond b (record { text = []; ended = true } ∷ ls) (widened c ls))
ends_cond c ls true a = ends_more ls a
ends_cond c ls false a = ends_widened c ls a

lines_ends : (s : List ℕ) → AllEnded (lines_of s)
lines_ends [] = tt
lines_ends (c ∷ s) = ends_cond c (lines_of s) (eqb c 10) (lines_ends s)

pub lines_law : (s : List ℕ) → LinesLaw s (lines_of s)
lines_law s = record { join = lines_join s; feeds = lines_feeds s; ends = lines_ends s }

-- the first line of a script that may be empty
first_text_is : (s : List ℕ) → first_text (lines_of s) ≡ take (before 10 s) s
first_text_is [] = refl
first_text_is (c ∷ s) = ap first_text (lines_step (c ∷ s) (omega arith))

-- the level of a script, by its length and its first line
pub level_by_line : (s text : List ℕ) → length s ≤ 65536 → text ≡ take (before 10 s) s → level_or (level_line text) ≡ script_level s
level_by_line s text h e = rw (le-leb (length s) 65536 h) (ap (λ (t : List ℕ). level_or (level_line t)) (e ∙ sym (first_text_is s)))
