-- The numbers of a script: decimal digits, no needless leading zero, at most 65,535.
use Rattle.std.specs.Prelude.{ℕ, ◌+◌, ◌-◌, ◌*◌, ◌^◌, Bool, false, cond, ◌&&◌, List, [], ◌∷◌, Some, None, Option, ◌==◌, nat_lt}
use Rattle.std.specs.Char.{is_ascii_digit}

-- the number n with the digit c behind it, while it stays below 65,536
abbrev pub appended : ℕ → ℕ → Option ℕ
appended n c = cond (is_ascii_digit c && nat_lt (n * 10 + (c - 48)) (2 ^ 16)) (Some (n * 10 + (c - 48))) None

-- the number n with all these digits behind it
abbrev pub scanned : ℕ → List ℕ → Option ℕ
scanned n [] = Some n
scanned n (c ∷ cs) = elim (appended n c) [ None ↦ None | Some m ↦ scanned m cs ]

-- a zero with more behind it
abbrev pub zero_first : List ℕ → Bool
zero_first [] = false
zero_first (c ∷ []) = false
zero_first (c ∷ d ∷ s) = c == 48

-- the number that a field writes, if it writes one
abbrev pub number_of : List ℕ → Option ℕ
number_of [] = None
number_of (c ∷ s) = cond (zero_first (c ∷ s)) None (scanned 0 (c ∷ s))
