-- Bytes cut at a mark: a line's fields at its spaces, a script's lines at their ends.
use Rattle.std.specs.Prelude.{ℕ, not, List, ◌==◌}
use Rattle.std.specs.List.{prefix_len, slice_split}

-- how many bytes stand before the first mark
abbrev pub before : ℕ → List ℕ → ℕ
before mark s = prefix_len (λ c. not (c == mark)) s

-- the pieces between the marks, one more than there are marks
abbrev pub pieces : ℕ → List ℕ → List (List ℕ)
pieces mark s = slice_split (λ c. c == mark) s
