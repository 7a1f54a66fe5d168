-- Blocks of keys.
use Rattle.std.specs.Prelude.{ℕ, ◌/◌, Bool, ◌==◌}

-- whether the key j is in a block, where blocks of `size` keys are numbered from 0
abbrev pub in_block : ℕ → ℕ → ℕ → Bool
in_block size block j = j / size == block
