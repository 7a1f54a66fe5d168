-- How keys are counted, and the fullest even pool found.
use Rattle.std.specs.Prelude.{ℕ, zero, suc, ◌+◌, ◌*◌, cond, ◌&&◌, List, count_by, nat_le, nat_lt}

-- how many of the keys are from low on, and below high
abbrev pub between : List ℕ → ℕ → ℕ → ℕ
between ks low high = count_by (λ k. nat_le low k && nat_lt k high) ks

-- of the pools 0, 2, up to 2 n, the one of the greatest size, and of several the lowest
abbrev pub fullest_of : (ℕ → ℕ) → ℕ → ℕ
fullest_of size zero = 0
fullest_of size (suc n) = cond (nat_lt (size (fullest_of size n)) (size (2 * n + 2))) (2 * n + 2) (fullest_of size n)
