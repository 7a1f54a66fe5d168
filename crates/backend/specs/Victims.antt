-- Which page gives way: the oldest of the even pool that holds most pages; of pools that hold equally many, the lowest number.
-- The keys of the held pages are given, oldest put first.
use Rattle.std.specs.Prelude.{ℕ, cond, List, [], ◌∷◌, Some, None, fold, count_by, Option, ◌==◌, nat_eq, nat_lt}
use Rattle.page.specs.Keys.{pool_of}

-- how many of the keys are of a pool
abbrev pub pool_size : List ℕ → ℕ → ℕ
pool_size ks pool = count_by (λ k. nat_eq (pool_of k) pool) ks

-- the oldest key of a pool
abbrev pub oldest_of : ℕ → List ℕ → Option ℕ
oldest_of pool [] = None
oldest_of pool (k ∷ ks) = cond (pool_of k == pool) (Some k) (oldest_of pool ks)

-- of two pools the one that holds more; the first, where they hold equally many
abbrev pub fuller : List ℕ → ℕ → ℕ → ℕ
fuller ks p q = cond (nat_lt (pool_size ks p) (pool_size ks q)) q p

abbrev pub even_pools_above_0 : List ℕ
even_pools_above_0 = 2 ∷ 4 ∷ 6 ∷ 8 ∷ 10 ∷ 12 ∷ 14 ∷ []

-- the even pool that holds most pages, and of several the lowest
unfoldable pub fullest : List ℕ → ℕ
fullest ks = fold (fuller ks) 0 even_pools_above_0

-- the key that gives way, or none where no even pool holds a page
unfoldable pub victim : List ℕ → Option ℕ
victim ks = oldest_of (fullest ks) ks
