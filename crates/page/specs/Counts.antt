-- Which count stands for how many things.
use Rattle.std.specs.Prelude.{ℕ, ◌+◌, ◌^◌, cond, List, codes, decimal, nat_lt}
use Rattle.page.specs.declared.counts.Count.{Count}
use Rattle.page.specs.declared.counts.Count.TheVariants.{Exact, Over}

-- the count of n things: exact up to the greatest 32-bit number
abbrev pub count_of : ℕ → Count
count_of n = cond (nat_lt n (2 ^ 32)) (Exact n) Over

-- the count after one thing more
abbrev pub one_more : Count → Count
one_more (Exact n) = count_of (n + 1)
one_more Over = Over

-- a count as it is printed
abbrev pub count_text : Count → List ℕ
count_text (Exact n) = decimal n
count_text Over = codes "over"
