-- A number of 32 bits that a page is known by: equal pages have equal fingerprints, and different pages mostly different ones.
use Rattle.std.specs.Prelude.{ℕ, ◌+◌, ◌*◌, ◌%◌, ◌^◌, List, fold}

-- the fingerprint of some bytes, with one byte more
abbrev pub print_more : ℕ → ℕ → ℕ
print_more before byte = (before * 31 % 2 ^ 32 + byte) % 2 ^ 32

unfoldable pub fingerprint_of : List ℕ → ℕ
fingerprint_of bytes = fold print_more 0 bytes
