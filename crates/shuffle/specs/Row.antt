-- The sequence of pseudo-random numbers.
use Rattle.std.specs.Prelude.{ℕ, ◌*◌, ◌/◌, ◌%◌, ◌^◌, bit_xor}

-- the number after n: thrice it is joined by exclusive or with itself, shifted 13 bits up, 17 down and 5 up
abbrev pub after : ℕ → ℕ
after n =
    let a = bit_xor n (n * 2 ^ 13 % 2 ^ 32) in
    let b = bit_xor a (a / 2 ^ 17) in
    bit_xor b (b * 2 ^ 5 % 2 ^ 32)
