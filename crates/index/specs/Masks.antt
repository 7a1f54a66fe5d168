-- The mask of a node's children.
use Rattle.std.specs.Prelude.{◌≡◌, ℕ, zero, suc, ◌/◌, ◌%◌, ◌<◌, List, slice_index, refl}

-- bit c of n
abbrev pub bit : ℕ → ℕ → ℕ
bit zero n = n % 2
bit (suc c) n = bit c (n / 2)

-- the mask tells which steps have a child
pub record Agrees (mask : ℕ) (children : List ℕ) : Type 0 where
  pub clear : (c : ℕ) → c < 16 → bit c mask ≡ 0 → slice_index children c ≡ 0
  pub absent : (c : ℕ) → c < 16 → slice_index children c ≡ 0 → bit c mask ≡ 0

pub bit_zero : (c : ℕ) → bit c 0 ≡ 0
bit_zero zero = refl
bit_zero (suc c) = bit_zero c
