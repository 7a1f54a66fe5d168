-- A key's parts: its pool in bits 28 to 31, its object in bits 12 to 27, its index in bits 0 to 11.
use Rattle.std.specs.Prelude.{ℕ, ◌+◌, ◌*◌, ◌/◌, ◌%◌, ◌^◌, Bool, cond, ◌&&◌, Some, None, Option, ◌==◌, nat_lt}
use Rattle.page.specs.declared.keys.Key.{Key}

abbrev pub pool_of : ℕ → ℕ
pool_of k = k / 2 ^ 28

abbrev pub object_of : ℕ → ℕ
object_of k = k / 2 ^ 12 % 2 ^ 16

abbrev pub index_of : ℕ → ℕ
index_of k = k % 2 ^ 12

-- the number of the key with these parts
abbrev pub number_of : ℕ → ℕ → ℕ → ℕ
number_of pool object index = pool * 2 ^ 28 + object * 2 ^ 12 + index

-- the key with these parts; none where a part is out of its range
abbrev pub key_from : ℕ → ℕ → ℕ → Option Key
key_from pool object index =
    cond (nat_lt pool 16 && nat_lt object (2 ^ 16) && nat_lt index (2 ^ 12)) (Some (record { number = number_of pool object index })) None

-- even pools are ephemeral, odd ones persistent
abbrev pub ephemeral : ℕ → Bool
ephemeral k = pool_of k % 2 == 0
