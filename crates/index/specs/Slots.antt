-- What a record slot of a list holds. Past the list's end all is 0.
use Rattle.std.specs.Prelude.{ℕ, ◌+◌, ◌^◌, List, map, Option, Some, None, slice_index_or}
use Rattle.index.specs.declared.slot.Head.{Head}
use Rattle.index.specs.declared.slot.Slot.{Slot}

abbrev pub no_head : Head
no_head = record { key = None; parent = 0; free = 0 }

-- a slot with the record, in which no key is filed
abbrev pub blank_slot : {R : Type 0} → R → Slot R
blank_slot value = record { head = no_head; value = value }

-- what the tree keeps beside the records
abbrev pub heads : {R : Type 0} → List (Slot R) → List Head
heads ss = map (λ s. s.head) ss

abbrev pub records : {R : Type 0} → List (Slot R) → List R
records ss = map (λ s. s.value) ss

-- 0 for no key, else 2 ^ 32 and the key
abbrev pub key_mark : Option ℕ → ℕ
key_mark None = 0
key_mark (Some k) = 2 ^ 32 + k

abbrev pub marks : List Head → List ℕ
marks hs = map (λ h. key_mark h.key) hs

abbrev pub mark_in : List Head → ℕ → ℕ
mark_in hs i = key_mark (slice_index_or hs i no_head).key

abbrev pub slot_parent_in : List Head → ℕ → ℕ
slot_parent_in hs i = (slice_index_or hs i no_head).parent

abbrev pub slot_free_in : List Head → ℕ → ℕ
slot_free_in hs i = (slice_index_or hs i no_head).free
