-- Any calls on an index, as they change its map.
use Rattle.std.specs.Prelude.{◌≡◌, ℕ, ◌-◌, ◌≤◌, cond, List, [], ◌∷◌, length, is_ok}
use Rattle.index.specs.Map.{put, without, keys, ruling, used}

pub data Call (R : Type 0) : Type 0 where
  filing : ℕ → R → Call R
  removal : ℕ → Call R

-- the map after a call on an index of m record slots and n nodes, as the contracts of `file` and `remove` give it
abbrev pub after : {R : Type 0} → ℕ → ℕ → Call R → List (ℕ × R) → List (ℕ × R)
after m n (filing k r) v = cond (is_ok (ruling (keys v) k m n)) (put k r v) v
after m n (removal k) v = without k v

abbrev pub run : {R : Type 0} → ℕ → ℕ → List (Call R) → List (ℕ × R) → List (ℕ × R)
run m n [] v = v
run m n (c ∷ cs) v = run m n cs (after m n c v)

abbrev pub removals : {R : Type 0} → List ℕ → List (Call R)
removals [] = []
removals (k ∷ ks) = removal k ∷ removals ks

-- the map needs no more than there is, and removing every key leaves no record, and every node but the root free
pub record Leakless {R : Type 0} (m n : ℕ) (v : List (ℕ × R)) : Type 0 where
  pub slots_fit : length v ≤ m
  pub nodes_fit : used n (keys v) ≤ n
  pub emptied : run m n (removals (keys v)) v ≡ []
  pub slots_free : m - length (run m n (removals (keys v)) v) ≡ m
  pub nodes_free : n - used n (keys (run m n (removals (keys v)) v)) ≡ n - 1

-- so it is after any calls on a new index
abbrev pub NothingLeaks : Type 0 → Type 0
NothingLeaks R = (m n : ℕ) (calls : List (Call R)) → Leakless m n (run m n calls [])
