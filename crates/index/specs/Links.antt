-- A radix tree over items. Items below n are nodes, the others record slots. Each item in use has a path, a 1 followed by
-- the steps that lead to it, in hexadecimal: the root has 1, and the slot of key k has 2 ^ 32 + k. A free item has 0.
use Rattle.std.specs.Prelude.{◌≡◌, ℕ, zero, suc, ◌+◌, ◌*◌, ◌/◌, ◌%◌, ◌^◌, ◌<◌, ◌≤◌, ◌≢◌}

-- the path, h steps up from the path t
abbrev pub up : ℕ → ℕ → ℕ
up zero t = t
up (suc h) t = up h t / 16

pub record Linked (n : ℕ) (path parent : ℕ → ℕ) (child : ℕ → ℕ → ℕ) : Type 0 where
  pub root : path 0 ≡ 1
  pub sole : (i : ℕ) → path i ≡ 1 → i ≡ 0
  pub down : (i c : ℕ) → c < 16 → (child i c ≢ 0) → (1 ≤ path i) × (path (child i c) ≡ 16 * path i + c) × (parent (child i c) ≡ i)
  pub rise : (j : ℕ) → 1 < path j → (path (parent j) ≡ path j / 16) × (child (parent j) (path j % 16) ≡ j)
  pub small : (i : ℕ) → i < n → path i < 2 ^ 29
  pub large : (i : ℕ) → n ≤ i → 1 ≤ path i → 2 ^ 32 ≤ path i
