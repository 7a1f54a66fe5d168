-- What a node of a list holds. Past the list's end all is 0.
use Rattle.std.specs.Prelude.{◌≡◌, ℕ, List, [], slice_index, slice_index_or, refl}
use Rattle.index.specs.declared.node.Node.{Node}
use Rattle.index.specs.Masks.{bit_zero}

abbrev pub none : Node
none = record { children = record { items = []; mask = 0; agrees = ∣ record { clear = λ c l z. refl; absent = λ c l z. bit_zero c } ∣₁ }; path = 0; parent = 0; free = 0 }

abbrev pub path_in : List Node → ℕ → ℕ
path_in ns i = (slice_index_or ns i none).path

abbrev pub parent_in : List Node → ℕ → ℕ
parent_in ns i = (slice_index_or ns i none).parent

abbrev pub free_in : List Node → ℕ → ℕ
free_in ns i = (slice_index_or ns i none).free

abbrev pub child_in : List Node → ℕ → ℕ → ℕ
child_in ns i c = slice_index (slice_index_or ns i none).children.items c

-- the nodes have no children, no path, no parent and no entry of a stack
pub record Blank (ns : List Node) : Type 0 where
  pub children : (j c : ℕ) → child_in ns j c ≡ 0
  pub paths : (j : ℕ) → path_in ns j ≡ 0
  pub parents : (j : ℕ) → parent_in ns j ≡ 0
  pub frees : (j : ℕ) → free_in ns j ≡ 0
