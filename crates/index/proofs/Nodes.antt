-- What is read of one node.
use Rattle.std.proofs.Common.{◌≡◌, ℕ, ◌<◌, ◌≤◌, List, length, get_or, true, false, is_some, None, Some, ap, subst, arith}
use Rattle.std.specs.Prelude.{Option, MatchOption, ◌≢◌}
use Rattle.std.proofs.lemmas.List.{get_or_read}
use Rattle.index.specs.declared.node.Node.{Node}
use Rattle.index.specs.Nodes.{none, child_in}

-- what a search among the children of a node answers
abbrev pub Next : (ℕ → ℕ) → ℕ → Option ℕ → Type 0
Next child from r = MatchOption r ((d : ℕ) → from ≤ d → d < 16 → child d ≡ 0)
    (λ s. (from ≤ s) × (s < 16) × ((d : ℕ) → from ≤ d → d < s → child d ≡ 0) × (child s ≢ 0))

module _ (ns : List Node) (i : ℕ) (node : Node) (l : i < length ns) (e : node ≡ get_or ns i node) where
  pub node_read : node ≡ get_or ns i none
  node_read = get_or_read ns i node l e none

  pub child_read : (step : ℕ) → get_or node.children.items step 0 ≡ child_in ns i step
  child_read step = ap (λ n. get_or n.children.items step 0) node_read

  pub next_read : (from : ℕ) (r : Option ℕ) → Next (λ d. get_or node.children.items d 0) from r → Next (child_in ns i) from r
  next_read from r = subst (λ (n : Node). Next (λ d. get_or n.children.items d 0) from r) node_read

-- whether a node has a child, by a search from its first step on
pub no_child : (child : ℕ → ℕ) (r : Option ℕ) → is_some r ≡ false → Next child 0 r → (d : ℕ) → d < 16 → child d ≡ 0
no_child child None e z d l = z d (omega arith) l
no_child child (Some s) e z d l = absurd (cc)

pub some_child : (child : ℕ → ℕ) (r : Option ℕ) → is_some r ≡ true → Next child 0 r → ((d : ℕ) → d < 16 → child d ≡ 0) → ⊥
some_child child None e z n = absurd (cc)
some_child child (Some s) e z n = z.3 (n s z.1)
