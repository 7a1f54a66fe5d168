use Rattle.std.proofs.Common.{◌≡◌, ℕ, ◌≤◌, ◌∙◌, get_or, replicate, sym, refl, ap, subst, inl, inr}
use Rattle.std.proofs.lemmas.List.{get_or-replicate, get_or_past, length-replicate}
use Rattle.std.proofs.lemmas.Bool.{cases_lt}
use Rattle.index.specs.Nodes.{Blank, none}
use Rattle.index.specs.declared.node.Node.{Node}
use Rattle.index.proofs.Masks.{agrees_none}
use Rattle.index.proofs.memory.IndexMemory.new.Goals as goal

pub invariant_of-vec : goal.invariant_of-vec
invariant_of-vec g c = record { agrees = ∣ agrees_none (replicate 16 0) (λ c l. get_or-replicate 16 c 0 0 l) ∣₁ }

-- a list of equal nodes is blank, if the node is
all_blank : (n : ℕ) (x : Node) → x.path ≡ 0 → x.parent ≡ 0 → x.free ≡ 0 → x.children.items ≡ replicate 16 0 → Blank (replicate n x)
all_blank n x path parent free children = record {
  children = λ j c. elim (cases_lt j n) [
    | inl l ↦ ap (λ y. get_or y.children.items c 0) (get_or-replicate n j x none l) ∙ ap (λ cs. get_or cs c 0) children ∙ no_child c
    | inr l ↦ ap (λ y. get_or y.children.items c 0) (past j l)
  ];
  paths = λ j. elim (cases_lt j n) [ inl l ↦ ap (λ y. y.path) (get_or-replicate n j x none l) ∙ path | inr l ↦ ap (λ y. y.path) (past j l) ];
  parents = λ j. elim (cases_lt j n) [ inl l ↦ ap (λ y. y.parent) (get_or-replicate n j x none l) ∙ parent | inr l ↦ ap (λ y. y.parent) (past j l) ];
  frees = λ j. elim (cases_lt j n) [ inl l ↦ ap (λ y. y.free) (get_or-replicate n j x none l) ∙ free | inr l ↦ ap (λ y. y.free) (past j l) ];
}
  where
    past : (j : ℕ) → n ≤ j → get_or (replicate n x) j none ≡ none
    past j l = get_or_past (replicate n x) j none (subst (λ k. k ≤ j) (sym (length-replicate n x)) l)

    no_child : (c : ℕ) → ◌≡◌ {A = ℕ} (get_or (replicate 16 0) c 0) 0
    no_child c = elim (cases_lt c 16) [ inl l ↦ get_or-replicate {A = ℕ} 16 c 0 0 l | inr l ↦ get_or_past {X = ℕ} (replicate 16 0) c 0 l ]

pub returns-clause-blank : goal.returns-clause-blank
returns-clause-blank g c =
    let made = c.in_ok-blank_nodes.ensures.items_if_clones_equal (λ y h. h) in
    subst (λ ns. Blank ns) (sym made) (all_blank _ _ refl refl refl refl)
