use Rattle.std.proofs.Common.{◌≡◌, ℕ, ◌+◌, ◌-◌, ◌<◌, min, List, length, vec_items, sym, ◌∙◌, subst, arith}
use Rattle.std.proofs.lemmas.List.{length-map}
use Rattle.index.specs.declared.node.Node.{Node}
use Rattle.index.specs.Nodes.{path_in, child_in, free_in}
use Rattle.index.specs.Slots.{heads}
use Rattle.index.proofs.Fresh.{fresh}
use Rattle.index.proofs.tree.Tree.new.Goals as goal
use Rattle.index.proofs.tree.Tree.new.Goals.{then-n-gt0, else-n-gt0}

-- the nodes as the tree begins with them
abbrev Facts : List Node → ℕ → ℕ → Type 0
Facts ns n f = (length ns ≡ n) × (f ≡ n - 1) × (0 < n → path_in ns 0 ≡ 1) × ((j : ℕ) → j < n → (j ≡ 0 → ⊥) → path_in ns j ≡ 0)
    × ((j c : ℕ) → j < n → c < 16 → child_in ns j c ≡ 0) × ((j : ℕ) → j < n → free_in ns j ≡ j + 1)

pub clear_slots-requires : goal.clear_slots-requires
clear_slots-requires g c =
    let v = c.truncate-2.new.self.ok.0 in
    omega (arith, c.truncate-2.ensures.len, length-map (vec_items c.truncate-2.new.self) (λ s. s.head))

pub returns : goal.returns
returns g c =
    let n = c.len-n.result in
    let i = c.clear_nodes.ensures in
    let k = c.clear_slots.ensures in
    let v = c.clear_nodes.new.nodes.ok.0 in
    let e : length (vec_items c.clear_nodes.new.nodes) ≡ n = omega arith in
    let facts : Facts (vec_items c.if-n-gt0.nodes) n c.if-n-gt0.unused =
    elim c.if-n-gt0.branch [
      | then-n-gt0 w ↦
          let z = w.set_path.ensures in
          subst (λ y. Facts (vec_items y) n c.if-n-gt0.unused) (sym w.nodes-is)
          (z.len ∙ e, w.unused-is, (λ _. z.here), (λ j l ne. z.rest j ne ∙ i.paths j (omega arith)), (λ j d l dl. z.children j d ∙ i.children j d (omega arith) dl), (λ j l. z.frees j ∙ i.frees j (omega arith)))
      | else-n-gt0 w ↦
          let q : n ≡ 0 = omega (arith, w.if-n-gt0.false) in
          subst (λ y. Facts (vec_items y) n c.if-n-gt0.unused) (sym w.nodes-is)
          (e, omega (arith, w.unused-is), (λ l. absurd (omega arith)), (λ j l ne. absurd (omega arith)), (λ j d l dl. absurd (omega arith)), (λ j l. absurd (omega arith)))
    ] in
    let f0 = facts.0 in
    let f1 = facts.1 in
    let a = c.args.memory.nodes.ok.0 in
    let b = c.truncate.new.self.ok.0 in
    let p = c.args.memory.slots.ok.0 in
    let q = c.truncate-2.new.self.ok.0 in
    let r = c.clear_slots.new.slots.ok.0 in
    let s1 = length-map (vec_items c.args.memory.slots) (λ s. s.head) in
    let s2 = length-map (vec_items c.truncate-2.new.self) (λ s. s.head) in
    let s3 = length-map (vec_items c.clear_slots.new.slots) (λ s. s.head) in
    let size : length (heads (vec_items c.clear_slots.new.slots)) ≡ min (length (vec_items c.args.memory.slots)) 2147483647 = omega (arith, k.len, c.truncate-2.ensures.len) in
    let nodes : n ≡ min (length (vec_items c.args.memory.nodes)) 2147483647 = omega (arith, i.len, c.truncate.ensures.len) in
    let vacant : c.len-vacant.result ≡ length (heads (vec_items c.clear_slots.new.slots)) = omega arith in
    let w = fresh (record { nodes = c.if-n-gt0.nodes; slots = c.clear_slots.new.slots; unused = c.if-n-gt0.unused; vacant = c.len-vacant.result })
    (omega arith) (omega arith) vacant
    (λ l. facts.2 (omega arith)) (λ j l ne. facts.3 j (omega arith) ne) (λ j d l dl. facts.4 j d (omega arith) dl) (λ j l. facts.5 j (omega arith))
    k.marks k.frees in
    record { whole = w.0; none = w.1; nodes = f0 ∙ nodes; slots = size }
