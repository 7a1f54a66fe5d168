-- What `remove` owes.
use Rattle.std.proofs.Common.{◌≡◌, ℕ, suc, ◌+◌, ◌-◌, ◌%◌, ◌^◌, ◌<◌, ◌≤◌, ◌⊎◌, List, ◌∷◌, ◌++◌, set, vec_items, sym, ap, ◌∙◌, inl, inr, ⊎_elim, arith}
use Rattle.std.proofs.lemmas.List.{length-map}
use Rattle.std.proofs.lemmas.Bool.{cases_eq}
use Rattle.index.specs.declared.node.Node.{Node}
use Rattle.index.specs.declared.slot.Head.{Head}
use Rattle.index.specs.declared.tree.Tree.{Tree}
use Rattle.index.specs.Links.{up}
use Rattle.index.specs.Keys.{parts, missing}
use Rattle.index.specs.Nodes.{path_in, child_in}
use Rattle.index.specs.Slots.{marks, mark_in}
use Rattle.index.specs.Sound.{Sound, SoundIn, heads_of, records_of, filed}
use Rattle.index.specs.Filing.{Whole, Removed, keys_of, nodes_of}
use Rattle.index.proofs.Steps.{within_up}
use Rattle.index.proofs.Below.{missing_at, marks_at, mark_within, path_node}
use Rattle.index.proofs.Keys.{parts_in, parts_some, filed_drop}

-- where the node that may be unfilled is the root, or has a child, no node is unfilled
pub filled_again : {ns : List Node} {hs : List Head} {unused vacant node : ℕ} → SoundIn ns hs unused vacant node
    → (path_in ns node ≡ 1) ⊎ (((c : ℕ) → c < 16 → child_in ns node c ≡ 0) → ⊥) → SoundIn ns hs unused vacant 0
filled_again {ns} {hs} {unused} {vacant} {node} s e = record {
  linked = s.linked;
  nonempty = λ i l ne u z. ⊎_elim
      (λ (q : i ≡ node). ⊎_elim
      (λ (r : path_in ns node ≡ 1). let y : path_in ns i ≡ 1 = ap (path_in ns) q ∙ r in omega arith)
      (λ (r : ((c : ℕ) → c < 16 → child_in ns node c ≡ 0) → ⊥). r (λ c cl. ap (λ y. child_in ns y c) (sym q) ∙ z c cl)) e)
      (λ (q : i ≡ node → ⊥). s.nonempty i l q u z) (cases_eq i node);
  empty = s.empty;
  fits = s.fits;
  nodes_free = s.nodes_free;
  slots_free = s.slots_free;
  count = s.count;
}

module _ {R : Type 0} (t : Tree R) (key p : ℕ) (w : Whole t) (fits : key < 2 ^ 32) (some : 0 < nodes_of t) (held : mark_in (heads_of t) p ≡ 2 ^ 32 + key) where
  gone : (F : List ℕ) × (B : List ℕ) × (filed (set (marks (heads_of t)) p 0) ≡ F ++ B) × (keys_of t ≡ F ++ key ∷ B)
  gone = filed_drop (marks (heads_of t)) p key (rw length-map (mark_within (heads_of t) p (omega arith))) (marks_at (heads_of t) p ∙ held)

  -- there is room on the stack for the nodes of the key
  pub unused_room : t.unused + 7 < nodes_of t
  unused_room =
      let s = parts_some key gone.0 gone.1 in
      let e : parts (keys_of t) ≡ parts (gone.0 ++ key ∷ gone.1) = ap parts gone.3 in
      omega (arith, w.exact some)

  pub removed : (u : Tree R) (node height : ℕ) → Sound u node → 1 ≤ height → height ≤ 8 → node < nodes_of u → path_in (vec_items u.nodes) node ≡ up height (2 ^ 32 + key)
      → ((g : ℕ) → height ≡ suc g → child_in (vec_items u.nodes) node (up g (2 ^ 32 + key) % 16) ≡ 0)
      → marks (heads_of u) ≡ set (marks (heads_of t)) p 0 → records_of u ≡ records_of t → nodes_of u ≡ nodes_of t → u.unused + 1 ≡ t.unused + height
      → (height ≡ 8) ⊎ (((c : ℕ) → c < 16 → child_in (vec_items u.nodes) node c ≡ 0) → ⊥)
      → Whole u × Removed t u key p
  removed u node height s lo hi l e gap m rs n f end =
      let root : height ≡ 8 → path_in (vec_items u.nodes) node ≡ 1 = λ q.
      let w8 = within_up 8 (2 ^ 32 + key) (omega arith) (omega arith) (omega arith) in
      let y : path_in (vec_items u.nodes) node ≡ up 8 (2 ^ 32 + key) = e ∙ ap (λ x. up x (2 ^ 32 + key)) q in
      omega arith in
      let s0 : Sound u 0 = filled_again s (⊎_elim (λ (q : height ≡ 8). inl (root q)) (λ (q : ((c : ℕ) → c < 16 → child_in (vec_items u.nodes) node c ≡ 0) → ⊥). inr q) end) in
      let h : height ≡ suc (height - 1) = omega arith in
      let mi : missing key (keys_of u) ≡ height - 1
      = missing_at s0 (omega arith) (height - 1) key node (omega arith) fits (path_node (vec_items u.nodes) (heads_of u) node l ∙ (e ∙ ap (λ x. up x (2 ^ 32 + key)) h)) (gap (height - 1) h) in
      let ku : keys_of u ≡ gone.0 ++ gone.1 = ap filed m ∙ gone.2 in
      let pk : parts (keys_of t) ≡ missing key (keys_of u) + parts (keys_of u)
      = ap parts gone.3 ∙ (parts_in key gone.0 gone.1 ∙ ap (λ x. missing key x + parts x) (sym ku)) in
      let ex = w.exact some in (
        record { sound = s0; exact = λ _. omega arith },
        record { within = mark_within (heads_of t) p (omega arith); held = held; marks_are = m; nodes_are = n; records_are = rs },
      )
