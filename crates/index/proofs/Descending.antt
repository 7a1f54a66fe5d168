-- The steps of the way down to a key.
use Rattle.std.proofs.Common.{◌≡◌, ℕ, zero, suc, ◌+◌, ◌*◌, ◌%◌, ◌^◌, ◌<◌, ◌≤◌, List, length, ap, ◌∙◌, ⊎_elim, arith}
use Rattle.std.proofs.lemmas.Bool.{cases_lt}
use Rattle.index.specs.declared.node.Node.{Node}
use Rattle.index.specs.declared.slot.Head.{Head}
use Rattle.index.specs.Links.{up}
use Rattle.index.specs.Nodes.{child_in}
use Rattle.index.specs.Sound.{path_at, SoundIn}
use Rattle.index.proofs.Steps.{up_le, up_pos, up_step}

module _ {ns : List Node} {hs : List Head} {unused vacant unfilled : ℕ} (s : SoundIn ns hs unused vacant unfilled) (some : 0 < length ns) where
  pub at_node : (h key item : ℕ) → 0 < h → h ≤ 8 → key < 2 ^ 32 → path_at ns hs item ≡ up h (2 ^ 32 + key) → item < length ns
  at_node zero key item z le l e = absurd (omega arith)
  at_node (suc h) key item z le l e =
      ⊎_elim
      (λ (p : item < length ns). p)
      (λ (p : length ns ≤ item).
      let g = (s.linked some).large item p (omega (arith, up_pos (suc h) (2 ^ 32 + key) le (omega arith))) in
      absurd (omega (arith, up_le h (2 ^ 32 + key))))
      (cases_lt item (length ns))

  pub next_step : (g h key item x : ℕ) → h ≡ suc g → path_at ns hs item ≡ up h (2 ^ 32 + key)
      → x ≡ child_in ns item (up g (2 ^ 32 + key) % 16) → (x ≡ 0 → ⊥) → path_at ns hs x ≡ up g (2 ^ 32 + key)
  next_step g h key item x z e k ne =
      let d = (s.linked some).down item (up g (2 ^ 32 + key) % 16) (omega arith) (λ q. ne (k ∙ q)) in
      let e' : path_at ns hs item ≡ up (suc g) (2 ^ 32 + key) = e ∙ ap (λ y. up y (2 ^ 32 + key)) z in
      ap (path_at ns hs) k ∙ (d.1 ∙ (ap (λ y. 16 * y + up g (2 ^ 32 + key) % 16) e' ∙ up_step g (2 ^ 32 + key)))
