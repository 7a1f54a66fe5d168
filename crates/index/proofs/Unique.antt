-- That a tree is whole holds in at most one way, so that a ghost field may say it.
use Rattle.std.proofs.Common.{◌≡◌, ℕ, ◌+◌, ◌*◌, ◌/◌, ◌%◌, ◌^◌, ◌<◌, ◌≤◌, List, length}
use mathlib.Core.Logic.{∥∥₁_elim}
use denote.Struct.Props.{props}
use Rattle.index.specs.declared.node.Node.{Node}
use Rattle.index.specs.declared.slot.Head.{Head}
use Rattle.index.specs.Keys.{parts}
use Rattle.index.specs.Links.{Linked}
use Rattle.index.specs.Nodes.{path_in, child_in, free_in}
use Rattle.index.specs.Slots.{marks, mark_in, slot_free_in}
use Rattle.index.specs.Sound.{path_at, parent_at, SoundIn, Stacked, filed}
use Rattle.index.specs.Filing.{WholeIn}

linked_prop : (n : ℕ) (path parent : ℕ → ℕ) (child : ℕ → ℕ → ℕ) → IsProp (Linked n path parent child)
linked_prop n path parent child p q =
    let root : IsProp (path 0 ≡ 1) = hlevel props in
    let sole : IsProp ((i : ℕ) → path i ≡ 1 → i ≡ 0) = hlevel props in
    let down : IsProp ((i c : ℕ) → c < 16 → (child i c ≡ 0 → ⊥) → (1 ≤ path i) × (path (child i c) ≡ 16 * path i + c) × (parent (child i c) ≡ i)) = hlevel props in
    let rise : IsProp ((j : ℕ) → 1 < path j → (path (parent j) ≡ path j / 16) × (child (parent j) (path j % 16) ≡ j)) = hlevel props in
    let small : IsProp ((i : ℕ) → i < n → path i < 2 ^ 29) = hlevel props in
    let large : IsProp ((i : ℕ) → n ≤ i → 1 ≤ path i → 2 ^ 32 ≤ path i) = hlevel props in
    λ i. record { root = root p.root q.root i; sole = sole p.sole q.sole i; down = down p.down q.down i; rise = rise p.rise q.rise i; small = small p.small q.small i; large = large p.large q.large i }

stacked_prop : (top size : ℕ) (at state : ℕ → ℕ) → IsProp (Stacked top size at state)
stacked_prop top size at state p q =
    let a : IsProp (top ≤ size) = hlevel props in
    let b : IsProp ((k : ℕ) → k < top → at k < size) = hlevel props in
    let c : IsProp ((k : ℕ) → k < top → state (at k) ≡ 0) = hlevel props in
    let d : IsProp ((k l : ℕ) → k < l → l < top → at k ≡ at l → ⊥) = hlevel props in
    λ i. record { top_le = a p.top_le q.top_le i; within = b p.within q.within i; idle = c p.idle q.idle i; apart = d p.apart q.apart i }

sound_prop : (ns : List Node) (hs : List Head) (unused vacant unfilled : ℕ) → IsProp (SoundIn ns hs unused vacant unfilled)
sound_prop ns hs unused vacant unfilled p q =
    let b : IsProp ((i : ℕ) → i < length ns → (i ≡ unfilled → ⊥) → 1 < path_in ns i → ((c : ℕ) → c < 16 → child_in ns i c ≡ 0) → ⊥) = hlevel props in
    let c : IsProp (length ns ≡ 0 → (p : ℕ) → mark_in hs p ≡ 0) = hlevel props in
    let d : IsProp (length ns + length hs < 2 ^ 32) = hlevel props in
    let e : IsProp (vacant + length (filed (marks hs)) ≡ length hs) = hlevel props in
    λ i. record {
      linked = λ h. linked_prop (length ns) (path_at ns hs) (parent_at ns hs) (child_in ns) (p.linked h) (q.linked h) i;
      nonempty = b p.nonempty q.nonempty i;
      empty = c p.empty q.empty i;
      fits = d p.fits q.fits i;
      nodes_free = stacked_prop unused (length ns) (free_in ns) (path_in ns) p.nodes_free q.nodes_free i;
      slots_free = stacked_prop vacant (length hs) (slot_free_in hs) (mark_in hs) p.slots_free q.slots_free i;
      count = e p.count q.count i;
    }

whole_prop : (ns : List Node) (hs : List Head) (unused vacant : ℕ) → IsProp (WholeIn ns hs unused vacant)
whole_prop ns hs unused vacant p q =
    let s : IsProp (SoundIn ns hs unused vacant 0) = sound_prop ns hs unused vacant 0 in
    let e : IsProp (0 < length ns → unused + 1 + parts (filed (marks hs)) ≡ length ns) = hlevel props in
    λ i. record { sound = s p.sound q.sound i; exact = e p.exact q.exact i }

-- what the ghost field keeps
pub kept : {ns : List Node} {hs : List Head} {unused vacant : ℕ} → ∥ WholeIn ns hs unused vacant ∥₁ → WholeIn ns hs unused vacant
kept {ns} {hs} {unused} {vacant} w = ∥∥₁_elim w (whole_prop ns hs unused vacant) (λ x. x)
