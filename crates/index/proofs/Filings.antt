-- What `place` owes.
use Rattle.std.proofs.Common.{◌≡◌, ℕ, suc, ◌+◌, ◌-◌, ◌^◌, ◌<◌, ◌≤◌, List, length, get_or, set, vec_items, sym, refl, ap, ◌∙◌, inl, inr, ⊎_elim, arith}
use Rattle.std.proofs.lemmas.List.{length-map, length-set, set-get_or}
use Rattle.std.proofs.lemmas.Bool.{cases_lt}
use Rattle.index.specs.declared.slot.Head.{Head}
use Rattle.index.specs.declared.tree.Tree.{Tree}
use Rattle.index.specs.declared.tree.FileRefusal.TheVariants.{NoSlot, TooFewNodes}
use Rattle.index.specs.Links.{up}
use Rattle.index.specs.Keys.{parts, missing}
use Rattle.index.specs.Slots.{marks, mark_in}
use Rattle.index.specs.Sound.{Sound, heads_of, records_of, filed}
use Rattle.index.specs.Filing.{Whole, Placed, Refused, keys_of, nodes_of, slots_of}
use Rattle.index.specs.Descents.{Descended}
use Rattle.index.proofs.Below.{missing_at, end_none, marks_at}
use Rattle.index.proofs.Keys.{parts_in, filed_add}

-- what a new key adds to the parts
pub parts_added : (ms : List ℕ) (p key : ℕ) → p < length ms → get_or ms p 0 ≡ 0 → parts (filed (set ms p (2 ^ 32 + key))) ≡ missing key (filed ms) + parts (filed ms)
parts_added ms p key l e =
    let f = filed_add ms p key l e in
    ap parts f.3 ∙ (parts_in key f.0 f.1 ∙ ap (λ x. missing key x + parts x) (sym f.2))

pub slots_len : (hs hs' : List Head) (p m : ℕ) → marks hs' ≡ set (marks hs) p m → length hs' ≡ length hs
slots_len hs hs' p m e =
    let f : length (marks hs') ≡ length (marks hs) = ap length e ∙ length-set (marks hs) p m in
    simp length-map at f

pub placed_found : {R : Type 0} (t : Tree R) (key p : ℕ) → p < slots_of t → mark_in (heads_of t) p ≡ 2 ^ 32 + key → Placed t t key p
placed_found t key p l e =
    let ms = marks (heads_of t) in
    record {
      within = l;
      marks_are = sym (set-get_or ms p 0) ∙ ap (set ms p) (marks_at (heads_of t) p ∙ e);
      nodes_are = refl;
      records_are = refl;
      ways = inl e;
    }

module _ {R : Type 0} (t : Tree R) (key item height : ℕ) (w : Whole t) (k : Descended (vec_items t.nodes) (heads_of t) key item height) (fits : key < 2 ^ 32) (up_there : 0 < height) where
  -- the steps that are left are the parts that are missing
  pub steps_left : 0 < nodes_of t → missing key (keys_of t) ≡ height - 1
  steps_left some =
      let e : height ≡ suc (height - 1) = omega arith in
      let hi = k.high in
      missing_at w.sound some (height - 1) key item (omega arith) fits (k.here some ∙ ap (λ x. up x (2 ^ 32 + key)) e) (k.ends (height - 1) some e)

  pub no_slot : t.vacant ≡ 0 → Refused t key NoSlot
  no_slot z = (end_none w.sound k up_there, omega (arith, w.sound.count))

  pub few_nodes : (t.vacant ≡ 0 → ⊥) → t.unused < height - 1 → Refused t key TooFewNodes
  few_nodes v l = (
    end_none w.sound k up_there,
    (
      omega (arith, w.sound.count),
      ⊎_elim
          (λ (some : 0 < nodes_of t). omega (arith, w.exact some, steps_left some))
          (λ (none : nodes_of t ≤ 0). omega arith)
          (cases_lt 0 (nodes_of t)),
    ),
  )

  pub placed_new : (u : Tree R) (p : ℕ) → 0 < nodes_of t → (t.vacant ≡ 0 → ⊥) → height ≤ t.unused + 1 → p < slots_of t → mark_in (heads_of t) p ≡ 0
      → marks (heads_of u) ≡ set (marks (heads_of t)) p (2 ^ 32 + key) → records_of u ≡ records_of t → nodes_of u ≡ nodes_of t → u.unused + height ≡ t.unused + 1 → Sound u 0
      → Whole u × Placed t u key p
  placed_new u p some v hl l e m rs n f s =
      let pk : parts (keys_of u) ≡ missing key (keys_of t) + parts (keys_of t)
      = ap (λ x. parts (filed x)) m ∙ parts_added (marks (heads_of t)) p key (rw length-map l) (marks_at (heads_of t) p ∙ e) in
      let ex = w.exact some in
      let st = steps_left some in (
        record { sound = s; exact = λ _. omega arith },
        record { within = l; marks_are = m; nodes_are = n; records_are = rs; ways = inr (e, end_none w.sound k up_there, omega (arith, w.sound.count), omega arith) },
      )
