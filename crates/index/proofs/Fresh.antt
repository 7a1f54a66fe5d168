-- A new tree is whole.
use Rattle.std.proofs.Common.{◌≡◌, ℕ, suc, ◌+◌, ◌-◌, ◌^◌, ◌<◌, ◌≤◌, leb, List, [], ◌∷◌, length, get_or, vec_items, refl, ap, ◌∙◌, ⊎_elim, arith}
use Rattle.std.proofs.lemmas.List.{get_or_past}
use Rattle.std.proofs.lemmas.Bool.{cases_lt, cases_eq, cond-false, lt-leb}
use Rattle.index.specs.declared.tree.Tree.{Tree}
use Rattle.index.specs.Keys.{parts}
use Rattle.index.specs.Nodes.{path_in, child_in, free_in, none}
use Rattle.index.specs.Slots.{marks, mark_in, slot_free_in, no_head, key_mark}
use Rattle.index.specs.Sound.{path_at, Sound, heads_of, filed}
use Rattle.index.specs.Filing.{Whole, keys_of, nodes_of, slots_of}
use Rattle.index.proofs.Below.{path_node, path_slot, marks_at}

pub filed_none : (ms : List ℕ) → ((p : ℕ) → get_or ms p 0 ≡ 0) → filed ms ≡ []
filed_none [] z = refl
filed_none (m ∷ ms) z = cond-false (leb 1 m) ((m - 2 ^ 32) ∷ filed ms) (filed ms) (lt-leb 1 m (omega (arith, z 0))) ∙ filed_none ms (λ p. z (suc p))

parts_none : parts [] ≡ 0
unfolding parts
parts_none = refl

pub fresh : {R : Type 0} (t : Tree R) → nodes_of t + slots_of t < 2 ^ 32 → t.unused ≡ nodes_of t - 1 → t.vacant ≡ slots_of t
    → (0 < nodes_of t → path_in (vec_items t.nodes) 0 ≡ 1)
    → ((j : ℕ) → j < nodes_of t → (j ≡ 0 → ⊥) → path_in (vec_items t.nodes) j ≡ 0)
    → ((j c : ℕ) → j < nodes_of t → c < 16 → child_in (vec_items t.nodes) j c ≡ 0)
    → ((k : ℕ) → k < nodes_of t → free_in (vec_items t.nodes) k ≡ k + 1)
    → ((p : ℕ) → p < slots_of t → mark_in (heads_of t) p ≡ 0)
    → ((k : ℕ) → k < slots_of t → slot_free_in (heads_of t) k ≡ k)
    → Whole t × (keys_of t ≡ [])
fresh t fits f v root paths children frees ms vs =
    let ns = vec_items t.nodes in
    let hs = heads_of t in
    let mark0 : (p : ℕ) → mark_in hs p ≡ 0 = λ p. ⊎_elim (λ (l : p < length hs). ms p l) (λ (l : length hs ≤ p). ap (λ x. key_mark x.key) (get_or_past hs p no_head l)) (cases_lt p (length hs)) in
    let child0 : (j c : ℕ) → c < 16 → child_in ns j c ≡ 0 = λ j c cl. ⊎_elim (λ (l : j < length ns). children j c l cl) (λ (l : length ns ≤ j). ap (λ x. get_or x.children.items c 0) (get_or_past ns j none l)) (cases_lt j (length ns)) in
    let path0 : (j : ℕ) → (j ≡ 0 → ⊥) → path_at ns hs j ≡ 0 = λ j ne. ⊎_elim (λ (l : j < length ns). path_node ns hs j l ∙ paths j l ne) (λ (l : length ns ≤ j). path_slot ns hs j l ∙ mark0 (j - length ns)) (cases_lt j (length ns)) in
    let k0 : keys_of t ≡ [] = filed_none (marks hs) (λ p. marks_at hs p ∙ mark0 p) in
    let len0 : length (keys_of t) ≡ 0 = ap length k0 in
    let used : (j : ℕ) → 1 ≤ path_at ns hs j → j ≡ 0 = λ j u. ⊎_elim (λ (q : j ≡ 0). q) (λ (q : j ≡ 0 → ⊥). absurd (omega (arith, path0 j q))) (cases_eq j 0) in
    let s : Sound t 0 = record {
      linked = λ some.
          let r : path_at ns hs 0 ≡ 1 = path_node ns hs 0 some ∙ root some in
          let low : (j : ℕ) → path_at ns hs j ≤ 1 = λ j. ⊎_elim (λ (q : j ≡ 0). let y : path_at ns hs j ≡ 1 = ap (path_at ns hs) q ∙ r in omega arith) (λ (q : j ≡ 0 → ⊥). omega (arith, path0 j q)) (cases_eq j 0) in
          record {
            root = r;
            sole = λ i e. used i (omega arith);
            down = λ i c cl ne. absurd (ne (child0 i c cl));
            rise = λ j l. absurd (omega (arith, low j));
            small = λ i l. omega (arith, low i);
            large = λ i l u. absurd (omega (arith, used i u));
          };
      nonempty = λ i l ne u z. omega (arith, paths i l ne);
      empty = λ _. mark0;
      fits = fits;
      nodes_free = record {
        top_le = omega arith;
        within = λ k kl. omega (arith, frees k (omega arith));
        idle = λ k kl. let e = frees k (omega arith) in paths (free_in ns k) (omega arith) (λ q. omega arith);
        apart = λ k l kl ll e. omega (arith, frees k (omega arith), frees l (omega arith));
      };
      slots_free = record {
        top_le = omega arith;
        within = λ k kl. omega (arith, vs k (omega arith));
        idle = λ k kl. mark0 (slot_free_in hs k);
        apart = λ k l kl ll e. omega (arith, vs k (omega arith), vs l (omega arith));
      };
      count = omega arith;
    } in
    (record { sound = s; exact = λ some. let p : parts (keys_of t) ≡ 0 = ap parts k0 ∙ parts_none in omega arith }, k0)
