-- The slots in use with their records.
use Rattle.std.proofs.Common.{◌≡◌, ℕ, zero, suc, ◌+◌, ◌-◌, ◌^◌, ◌<◌, ◌≤◌, true, false, leb, ◌⊎◌, List, [], ◌∷◌, length, get_or, set, Some, None, sym, refl, ap, ◌∙◌, subst, ⊎_elim, arith}
use Rattle.std.proofs.lemmas.List.{get_or-set_same, get_or-set_other, length-set}
use Rattle.std.proofs.lemmas.Bool.{cases_eq, cases_Bool, le-leb, leb-true, cond-true, cond-false, both_ways}
use Rattle.index.specs.Keys.{shares}
use Rattle.index.specs.Sound.{filed}
use Rattle.index.specs.Map.{look, put, without, keys}
use Rattle.index.specs.View.{pairs, sorted}
use Rattle.index.proofs.Keys.{filed_has, filed_from}
use Rattle.index.proofs.Steps.{lead_zero}
use Rattle.index.proofs.Views.{look_hit, look_miss, Apart, rises_sorted, rises_put, rises_without, look_sorted, look_put_same, look_put_other, look_without_same, look_without_other, same_from_looks}

-- each key stands at one slot
pub record Lawful (ms : List ℕ) : Type 0 where
  pub big : (p : ℕ) → 1 ≤ get_or ms p 0 → 2 ^ 32 ≤ get_or ms p 0
  pub once : (i j : ℕ) → 1 ≤ get_or ms i 0 → get_or ms i 0 ≡ get_or ms j 0 → i ≡ j

lawful_rest : (m : ℕ) (ms : List ℕ) → Lawful (m ∷ ms) → Lawful ms
lawful_rest m ms w = record { big = λ p. w.big (suc p); once = λ i j u e. let q = w.once (suc i) (suc j) u e in omega arith }

module _ {R : Type 0} where
  pairs_in : (m : ℕ) (ms : List ℕ) (r : R) (rs : List R) → leb 1 m ≡ true → pairs (m ∷ ms) (r ∷ rs) ≡ (m - 2 ^ 32, r) ∷ pairs ms rs
  pairs_in m ms r rs t = cond-true (leb 1 m) ((m - 2 ^ 32, r) ∷ pairs ms rs) (pairs ms rs) t

  pairs_out : (m : ℕ) (ms : List ℕ) (r : R) (rs : List R) → leb 1 m ≡ false → pairs (m ∷ ms) (r ∷ rs) ≡ pairs ms rs
  pairs_out m ms r rs t = cond-false (leb 1 m) ((m - 2 ^ 32, r) ∷ pairs ms rs) (pairs ms rs) t

  pub keys_pairs : (ms : List ℕ) (rs : List R) → length ms ≡ length rs → keys (pairs ms rs) ≡ filed ms
  keys_pairs [] rs l = refl
  keys_pairs (m ∷ ms) [] l = absurd (omega arith)
  keys_pairs (m ∷ ms) (r ∷ rs) l =
      let i = keys_pairs ms rs (omega arith) in
      ⊎_elim
      (λ (t : leb 1 m ≡ true). ap keys (pairs_in m ms r rs t) ∙ (ap (λ x. (m - 2 ^ 32) ∷ x) i ∙ sym (cond-true (leb 1 m) ((m - 2 ^ 32) ∷ filed ms) (filed ms) t)))
      (λ (t : leb 1 m ≡ false). ap keys (pairs_out m ms r rs t) ∙ (i ∙ sym (cond-false (leb 1 m) ((m - 2 ^ 32) ∷ filed ms) (filed ms) t)))
      (cases_Bool (leb 1 m))

  pub look_none : (q : ℕ) (ms : List ℕ) (rs : List R) → Lawful ms → ((j : ℕ) → get_or ms j 0 ≡ 2 ^ 32 + q → ⊥) → look q (pairs ms rs) ≡ None
  look_none q [] rs w f = refl
  look_none q (m ∷ ms) [] w f = refl
  look_none q (m ∷ ms) (r ∷ rs) w f =
      let i = look_none q ms rs (lawful_rest m ms w) (λ j. f (suc j)) in
      ⊎_elim
      (λ (t : leb 1 m ≡ true). ap (look q) (pairs_in m ms r rs t) ∙ (look_miss q (m - 2 ^ 32, r) (pairs ms rs) (λ z. let b = w.big 0 (leb-true 1 m t) in f 0 (omega arith)) ∙ i))
      (λ (t : leb 1 m ≡ false). ap (look q) (pairs_out m ms r rs t) ∙ i)
      (cases_Bool (leb 1 m))

  pub look_at : (q p : ℕ) (d : R) (ms : List ℕ) (rs : List R) → Lawful ms → get_or ms p 0 ≡ 2 ^ 32 + q → p < length rs → look q (pairs ms rs) ≡ Some (get_or rs p d)
  look_at q p d [] rs w e l = absurd (omega arith)
  look_at q p d (m ∷ ms) [] w e l = absurd (omega arith)
  look_at q zero d (m ∷ ms) (r ∷ rs) w e l =
      ap (look q) (pairs_in m ms r rs (le-leb 1 m (omega arith))) ∙ look_hit q (m - 2 ^ 32, r) (pairs ms rs) (omega arith)
  look_at q (suc p) d (m ∷ ms) (r ∷ rs) w e l =
      let i = look_at q p d ms rs (lawful_rest m ms w) e (omega arith) in
      ⊎_elim
      (λ (t : leb 1 m ≡ true).
      let b = w.big 0 (leb-true 1 m t) in
      ap (look q) (pairs_in m ms r rs t) ∙ (look_miss q (m - 2 ^ 32, r) (pairs ms rs) (λ z. let y = w.once 0 (suc p) (omega arith) (omega arith) in omega arith) ∙ i))
      (λ (t : leb 1 m ≡ false). ap (look q) (pairs_out m ms r rs t) ∙ i)
      (cases_Bool (leb 1 m))

  pub apart_pairs : (ms : List ℕ) (rs : List R) → Lawful ms → Apart (pairs ms rs)
  apart_pairs [] rs w = tt
  apart_pairs (m ∷ ms) [] w = tt
  apart_pairs (m ∷ ms) (r ∷ rs) w =
      let i = apart_pairs ms rs (lawful_rest m ms w) in
      ⊎_elim
      (λ (t : leb 1 m ≡ true).
      let b = w.big 0 (leb-true 1 m t) in
      subst Apart (sym (pairs_in m ms r rs t))
      (look_none (m - 2 ^ 32) ms rs (lawful_rest m ms w) (λ j e. let y = w.once 0 (suc j) (leb-true 1 m t) (omega arith) in omega arith), i))
      (λ (t : leb 1 m ≡ false). subst Apart (sym (pairs_out m ms r rs t)) i)
      (cases_Bool (leb 1 m))

  -- a key that stands at no slot, or at the same slot with the same record
  looks_same : (q : ℕ) (d : R) (ms ms' : List ℕ) (rs rs' : List R) → Lawful ms → Lawful ms' → length ms ≡ length rs → length rs' ≡ length rs
      → ((j : ℕ) → get_or ms j 0 ≡ 2 ^ 32 + q → (get_or ms' j 0 ≡ 2 ^ 32 + q) × (get_or rs' j d ≡ get_or rs j d))
      → ((j : ℕ) → get_or ms' j 0 ≡ 2 ^ 32 + q → get_or ms j 0 ≡ 2 ^ 32 + q) → look q (pairs ms' rs') ≡ look q (pairs ms rs)
  looks_same q d ms ms' rs rs' w w' l l' f g =
      ⊎_elim
      (λ (t : shares 0 q (filed ms) ≡ true).
      let j = filed_from ms 0 q w.big t in
      let e : get_or ms j.0 0 ≡ 2 ^ 32 + q = j.3 ∙ lead_zero j.1 q j.4 in
      let jl = j.2 in
      let h = f j.0 e in
      look_at q j.0 d ms' rs' w' h.0 (omega arith) ∙ (ap Some h.1 ∙ sym (look_at q j.0 d ms rs w e (omega arith))))
      (λ (t : shares 0 q (filed ms) ≡ false).
      let no : (j : ℕ) → get_or ms j 0 ≡ 2 ^ 32 + q → ⊥ = λ j e. both_ways (shares 0 q (filed ms)) t (filed_has ms j q 0 q e refl) in
      look_none q ms' rs' w' (λ j e. no j (g j e)) ∙ sym (look_none q ms rs w no))
      (cases_Bool (shares 0 q (filed ms)))

  -- a record that is written under its key
  pub sorted_put : (k p : ℕ) (r : R) (ms ms' : List ℕ) (rs rs' : List R) → Lawful ms → Lawful ms' → length ms ≡ length rs → p < length ms
      → (get_or ms p 0 ≡ 2 ^ 32 + k) ⊎ (get_or ms p 0 ≡ 0) → ms' ≡ set ms p (2 ^ 32 + k) → rs' ≡ set rs p r
      → sorted (pairs ms' rs') ≡ put k r (sorted (pairs ms rs))
  sorted_put k p r ms ms' rs rs' w w' l pl was em er =
      let at_p : get_or ms' p 0 ≡ 2 ^ 32 + k = ap (λ x. get_or x p 0) em ∙ get_or-set_same ms p (2 ^ 32 + k) 0 pl in
      let prl : p < length rs = omega arith in
      let rec_p : get_or rs' p r ≡ r = ap (λ x. get_or x p r) er ∙ get_or-set_same rs p r r prl in
      let lr : length rs' ≡ length rs = ap length er ∙ length-set rs p r in
      let off : (j : ℕ) → (j ≡ p → ⊥) → get_or ms' j 0 ≡ get_or ms j 0 = λ j ne. ap (λ x. get_or x j 0) em ∙ get_or-set_other ms p j (2 ^ 32 + k) 0 ne in
      let offr : (j : ℕ) → (j ≡ p → ⊥) → get_or rs' j r ≡ get_or rs j r = λ j ne. ap (λ x. get_or x j r) er ∙ get_or-set_other rs p j r r ne in
      same_from_looks (sorted (pairs ms' rs')) (put k r (sorted (pairs ms rs))) (rises_sorted (pairs ms' rs')) (rises_put k r (sorted (pairs ms rs)) (rises_sorted (pairs ms rs)))
      (λ q. look_sorted q (pairs ms' rs') ∙ ⊎_elim
      (λ (z : q ≡ k).
      look_at q p r ms' rs' w' (at_p ∙ ap (λ x. 2 ^ 32 + x) (sym z)) (omega arith) ∙ (ap Some rec_p ∙ (sym (look_put_same k r (sorted (pairs ms rs))) ∙ ap (λ x. look x (put k r (sorted (pairs ms rs)))) (sym z))))
      (λ (z : q ≡ k → ⊥).
      looks_same q r ms ms' rs rs' w w' l lr
      (λ j e.
      let ne : j ≡ p → ⊥ = λ y.
      let x : get_or ms p 0 ≡ 2 ^ 32 + q = ap (λ i. get_or ms i 0) (sym y) ∙ e in
      ⊎_elim (λ (v : get_or ms p 0 ≡ 2 ^ 32 + k). z (omega arith)) (λ (v : get_or ms p 0 ≡ 0). omega arith) was in
      (off j ne ∙ e, offr j ne))
      (λ j e.
      let ne : j ≡ p → ⊥ = λ y. let x : get_or ms' p 0 ≡ 2 ^ 32 + q = ap (λ i. get_or ms' i 0) (sym y) ∙ e in z (omega arith) in
      sym (off j ne) ∙ e)
      ∙ (sym (look_sorted q (pairs ms rs)) ∙ sym (look_put_other k q r (sorted (pairs ms rs)) z)))
      (cases_eq q k))

  -- a key that is taken out
  pub sorted_without : (k p : ℕ) (d : R) (ms ms' : List ℕ) (rs : List R) → Lawful ms → Lawful ms' → length ms ≡ length rs → p < length ms
      → get_or ms p 0 ≡ 2 ^ 32 + k → ms' ≡ set ms p 0 → sorted (pairs ms' rs) ≡ without k (sorted (pairs ms rs))
  sorted_without k p d ms ms' rs w w' l pl was em =
      let at_p : get_or ms' p 0 ≡ 0 = ap (λ x. get_or x p 0) em ∙ get_or-set_same ms p 0 0 pl in
      let off : (j : ℕ) → (j ≡ p → ⊥) → get_or ms' j 0 ≡ get_or ms j 0 = λ j ne. ap (λ x. get_or x j 0) em ∙ get_or-set_other ms p j 0 0 ne in
      same_from_looks (sorted (pairs ms' rs)) (without k (sorted (pairs ms rs))) (rises_sorted (pairs ms' rs)) (rises_without k (sorted (pairs ms rs)) (rises_sorted (pairs ms rs)))
      (λ q. look_sorted q (pairs ms' rs) ∙ ⊎_elim
      (λ (z : q ≡ k).
      look_none q ms' rs w' (λ j e. ⊎_elim
      (λ (y : j ≡ p). let x : get_or ms' p 0 ≡ 2 ^ 32 + q = ap (λ i. get_or ms' i 0) (sym y) ∙ e in omega arith)
      (λ (y : j ≡ p → ⊥). y (let x = off j y in w.once j p (omega arith) (omega arith)))
      (cases_eq j p))
      ∙ (sym (look_without_same k (sorted (pairs ms rs)) (rises_sorted (pairs ms rs))) ∙ ap (λ x. look x (without k (sorted (pairs ms rs)))) (sym z)))
      (λ (z : q ≡ k → ⊥).
      looks_same q d ms ms' rs rs w w' l refl
      (λ j e.
      let ne : j ≡ p → ⊥ = λ y. let x : get_or ms p 0 ≡ 2 ^ 32 + q = ap (λ i. get_or ms i 0) (sym y) ∙ e in z (omega arith) in
      (off j ne ∙ e, refl))
      (λ j e.
      let ne : j ≡ p → ⊥ = λ y. let x : get_or ms' p 0 ≡ 2 ^ 32 + q = ap (λ i. get_or ms' i 0) (sym y) ∙ e in omega arith in
      sym (off j ne) ∙ e)
      ∙ (sym (look_sorted q (pairs ms rs)) ∙ sym (look_without_other k q (sorted (pairs ms rs)) z)))
      (cases_eq q k))
