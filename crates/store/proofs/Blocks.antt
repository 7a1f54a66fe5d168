-- Pages taken out one by one.
use Rattle.std.proofs.Common.{◌≡◌, ℕ, ◌*◌, ◌/◌, ◌<◌, ◌≤◌, Bool, true, false, cond, not, eqb, List, [], ◌∷◌, Some, None, Option, sym, refl, ap, ◌∙◌, inl, inr, div-mul-le_self, arith}
use Rattle.std.proofs.lemmas.Nat.{le-div}
use Rattle.std.proofs.lemmas.Bool.{cases_lt, cond-true, cond-false, eq-eqb, eqb-true, not_from_false}
use Rattle.page.specs.declared.keys.Key.{Key}
use Rattle.backend.specs.Listing.{without, one}
use Rattle.backend.specs.Rules.{Entry, lookup}
use Rattle.backend.specs.Finding.{FirstHeld}
use Rattle.store.specs.Blocks.{in_block}

module _ (named : ℕ → Bool) where
  same_head : (k : ℕ) (e : Entry) (rest es : List Entry) → named k ≡ true → without named rest ≡ without named es
      → (b : Bool) → eqb e.key k ≡ b → without named (cond (not b) (e ∷ rest) rest) ≡ without named (e ∷ es)
  same_head k e rest es h more true t =
      more ∙ sym (cond-false (not (named e.key)) _ _ (ap not (ap named (eqb-true _ _ t) ∙ h)))
  same_head k e rest es h more false t = ap (λ (fs : List Entry). cond (not (named e.key)) (e ∷ fs) fs) more

  -- a named page that went before makes no difference
  pub without_one : (k : ℕ) → named k ≡ true → (es : List Entry) → without named (without (one k) es) ≡ without named es
  without_one k h [] = refl
  without_one k h (e ∷ es) = same_head k e (without (one k) es) es h (without_one k h es) (eqb e.key k) refl

  held_first : (e : Entry) (es : List Entry) → lookup e.key (e ∷ es) ≡ Some e.page
  held_first e es = cond-true (eqb e.key e.key) _ _ (eq-eqb e.key e.key refl)

  held_later : (j : ℕ) (e : Entry) (o : Option (List ℕ)) (b : Bool) → cond b (Some e.page) o ≡ None → o ≡ None
  held_later j e o true h = let z : ◌≡◌ {A = ℕ} 0 1 = cc in absurd (omega arith)
  held_later j e o false h = h

  unnamed_head : (e : Entry) (es : List Entry) (b : Bool) → named e.key ≡ b → (b ≡ true → ⊥) → named e.key ≡ false
  unnamed_head e es true t n = absurd (n refl)
  unnamed_head e es false t n = t

  -- where no named page is held, nothing goes
  pub without_none : (es : List Entry) → ((j : ℕ) → named j ≡ true → lookup j es ≡ None) → without named es ≡ es
  without_none [] h = refl
  without_none (e ∷ es) h =
      let un : named e.key ≡ false =
      unnamed_head e es (named e.key) refl (λ t. let n = sym (held_first e es) ∙ h e.key t in let z : ◌≡◌ {A = ℕ} 0 1 = cc in omega arith) in
      cond-true (not (named e.key)) _ _ (not_from_false _ un)
      ∙ ap (λ (fs : List Entry). e ∷ fs) (without_none es (λ j t. held_later j e (lookup j es) (eqb e.key j) (h j t)))

-- a key is at or after the first of its block, and a later key is in no earlier block
block_from : (size block j : ℕ) → in_block size block j ≡ true → block * size ≤ j
block_from size block j t = rw (sym (eqb-true _ _ t)) (div-mul-le_self j size)

later_block : (size i j : ℕ) → 0 < size → i ≤ j → i / size ≤ j / size
later_block size i j h l = le-div (i / size) j size h (omega (arith, div-mul-le_self i size))

-- a search from the first key of a block on
module _ (size block : ℕ) (some : 0 < size) (es : List Entry) (first : ℕ) (start : first ≡ block * size) where
  from_start : (j : ℕ) → in_block size block j ≡ true → first ≤ j
  from_start j t = omega (arith, block_from size block j t, start)

  -- it found none
  pub block_ended : FirstHeld first es None → without (in_block size block) es ≡ es
  block_ended h = without_none (in_block size block) es (λ j t. h j (from_start j t))

  before : (x j : ℕ) → first ≤ x → (x / size ≡ block → ⊥) → j / size ≡ block → j < x
  before x j l other e =
      elim (cases_lt j x) [ inl less ↦ less | inr more ↦ absurd (other (omega (arith, later_block size x j some more, le-div block x size some (omega (arith, start))))) ]

  -- it found a key of another block
  pub block_passed : (x : Key) (n : ℕ) → n ≡ x.number → FirstHeld first es (Some x) → (n / size ≡ block → ⊥) → without (in_block size block) es ≡ es
  block_passed x n is h other =
      without_none (in_block size block) es
      (λ j t. h.2 j (from_start j t) (before x.number j h.0 (λ e. other (ap (λ (i : ℕ). i / size) is ∙ e)) (eqb-true _ _ t)))
