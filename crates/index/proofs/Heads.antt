-- What is read of one slot, and what a write to one leaves.
use Rattle.std.proofs.Common.{◌≡◌, ℕ, ◌<◌, List, length, get_or, set, sym, ap, ◌∙◌, ⊎_elim}
use Rattle.std.proofs.lemmas.List.{length-map, length-set, map-set, get_or-map, get_or-set_same, get_or-set_other, set-get_or}
use Rattle.std.proofs.lemmas.Bool.{cases_eq}
use Rattle.index.specs.declared.slot.Head.{Head}
use Rattle.index.specs.declared.slot.Slot.{Slot}
use Rattle.index.specs.Slots.{heads, records, no_head}

module _ {R : Type 0} (ss : List (Slot R)) (i : ℕ) (old : Slot R) (l : i < length ss) (e : old ≡ get_or ss i old) where
  pub head_was : old.head ≡ get_or (heads ss) i no_head
  head_was = ap (λ s. s.head) e ∙ sym (get_or-map (λ s. s.head) ss i old no_head l)

  pub record_was : old.value ≡ get_or (records ss) i old.value
  record_was = ap (λ s. s.value) e ∙ sym (get_or-map (λ s. s.value) ss i old old.value l)

  in_heads : i < length (heads ss)
  in_heads = rw length-map l

  -- a write to the head
  pub head_here : (h : Head) → get_or (heads (set ss i (record { head = h; value = old.value }))) i no_head ≡ h
  head_here h = ap (λ x. get_or x i no_head) (map-set (λ s. s.head) ss i (record { head = h; value = old.value })) ∙ get_or-set_same (heads ss) i h no_head in_heads

  pub head_rest : (h : Head) (j : ℕ) → (j ≡ i → ⊥) → get_or (heads (set ss i (record { head = h; value = old.value }))) j no_head ≡ get_or (heads ss) j no_head
  head_rest h j ne = ap (λ x. get_or x j no_head) (map-set (λ s. s.head) ss i (record { head = h; value = old.value })) ∙ get_or-set_other (heads ss) i j h no_head ne

  pub head_field : (h : Head) (f : Head → ℕ) → f h ≡ f old.head → (j : ℕ) → f (get_or (heads (set ss i (record { head = h; value = old.value }))) j no_head) ≡ f (get_or (heads ss) j no_head)
  head_field h f q j =
      ⊎_elim
      (λ (z : j ≡ i). ap (λ x. f (get_or (heads (set ss i (record { head = h; value = old.value }))) x no_head)) z ∙ (ap f (head_here h) ∙ (q ∙ (ap f head_was ∙ ap (λ x. f (get_or (heads ss) x no_head)) (sym z)))))
      (λ (z : j ≡ i → ⊥). ap f (head_rest h j z))
      (cases_eq j i)

  pub head_len : (h : Head) → length (heads (set ss i (record { head = h; value = old.value }))) ≡ length (heads ss)
  head_len h = length-map (set ss i (record { head = h; value = old.value })) (λ s. s.head) ∙ (length-set ss i (record { head = h; value = old.value }) ∙ sym (length-map ss (λ s. s.head)))

  pub head_records : (h : Head) → records (set ss i (record { head = h; value = old.value })) ≡ records ss
  head_records h = map-set (λ s. s.value) ss i (record { head = h; value = old.value }) ∙ (ap (set (records ss) i) record_was ∙ set-get_or (records ss) i old.value)

  -- a write to the record
  pub record_heads : (v : R) → heads (set ss i (record { head = old.head; value = v })) ≡ heads ss
  record_heads v = map-set (λ s. s.head) ss i (record { head = old.head; value = v }) ∙ (ap (set (heads ss) i) head_was ∙ set-get_or (heads ss) i no_head)

  pub record_set : (v : R) → records (set ss i (record { head = old.head; value = v })) ≡ set (records ss) i v
  record_set v = map-set (λ s. s.value) ss i (record { head = old.head; value = v })

-- a slot that is read at an index, where the number of heads is known
pub head_read : {R : Type 0} (ss : List (Slot R)) (i : ℕ) (slot : Slot R) → i < length (heads ss) → slot ≡ get_or ss i slot → slot.head ≡ get_or (heads ss) i no_head
head_read ss i slot l e = head_was ss i slot (rw length-map at l) e
