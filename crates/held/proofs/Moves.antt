-- The held keys after a key is put or taken out.
use Rattle.std.proofs.Common.{◌≡◌, ℕ, zero, suc, ◌+◌, ◌-◌, ◌^◌, ◌<◌, ◌≤◌, List, [], ◌∷◌, ◌++◌, length, Some, None, sym, refl, ap, ◌∙◌, subst, ⊎_elim, arith}
use Rattle.std.specs.List.{AllByRecursion}
use Rattle.std.proofs.ByRecursion.{All-push}
use Rattle.std.proofs.lemmas.List.{length-append, length_push, map_push}
use Rattle.std.proofs.lemmas.Bool.{cases_eq}
use Rattle.index.specs.Map.{look, put, without, room}
use Rattle.index.proofs.Views.{Rises, look_put_same, look_put_other, look_without_same, look_without_other, put_split, without_split}
use Rattle.held.specs.declared.table.Record.{Record}
use Rattle.held.specs.Holdings.{Holding, keys, taken, place_of, without_key}
use Rattle.held.specs.Records.{key_in, older_in, newer_in}
use Rattle.held.specs.Rings.{walk, Absent, Apart, Rings, Unlinked, Linked}
use Rattle.held.specs.Whole.{places, spare, held_at, WholeIn}
use Rattle.held.proofs.Links.{walk_links, turned, rings_moved, rings_unlinked, place_within, end_within, apart_push, apart_but, apart_here, all_but}
use Rattle.held.proofs.Places.{hold, some_none, absent_from_none, place_push_same, place_push_other, place_without_same, place_without_other, held_append, taken_held, keys_held, keys_held_append, held_split, without_held, held_same, held_other}

pub length_walk : (n : ℕ → ℕ) (a c : ℕ) → length (walk n a c) ≡ c
length_walk n a zero = refl
length_walk n a (suc c) = ap suc (length_walk n (n a) c)

-- one more or less in a map
put_length : (k p : ℕ) (v : List (ℕ × ℕ)) → look k v ≡ None → length (put k p v) ≡ length v + 1
put_length k p v e =
    let s = put_split k p v e in
    omega (arith, ap length s.2 ∙ length-append s.0 s.1, ap length s.3 ∙ length-append s.0 ((k, p) ∷ s.1))

without_length : (k : ℕ) (v : List (ℕ × ℕ)) → (look k v ≡ None → ⊥) → length (without k v) + 1 ≡ length v
without_length k v ne =
    let s = without_split k v ne in
    omega (arith, ap length s.3 ∙ length-append s.0 ((k, s.1) ∷ s.2), ap length s.4 ∙ length-append s.0 s.2)

-- rings of known places are those that the walks give
pub whole_made : (size count : ℕ) (t : List Record) (v : List (ℕ × ℕ)) (m n : ℕ) (one two : List ℕ)
    → Rings (newer_in t) (older_in t) size size (size + 1) one two → length one ≡ count → length two ≡ size - count → count ≤ size → size ≤ 4096 → length t ≡ size + 2 → size ≤ room m n
    → AllByRecursion (λ k. k < 2 ^ 32) (keys (held_at t one)) → Apart (keys (held_at t one)) → length v ≡ count → ((k : ℕ) → look k v ≡ place_of k (held_at t one))
    → (places size count t ≡ one) × WholeIn size count t v m n
whole_made size count t v m n one two r l₁ l₂ fits small long roomy ks ka c f =
    let is_one : one ≡ places size count t = sym (walk_links (newer_in t) (older_in t) size one size r.one_links) ∙ ap (walk (newer_in t) (newer_in t size)) l₁ in
    let is_two : two ≡ spare size count t = sym (walk_links (newer_in t) (older_in t) (size + 1) two (size + 1) r.two_links) ∙ ap (walk (newer_in t) (newer_in t (size + 1))) l₂ in (
      sym is_one,
      record {
        rings = subst (λ x. Rings (newer_in t) (older_in t) size size (size + 1) (places size count t) x) is_two (subst (λ x. Rings (newer_in t) (older_in t) size size (size + 1) x two) is_one r);
        fits = fits;
        small = small;
        long = long;
        roomy = roomy;
        keys_small = subst (λ x. AllByRecursion (λ k. k < 2 ^ 32) (keys (held_at t x))) is_one ks;
        keys_apart = subst (λ x. Apart (keys (held_at t x))) is_one ka;
        filed_count = c;
        filed_places = λ k. f k ∙ ap (λ x. place_of k (held_at t x)) is_one;
      },
    )

-- the same links in another table
pub rings_same : (t t' : List Record) (size e f : ℕ) (one two : List ℕ) → ((j : ℕ) → newer_in t' j ≡ newer_in t j) → ((j : ℕ) → older_in t' j ≡ older_in t j)
    → Rings (newer_in t) (older_in t) size e f one two → Rings (newer_in t') (older_in t') size e f one two
rings_same t t' size e f one two a b r =
    subst (λ (x : ℕ → ℕ). Rings x (older_in t') size e f one two) (λ i j. sym (a j) i) (subst (λ (x : ℕ → ℕ). Rings (newer_in t) x size e f one two) (λ i j. sym (b j) i) r)

pub absent_member : (k : ℕ) (H : List Holding) (p : ℕ) → place_of k H ≡ Some p → place_of k H ≡ None → ⊥
absent_member k H p a b = some_none (sym a ∙ b)

module _ (size count : ℕ) (t : List Record) (v : List (ℕ × ℕ)) (m n : ℕ) (w : WholeIn size count t v m n) where
  -- the first free place, and the others
  pub spare_is : count < size → spare size count t ≡ newer_in t (size + 1) ∷ walk (newer_in t) (newer_in t (newer_in t (size + 1))) (size - (count + 1))
  spare_is lt =
      let d : size - count ≡ suc (size - (count + 1)) = omega arith in
      ap (walk (newer_in t) (newer_in t (size + 1))) d

  -- the rings with the first free place in front
  pub rings_before_push : (p : ℕ) → p ≡ newer_in t (size + 1) → count < size
      → Rings (newer_in t) (older_in t) size (size + 1) size (p ∷ walk (newer_in t) (newer_in t p) (size - (count + 1))) (places size count t)
  rings_before_push p e lt =
      let q : spare size count t ≡ p ∷ walk (newer_in t) (newer_in t p) (size - (count + 1)) = spare_is lt ∙ ap (λ x. x ∷ walk (newer_in t) (newer_in t x) (size - (count + 1))) (sym e) in
      turned (subst (λ x. Rings (newer_in t) (older_in t) size size (size + 1) (places size count t) x) q w.rings)

  pub pushed : (key p : ℕ) (t₁ t₂ t₃ : List Record) → p ≡ newer_in t (size + 1) → count < size → place_of key (held_at t (places size count t)) ≡ None → key < 2 ^ 32
      → Unlinked (newer_in t) (older_in t) p (newer_in t₁) (older_in t₁) → ((j : ℕ) → key_in t₁ j ≡ key_in t j)
      → Linked (newer_in t₁) (older_in t₁) size p (newer_in t₂) (older_in t₂) → ((j : ℕ) → key_in t₂ j ≡ key_in t₁ j)
      → key_in t₃ p ≡ key → ((j : ℕ) → (j ≡ p → ⊥) → key_in t₃ j ≡ key_in t₂ j) → ((j : ℕ) → newer_in t₃ j ≡ newer_in t₂ j) → ((j : ℕ) → older_in t₃ j ≡ older_in t₂ j) → length t₃ ≡ length t
      → (held_at t₃ (places size (count + 1) t₃) ≡ held_at t (places size count t) ++ record { key = key; place = p } ∷ []) × WholeIn size (count + 1) t₃ (put key p v) m n
  pushed key p t₁ t₂ t₃ first lt new low u k₁ l k₂ here rest same-newer same-older len =
      let ps = places size count t in
      let H = held_at t ps in
      let x : Holding = record { key = key; place = p } in
      let ys = walk (newer_in t) (newer_in t p) (size - (count + 1)) in
      let before = rings_before_push p first lt in
      let moved = rings_moved (newer_in t) (older_in t) (newer_in t₁) (older_in t₁) (newer_in t₂) (older_in t₂) size (size + 1) size p [] ys ps (omega arith) (omega arith) (λ q. omega arith) before u l in
      let after = rings_same t₂ t₃ size size (size + 1) (ps ++ p ∷ []) ys same-newer same-older (turned moved) in
      let is : held_at t₃ (ps ++ p ∷ []) ≡ H ++ x ∷ []
      = held_append t₃ ps (p ∷ []) ∙ (ap (λ z. z ++ hold t₃ p ∷ []) (held_other t t₃ p (λ j ne. rest j ne ∙ (k₂ j ∙ k₁ j)) ps before.disjoint.0) ∙ ap (λ k. H ++ record { key = k; place = p } ∷ []) here) in
      let ks : keys (H ++ x ∷ []) ≡ keys H ++ key ∷ [] = map_push (λ z. z.key) H x in
      let lo = length_walk (newer_in t) (newer_in t size) count in
      let made = whole_made size (count + 1) t₃ (put key p v) m n (ps ++ p ∷ []) ys after (length_push ps p ∙ ap (λ z. z + 1) lo) (length_walk (newer_in t) (newer_in t p) (size - (count + 1))) (omega arith) w.small (len ∙ w.long) w.roomy
      (subst (AllByRecursion (λ k. k < 2 ^ 32)) (sym (ap keys is ∙ ks)) (All-push (λ k. k < 2 ^ 32) (keys H) key w.keys_small low))
      (subst Apart (sym (ap keys is ∙ ks)) (apart_push (keys H) key w.keys_apart (absent_from_none key H new)))
      (put_length key p v (w.filed_places key ∙ new) ∙ ap (λ z. z + 1) w.filed_count)
      (λ k.
      ⊎_elim
      (λ (e : k ≡ key). ap (λ z. look z (put key p v)) e ∙ (look_put_same key p v ∙ sym (ap (λ z. place_of z (held_at t₃ (ps ++ p ∷ []))) e ∙ (ap (place_of key) is ∙ place_push_same key H x new refl))))
      (λ (e : k ≡ key → ⊥). look_put_other key k p v e ∙ (w.filed_places k ∙ sym (ap (place_of k) is ∙ place_push_other k H x (λ q. e (sym q)))))
      (cases_eq k key)) in
      (ap (held_at t₃) made.0 ∙ is, made.1)

  -- the rings with a held key's place between the others
  pub rings_before_remove : (key p : ℕ) → look key v ≡ Some p
      → (xs : List ℕ) × (ys : List ℕ) × (places size count t ≡ xs ++ p ∷ ys) × (key_in t p ≡ key) × Rings (newer_in t) (older_in t) size size (size + 1) (xs ++ p ∷ ys) (spare size count t)
  rings_before_remove key p e =
      let s = held_split t key p (places size count t) (sym (w.filed_places key) ∙ e) in
      (s.0, s.1, s.2, s.3, subst (λ x. Rings (newer_in t) (older_in t) size size (size + 1) x (spare size count t)) s.2 w.rings)

  pub some_held : (key p : ℕ) → look key v ≡ Some p → 0 < count
  some_held key p e =
      let s = rings_before_remove key p e in
      omega (arith, length_walk (newer_in t) (newer_in t size) count, ap length s.2 ∙ length-append s.0 (p ∷ s.1))

  pub removed : (key p : ℕ) (t₁ t₂ : List Record) → Rises v → look key v ≡ Some p
      → Unlinked (newer_in t) (older_in t) p (newer_in t₁) (older_in t₁) → ((j : ℕ) → key_in t₁ j ≡ key_in t j)
      → Linked (newer_in t₁) (older_in t₁) (size + 1) p (newer_in t₂) (older_in t₂) → ((j : ℕ) → key_in t₂ j ≡ key_in t₁ j) → length t₂ ≡ length t
      → (held_at t₂ (places size (count - 1) t₂) ≡ without_key key (held_at t (places size count t))) × WholeIn size (count - 1) t₂ (without key v) m n
  removed key p t₁ t₂ rises e u k₁ l k₂ len =
      let s = rings_before_remove key p e in
      let xs = s.0 in
      let ys = s.1 in
      let ps = places size count t in
      let H = held_at t ps in
      let moved = rings_moved (newer_in t) (older_in t) (newer_in t₁) (older_in t₁) (newer_in t₂) (older_in t₂) size size (size + 1) p xs ys (spare size count t) (omega arith) (omega arith) (λ q. omega arith) s.4 u l in
      let apart : Apart (keys (held_at t xs) ++ key_in t p ∷ keys (held_at t ys)) = subst Apart (ap (λ z. keys (held_at t z)) s.2 ∙ keys_held t xs p ys) w.keys_apart in
      let low : AllByRecursion (λ k. k < 2 ^ 32) (keys (held_at t xs) ++ key_in t p ∷ keys (held_at t ys)) = subst (AllByRecursion (λ k. k < 2 ^ 32)) (ap (λ z. keys (held_at t z)) s.2 ∙ keys_held t xs p ys) w.keys_small in
      let once : Absent key (keys (held_at t (xs ++ ys))) = subst (λ z. Absent z (keys (held_at t (xs ++ ys)))) s.3 (subst (Absent (key_in t p)) (sym (keys_held_append t xs ys)) (apart_here (keys (held_at t xs)) (key_in t p) (keys (held_at t ys)) apart)) in
      let is : held_at t₂ (xs ++ ys) ≡ without_key key H
      = held_same t t₂ (λ j. k₂ j ∙ k₁ j) (xs ++ ys) ∙ sym (ap (λ z. without_key key (held_at t z)) s.2 ∙ without_held t key xs p ys s.3 once) in
      let ks : keys (held_at t₂ (xs ++ ys)) ≡ keys (held_at t xs) ++ keys (held_at t ys) = ap keys (held_same t t₂ (λ j. k₂ j ∙ k₁ j) (xs ++ ys)) ∙ keys_held_append t xs ys in
      let some = some_held key p e in
      let one_length : length (xs ++ ys) ≡ count - 1 = omega (arith, length_walk (newer_in t) (newer_in t size) count, ap length s.2 ∙ length-append xs (p ∷ ys), length-append xs ys) in
      let fits = w.fits in
      let two_length : length (spare size count t ++ p ∷ []) ≡ size - (count - 1) = omega (arith, length_walk (newer_in t) (newer_in t (size + 1)) (size - count), length_push (spare size count t) p) in
      let made = whole_made size (count - 1) t₂ (without key v) m n (xs ++ ys) (spare size count t ++ p ∷ []) moved one_length two_length (omega arith) w.small (len ∙ w.long) w.roomy
      (subst (AllByRecursion (λ k. k < 2 ^ 32)) (sym ks) (all_but (λ k. k < 2 ^ 32) (keys (held_at t xs)) (key_in t p) (keys (held_at t ys)) low))
      (subst Apart (sym ks) (apart_but (keys (held_at t xs)) (key_in t p) (keys (held_at t ys)) apart))
      (omega (arith, without_length key v (λ z. some_none (sym e ∙ z)), w.filed_count))
      (λ k.
      ⊎_elim
      (λ (q : k ≡ key). ap (λ z. look z (without key v)) q ∙ (look_without_same key v rises ∙ sym (ap (λ z. place_of z (held_at t₂ (xs ++ ys))) q ∙ (ap (place_of key) is ∙ place_without_same key H))))
      (λ (q : k ≡ key → ⊥). look_without_other key k v q ∙ (w.filed_places k ∙ sym (ap (place_of k) is ∙ place_without_other key k H q)))
      (cases_eq k key)) in
      (ap (held_at t₂) made.0 ∙ is, made.1)

  -- the first free place and its neighbours lie in the table
  pub push_within : (p : ℕ) → p ≡ newer_in t (size + 1) → count < size → (p < size) × (older_in t p < size + 2) × (newer_in t p < size + 2)
  push_within p e lt =
      place_within [] p (walk (newer_in t) (newer_in t p) (size - (count + 1))) (size + 2) (rings_before_push p e lt) (omega arith) (omega arith)

  pub push_absent : (p : ℕ) → p ≡ newer_in t (size + 1) → count < size → Absent p (taken (held_at t (places size count t)))
  push_absent p e lt = subst (Absent p) (sym (taken_held t (places size count t))) (rings_before_push p e lt).disjoint.0

  -- so does the newest held place, once the free one is unlinked
  pub push_last : (p : ℕ) (t₁ : List Record) → p ≡ newer_in t (size + 1) → count < size → Unlinked (newer_in t) (older_in t) p (newer_in t₁) (older_in t₁) → older_in t₁ size < size + 2
  push_last p t₁ e lt u =
      let r = rings_unlinked (newer_in t) (older_in t) (newer_in t₁) (older_in t₁) size (size + 1) size p [] (walk (newer_in t) (newer_in t p) (size - (count + 1))) (places size count t) (omega arith) (omega arith) (λ q. omega arith) (rings_before_push p e lt) u in
      (end_within (size + 2) r (omega arith) (omega arith)).0

  pub remove_within : (key p : ℕ) → look key v ≡ Some p → (p < size) × (older_in t p < size + 2) × (newer_in t p < size + 2)
  remove_within key p e = let s = rings_before_remove key p e in place_within s.0 p s.1 (size + 2) s.4 (omega arith) (omega arith)

  pub remove_last : (key p : ℕ) (t₁ : List Record) → look key v ≡ Some p → Unlinked (newer_in t) (older_in t) p (newer_in t₁) (older_in t₁) → older_in t₁ (size + 1) < size + 2
  remove_last key p t₁ e u =
      let s = rings_before_remove key p e in
      let r = rings_unlinked (newer_in t) (older_in t) (newer_in t₁) (older_in t₁) size size (size + 1) p s.0 s.1 (spare size count t) (omega arith) (omega arith) (λ q. omega arith) s.4 u in
      (end_within (size + 2) r (omega arith) (omega arith)).0

-- with equal maps
pub whole_like : (size count : ℕ) (t : List Record) (v v' : List (ℕ × ℕ)) (m m' n n' : ℕ) → v' ≡ v → m' ≡ m → n' ≡ n → WholeIn size count t v m n → WholeIn size count t v' m' n'
whole_like size count t v v' m m' n n' e f g w =
    record {
      rings = w.rings;
      fits = w.fits;
      small = w.small;
      long = w.long;
      roomy = subst (λ x. size ≤ room x n') (sym f) (subst (λ x. size ≤ room m x) (sym g) w.roomy);
      keys_small = w.keys_small;
      keys_apart = w.keys_apart;
      filed_count = ap length e ∙ w.filed_count;
      filed_places = λ k. ap (look k) e ∙ w.filed_places k;
    }
