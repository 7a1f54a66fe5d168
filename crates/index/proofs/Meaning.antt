-- From a tree to what its index stands for.
use Rattle.std.proofs.Common.{◌≡◌, ℕ, ◌+◌, ◌-◌, ◌^◌, ◌<◌, ◌≤◌, min, Bool, true, false, cond, eqb, ltb, leb, List, [], ◌∷◌, length, get_or, set, is_some, is_ok, Some, None, Ok, Err, vec_items, Option, Result, sym, refl, ap, ◌∙◌, subst, inl, inr, ⊎_elim, arith, MatchOption}
use Rattle.std.proofs.lemmas.List.{length-map, nil_from_length}
use Rattle.std.proofs.lemmas.Bool.{cases_lt, cases_Bool, both_ways, cond-true, cond-false, lt-leb, le-leb, le-ltb, lt-ltb, eq-eqb, ne_eqb}
use Rattle.index.specs.declared.tree.Tree.{Tree}
use Rattle.index.specs.Keys.{shares, parts, missing}
use Rattle.index.specs.Slots.{marks, mark_in}
use Rattle.index.specs.Sound.{heads_of, records_of, path_at}
use Rattle.index.specs.Filing.{Whole, WholeIn, Placed, Removed, Refused, keys_of, nodes_of, slots_of}
use Rattle.index.specs.Map.{look, put, without, from, keys, used, ruling, room}
use Rattle.index.specs.View.{pairs, sorted}
use Rattle.index.proofs.Shape.{same}
use Rattle.index.proofs.Steps.{lead_zero}
use Rattle.index.proofs.Below.{big_marks, marks_at, path_past}
use Rattle.index.proofs.Keys.{filed_has, filed_from, parts_le, missing_le}
use Rattle.index.specs.Nexts.{Past, First}
use Rattle.index.proofs.Views.{without_none, rises_sorted, from_none, from_some, look_sorted, shares_sorted, missing_sorted, parts_sorted, length_sorted, length_keys, look_shares}
use Rattle.index.specs.declared.tree.FileRefusal.{FileRefusal}
use Rattle.index.specs.declared.tree.FileRefusal.TheVariants.{NoSlot, TooFewNodes}
use Rattle.index.proofs.Fresh.{filed_none}
use Rattle.index.proofs.Pairs.{sorted_put, sorted_without, Lawful, keys_pairs, look_none, look_at, apart_pairs}

abbrev marks_of : {R : Type 0} → Tree R → List ℕ
marks_of t = marks (heads_of t)

pub lawful : {R : Type 0} (t : Tree R) → Whole t → Lawful (marks_of t)
lawful t w =
    let ns = vec_items t.nodes in
    let hs = heads_of t in
    ⊎_elim
    (λ (some : 0 < length ns). record {
      big = big_marks w.sound some;
      once = λ i j u e.
          let ti : path_at ns hs (length ns + i) ≡ get_or (marks hs) i 0 = path_past ns hs i ∙ sym (marks_at hs i) in
          let tj : path_at ns hs (length ns + j) ≡ get_or (marks hs) j 0 = path_past ns hs j ∙ sym (marks_at hs j) in
          let q : length ns + i ≡ length ns + j = same (w.sound.linked some) (path_at ns hs (length ns + i)) (length ns + i) (length ns + j) (omega arith) (omega arith) (ti ∙ (e ∙ sym tj)) in
          omega arith;
    })
    (λ (none : length ns ≤ 0).
    let z : (p : ℕ) → get_or (marks hs) p 0 ≡ 0 = λ p. marks_at hs p ∙ w.sound.empty (omega arith) p in
    record { big = λ p u. absurd (omega (arith, z p)); once = λ i j u e. absurd (omega (arith, z i)) })
    (cases_lt 0 (length ns))

pub level : {R : Type 0} (t : Tree R) → slots_of t ≡ length (records_of t)
level t = length-map (vec_items t.slots) (λ s. s.head) ∙ sym (length-map (vec_items t.slots) (λ s. s.value))

pub level_marks : {R S : Type 0} (t : Tree S) (rs : List R) → slots_of t ≡ length rs → length (marks_of t) ≡ length rs
level_marks t rs l = rw length-map l

some_of : {R : Type 0} (rs : List R) (p : ℕ) → p < length rs → R
some_of [] p l = absurd (omega arith)
some_of (r ∷ rs) p l = r

module _ {R : Type 0} (t : Tree R) (rs : List R) (w : Whole t) (l : slots_of t ≡ length rs) where
  all : List (ℕ × R)
  all = pairs (marks_of t) rs

  pub view_look : (key p : ℕ) (d : R) → p < slots_of t → mark_in (heads_of t) p ≡ 2 ^ 32 + key → look key (sorted (pairs (marks_of t) rs)) ≡ Some (get_or rs p d)
  view_look key p d pl e =
      look_sorted key (pairs (marks_of t) rs) ∙ look_at key p d (marks_of t) rs (lawful t w) (marks_at (heads_of t) p ∙ e) (omega arith)

  pub view_none : (key : ℕ) → shares 0 key (keys_of t) ≡ false → look key (sorted (pairs (marks_of t) rs)) ≡ None
  view_none key e =
      look_sorted key (pairs (marks_of t) rs) ∙ look_none key (marks_of t) rs (lawful t w) (λ j q. both_ways (shares 0 key (keys_of t)) e (filed_has (marks_of t) j key 0 key q refl))

  pub view_shares : (h key : ℕ) → shares h key (keys (sorted (pairs (marks_of t) rs))) ≡ shares h key (keys_of t)
  view_shares h key = shares_sorted h key (pairs (marks_of t) rs) (apart_pairs (marks_of t) rs (lawful t w)) ∙ ap (shares h key) (keys_pairs (marks_of t) rs (level_marks t rs l))

  pub view_missing : (key : ℕ) → missing key (keys (sorted (pairs (marks_of t) rs))) ≡ missing key (keys_of t)
  view_missing key = missing_sorted key (pairs (marks_of t) rs) (apart_pairs (marks_of t) rs (lawful t w)) ∙ ap (missing key) (keys_pairs (marks_of t) rs (level_marks t rs l))

  pub view_parts : parts (keys (sorted (pairs (marks_of t) rs))) ≡ parts (keys_of t)
  view_parts = parts_sorted (pairs (marks_of t) rs) (apart_pairs (marks_of t) rs (lawful t w)) ∙ ap parts (keys_pairs (marks_of t) rs (level_marks t rs l))

  pub view_length : length (sorted (pairs (marks_of t) rs)) ≡ length (keys_of t)
  view_length = length_sorted (pairs (marks_of t) rs) (apart_pairs (marks_of t) rs (lawful t w)) ∙ (sym (length_keys (pairs (marks_of t) rs)) ∙ ap length (keys_pairs (marks_of t) rs (level_marks t rs l)))

  pub view_empty : keys_of t ≡ [] → sorted (pairs (marks_of t) rs) ≡ []
  view_empty e = nil_from_length (sorted (pairs (marks_of t) rs)) (view_length ∙ ap length e)

  absent : (q : ℕ) → ((p : ℕ) → mark_in (heads_of t) p ≡ 2 ^ 32 + q → ⊥) → look q (sorted (pairs (marks_of t) rs)) ≡ None
  absent q f = look_sorted q (pairs (marks_of t) rs) ∙ look_none q (marks_of t) rs (lawful t w) (λ j e. f j (sym (marks_at (heads_of t) j) ∙ e))

  held_not_none : (k p : ℕ) → mark_in (heads_of t) p ≡ 2 ^ 32 + k → p < length rs → look k (sorted (pairs (marks_of t) rs)) ≡ None → ⊥
  held_not_none k p e pl z =
      let d = some_of rs p pl in
      let y : is_some {T = R} (Some (get_or rs p d)) ≡ is_some {T = R} None = ap is_some (sym (view_look k p d (omega arith) e) ∙ z) in
      both_ways false refl (sym y)

  pub view_next : (key : ℕ) (r : Option ℕ) → MatchOption r (Past (heads_of t) key) (λ k. First t key k) → r ≡ from key (sorted (pairs (marks_of t) rs))
  view_next key None c = sym (from_none key (sorted (pairs (marks_of t) rs)) (rises_sorted (pairs (marks_of t) rs)) (λ q l. absent q (λ p e. c p (omega arith))))
  view_next key (Some k) c =
      let f = filed_from (marks_of t) 0 k (lawful t w).big c.held in
      let e : mark_in (heads_of t) f.0 ≡ 2 ^ 32 + k = sym (marks_at (heads_of t) f.0) ∙ (f.3 ∙ lead_zero f.1 k f.4) in
      let fl = f.2 in
      let lv = level_marks t rs l in
      let ml : length (marks_of t) ≡ slots_of t = rw length-map in
      sym (from_some key k (sorted (pairs (marks_of t) rs)) (rises_sorted (pairs (marks_of t) rs)) c.after
      (λ z. held_not_none k f.0 e (omega arith) z)
      (λ j a b. absent j (λ p q. omega (arith, c.least p (omega arith)))))

  pub view_put : (u : Tree R) (rs' : List R) (key p : ℕ) (v : R) → Whole u → Placed t u key p → rs' ≡ set rs p v → sorted (pairs (marks_of u) rs') ≡ put key v (sorted (pairs (marks_of t) rs))
  view_put u rs' key p v wu pl er =
      sorted_put key p v (marks_of t) (marks_of u) rs rs' (lawful t w) (lawful u wu) (level_marks t rs l) (rw length-map pl.within)
      (⊎_elim (λ (e : mark_in (heads_of t) p ≡ 2 ^ 32 + key). inl (marks_at (heads_of t) p ∙ e)) (λ e. inr (marks_at (heads_of t) p ∙ e.0)) pl.ways) pl.marks_are er

  pub view_removed : (u : Tree R) (key p : ℕ) (d : R) → Whole u → Removed t u key p → sorted (pairs (marks_of u) rs) ≡ without key (sorted (pairs (marks_of t) rs))
  view_removed u key p d wu k =
      sorted_without key p d (marks_of t) (marks_of u) rs (lawful t w) (lawful u wu) (level_marks t rs l) (rw length-map k.within) (marks_at (heads_of t) p ∙ k.held) k.marks_are

  -- what is not there cannot be removed
  pub view_unremoved : (key : ℕ) → shares 0 key (keys_of t) ≡ false → without key (sorted (pairs (marks_of t) rs)) ≡ sorted (pairs (marks_of t) rs)
  view_unremoved key e = without_none key (sorted (pairs (marks_of t) rs)) (view_none key e)

  ruled : ℕ → ℕ → Bool → ℕ → ℕ → ℕ → Result (Unit {0}) FileRefusal
  ruled m n b k p q = cond b (Ok tt) (cond (leb m k) (Err NoSlot) (cond (ltb (n - cond (eqb n 0) 0 (1 + p)) q) (Err TooFewNodes) (Ok tt)))

  pub view_ruling : (key m n : ℕ) → ruling (keys (sorted (pairs (marks_of t) rs))) key m n ≡ ruling (keys_of t) key m n
  unfolding ruled
  view_ruling key m n =
      let V = keys (sorted (pairs (marks_of t) rs)) in
      let len : length V ≡ length (keys_of t) = length_keys (sorted (pairs (marks_of t) rs)) ∙ view_length in
      ap (λ x. ruled m n x (length V) (parts V) (missing key V)) (view_shares 0 key)
      ∙ (ap (λ x. ruled m n (shares 0 key (keys_of t)) x (parts V) (missing key V)) len
      ∙ (ap (λ x. ruled m n (shares 0 key (keys_of t)) (length (keys_of t)) x (missing key V)) view_parts
      ∙ ap (λ x. ruled m n (shares 0 key (keys_of t)) (length (keys_of t)) (parts (keys_of t)) x) (view_missing key)))

pub used_some : (n p : ℕ) → 0 < n → cond (eqb n 0) 0 (1 + p) ≡ 1 + p
used_some n p l = cond-false (eqb n 0) 0 (1 + p) (ne_eqb n 0 (λ e. omega arith))

pub used_none : (n p : ℕ) → n ≡ 0 → cond (eqb n 0) 0 (1 + p) ≡ 0
used_none n p e = cond-true (eqb n 0) 0 (1 + p) (eq-eqb n 0 e)

pub ruling_ok : {R : Type 0} (t u : Tree R) (key p : ℕ) → Placed t u key p → Ok tt ≡ ruling (keys_of t) key (slots_of t) (nodes_of t)
ruling_ok t u key p k =
    ⊎_elim
    (λ (e : mark_in (heads_of t) p ≡ 2 ^ 32 + key).
    sym (cond-true (shares 0 key (keys_of t)) (Ok tt) _ (filed_has (marks_of t) p key 0 key (marks_at (heads_of t) p ∙ e) refl)))
    (λ e.
    let few = e.3 in
    let us = used_some (nodes_of t) (parts (keys_of t)) (omega arith) in
    sym (cond-false (shares 0 key (keys_of t)) (Ok tt) _ e.1
    ∙ (cond-false (leb (slots_of t) (length (keys_of t))) (Err NoSlot) _ (lt-leb (slots_of t) (length (keys_of t)) e.2)
    ∙ cond-false (ltb (nodes_of t - used (nodes_of t) (keys_of t)) (missing key (keys_of t))) (Err TooFewNodes) (Ok tt)
    (le-ltb (nodes_of t - used (nodes_of t) (keys_of t)) (missing key (keys_of t)) (omega arith)))))
    k.ways

pub missing_none : (key : ℕ) → missing key [] ≡ 7
unfolding missing
missing_none key = refl

-- the nodes that are free are too few
few : {R : Type 0} (t : Tree R) (key : ℕ) → Whole t → nodes_of t < 1 + parts (keys_of t) + missing key (keys_of t)
    → nodes_of t - used (nodes_of t) (keys_of t) < missing key (keys_of t)
few t key w l =
    ⊎_elim
    (λ (some : 0 < nodes_of t).
    let us = used_some (nodes_of t) (parts (keys_of t)) some in
    let ex = w.exact some in
    omega arith)
    (λ (none : nodes_of t ≤ 0).
    let us = used_none (nodes_of t) (parts (keys_of t)) (omega arith) in
    let no : keys_of t ≡ [] = filed_none (marks_of t) (λ p. marks_at (heads_of t) p ∙ w.sound.empty (omega arith) p) in
    let seven : missing key (keys_of t) ≡ 7 = ap (missing key) no ∙ missing_none key in
    omega arith)
    (cases_lt 0 (nodes_of t))

pub ruling_err : {R : Type 0} (t : Tree R) (key : ℕ) (e : FileRefusal) → Whole t → Refused t key e → Err e ≡ ruling (keys_of t) key (slots_of t) (nodes_of t)
ruling_err t key NoSlot w k =
    sym (cond-false (shares 0 key (keys_of t)) (Ok tt) _ k.0 ∙ cond-true (leb (slots_of t) (length (keys_of t))) (Err NoSlot) _ (le-leb (slots_of t) (length (keys_of t)) (let z = k.1 in omega arith)))
ruling_err t key TooFewNodes w k =
    sym (cond-false (shares 0 key (keys_of t)) (Ok tt) _ k.0
    ∙ (cond-false (leb (slots_of t) (length (keys_of t))) (Err NoSlot) _ (lt-leb (slots_of t) (length (keys_of t)) k.1.0)
    ∙ cond-true (ltb (nodes_of t - used (nodes_of t) (keys_of t)) (missing key (keys_of t))) (Err TooFewNodes) (Ok tt)
    (lt-ltb (nodes_of t - used (nodes_of t) (keys_of t)) (missing key (keys_of t)) (few t key w k.1.1))))

-- a key is never refused while there is room
pub room_ok : (ks : List ℕ) (key m n : ℕ) → length ks < room m n → ruling ks key m n ≡ Ok tt
room_ok ks key m n l =
    let a = parts_le ks in
    let b = missing_le key ks in
    let lm : length ks < m = omega arith in
    let us = used_some n (parts ks) (omega arith) in
    let ln : missing key ks ≤ n - used n ks = omega arith in
    ⊎_elim
    (λ (e : shares 0 key ks ≡ true). cond-true (shares 0 key ks) (Ok tt) _ e)
    (λ (e : shares 0 key ks ≡ false).
    cond-false (shares 0 key ks) (Ok tt) _ e
    ∙ (cond-false (leb m (length ks)) (Err NoSlot) _ (lt-leb m (length ks) lm)
    ∙ cond-false (ltb (n - used n ks) (missing key ks)) (Err TooFewNodes) (Ok tt) (le-ltb (n - used n ks) (missing key ks) ln)))
    (cases_Bool (shares 0 key ks))

pub room_file : {R : Type 0} (v : List (ℕ × R)) (key m n : ℕ) (r : Result (Unit {0}) FileRefusal) → r ≡ ruling (keys v) key m n → length v < room m n → is_ok r ≡ true
room_file v key m n r e l = ap is_ok (e ∙ room_ok (keys v) key m n (omega (arith, length_keys v)))

-- nor one that is filed already
pub again_file : {R : Type 0} (v : List (ℕ × R)) (key m n : ℕ) (r : Result (Unit {0}) FileRefusal) → r ≡ ruling (keys v) key m n → is_some (look key v) ≡ true → is_ok r ≡ true
again_file v key m n r e h = ap is_ok (e ∙ cond-true (shares 0 key (keys v)) (Ok tt) _ (look_shares key v h))

-- the nodes in use
pub used_nodes : {R : Type 0} (t : Tree R) → Whole t → (rs : List R) → slots_of t ≡ length rs
    → (t.unused ≤ nodes_of t) × (nodes_of t - t.unused ≡ used (nodes_of t) (keys (sorted (pairs (marks_of t) rs))))
used_nodes t w rs l =
    let p = view_parts t rs w l in
    ⊎_elim
    (λ (some : 0 < nodes_of t).
    let us = used_some (nodes_of t) (parts (keys (sorted (pairs (marks_of t) rs)))) some in
    let ex = w.exact some in
    (omega arith, omega arith))
    (λ (none : nodes_of t ≤ 0).
    let us = used_none (nodes_of t) (parts (keys (sorted (pairs (marks_of t) rs)))) (omega arith) in
    let tl = w.sound.nodes_free.top_le in
    (omega arith, omega arith))
    (cases_lt 0 (nodes_of t))

parts_none : parts [] ≡ 0
unfolding parts
parts_none = refl

pub used_empty : (n : ℕ) (ks : List ℕ) → ks ≡ [] → used n ks ≡ min 1 n
used_empty n ks e =
    let p : parts ks ≡ 0 = ap parts e ∙ parts_none in
    ⊎_elim
    (λ (some : 0 < n). let us = used_some n (parts ks) some in omega arith)
    (λ (none : n ≤ 0). let us = used_none n (parts ks) (omega arith) in omega arith)
    (cases_lt 0 n)

-- with nothing filed all is free
pub empty_free : {R : Type 0} (t : Tree R) → Whole t → sorted (pairs (marks_of t) (records_of t)) ≡ [] → (t.unused ≡ nodes_of t - 1) × (t.vacant ≡ slots_of t)
empty_free t w e =
    let u = used_nodes t w (records_of t) (level t) in
    let z = used_empty (nodes_of t) (keys (sorted (pairs (marks_of t) (records_of t)))) (ap keys e) in
    let n : length (sorted (pairs (marks_of t) (records_of t))) ≡ 0 = ap length e in
    let vl = view_length t (records_of t) w (level t) in
    let ul = u.0 in
    let ur = u.1 in
    (omega arith, omega (arith, w.sound.count))

-- a write to a record keeps the tree whole
pub whole_kept : {R : Type 0} (t u : Tree R) → heads_of u ≡ heads_of t → u.nodes ≡ t.nodes → u.unused ≡ t.unused → u.vacant ≡ t.vacant → Whole t → Whole u
whole_kept t u h n f v w =
    subst (λ x. WholeIn (vec_items u.nodes) (heads_of u) u.unused x) (sym v)
    (subst (λ x. WholeIn (vec_items u.nodes) (heads_of u) x t.vacant) (sym f)
    (subst (λ x. WholeIn (vec_items u.nodes) x t.unused t.vacant) (sym h)
    (subst (λ x. WholeIn (vec_items x) (heads_of t) t.unused t.vacant) (sym n) w)))

-- the map after a slot is made, or found, and the record written
pub view_filed : {R : Type 0} (t p u : Tree R) (key slot : ℕ) (v : R) → Whole t → Whole p → Placed t p key slot → heads_of u ≡ heads_of p → records_of u ≡ set (records_of p) slot v
    → sorted (pairs (marks_of u) (records_of u)) ≡ put key v (sorted (pairs (marks_of t) (records_of t)))
view_filed t p u key slot v w wp k h r =
    ap (λ x. sorted (pairs (marks x) (records_of u))) h
    ∙ view_put t (records_of t) w (level t) p (records_of u) key slot v wp k (r ∙ ap (λ x. set x slot v) k.records_are)
