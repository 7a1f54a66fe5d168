-- Nothing leaks, after any calls.
use Rattle.std.proofs.Common.{◌≡◌, ℕ, suc, ◌+◌, ◌-◌, ◌<◌, ◌≤◌, true, false, cond, eqb, ltb, leb, List, [], ◌∷◌, ◌++◌, length, is_ok, None, Ok, Err, Result, sym, refl, ap, ◌∙◌, subst, ⊎_elim, arith}
use Rattle.std.proofs.lemmas.List.{length-append}
use Rattle.std.proofs.lemmas.Bool.{cases_lt, cases_Bool, both_ways, cond-true, cond-false, eq-eqb, le-leb, lt-leb, le-ltb, lt-ltb}
use Rattle.index.specs.declared.tree.FileRefusal.{FileRefusal}
use Rattle.index.specs.declared.tree.FileRefusal.TheVariants.{NoSlot, TooFewNodes}
use Rattle.index.specs.Keys.{shares, parts, missing}
use Rattle.index.proofs.Keys.{parts_in}
use Rattle.index.specs.Map.{look, put, without, keys, ruling, used}
use Rattle.index.specs.History.{Call, filing, removal, after, run, removals, Leakless, NothingLeaks}
use Rattle.index.proofs.Views.{Rises, rises_put, rises_without, keys_append, put_split, without_split, put_keys, shares_look, without_none, length_keys, look_not_shares}
use Rattle.index.proofs.Meaning.{used_empty, used_some, used_none, missing_none}

-- the keys are removed one by one, from the first
all_removed : {R : Type 0} (m n : ℕ) (v : List (ℕ × R)) → run m n (removals (keys v)) v ≡ []
all_removed m n [] = refl
all_removed m n (e ∷ v) = ap (run m n (removals (keys v))) (cond-true (eqb e.0 e.0) v (e ∷ without e.0 v) (eq-eqb e.0 e.0 refl)) ∙ all_removed m n v

-- what every call keeps
record Kept {R : Type 0} (m n : ℕ) (v : List (ℕ × R)) : Type 0 where
  rises : Rises v
  slots : length v ≤ m
  nodes : 0 < n → 1 + parts (keys v) ≤ n
  none : n ≡ 0 → v ≡ []

parts_none : parts [] ≡ 0
unfolding parts
parts_none = refl

module _ {R : Type 0} (m n : ℕ) where
  -- a filing that is granted
  new_key : (k : ℕ) (r : R) (v : List (ℕ × R)) → Kept m n v → shares 0 k (keys v) ≡ false → length (keys v) < m → missing k (keys v) ≤ n - used n (keys v) → Kept m n (put k r v)
  new_key k r v i z l f =
      let no : look k v ≡ None = shares_look k v z in
      let s = put_split k r v no in
      let kv : keys v ≡ keys s.0 ++ keys s.1 = ap keys s.2 ∙ keys_append s.0 s.1 in
      let kp : keys (put k r v) ≡ keys s.0 ++ k ∷ keys s.1 = ap keys s.3 ∙ keys_append s.0 ((k, r) ∷ s.1) in
      let pp : parts (keys (put k r v)) ≡ missing k (keys v) + parts (keys v) = ap parts kp ∙ (parts_in k (keys s.0) (keys s.1) ∙ ap (λ x. missing k x + parts x) (sym kv)) in
      let lv : length v ≡ length s.0 + length s.1 = ap length s.2 ∙ length-append s.0 s.1 in
      let lp : length (put k r v) ≡ length s.0 + suc (length s.1) = ap length s.3 ∙ length-append s.0 ((k, r) ∷ s.1) in
      let lk = length_keys v in
      record {
        rises = rises_put k r v i.rises;
        slots = omega arith;
        nodes = λ some. let us = used_some n (parts (keys v)) some in let o = i.nodes some in omega arith;
        none = λ e.
            let us = used_none n (parts (keys v)) e in
            let seven : missing k (keys v) ≡ 7 = ap (λ x. missing k (keys x)) (i.none e) ∙ missing_none k in
            absurd (omega arith);
      }

  has : (k : ℕ) (v : List (ℕ × R)) → shares 0 k (keys v) ≡ true → look k v ≡ None → ⊥
  has k v t z = both_ways (shares 0 k (keys v)) (look_not_shares k v z) t

  -- a filing that replaces
  old_key : (k : ℕ) (r : R) (v : List (ℕ × R)) → Kept m n v → shares 0 k (keys v) ≡ true → Kept m n (put k r v)
  old_key k r v i t =
      let kp : keys (put k r v) ≡ keys v = put_keys k r v i.rises (has k v t) in
      let lp : length (put k r v) ≡ length v = sym (length_keys (put k r v)) ∙ (ap length kp ∙ length_keys v) in
      let pp : parts (keys (put k r v)) ≡ parts (keys v) = ap parts kp in
      let sl = i.slots in
      record {
        rises = rises_put k r v i.rises;
        slots = omega arith;
        nodes = λ some. omega (arith, i.nodes some);
        none = λ e. absurd (has k v t (ap (look k) (i.none e)));
      }

  -- a removal
  gone : (k : ℕ) (v : List (ℕ × R)) → Kept m n v → shares 0 k (keys v) ≡ true → Kept m n (without k v)
  gone k v i t =
      let s = without_split k v (has k v t) in
      let kv : keys v ≡ keys s.0 ++ k ∷ keys s.2 = ap keys s.3 ∙ keys_append s.0 ((k, s.1) ∷ s.2) in
      let kw : keys (without k v) ≡ keys s.0 ++ keys s.2 = ap keys s.4 ∙ keys_append s.0 s.2 in
      let pv : parts (keys v) ≡ missing k (keys s.0 ++ keys s.2) + parts (keys s.0 ++ keys s.2) = ap parts kv ∙ parts_in k (keys s.0) (keys s.2) in
      let pw : parts (keys (without k v)) ≡ parts (keys s.0 ++ keys s.2) = ap parts kw in
      let lv : length v ≡ length s.0 + suc (length s.2) = ap length s.3 ∙ length-append s.0 ((k, s.1) ∷ s.2) in
      let lw : length (without k v) ≡ length s.0 + length s.2 = ap length s.4 ∙ length-append s.0 s.2 in
      let sl = i.slots in
      record {
        rises = rises_without k v i.rises;
        slots = omega arith;
        nodes = λ some. omega (arith, i.nodes some);
        none = λ e. ap (without k) (i.none e);
      }

  kept_call : (c : Call R) (v : List (ℕ × R)) → Kept m n v → Kept m n (after m n c v)
  kept_call (filing k r) v i =
      let ks = keys v in
      let answered : (x : Result (Unit {0}) FileRefusal) → ruling ks k m n ≡ x → Kept m n (cond (is_ok x) (put k r v) v) → Kept m n (after m n (filing k r) v)
      = λ x e p. subst (λ y. Kept m n (cond (is_ok y) (put k r v) v)) (sym e) p in
      ⊎_elim
      (λ (t : shares 0 k ks ≡ true). answered (Ok tt) (cond-true (shares 0 k ks) (Ok tt) _ t) (old_key k r v i t))
      (λ (t : shares 0 k ks ≡ false).
      ⊎_elim
      (λ (l : length ks < m).
      ⊎_elim
      (λ (f : n - used n ks < missing k ks).
      answered (Err TooFewNodes) (cond-false (shares 0 k ks) (Ok tt) _ t ∙ (cond-false (leb m (length ks)) (Err NoSlot) _ (lt-leb m (length ks) l)
      ∙ cond-true (ltb (n - used n ks) (missing k ks)) (Err TooFewNodes) (Ok tt) (lt-ltb (n - used n ks) (missing k ks) f))) i)
      (λ (f : missing k ks ≤ n - used n ks).
      answered (Ok tt) (cond-false (shares 0 k ks) (Ok tt) _ t ∙ (cond-false (leb m (length ks)) (Err NoSlot) _ (lt-leb m (length ks) l)
      ∙ cond-false (ltb (n - used n ks) (missing k ks)) (Err TooFewNodes) (Ok tt) (le-ltb (n - used n ks) (missing k ks) f))) (new_key k r v i t l f))
      (cases_lt (n - used n ks) (missing k ks)))
      (λ (l : m ≤ length ks).
      answered (Err NoSlot) (cond-false (shares 0 k ks) (Ok tt) _ t ∙ cond-true (leb m (length ks)) (Err NoSlot) _ (le-leb m (length ks) l)) i)
      (cases_lt (length ks) m))
      (cases_Bool (shares 0 k ks))
  kept_call (removal k) v i =
      ⊎_elim
      (λ (t : shares 0 k (keys v) ≡ true). gone k v i t)
      (λ (t : shares 0 k (keys v) ≡ false). subst (Kept m n) (sym (without_none k v (shares_look k v t))) i)
      (cases_Bool (shares 0 k (keys v)))

  kept_run : (cs : List (Call R)) (v : List (ℕ × R)) → Kept m n v → Kept m n (run m n cs v)
  kept_run [] v i = i
  kept_run (c ∷ cs) v i = kept_run cs (after m n c v) (kept_call c v i)

  begin : Kept {R = R} m n []
  begin = record { rises = tt; slots = omega arith; nodes = λ some. omega (arith, parts_none); none = λ _. refl }

  leakless : (v : List (ℕ × R)) → Kept m n v → Leakless m n v
  leakless v i =
      let z = all_removed m n v in
      let fit : used n (keys v) ≤ n = ⊎_elim
      (λ (some : 0 < n). omega (arith, used_some n (parts (keys v)) some, i.nodes some))
      (λ (no : n ≤ 0). omega (arith, used_none n (parts (keys v)) (omega arith)))
      (cases_lt 0 n) in
      let len : length (run m n (removals (keys v)) v) ≡ 0 = ap length z in
      let root = used_empty n (keys (run m n (removals (keys v)) v)) (ap keys z) in
      record { slots_fit = i.slots; nodes_fit = fit; emptied = z; slots_free = omega arith; nodes_free = omega arith }

pub nothing_leaks_lem : (R : Type 0) → NothingLeaks R
nothing_leaks_lem R m n calls = leakless m n (run m n calls []) (kept_run m n calls [] (begin m n))
