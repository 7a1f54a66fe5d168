-- What is known of any held keys.
use Rattle.std.proofs.Common.{◌≡◌, ℕ, ◌/◌, ◌^◌, ◌<◌, ◌≤◌, true, eqb, List, [], ◌∷◌, length, is_some, Some, None, Option, cond, vec_items, sym, refl, ap, ◌∙◌, subst, ⊎_elim, arith}
use Rattle.std.specs.List.{AllByRecursion, find}
use Rattle.std.specs.Option.{option_map}
use Rattle.page.specs.Keys.{pool_of}
use Rattle.page.specs.declared.keys.Key.{Key}
use Rattle.std.proofs.lemmas.List.{length-map}
use Rattle.std.proofs.lemmas.Bool.{cases_eq, eq-eqb, ne_eqb, cond-true, cond-false}
use Rattle.backend.specs.Victims.{oldest_of, fullest, victim}
use Rattle.index.specs.Map.{look}
use Rattle.index.specs.View.{view, nodes, slots}
use Rattle.held.specs.declared.held.Held.{Held}
use Rattle.held.specs.Holdings.{Holding, keys, taken, place_of, number_of}
use Rattle.held.specs.Rings.{Apart}
use Rattle.held.specs.View.{holdings, size_of}
use Rattle.held.specs.Whole.{places, held_at, WholeIn}
use Rattle.held.proofs.Counts.{victim_is}
use Rattle.held.proofs.Moves.{length_walk, remove_within}
use Rattle.held.proofs.Places.{hold, taken_held, held_split, place_hit, place_miss, some_none}
use Rattle.held.proofs.Unique.{kept}

oldest_held : (pool k : ℕ) (H : List Holding) → oldest_of pool (keys H) ≡ Some k → is_some (place_of k H) ≡ true
oldest_held pool k [] e = absurd (some_none (sym e))
oldest_held pool k (x ∷ H) e =
    ⊎_elim
    (λ (q : x.key ≡ k). ap is_some (place_hit k x H q))
    (λ (q : x.key ≡ k → ⊥).
    ap is_some (place_miss k x H q) ∙ ⊎_elim
    (λ (r : x.key / 2 ^ 28 ≡ pool).
    let is : Some x.key ≡ Some k = sym (cond-true (eqb (x.key / 2 ^ 28) pool) (Some x.key) (oldest_of pool (keys H)) (eq-eqb (x.key / 2 ^ 28) pool r)) ∙ e in
    let same : x.key ≡ k = cc in absurd (q same))
    (λ (r : x.key / 2 ^ 28 ≡ pool → ⊥).
    oldest_held pool k H (sym (cond-false (eqb (x.key / 2 ^ 28) pool) (Some x.key) (oldest_of pool (keys H)) (ne_eqb (x.key / 2 ^ 28) pool r)) ∙ e))
    (cases_eq (x.key / 2 ^ 28) pool))
    (cases_eq x.key k)

-- the oldest key of a pool is the first that a search for the pool finds
pub oldest_found : (pool : ℕ) (ks : List ℕ) → oldest_of pool ks ≡ find (λ k. eqb (pool_of k) pool) ks
oldest_found pool [] = refl
oldest_found pool (k ∷ ks) = ap (λ (o : Option ℕ). cond (eqb (pool_of k) pool) (Some k) o) (oldest_found pool ks)

pub numbered : (o : Option Key) → number_of o ≡ option_map (λ k. k.number) o
numbered None = refl
numbered (Some k) = refl

pub whole : (h : Held) → WholeIn h.size h.count (vec_items h.table) (view h.index) (slots h.index) (nodes h.index)
whole h = kept h.whole

pub holdings_are : (h : Held) → holdings h ≡ held_at (vec_items h.table) (places h.size h.count (vec_items h.table))
unfolding holdings
holdings_are h = refl

-- the index has the place of each key
pub filed_places : (h : Held) (k : ℕ) → look k (view h.index) ≡ place_of k (holdings h)
unfolding holdings
filed_places h k = (whole h).filed_places k

pub count_is : (h : Held) → h.count ≡ length (holdings h)
unfolding holdings
count_is h = sym (length-map (places h.size h.count (vec_items h.table)) (hold (vec_items h.table)) ∙ length_walk _ _ h.count)

-- at most `size` keys are held, and that is at most 4,096
pub count_fits : (h : Held) → length (holdings h) ≤ size_of h
count_fits h = let e = count_is h in let f = (whole h).fits in omega arith

pub size_small : (h : Held) → size_of h ≤ 4096
size_small h = (whole h).small

-- the places are below `size`, and no two keys have one place
pub places_below : (h : Held) → AllByRecursion (λ p. p < size_of h) (taken (holdings h))
unfolding holdings
places_below h = subst (AllByRecursion (λ p. p < h.size)) (sym (taken_held (vec_items h.table) (places h.size h.count (vec_items h.table)))) (whole h).rings.one_below

pub places_apart : (h : Held) → Apart (taken (holdings h))
unfolding holdings
places_apart h = subst Apart (sym (taken_held (vec_items h.table) (places h.size h.count (vec_items h.table)))) (whole h).rings.one_apart

-- the keys are 32-bit numbers, and no key is held twice
pub keys_small : (h : Held) → AllByRecursion (λ k. k < 2 ^ 32) (keys (holdings h))
unfolding holdings
keys_small h = (whole h).keys_small

pub keys_apart : (h : Held) → Apart (keys (holdings h))
unfolding holdings
keys_apart h = (whole h).keys_apart

pub keys_few : (h : Held) → length (keys (holdings h)) ≤ 4096
keys_few h = omega (arith, length-map (holdings h) (λ x. x.key), count_fits h, size_small h)

-- the place of a held key
pub place_below : (h : Held) (k p : ℕ) → place_of k (holdings h) ≡ Some p → p < size_of h
place_below h k p e =
    let w = whole h in
    (remove_within h.size h.count (vec_items h.table) (view h.index) (slots h.index) (nodes h.index) w k p (filed_places h k ∙ e)).0

-- two keys have two places
pub places_differ : (h : Held) (k q p : ℕ) → place_of k (holdings h) ≡ Some p → place_of q (holdings h) ≡ Some p → k ≡ q
unfolding holdings
places_differ h k q p e f =
    let t = vec_items h.table in
    let ps = places h.size h.count t in
    sym (held_split t k p ps e).3 ∙ (held_split t q p ps f).3

-- the key that gives way is held
pub victim_held : (H : List Holding) (k : ℕ) → victim (keys H) ≡ Some k → is_some (place_of k H) ≡ true
victim_held H k e = oldest_held (fullest (keys H)) k H (sym (victim_is (keys H)) ∙ e)
