-- A walk along the held places, and what is read of a place.
use Rattle.std.proofs.Common.{◌≡◌, ℕ, zero, suc, ◌+◌, ◌<◌, ◌≤◌, get_or, List, ◌∷◌, length, vec_items, refl, ap, ◌∙◌, arith}
use Rattle.std.specs.List.{AllByRecursion}
use Rattle.std.proofs.lemmas.List.{get_or_read}
use Rattle.std.proofs.lemmas.Bool.{cond-true, lt-ltb}
use Rattle.held.specs.declared.held.Held.{Held}
use Rattle.held.specs.declared.table.Record.{Record}
use Rattle.held.specs.Holdings.{keys}
use Rattle.held.specs.Records.{blank, key_in, newer_in}
use Rattle.held.specs.Rings.{walk}
use Rattle.held.specs.View.{holdings}
use Rattle.held.specs.Walks.{keys_from}
use Rattle.held.specs.Whole.{held_at}
use Rattle.held.proofs.Facts.{whole}

newer_read : (t : List Record) (i : ℕ) (r : Record) → i < length t → r ≡ get_or t i r → r.newer ≡ newer_in t i
newer_read t i r within is = ap (λ x. x.newer) (get_or_read t i r within is blank)

-- the oldest held place, and the first free one, as they are read at the ends of the rings
pub oldest_place : (h : Held) (r : Record) → r ≡ get_or (vec_items h.table) h.size r → r.newer ≡ newer_in (vec_items h.table) h.size
oldest_place h r is = newer_read (vec_items h.table) h.size r (omega (arith, (whole h).long)) is

pub first_place : (h : Held) (i end : ℕ) (r : Record) → i ≡ end → end ≡ h.size + 1 → r ≡ get_or (vec_items h.table) i r → r.newer ≡ newer_in (vec_items h.table) (h.size + 1)
first_place h i end r same last is =
    newer_read (vec_items h.table) i r (omega (arith, (whole h).long, same, last)) is ∙ ap (newer_in (vec_items h.table)) (same ∙ last)

-- where all its places are in the table, a walk comes to all their keys
pub walked : (t : List Record) (size place left : ℕ) → size ≤ length t → AllByRecursion (λ p. p < size) (walk (newer_in t) place left)
    → keys_from t place left ≡ keys (held_at t (walk (newer_in t) place left))
walked t size place zero long low = refl
walked t size place (suc n) long low =
    let here : place < length t = omega (arith, low.0) in
    cond-true _ _ _ (lt-ltb place (length t) here) ∙ ap (λ (ks : List ℕ). key_in t place ∷ ks) (walked t size (newer_in t place) n long low.1)

-- from the oldest on, that is all held keys
pub all_keys : (h : Held) (place : ℕ) → place ≡ newer_in (vec_items h.table) h.size → keys_from (vec_items h.table) place h.count ≡ keys (holdings h)
unfolding holdings
all_keys h place is =
    let t = vec_items h.table in
    ap (λ (p : ℕ). keys_from t p h.count) is ∙ walked t h.size (newer_in t h.size) h.count (omega (arith, (whole h).long)) (whole h).rings.one_below
