-- How many contents are in use, after a count of users is set.
use Rattle.std.proofs.Common.{◌≡◌, ℕ, zero, suc, ◌+◌, ◌<◌, ◌≤◌, cond, leb, List, [], ◌∷◌, length, get_or, set, replicate, refl, inl, inr, arith}
use Rattle.std.proofs.lemmas.List.{length-set, get_or_past}
use Rattle.std.proofs.lemmas.List.Sums.{sum_by-cons, sum_by-set, count_by-le-length}
use Rattle.std.proofs.lemmas.Bool.{cases_lt}
use Rattle.std.proofs.lemmas.Bool.Decides.{nat_tests}
use Rattle.contents.specs.Records.{in_use_in}

-- past the end no content is in use
pub used_within : (us : List ℕ) (i : ℕ) → 1 ≤ get_or us i 0 → i < length us
used_within us i used = elim (cases_lt i (length us)) [ inl l ↦ l | inr g ↦ absurd (omega (arith, get_or_past us i 0 g)) ]

in_use_one : ℕ → ℕ
in_use_one n = cond (leb 1 n) 1 0

in_use_yes : (n : ℕ) → 1 ≤ n → in_use_one n ≡ 1
unfolding in_use_one
in_use_yes n h = grind (arith, nat_tests)

pub in_use_le : (us : List ℕ) → in_use_in us ≤ length us
unfolding in_use_in
in_use_le us = count_by-le-length (λ n. leb 1 n) us

in_use_set : (us : List ℕ) (i v : ℕ) → i < length us → in_use_in (set us i v) + in_use_one (get_or us i 0) ≡ in_use_in us + in_use_one v
unfolding in_use_in in_use_one
in_use_set us i v h = sum_by-set (λ n. cond (leb 1 n) 1 0) us i v 0 h

in_use_cons : (u : ℕ) (us : List ℕ) → in_use_in (u ∷ us) ≡ in_use_one u + in_use_in us
unfolding in_use_in in_use_one
in_use_cons u us = sum_by-cons (λ n. cond (leb 1 n) 1 0) u us

in_use_zero : in_use_one 0 ≡ 0
unfolding in_use_one
in_use_zero = refl

-- a free content gets its first user
pub in_use_stored : (us : List ℕ) (i : ℕ) → i < length us → get_or us i 0 ≡ 0 → in_use_in (set us i 1) ≡ in_use_in us + 1
in_use_stored us i h free =
    let s = in_use_set us i 1 h in
    let one = in_use_yes 1 (omega arith) in
    let none : in_use_one (get_or us i 0) ≡ 0 = rw free in_use_zero in
    omega arith

-- a content keeps users
pub in_use_shared : (us : List ℕ) (i v : ℕ) → 1 ≤ get_or us i 0 → i < length us → 1 ≤ v → in_use_in (set us i v) ≡ in_use_in us
in_use_shared us i v used h more =
    let s = in_use_set us i v h in
    let before = in_use_yes (get_or us i 0) used in
    let after = in_use_yes v more in
    omega arith

-- a content loses its last user
pub in_use_freed : (us : List ℕ) (i : ℕ) → i < length us → 1 ≤ get_or us i 0 → in_use_in (set us i 0) + 1 ≡ in_use_in us
in_use_freed us i h used =
    let s = in_use_set us i 0 h in
    let before = in_use_yes (get_or us i 0) used in
    let after = in_use_zero in
    omega arith

-- where one is free, not all are in use
pub in_use_lt : (us : List ℕ) (i : ℕ) → i < length us → get_or us i 0 ≡ 0 → in_use_in us < length us
in_use_lt us i h free = let s = in_use_stored us i h free in let l = in_use_le (set us i 1) in let e = length-set us i 1 in omega arith

pub in_use_all : (us : List ℕ) → ((k : ℕ) → k < length us → 1 ≤ get_or us k 0) → in_use_in us ≡ length us
unfolding in_use_in
in_use_all [] all = refl
in_use_all (u ∷ us) all =
    let rest = in_use_all us (λ k h. all (suc k) (omega arith)) in
    let here = in_use_yes u (all 0 (omega arith)) in
    let e = in_use_cons u us in
    omega arith

pub in_use_none : (n : ℕ) → in_use_in (replicate n 0) ≡ 0
unfolding in_use_in
in_use_none zero = refl
in_use_none (suc n) = in_use_none n
