-- The bits of a mask, and which of a node's steps have a child.
use Rattle.std.proofs.Common.{◌≡◌, ℕ, zero, suc, ◌+◌, ◌-◌, ◌*◌, ◌/◌, ◌%◌, ◌^◌, ◌<◌, ◌≤◌, min, max, List, get_or, sym, refl, ap, ◌∙◌, ⊎_elim, pow-suc, div-one, arith}
use lib.Bits.{bit_and, bit_or, and_step, or_step}
use lib.Count.{count_trailing_zeros, under}
use mathlib.Core.Logic.{∥∥₁_elim}
use denote.Struct.Props.{props}
use Rattle.std.proofs.lemmas.Nat.{shr-shr}
use Rattle.std.proofs.lemmas.Bool.{cases_eq}
use Rattle.index.specs.Masks.{bit, bit_zero, Agrees}

bit_in_or : (c a b : ℕ) → bit c (bit_or a b) ≡ max (bit c a) (bit c b)
bit_in_or zero a b = let s = or_step a b in omega arith
bit_in_or (suc c) a b =
    let s = or_step a b in
    let e : bit_or a b / 2 ≡ bit_or (a / 2) (b / 2) = omega arith in
    ap (bit c) e ∙ bit_in_or c (a / 2) (b / 2)

bit_in_and : (c a b : ℕ) → bit c (bit_and a b) ≡ min (bit c a) (bit c b)
bit_in_and zero a b = let s = and_step a b in omega arith
bit_in_and (suc c) a b =
    let s = and_step a b in
    let e : bit_and a b / 2 ≡ bit_and (a / 2) (b / 2) = omega arith in
    ap (bit c) e ∙ bit_in_and c (a / 2) (b / 2)

half_pow : (c : ℕ) → 2 ^ suc c / 2 ≡ 2 ^ c
half_pow c = let p : 2 ^ suc c ≡ 2 ^ c * 2 = pow-suc 2 c in omega arith

bit_same : (c : ℕ) → bit c (2 ^ c) ≡ 1
bit_same zero = refl
bit_same (suc c) = ap (bit c) (half_pow c) ∙ bit_same c

bit_other : (c d : ℕ) → (d ≡ c → ⊥) → bit d (2 ^ c) ≡ 0
bit_other zero zero ne = absurd (ne refl)
bit_other zero (suc d) ne = bit_zero d
bit_other (suc c) zero ne = let p : 2 ^ suc c ≡ 2 ^ c * 2 = pow-suc 2 c in omega arith
bit_other (suc c) (suc d) ne = ap (bit d) (half_pow c) ∙ bit_other c d (λ e. ne (ap suc e))

bit_not : (w c n : ℕ) → c < w → n < 2 ^ w → bit c (2 ^ w - 1 - n) ≡ 1 - bit c n
bit_not zero c n l h = absurd (omega arith)
bit_not (suc w) zero n l h = let p : 2 ^ suc w ≡ 2 ^ w * 2 = pow-suc 2 w in omega arith
bit_not (suc w) (suc c) n l h =
    let p : 2 ^ suc w ≡ 2 ^ w * 2 = pow-suc 2 w in
    let e : (2 ^ suc w - 1 - n) / 2 ≡ 2 ^ w - 1 - n / 2 = omega arith in
    ap (bit c) e ∙ bit_not w c (n / 2) (omega arith) (omega arith)

bit_shr : (f c n : ℕ) → bit c (n / 2 ^ f) ≡ bit (f + c) n
bit_shr zero c n = let e : c ≡ 0 + c = omega arith in ap (bit c) (div-one n) ∙ ap (λ x. bit x n) e
bit_shr (suc f) c n =
    let e : suc (f + c) ≡ suc f + c = omega arith in
    let o : 1 + f ≡ suc f = omega arith in
    ap (bit c) (sym (shr-shr n 1 f ∙ ap (λ x. n / 2 ^ x) o)) ∙ (bit_shr f c (n / 2) ∙ ap (λ x. bit x n) e)

-- the bits below the lowest that is set, and that one
trailing : (k n : ℕ) → ((d : ℕ) → d < count_trailing_zeros k n → bit d n ≡ 0) × (count_trailing_zeros k n < k → bit (count_trailing_zeros k n) n ≡ 1)
unfolding count_trailing_zeros
trailing zero n = ((λ d l. absurd (omega arith)), (λ l. absurd (omega arith)))
trailing (suc k) n =
    let i = trailing k (n / 2) in
    ⊎_elim
    (λ (z : n % 2 ≡ 0).
    let e : count_trailing_zeros (suc k) n ≡ suc (count_trailing_zeros k (n / 2)) = ap (λ x. under x (count_trailing_zeros k (n / 2))) z in (
      below n z (count_trailing_zeros k (n / 2)) (count_trailing_zeros (suc k) n) e i.0,
      (λ l. ap (λ x. bit x n) e ∙ i.1 (omega arith)),
    ))
    (λ (z : n % 2 ≡ 0 → ⊥).
    let o : n % 2 ≡ 1 = omega arith in
    let e : count_trailing_zeros (suc k) n ≡ 0 = ap (λ x. under x (count_trailing_zeros k (n / 2))) o in
    ((λ d l. absurd (omega arith)), (λ l. ap (λ x. bit x n) e ∙ o)))
    (cases_eq (n % 2) 0)
  where
    below : (m : ℕ) → m % 2 ≡ 0 → (t u : ℕ) → u ≡ suc t → ((d : ℕ) → d < t → bit d (m / 2) ≡ 0) → (d : ℕ) → d < u → bit d m ≡ 0
    below m z t u e f zero l = z
    below m z t u e f (suc d) l = f d (omega arith)

agrees_prop : (mask : ℕ) (children : List ℕ) → IsProp (Agrees mask children)
agrees_prop mask children p q =
    let a : IsProp ((c : ℕ) → c < 16 → bit c mask ≡ 0 → get_or children c 0 ≡ 0) = hlevel props in
    let b : IsProp ((c : ℕ) → c < 16 → get_or children c 0 ≡ 0 → bit c mask ≡ 0) = hlevel props in
    λ i. record { clear = a p.clear q.clear i; absent = b p.absent q.absent i }

-- what the ghost field keeps
pub agreed : {mask : ℕ} {children : List ℕ} → ∥ Agrees mask children ∥₁ → Agrees mask children
agreed {mask} {children} w = ∥∥₁_elim w (agrees_prop mask children) (λ x. x)

pub agrees_none : (children : List ℕ) → ((c : ℕ) → c < 16 → get_or children c 0 ≡ 0) → Agrees 0 children
agrees_none children z = record { clear = λ c cl e. z c cl; absent = λ c cl e. bit_zero c }

passed : (mask from : ℕ) (children : List ℕ) → Agrees mask children → (d : ℕ) → from ≤ d → d < from + count_trailing_zeros 32 (mask / 2 ^ from) → d < 16 → get_or children d 0 ≡ 0
passed mask from children a d lo hi l =
    let z = trailing 32 (mask / 2 ^ from) in
    let s : from + (d - from) ≡ d = omega arith in
    a.clear d l (ap (λ x. bit x mask) (sym s) ∙ (sym (bit_shr from (d - from) mask) ∙ z.0 (d - from) (omega arith)))

-- the next step whose bit is set has a child, and those before it have none
pub next_none : (mask from : ℕ) (children : List ℕ) → Agrees mask children → 16 ≤ from + count_trailing_zeros 32 (mask / 2 ^ from)
    → (d : ℕ) → from ≤ d → d < 16 → get_or children d 0 ≡ 0
next_none mask from children a e d lo hi = passed mask from children a d lo (omega arith) hi

pub next_some : (mask from r : ℕ) (children : List ℕ) → Agrees mask children → r ≡ from + count_trailing_zeros 32 (mask / 2 ^ from) → r < 16
    → (from ≤ r) × (r < 16) × ((d : ℕ) → from ≤ d → d < r → get_or children d 0 ≡ 0) × (get_or children r 0 ≡ 0 → ⊥)
next_some mask from r children a e l =
    let z = trailing 32 (mask / 2 ^ from) in (
      omega arith,
      l,
      (λ d lo hi. passed mask from children a d lo (omega arith) (omega arith)),
      (λ q.
          let one : bit r mask ≡ 1 = ap (λ x. bit x mask) e ∙ (sym (bit_shr from (count_trailing_zeros 32 (mask / 2 ^ from)) mask) ∙ z.1 (omega arith)) in
          omega (arith, a.absent r l q)),
    )

pub agrees_set : (m m' step : ℕ) (cs cs' : List ℕ) → m' ≡ bit_or m (2 ^ step) → (get_or cs' step 0 ≡ 0 → ⊥) → ((d : ℕ) → (d ≡ step → ⊥) → get_or cs' d 0 ≡ get_or cs d 0) → Agrees m cs → Agrees m' cs'
agrees_set m m' step cs cs' e some rest a = record {
  clear = λ c l z. ⊎_elim
      (λ (q : c ≡ step).
      let b : bit c m' ≡ max (bit c m) (bit c (2 ^ step)) = ap (bit c) e ∙ bit_in_or c m (2 ^ step) in
      let o : bit c (2 ^ step) ≡ 1 = ap (λ x. bit x (2 ^ step)) q ∙ bit_same step in
      absurd (omega arith))
      (λ (q : c ≡ step → ⊥).
      let b : bit c m' ≡ max (bit c m) (bit c (2 ^ step)) = ap (bit c) e ∙ bit_in_or c m (2 ^ step) in
      let o = bit_other step c q in
      rest c q ∙ a.clear c l (omega arith))
      (cases_eq c step);
  absent = λ c l z. ⊎_elim
      (λ (q : c ≡ step). absurd (some (ap (λ x. get_or cs' x 0) (sym q) ∙ z)))
      (λ (q : c ≡ step → ⊥).
      let b : bit c m' ≡ max (bit c m) (bit c (2 ^ step)) = ap (bit c) e ∙ bit_in_or c m (2 ^ step) in
      let o = bit_other step c q in
      let i = a.absent c l (sym (rest c q) ∙ z) in
      omega arith)
      (cases_eq c step);
}

pub agrees_clear : (m m' step : ℕ) (cs cs' : List ℕ) → step < 16 → m' ≡ bit_and m (2 ^ 32 - 1 - 2 ^ step) → 2 ^ step < 2 ^ 32 → get_or cs' step 0 ≡ 0 → ((d : ℕ) → (d ≡ step → ⊥) → get_or cs' d 0 ≡ get_or cs d 0) → Agrees m cs → Agrees m' cs'
agrees_clear m m' step cs cs' sl e pl none rest a =
    let b : (c : ℕ) → c < 16 → bit c m' ≡ min (bit c m) (1 - bit c (2 ^ step)) = λ c l. ap (bit c) e ∙ (bit_in_and c m (2 ^ 32 - 1 - 2 ^ step) ∙ ap (min (bit c m)) (bit_not 32 c (2 ^ step) (omega arith) pl)) in
    let bound : (c : ℕ) → bit c m ≤ 1 = λ c. bit_le c m in
    record {
      clear = λ c l z. ⊎_elim
          (λ (q : c ≡ step). ap (λ x. get_or cs' x 0) q ∙ none)
          (λ (q : c ≡ step → ⊥). let o = bit_other step c q in let h = b c l in let d = bound c in rest c q ∙ a.clear c l (omega arith))
          (cases_eq c step);
      absent = λ c l z. ⊎_elim
          (λ (q : c ≡ step). let o : bit c (2 ^ step) ≡ 1 = ap (λ x. bit x (2 ^ step)) q ∙ bit_same step in let h = b c l in omega arith)
          (λ (q : c ≡ step → ⊥). let o = bit_other step c q in let h = b c l in let i = a.absent c l (sym (rest c q) ∙ z) in omega arith)
          (cases_eq c step);
    }
  where
    bit_le : (c n : ℕ) → bit c n ≤ 1
    bit_le zero n = omega arith
    bit_le (suc c) n = bit_le c (n / 2)
