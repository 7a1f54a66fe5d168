-- A path and those above it.
use Rattle.std.proofs.Common.{◌≡◌, ℕ, zero, suc, ◌+◌, ◌-◌, ◌*◌, ◌/◌, ◌%◌, ◌^◌, ◌<◌, ◌≤◌, sym, ap, ◌∙◌, subst, pow-suc, div-one, arith}
use native.Mathlib.Nat.{div-div-eq-div-mul, pow-succ'}
use Rattle.std.proofs.lemmas.Nat.{shr-shr}
use Rattle.index.specs.Keys.{lead}
use Rattle.index.specs.Links.{up}
use Rattle.index.specs.Nexts.{Within}

pub up_shift : (h t : ℕ) → t / 2 ^ (4 * h) ≡ up h t
up_shift zero t = div-one t
up_shift (suc h) t =
    let e : 4 * suc h ≡ 4 * h + 4 = omega arith in
    ap (λ x. t / 2 ^ x) e ∙ (sym (shr-shr t (4 * h) 4) ∙ ap (λ x. x / 16) (up_shift h t))

pub up_le : (h t : ℕ) → up h t ≤ t
up_le zero t = omega arith
up_le (suc h) t = omega (arith, up_le h t)

up_pos_by : (d h t : ℕ) → h + d ≡ 8 → 2 ^ 32 ≤ t → 1 ≤ up h t
up_pos_by zero h t e l = let e8 : 8 ≡ h = omega arith in subst (λ x. 1 ≤ up x t) e8 (omega arith)
up_pos_by (suc d) h t e l = omega (arith, up_pos_by d (suc h) t (omega arith) l)

pub up_pos : (h t : ℕ) → h ≤ 8 → 2 ^ 32 ≤ t → 1 ≤ up h t
up_pos h t le l = up_pos_by (8 - h) h t (omega arith) l

-- a path is that above it and the step
pub up_step : (h t : ℕ) → 16 * up (suc h) t + up h t % 16 ≡ up h t
up_step h t = omega arith

pub up_up : (a b t : ℕ) → up a (up b t) ≡ up (a + b) t
up_up zero b t = let e : b ≡ 0 + b = omega arith in ap (λ x. up x t) e
up_up (suc a) b t = let e : suc (a + b) ≡ suc a + b = omega arith in ap (λ x. x / 16) (up_up a b t) ∙ ap (λ x. up x t) e

-- keys that agree but for h steps agree but for more
pub up_same : (h g t u : ℕ) → h ≤ g → up h t ≡ up h u → up g t ≡ up g u
up_same h g t u l e =
    let s : (g - h) + h ≡ g = omega arith in
    sym (ap (λ x. up x t) s) ∙ (sym (up_up (g - h) h t) ∙ (ap (up (g - h)) e ∙ (up_up (g - h) h u ∙ ap (λ x. up x u) s)))

eight : (P : ℕ → Type 0) → P 0 → P 1 → P 2 → P 3 → P 4 → P 5 → P 6 → P 7 → (h : ℕ) → h < 8 → P h
eight P a b c d e f g i zero l = a
eight P a b c d e f g i (suc zero) l = b
eight P a b c d e f g i (suc (suc zero)) l = c
eight P a b c d e f g i (suc (suc (suc zero))) l = d
eight P a b c d e f g i (suc (suc (suc (suc zero)))) l = e
eight P a b c d e f g i (suc (suc (suc (suc (suc zero))))) l = f
eight P a b c d e f g i (suc (suc (suc (suc (suc (suc zero)))))) l = g
eight P a b c d e f g i (suc (suc (suc (suc (suc (suc (suc zero))))))) l = i
eight P a b c d e f g i (suc (suc (suc (suc (suc (suc (suc (suc h)))))))) l = absurd (omega arith)

abbrev ChildWithin : ℕ → Type 0
ChildWithin h = (T c : ℕ) → c < 16 → Within (suc h) T → Within h (16 * T + c)

pub within_child : (h : ℕ) → h < 8 → ChildWithin h
within_child =
    eight ChildWithin (λ T c l w. (omega arith, omega arith)) (λ T c l w. (omega arith, omega arith)) (λ T c l w. (omega arith, omega arith)) (λ T c l w. (omega arith, omega arith))
    (λ T c l w. (omega arith, omega arith)) (λ T c l w. (omega arith, omega arith)) (λ T c l w. (omega arith, omega arith)) (λ T c l w. (omega arith, omega arith))

abbrev ParentWithin : ℕ → Type 0
ParentWithin h = (T : ℕ) → Within h T → Within (suc h) (T / 16) × (T / 16 < 2 ^ 29) × (16 ≤ T)

pub within_parent : (h : ℕ) → h < 8 → ParentWithin h
within_parent =
    eight ParentWithin (λ T w. ((omega arith, omega arith), omega arith, omega arith)) (λ T w. ((omega arith, omega arith), omega arith, omega arith))
    (λ T w. ((omega arith, omega arith), omega arith, omega arith)) (λ T w. ((omega arith, omega arith), omega arith, omega arith))
    (λ T w. ((omega arith, omega arith), omega arith, omega arith)) (λ T w. ((omega arith, omega arith), omega arith, omega arith))
    (λ T w. ((omega arith, omega arith), omega arith, omega arith)) (λ T w. ((omega arith, omega arith), omega arith, omega arith))

pub within_up : (h t : ℕ) → h ≤ 8 → 2 ^ 32 ≤ t → t < 2 ^ 33 → Within h (up h t)
within_up zero t l a b = (a, b)
within_up (suc h) t l a b = (within_parent h (omega arith) (up h t) (within_up h t (omega arith) a b)).0

pub up_small : (h t : ℕ) → 1 ≤ h → t < 2 ^ 33 → up h t < 2 ^ 29
up_small zero t l k = absurd (omega arith)
up_small (suc h) t l k = omega (arith, up_le h t)

pub up_big : (h t : ℕ) → h < 8 → 2 ^ 32 ≤ t → t < 2 ^ 33 → 16 ≤ up h t
up_big h t l a b = (within_parent h l (up h t) (within_up h t (omega arith) a b)).2

pub up_mono : (h t u : ℕ) → t ≤ u → up h t ≤ up h u
up_mono zero t u l = l
up_mono (suc h) t u l = let i = up_mono h t u l in omega arith

-- the path above a slot, and the leading part of its key
up_lead : (h k : ℕ) → h ≤ 8 → up h (2 ^ 32 + k) ≡ 16 ^ (8 - h) + lead h k
up_lead zero k l = ap (λ x. 2 ^ 32 + x) (sym (div-one k))
up_lead (suc h) k l =
    let e : 8 - h ≡ suc (8 - suc h) = omega arith in
    let p : 16 ^ (8 - h) ≡ 16 * 16 ^ (8 - suc h) = ap (λ x. 16 ^ x) e ∙ pow-succ' 16 (8 - suc h) in
    let d : lead (suc h) k ≡ lead h k / 16 = ap (λ x. k / x) (pow-suc 16 h) ∙ sym (div-div-eq-div-mul k (16 ^ h) 16) in
    let i = up_lead h k (omega arith) in
    omega arith

pub lead_up : (h a b : ℕ) → h ≤ 8 → lead h a ≡ lead h b → up h (2 ^ 32 + a) ≡ up h (2 ^ 32 + b)
lead_up h a b l e = up_lead h a l ∙ (ap (λ x. 16 ^ (8 - h) + x) e ∙ sym (up_lead h b l))

pub up_to_lead : (h a b : ℕ) → h ≤ 8 → up h (2 ^ 32 + a) ≡ up h (2 ^ 32 + b) → lead h a ≡ lead h b
up_to_lead h a b l e = let i = up_lead h a l in let j = up_lead h b l in omega arith

pub lead_zero : (a b : ℕ) → lead 0 a ≡ lead 0 b → 2 ^ 32 + a ≡ 2 ^ 32 + b
lead_zero a b e = lead_up 0 a b (omega arith) e
