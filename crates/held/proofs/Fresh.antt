-- New rings, of which one has every place.
use Rattle.std.proofs.Common.{◌≡◌, ℕ, zero, suc, ◌+◌, ◌-◌, ◌/◌, ◌^◌, ◌<◌, ◌≤◌, min, ◌⊎◌, List, [], length, sym, refl, ap, ◌∙◌, subst, inl, inr, ⊎_elim, add-one, arith}
use Rattle.std.specs.List.{AllByRecursion}
use Rattle.std.proofs.ByRecursion.{All-push, All-weaker}
use Rattle.std.proofs.lemmas.List.{length_push}
use Rattle.std.proofs.lemmas.Bool.{cases_lt}
use Rattle.index.specs.Map.{look, room}
use Rattle.held.specs.declared.table.Record.{Record}
use Rattle.held.specs.Makings.{below}
use Rattle.held.specs.Records.{older_in, newer_in}
use Rattle.held.specs.Rings.{Rings, Linked}
use Rattle.held.specs.Whole.{WholeIn}
use Rattle.held.proofs.Links.{rings_linked}
use Rattle.held.proofs.Moves.{whole_made}

pub length_below : (n : ℕ) → length (below n) ≡ n
length_below zero = refl
length_below (suc n) = length_push (below n) n ∙ (ap (λ x. x + 1) (length_below n) ∙ add-one n)

below_low : (n : ℕ) → AllByRecursion (λ p. p < n) (below n)
below_low zero = tt
below_low (suc n) = All-push (λ p. p < suc n) (below n) n (All-weaker (λ p. p < n) (λ p. p < suc n) (λ x h. omega arith) (below n) (below_low n)) (omega arith)

pub rings_none : (n o : ℕ → ℕ) (size : ℕ) → n size ≡ size → o size ≡ size → n (size + 1) ≡ size + 1 → o (size + 1) ≡ size + 1 → Rings n o size size (size + 1) [] []
rings_none n o size a b c d =
    record { one_links = (a, b); two_links = (c, d); one_apart = tt; two_apart = tt; disjoint = tt; one_below = tt; two_below = tt }

pub rings_more : (n o n' o' : ℕ → ℕ) (size p : ℕ) → Rings n o size size (size + 1) [] (below p) → p < size → Linked n o (size + 1) p n' o' → Rings n' o' size size (size + 1) [] (below (p + 1))
rings_more n o n' o' size p r l u =
    subst (λ x. Rings n' o' size size (size + 1) [] (below x)) (sym (add-one p))
    (rings_linked n o n' o' size size (size + 1) p [] (below p) (omega arith) (omega arith) (λ q. omega arith) r l tt (All-weaker (λ x. x < p) (λ x. x ≡ p → ⊥) (λ x h q. omega arith) (below p) (below_low p)) u)

-- held keys of which there are none yet
pub whole_new : (size : ℕ) (t : List Record) (v : List (ℕ × ℕ)) (m n : ℕ) → Rings (newer_in t) (older_in t) size size (size + 1) [] (below size) → size ≤ 4096 → length t ≡ size + 2 → size ≤ room m n → v ≡ [] → WholeIn size 0 t v m n
whole_new size t v m n r small long roomy e =
    (whole_made size 0 t v m n [] (below size) r refl (length_below size ∙ (omega arith)) (omega arith) small long roomy tt tt (ap length e) (λ k. ap (look k) e)).1

-- two numbers are the same to a limit
abbrev Alike : ℕ → ℕ → Type 0
Alike a b = (a ≡ b) ⊎ ((4096 ≤ a) × (4096 ≤ b))

alike_min : (c a b x y : ℕ) → c ≤ 4096 → Alike a b → Alike x y → min c (min a x) ≡ min c (min b y)
alike_min c a b x y l (inl e) (inl f) = ap (λ z. min c (min z x)) e ∙ ap (λ z. min c (min b z)) f
alike_min c a b x y l (inl e) (inr f) = ap (λ z. min c (min z x)) e ∙ (let g = f.0 in let h = f.1 in omega arith)
alike_min c a b x y l (inr e) (inl f) = ap (λ z. min c (min a z)) f ∙ (let g = e.0 in let h = e.1 in omega arith)
alike_min c a b x y l (inr e) (inr f) = let g = f.0 in let h = f.1 in let i = e.0 in let j = e.1 in omega arith

alike_cut : (m a : ℕ) → a ≡ min m (2 ^ 31 - 1) → Alike a m
alike_cut m a e = ⊎_elim (λ (l : m < 2 ^ 31). inl (omega arith)) (λ (l : 2 ^ 31 ≤ m). inr (omega arith, omega arith)) (cases_lt m (2 ^ 31))

alike_nodes : (n b : ℕ) → b ≡ min n (2 ^ 31 - 1) → Alike ((b - 1) / 7) ((n - 1) / 7)
alike_nodes n b e =
    ⊎_elim
    (λ (l : n < 2 ^ 31). let q : b ≡ n = omega arith in inl (ap (λ x. (x - 1) / 7) q))
    (λ (l : 2 ^ 31 ≤ n). let q : b ≡ 2 ^ 31 - 1 = omega arith in inr (omega arith, omega arith))
    (cases_lt n (2 ^ 31))

-- the cut at 2 ^ 31 - 1 entries does not tell
pub size_cut : (most m n a b : ℕ) → a ≡ min m (2 ^ 31 - 1) → b ≡ min n (2 ^ 31 - 1) → min (min most 4096) (room a b) ≡ min (min most 4096) (room m n)
size_cut most m n a b e f = alike_min (min most 4096) a m ((b - 1) / 7) ((n - 1) / 7) (omega arith) (alike_cut m a e) (alike_nodes n b f)
