-- That the held keys are whole holds in at most one way, so that a ghost field may say it.
use Rattle.std.proofs.Common.{◌≡◌, ℕ, ◌+◌, ◌^◌, ◌<◌, ◌≤◌, List, [], ◌∷◌, length, Some, None, Option, sym, refl, ap, suc-ne-zero}
use mathlib.Core.Logic.{∥∥₁_elim}
use base.Stored.{coded_via, coded_list, coded_ℕ, Coded-set}
use denote.Struct.Props.{props}
use Rattle.std.specs.List.{AllByRecursion}
use Rattle.index.specs.Map.{look, room}
use Rattle.held.specs.declared.table.Record.{Record}
use Rattle.held.specs.Holdings.{keys, place_of}
use Rattle.held.specs.Records.{older_in, newer_in}
use Rattle.held.specs.Rings.{Links, Absent, Apart, Rings}
use Rattle.held.specs.Whole.{places, spare, held_at, WholeIn}

abbrev listed : Option ℕ → List ℕ
listed None = []
listed (Some x) = x ∷ []

listed_one : (a b : Option ℕ) → listed a ≡ listed b → a ≡ b
listed_one None None e = refl
listed_one None (Some y) e = absurd (let z : ◌≡◌ {A = ℕ} 0 1 = ap length e in suc-ne-zero 0 (sym z))
listed_one (Some x) None e = absurd (let z : ◌≡◌ {A = ℕ} 1 0 = ap length e in suc-ne-zero 0 z)
listed_one (Some x) (Some y) e = let z : x ≡ y = cc in ap Some z

option_set : (a b : Option ℕ) → IsProp (a ≡ b)
option_set = Coded-set (coded_via (coded_list coded_ℕ) listed listed_one)

all_prop : (P : ℕ → Type 0) → ((x : ℕ) → IsProp (P x)) → (xs : List ℕ) → IsProp (AllByRecursion P xs)
all_prop P h [] p q = refl
all_prop P h (x ∷ xs) p q = λ i. (h x p.0 q.0 i, all_prop P h xs p.1 q.1 i)

below_prop : (n : ℕ) (xs : List ℕ) → IsProp (AllByRecursion (λ x. x < n) xs)
below_prop n xs = all_prop (λ x. x < n) (λ x. hlevel props) xs

absent_prop : (x : ℕ) (xs : List ℕ) → IsProp (Absent x xs)
absent_prop x xs = all_prop (λ y. y ≡ x → ⊥) (λ y. hlevel props) xs

apart_prop : (xs : List ℕ) → IsProp (Apart xs)
apart_prop [] p q = refl
apart_prop (x ∷ xs) p q = λ i. (absent_prop x xs p.0 q.0 i, apart_prop xs p.1 q.1 i)

links_prop : (n o : ℕ → ℕ) (a : ℕ) (ps : List ℕ) (b : ℕ) → IsProp (Links n o a ps b)
links_prop n o a [] b p q = let e : (x y : ℕ) → IsProp (x ≡ y) = λ x y. hlevel props in λ i. (e (n a) b p.0 q.0 i, e (o b) a p.1 q.1 i)
links_prop n o a (x ∷ ps) b p q =
    let e : (x y : ℕ) → IsProp (x ≡ y) = λ x y. hlevel props in
    λ i. (e (n a) x p.0 q.0 i, e (o x) a p.1 q.1 i, links_prop n o x ps b p.2 q.2 i)

rings_prop : (n o : ℕ → ℕ) (size e f : ℕ) (one two : List ℕ) → IsProp (Rings n o size e f one two)
rings_prop n o size e f one two p q =
    λ i. record {
      one_links = links_prop n o e one e p.one_links q.one_links i;
      two_links = links_prop n o f two f p.two_links q.two_links i;
      one_apart = apart_prop one p.one_apart q.one_apart i;
      two_apart = apart_prop two p.two_apart q.two_apart i;
      disjoint = all_prop (λ x. Absent x two) (λ x. absent_prop x two) one p.disjoint q.disjoint i;
      one_below = below_prop size one p.one_below q.one_below i;
      two_below = below_prop size two p.two_below q.two_below i;
    }

whole_prop : (size count : ℕ) (table : List Record) (filed : List (ℕ × ℕ)) (slots nodes : ℕ) → IsProp (WholeIn size count table filed slots nodes)
whole_prop size count table filed slots nodes p q =
    let order : (x y : ℕ) → IsProp (x ≤ y) = λ x y. hlevel props in
    let same : (x y : ℕ) → IsProp (x ≡ y) = λ x y. hlevel props in
    let ps = places size count table in
    λ i. record {
      rings = rings_prop (newer_in table) (older_in table) size size (size + 1) ps (spare size count table) p.rings q.rings i;
      fits = order count size p.fits q.fits i;
      small = order size 4096 p.small q.small i;
      long = same (length table) (size + 2) p.long q.long i;
      roomy = order size (room slots nodes) p.roomy q.roomy i;
      keys_small = below_prop (2 ^ 32) (keys (held_at table ps)) p.keys_small q.keys_small i;
      keys_apart = apart_prop (keys (held_at table ps)) p.keys_apart q.keys_apart i;
      filed_count = same (length filed) count p.filed_count q.filed_count i;
      filed_places = λ k. option_set (look k filed) (place_of k (held_at table ps)) (p.filed_places k) (q.filed_places k) i;
    }

-- what the ghost field keeps
pub kept : {size count : ℕ} {table : List Record} {filed : List (ℕ × ℕ)} {slots nodes : ℕ} → ∥ WholeIn size count table filed slots nodes ∥₁ → WholeIn size count table filed slots nodes
kept {size} {count} {table} {filed} {slots} {nodes} w = ∥∥₁_elim w (whole_prop size count table filed slots nodes) (λ x. x)
