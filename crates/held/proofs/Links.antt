-- Rings after a place is taken out of one and put into the other.
use Rattle.std.proofs.Common.{◌≡◌, ℕ, ◌<◌, ◌≤◌, List, [], ◌∷◌, ◌++◌, length, sym, refl, ap, ◌∙◌, arith}
use Rattle.std.specs.List.{AllByRecursion}
use Rattle.std.proofs.ByRecursion.{All-append, All-push, All-weaker}
use Rattle.held.specs.Rings.{Links, walk, Absent, Apart, Rings, Unlinked, Linked}

pub all_left : {X : Type 0} (P : X → Type 0) (xs ys : List X) → AllByRecursion P (xs ++ ys) → AllByRecursion P xs
all_left P [] ys a = tt
all_left P (x ∷ xs) ys a = (a.0, all_left P xs ys a.1)

pub all_right : {X : Type 0} (P : X → Type 0) (xs ys : List X) → AllByRecursion P (xs ++ ys) → AllByRecursion P ys
all_right P [] ys a = a
all_right P (x ∷ xs) ys a = all_right P xs ys a.1

-- what holds of all holds of all but one
pub all_but : {X : Type 0} (P : X → Type 0) (xs : List X) (p : X) (ys : List X) → AllByRecursion P (xs ++ p ∷ ys) → AllByRecursion P (xs ++ ys)
all_but P xs p ys a = All-append P xs ys (all_left P xs (p ∷ ys) a) (all_right P xs (p ∷ ys) a).1

pub all_here : {X : Type 0} (P : X → Type 0) (xs : List X) (p : X) (ys : List X) → AllByRecursion P (xs ++ p ∷ ys) → P p
all_here P xs p ys a = (all_right P xs (p ∷ ys) a).0

-- places below size are none of the ends
pub end_absent : (size e : ℕ) (ps : List ℕ) → size ≤ e → AllByRecursion (λ p. p < size) ps → Absent e ps
end_absent size e ps l a = All-weaker (λ p. p < size) (λ y. y ≡ e → ⊥) (λ x h q. omega arith) ps a

pub apart_push : (xs : List ℕ) (p : ℕ) → Apart xs → Absent p xs → Apart (xs ++ p ∷ [])
apart_push [] p a b = (tt, tt)
apart_push (x ∷ xs) p a b = (All-push (λ y. y ≡ x → ⊥) xs p a.0 (λ q. b.0 (sym q)), apart_push xs p a.1 b.1)

pub apart_but : (xs : List ℕ) (p : ℕ) (ys : List ℕ) → Apart (xs ++ p ∷ ys) → Apart (xs ++ ys)
apart_but [] p ys a = a.1
apart_but (x ∷ xs) p ys a = (all_but (λ y. y ≡ x → ⊥) xs p ys a.0, apart_but xs p ys a.1)

-- a member differs from the others
pub apart_here : (xs : List ℕ) (p : ℕ) (ys : List ℕ) → Apart (xs ++ p ∷ ys) → Absent p (xs ++ ys)
apart_here [] p ys a = a.0
apart_here (x ∷ xs) p ys a = ((λ q. all_here (λ y. y ≡ x → ⊥) xs p ys a.0 (sym q)), apart_here xs p ys a.1)

pub absent_comes : (xs ys : List ℕ) → AllByRecursion (λ p. Absent p ys) xs → AllByRecursion (λ p. Absent p xs) ys
absent_comes xs [] a = tt
absent_comes xs (y ∷ ys) a =
    (All-weaker (λ p. Absent p (y ∷ ys)) (λ x. x ≡ y → ⊥) (λ x h q. h.0 (sym q)) xs a, absent_comes xs ys (All-weaker (λ p. Absent p (y ∷ ys)) (λ p. Absent p ys) (λ x h. h.1) xs a))

all_both : (P Q : ℕ → Type 0) (xs : List ℕ) → AllByRecursion P xs → AllByRecursion Q xs → AllByRecursion (λ x. P x × Q x) xs
all_both P Q [] a b = tt
all_both P Q (x ∷ xs) a b = ((a.0, b.0), all_both P Q xs a.1 b.1)

all_both_three : (P Q R : ℕ → Type 0) (xs : List ℕ) → AllByRecursion P xs → AllByRecursion Q xs → AllByRecursion R xs → AllByRecursion (λ x. P x × Q x × R x) xs
all_both_three P Q R [] a b c = tt
all_both_three P Q R (x ∷ xs) a b c = ((a.0, b.0, c.0), all_both_three P Q R xs a.1 b.1 c.1)

module _ (n o : ℕ → ℕ) where
  -- the walk along the links gives the places back
  pub walk_links : (a : ℕ) (ps : List ℕ) (b : ℕ) → Links n o a ps b → walk n (n a) (length ps) ≡ ps
  walk_links a [] b l = refl
  walk_links a (p ∷ ps) b l = ap (λ x. x ∷ walk n (n x) (length ps)) l.0 ∙ ap (λ x. p ∷ x) (walk_links p ps b l.2)

  -- the last place is one of them, or the start
  last_differs : (u a : ℕ) (ps : List ℕ) (b : ℕ) → Links n o a ps b → (a ≡ u → ⊥) → Absent u ps → o b ≡ u → ⊥
  last_differs u a [] b l ne c q = ne (sym l.1 ∙ q)
  last_differs u a (p ∷ ps) b l ne c q = last_differs u p ps b l.2 c.0 c.1 q

  -- and so is the first, or the end
  first_differs : (u a : ℕ) (ps : List ℕ) (b : ℕ) → Links n o a ps b → (b ≡ u → ⊥) → Absent u ps → n a ≡ u → ⊥
  first_differs u a [] b l ne c q = ne (sym l.0 ∙ q)
  first_differs u a (p ∷ ps) b l ne c q = c.0 (sym l.0 ∙ q)

  module _ (n' o' : ℕ → ℕ) where
    -- links outlast writes elsewhere
    links_kept : (a : ℕ) (ps : List ℕ) (b : ℕ) → Links n o a ps b → n' a ≡ n a → AllByRecursion (λ p. n' p ≡ n p) ps → AllByRecursion (λ p. o' p ≡ o p) ps → o' b ≡ o b → Links n' o' a ps b
    links_kept a [] b l na nps ops ob = (na ∙ l.0, ob ∙ l.1)
    links_kept a (p ∷ ps) b l na nps ops ob = (na ∙ l.0, ops.0 ∙ l.1, links_kept p ps b l.2 nps.0 nps.1 ops.1 ob)

  -- links up to a member, and from it on
  links_front : (a : ℕ) (xs : List ℕ) (p : ℕ) (ys : List ℕ) (b : ℕ) → Links n o a (xs ++ p ∷ ys) b → Links n o a xs p
  links_front a [] p ys b l = (l.0, l.1)
  links_front a (x ∷ xs) p ys b l = (l.0, l.1, links_front x xs p ys b l.2)

  links_back : (a : ℕ) (xs : List ℕ) (p : ℕ) (ys : List ℕ) (b : ℕ) → Links n o a (xs ++ p ∷ ys) b → Links n o p ys b
  links_back a [] p ys b l = l.2
  links_back a (x ∷ xs) p ys b l = links_back x xs p ys b l.2

  module _ (p : ℕ) (n' o' : ℕ → ℕ) (u : Unlinked n o p n' o') where
    -- what is none of the ring's places is written nowhere
    unlinked_rest : (e : ℕ) (xs ys : List ℕ) → Links n o e (xs ++ p ∷ ys) e → (z : ℕ) → (e ≡ z → ⊥) → Absent z (xs ++ p ∷ ys) → (n' z ≡ n z) × (o' z ≡ o z)
    unlinked_rest e xs ys l z ne c = (
      u.newer_rest z (λ q. last_differs z e xs p (links_front e xs p ys e l) ne (all_left (λ y. y ≡ z → ⊥) xs (p ∷ ys) c) (sym q)),
      u.older_rest z (λ q. first_differs z p ys e (links_back e xs p ys e l) ne (all_right (λ y. y ≡ z → ⊥) xs (p ∷ ys) c).1 (sym q)),
    )

    links_unlinked : (a : ℕ) (xs ys : List ℕ) (b : ℕ) → Links n o a (xs ++ p ∷ ys) b → Apart (xs ++ p ∷ ys) → Absent a (xs ++ p ∷ ys) → Absent b (xs ++ p ∷ ys) → Links n' o' a (xs ++ ys) b
    links_unlinked a [] [] b l ap₀ ca cb =
        (ap n' (sym l.1) ∙ (u.newer_here ∙ l.2.0), ap o' (sym l.2.0) ∙ (u.older_here ∙ l.1))
    links_unlinked a [] (q ∷ zs) b l ap₀ ca cb = (
      ap n' (sym l.1) ∙ (u.newer_here ∙ l.2.0),
      ap o' (sym l.2.0) ∙ (u.older_here ∙ l.1),
      links_kept n' o' q zs b l.2.2
          (u.newer_rest q (λ e. ca.1.0 (e ∙ l.1)))
          (All-weaker (λ y. y ≡ a → ⊥) (λ z. n' z ≡ n z) (λ z h. u.newer_rest z (λ e. h (e ∙ l.1))) zs ca.1.1)
          (All-weaker (λ y. y ≡ q → ⊥) (λ z. o' z ≡ o z) (λ z h. u.older_rest z (λ e. h (e ∙ l.2.0))) zs ap₀.1.0)
          (u.older_rest b (λ e. cb.1.0 (sym (e ∙ l.2.0)))),
    )
    links_unlinked a (x ∷ xs) ys b l ap₀ ca cb = (
      u.newer_rest a (λ e. last_differs a x xs p (links_front x xs p ys b l.2) ca.0 (all_left (λ y. y ≡ a → ⊥) xs (p ∷ ys) ca.1) (sym e)) ∙ l.0,
      u.older_rest x (λ e. first_differs x p ys b (links_back x xs p ys b l.2) (λ q. cb.0 (sym q)) (all_right (λ y. y ≡ x → ⊥) xs (p ∷ ys) ap₀.0).1 (sym e)) ∙ l.1,
      links_unlinked x xs ys b l.2 ap₀.1 ap₀.0 cb.1,
    )

  module _ (end p : ℕ) (n' o' : ℕ → ℕ) (u : Linked n o end p n' o') where
    linked_rest : (ps : List ℕ) → Links n o end ps end → (z : ℕ) → (end ≡ z → ⊥) → (z ≡ p → ⊥) → Absent z ps → (n' z ≡ n z) × (o' z ≡ o z)
    linked_rest ps l z ne np c =
        (u.newer_rest z (λ q. last_differs z end ps end l ne c (sym q)) np, u.older_rest z np (λ q. ne (sym q)))

    links_linked : (a : ℕ) (ps : List ℕ) → Links n o a ps end → Apart ps → Absent a ps → Absent end ps → Absent p ps → (a ≡ p → ⊥) → (p ≡ end → ⊥) → Links n' o' a (ps ++ p ∷ []) end
    links_linked a [] l ap₀ ca ce cp ne pe =
        (ap n' (sym l.1) ∙ u.newer_last (λ q. ne (sym l.1 ∙ q)), u.older_here pe ∙ l.1, (u.newer_here, u.older_end))
    links_linked a (x ∷ ps) l ap₀ ca ce cp ne pe = (
      u.newer_rest a (λ q. last_differs a x ps end l.2 ca.0 ca.1 (sym q)) ne ∙ l.0,
      u.older_rest x cp.0 ce.0 ∙ l.1,
      links_linked x ps l.2 ap₀.1 ap₀.0 ce.1 cp.1 cp.0 pe,
    )

-- neighbours are places, or ends
last_within : (n o : ℕ → ℕ) (m a : ℕ) (ps : List ℕ) (b : ℕ) → Links n o a ps b → a < m → AllByRecursion (λ p. p < m) ps → o b < m
last_within n o m a [] b l h c = let e = l.1 in omega arith
last_within n o m a (p ∷ ps) b l h c = last_within n o m p ps b l.2 c.0 c.1

first_within : (n o : ℕ → ℕ) (m a : ℕ) (ps : List ℕ) (b : ℕ) → Links n o a ps b → b < m → AllByRecursion (λ p. p < m) ps → n a < m
first_within n o m a [] b l h c = let e = l.0 in omega arith
first_within n o m a (p ∷ ps) b l h c = let e = l.0 in let k = c.0 in omega arith

below_more : (size m : ℕ) (ps : List ℕ) → size ≤ m → AllByRecursion (λ p. p < size) ps → AllByRecursion (λ p. p < m) ps
below_more size m ps l a = All-weaker (λ p. p < size) (λ p. p < m) (λ x h. omega arith) ps a

pub place_within : {n o : ℕ → ℕ} {size e f : ℕ} {two : List ℕ} (xs : List ℕ) (p : ℕ) (ys : List ℕ) (m : ℕ) → Rings n o size e f (xs ++ p ∷ ys) two → size ≤ m → e < m → (p < size) × (o p < m) × (n p < m)
place_within {n} {o} {size} {e} xs p ys m r l h = (
  all_here (λ z. z < size) xs p ys r.one_below,
  last_within n o m e xs p (links_front n o e xs p ys e r.one_links) h (below_more size m xs l (all_left (λ z. z < size) xs (p ∷ ys) r.one_below)),
  first_within n o m p ys e (links_back n o e xs p ys e r.one_links) h (below_more size m ys l (all_right (λ z. z < size) xs (p ∷ ys) r.one_below).1),
)

-- the neighbours of the second end
pub end_within : {n o : ℕ → ℕ} {size e f : ℕ} {one two : List ℕ} (m : ℕ) → Rings n o size e f one two → size ≤ m → f < m → (o f < m) × (n f < m)
end_within {n} {o} {size} {f = f} {two = two} m r l h =
    (last_within n o m f two f r.two_links h (below_more size m two l r.two_below), first_within n o m f two f r.two_links h (below_more size m two l r.two_below))

-- the rings, the other way round
pub turned : {n o : ℕ → ℕ} {size e f : ℕ} {one two : List ℕ} → Rings n o size e f one two → Rings n o size f e two one
turned {one = one} {two = two} r =
    record {
      one_links = r.two_links;
      two_links = r.one_links;
      one_apart = r.two_apart;
      two_apart = r.one_apart;
      disjoint = absent_comes one two r.disjoint;
      one_below = r.two_below;
      two_below = r.one_below;
    }

-- a place that is in neither ring is put into the second
pub rings_linked : (n o n' o' : ℕ → ℕ) (size e f p : ℕ) (one two : List ℕ) → size ≤ e → size ≤ f → (e ≡ f → ⊥) → Rings n o size e f one two → p < size → Absent p one → Absent p two
    → Linked n o f p n' o' → Rings n' o' size e f one (two ++ p ∷ [])
rings_linked n o n' o' size e f p one two le lf ef r lp p-one p_two u =
    let f_one = end_absent size f one lf r.one_below in
    let e_two = end_absent size e two le r.two_below in
    let f_two = end_absent size f two lf r.two_below in
    let rest : (z : ℕ) → (z < size) × (z ≡ p → ⊥) × Absent z two → (n' z ≡ n z) × (o' z ≡ o z)
    = λ z h. linked_rest n o f p n' o' u two r.two_links z (λ q. let b = h.0 in omega arith) h.1 h.2 in
    let at_e = linked_rest n o f p n' o' u two r.two_links e (λ q. ef (sym q)) (λ q. omega arith) e_two in
    let facts = all_both_three (λ z. z < size) (λ z. z ≡ p → ⊥) (λ z. Absent z two) one r.one_below p-one r.disjoint in
    record {
      one_links = links_kept n o n' o' e one e r.one_links at_e.0
          (All-weaker (λ z. (z < size) × (z ≡ p → ⊥) × Absent z two) (λ z. n' z ≡ n z) (λ z h. (rest z h).0) one facts)
          (All-weaker (λ z. (z < size) × (z ≡ p → ⊥) × Absent z two) (λ z. o' z ≡ o z) (λ z h. (rest z h).1) one facts) at_e.1;
      two_links = links_linked n o f p n' o' u f two r.two_links r.two_apart f_two f_two p_two (λ q. omega arith) (λ q. omega arith);
      one_apart = r.one_apart;
      two_apart = apart_push two p r.two_apart p_two;
      disjoint = All-weaker (λ z. (z < size) × (z ≡ p → ⊥) × Absent z two) (λ z. Absent z (two ++ p ∷ [])) (λ z h. All-push (λ y. y ≡ z → ⊥) two p h.2 (λ q. h.1 (sym q))) one facts;
      one_below = r.one_below;
      two_below = All-push (λ z. z < size) two p r.two_below lp;
    }

-- a place of the first ring is taken out
pub rings_unlinked : (n o n' o' : ℕ → ℕ) (size e f p : ℕ) (xs ys two : List ℕ) → size ≤ e → size ≤ f → (e ≡ f → ⊥) → Rings n o size e f (xs ++ p ∷ ys) two
    → Unlinked n o p n' o' → Rings n' o' size e f (xs ++ ys) two
rings_unlinked n o n' o' size e f p xs ys two le lf ef r u =
    let one = xs ++ p ∷ ys in
    let e_one = end_absent size e one le r.one_below in
    let f_one = end_absent size f one lf r.one_below in
    let rest : (z : ℕ) → (z < size) × Absent z one → (n' z ≡ n z) × (o' z ≡ o z)
    = λ z h. unlinked_rest n o p n' o' u e xs ys r.one_links z (λ q. let b = h.0 in omega arith) h.1 in
    let at_f = unlinked_rest n o p n' o' u e xs ys r.one_links f ef f_one in
    let facts = all_both (λ z. z < size) (λ z. Absent z one) two r.two_below (absent_comes one two r.disjoint) in
    record {
      one_links = links_unlinked n o p n' o' u e xs ys e r.one_links r.one_apart e_one e_one;
      two_links = links_kept n o n' o' f two f r.two_links at_f.0
          (All-weaker (λ z. (z < size) × Absent z one) (λ z. n' z ≡ n z) (λ z h. (rest z h).0) two facts)
          (All-weaker (λ z. (z < size) × Absent z one) (λ z. o' z ≡ o z) (λ z h. (rest z h).1) two facts) at_f.1;
      one_apart = apart_but xs p ys r.one_apart;
      two_apart = r.two_apart;
      disjoint = all_but (λ z. Absent z two) xs p ys r.disjoint;
      one_below = all_but (λ z. z < size) xs p ys r.one_below;
      two_below = r.two_below;
    }

-- a place moves from the first ring to the end of the second
pub rings_moved : (n o n₁ o₁ n₂ o₂ : ℕ → ℕ) (size e f p : ℕ) (xs ys two : List ℕ) → size ≤ e → size ≤ f → (e ≡ f → ⊥) → Rings n o size e f (xs ++ p ∷ ys) two
    → Unlinked n o p n₁ o₁ → Linked n₁ o₁ f p n₂ o₂ → Rings n₂ o₂ size e f (xs ++ ys) (two ++ p ∷ [])
rings_moved n o n₁ o₁ n₂ o₂ size e f p xs ys two le lf ef r u v =
    rings_linked n₁ o₁ n₂ o₂ size e f p (xs ++ ys) two le lf ef (rings_unlinked n o n₁ o₁ size e f p xs ys two le lf ef r u)
    (all_here (λ z. z < size) xs p ys r.one_below) (apart_here xs p ys r.one_apart) (all_here (λ z. Absent z two) xs p ys r.disjoint) v
