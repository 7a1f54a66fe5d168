-- Piles of layers, nested to any depth, and what each layer does with a call.
use Rattle.std.specs.Prelude.{◌≡◌, ℕ, ◌%◌, ◌≤◌, Bool, true, false, cond, List, Some, None, Option, ◌==◌, slice_index}
use Rattle.page.specs.Keys.{pool_of, ephemeral}
use Rattle.backend.specs.Meaning.{Meaning}
use Rattle.backend.specs.Rules.{Rules, held, pool_pages}
use Rattle.backend.specs.States.{View, encode, decode}
use Rattle.backend.specs.declared.refusals.Cause.TheVariants.{OverLimit}
use Rattle.backend.specs.declared.refusals.Refusal.{Refusal}
use Rattle.layers.specs.Divider.{even_side, odd_side, divider_rules}
use Rattle.layers.specs.Quota.{limits, below, at_limit, quota_rules}

pub data Pile : Type 0 where
  base : Rules → Pile
  quota : Pile → Pile
  divider : Pile → Pile → Pile

abbrev pub rules_of : Pile → Rules
rules_of (base R) = R
rules_of (quota p) = quota_rules (rules_of p)
rules_of (divider p q) = divider_rules (rules_of p) (rules_of q)

-- each base keeps the meaning
abbrev pub BasesKeep : Pile → Type 0
BasesKeep (base R) = Meaning R
BasesKeep (quota p) = BasesKeep p
BasesKeep (divider p q) = BasesKeep p × BasesKeep q

-- the key is not held below, and its pool holds its limit or more
abbrev pub AtLimit : Rules → List ℕ → ℕ → Type 0
AtLimit R s k = (held R (below s) k ≡ None) × (slice_index (limits s) (pool_of k) ≤ pool_pages R (below s) (pool_of k))

-- a quota's state t follows s: the one below is in the state u, label and limits stay
pub record Follows (s t u : List ℕ) : Type 0 where
  pub under : below t ≡ u
  pub limits_stay : limits t ≡ limits s
  pub label_stays : (decode t).label ≡ (decode s).label

-- a quota on a backend of the rules R
pub record QuotaLaw (R : Rules) : Type 0 where
  pub holds : (s : List ℕ) (k : ℕ) → held (quota_rules R) s k ≡ held R (below s) k
  pub counts : (s : List ℕ) (pool : ℕ) → pool_pages (quota_rules R) s pool ≡ pool_pages R (below s) pool
  -- over the limit, it refuses by its own label and passes nothing on
  pub refuses : (s : List ℕ) (k : ℕ) (p : List ℕ) → AtLimit R s k
      → ((quota_rules R).put_refusal s k p ≡ Some (record { cause = OverLimit; key = record { number = k }; label = (quota_rules R).label s }))
      × Follows s ((quota_rules R).put_next s k p) (below s)
  -- else it answers as the one below
  pub passes : (s : List ℕ) (k : ℕ) (p : List ℕ) → (AtLimit R s k → ⊥)
      → ((quota_rules R).put_refusal s k p ≡ R.put_refusal (below s) k p)
      × Follows s ((quota_rules R).put_next s k p) (R.put_next (below s) k p)
  pub get : (s : List ℕ) (k : ℕ) → Follows s ((quota_rules R).get_next s k) (R.get_next (below s) k)
  pub drop_page : (s : List ℕ) (k : ℕ) → Follows s ((quota_rules R).drop_page_next s k) (R.drop_page_next (below s) k)
  pub drop_object : (s : List ℕ) (k : ℕ) → Follows s ((quota_rules R).drop_object_next s k) (R.drop_object_next (below s) k)
  pub drop_pool : (s : List ℕ) (k : ℕ) → Follows s ((quota_rules R).drop_pool_next s k) (R.drop_pool_next (below s) k)

-- One side of a divider D, the side of the keys with this parity: it has the rules R, and what is in the divider's
-- state s of it is `side s`, of the other side `other s`. Calls on its keys reach it only, and it answers them.
pub record SideLaw (D R : Rules) (even : Bool) (side other : List ℕ → List ℕ) : Type 0 where
  pub holds : (s : List ℕ) (k : ℕ) → ephemeral k ≡ even → held D s k ≡ held R (side s) k
  pub counts : (s : List ℕ) (pool : ℕ) → (pool % 2 == 0) ≡ even → pool_pages D s pool ≡ pool_pages R (side s) pool
  pub refuses : (s : List ℕ) (k : ℕ) (p : List ℕ) → ephemeral k ≡ even → D.put_refusal s k p ≡ R.put_refusal (side s) k p
  pub put : (s : List ℕ) (k : ℕ) (p : List ℕ) → ephemeral k ≡ even
      → (side (D.put_next s k p) ≡ R.put_next (side s) k p) × (other (D.put_next s k p) ≡ other s)
  pub get : (s : List ℕ) (k : ℕ) → ephemeral k ≡ even
      → (side (D.get_next s k) ≡ R.get_next (side s) k) × (other (D.get_next s k) ≡ other s)
  pub drop_page : (s : List ℕ) (k : ℕ) → ephemeral k ≡ even
      → (side (D.drop_page_next s k) ≡ R.drop_page_next (side s) k) × (other (D.drop_page_next s k) ≡ other s)
  pub drop_object : (s : List ℕ) (k : ℕ) → ephemeral k ≡ even
      → (side (D.drop_object_next s k) ≡ R.drop_object_next (side s) k) × (other (D.drop_object_next s k) ≡ other s)
  pub drop_pool : (s : List ℕ) (k : ℕ) → ephemeral k ≡ even
      → (side (D.drop_pool_next s k) ≡ R.drop_pool_next (side s) k) × (other (D.drop_pool_next s k) ≡ other s)

-- the base that a key leads to, and its state
abbrev pub base_of : Pile → ℕ → Rules
base_of (base R) k = R
base_of (quota p) k = base_of p k
base_of (divider p q) k = cond (ephemeral k) (base_of p k) (base_of q k)

abbrev pub base_state : Pile → List ℕ → ℕ → List ℕ
base_state (base R) s k = s
base_state (quota p) s k = base_state p (below s) k
base_state (divider p q) s k = cond (ephemeral k) (base_state p (even_side s) k) (base_state q (odd_side s) k)

-- the label of the first quota on the key's way that is at its limit
abbrev pub stopped_by : Pile → List ℕ → ℕ → Option ℕ
stopped_by (base R) s k = None
stopped_by (quota p) s k = cond (at_limit (rules_of p) s k) (Some (decode s).label) (stopped_by p (below s) k)
stopped_by (divider p q) s k = cond (ephemeral k) (stopped_by p (even_side s) k) (stopped_by q (odd_side s) k)

-- A put at a base of the rules R in the state s, where `refusal` is the answer and t the base's next state: a quota stopped
-- it and the base is as it was, or the base answers.
abbrev pub Answered : Option ℕ → Option Refusal → List ℕ → Rules → List ℕ → ℕ → List ℕ → Type 0
Answered None refusal t R s k p = (refusal ≡ R.put_refusal s k p) × (t ≡ R.put_next s k p)
Answered (Some label) refusal t R s k p =
    (refusal ≡ Some (record { cause = OverLimit; key = record { number = k }; label = label })) × (t ≡ s)

-- a get or a drop, with its next state by the rules, reaches the base that its key leads to
abbrev pub ReachesBase : (Rules → List ℕ → ℕ → List ℕ) → Type 0
ReachesBase next = (p : Pile) (s : List ℕ) (k : ℕ) → base_state p (next (rules_of p) s k) k ≡ next (base_of p k) (base_state p s k) k

pub record PilesLaw : Type 0 where
  -- the state that a layer writes is read as it was written
  pub states : (v : View) → decode (encode v) ≡ v
  pub keep : (p : Pile) → BasesKeep p → Meaning (rules_of p)
  pub quotas : (p : Pile) → QuotaLaw (rules_of p)
  pub even_sides : (p q : Pile) → SideLaw (divider_rules (rules_of p) (rules_of q)) (rules_of p) true even_side odd_side
  pub odd_sides : (p q : Pile) → SideLaw (divider_rules (rules_of p) (rules_of q)) (rules_of q) false odd_side even_side
  -- a pile holds under a key what the base holds that the key leads to, and calls on the key come to that base
  pub holds : (p : Pile) (s : List ℕ) (k : ℕ) → held (rules_of p) s k ≡ held (base_of p k) (base_state p s k) k
  pub puts : (p : Pile) (s : List ℕ) (k : ℕ) (page : List ℕ)
      → Answered (stopped_by p s k) ((rules_of p).put_refusal s k page) (base_state p ((rules_of p).put_next s k page) k) (base_of p k) (base_state p s k) k page
  pub gets : ReachesBase (λ R. R.get_next)
  pub drops_page : ReachesBase (λ R. R.drop_page_next)
  pub drops_object : ReachesBase (λ R. R.drop_object_next)
  pub drops_pool : ReachesBase (λ R. R.drop_pool_next)
