-- The functions by which a backend answers a call and makes its next state. A state is a list of numbers.
use Rattle.std.specs.Prelude.{◌≡◌, ℕ, ◌/◌, ◌^◌, Bool, true, cond, List, [], ◌∷◌, Some, None, count_by, Option, ◌==◌, nat_eq}
use Rattle.page.specs.Keys.{pool_of}
use Rattle.page.specs.declared.counts.Count.{Count}
use Rattle.backend.specs.declared.refusals.Refusal.{Refusal}

-- a page under its key
pub record Entry : Type 0 where
  pub key : ℕ
  pub page : List ℕ

pub record Rules : Type 0 where
  -- whether a backend can be in this state
  pub valid : List ℕ → Bool
  -- the pages that it holds
  pub pages : List ℕ → List Entry
  -- how many pages were offered to it
  pub offers : List ℕ → Count
  -- its own label
  pub label : List ℕ → ℕ
  -- the refusal of a page offered under a key, or none
  pub put_refusal : List ℕ → ℕ → List ℕ → Option Refusal
  -- the states after a put, a get and the drops
  pub put_next : List ℕ → ℕ → List ℕ → List ℕ
  pub get_next : List ℕ → ℕ → List ℕ
  pub drop_page_next : List ℕ → ℕ → List ℕ
  pub drop_object_next : List ℕ → ℕ → List ℕ
  pub drop_pool_next : List ℕ → ℕ → List ℕ

abbrev pub Valid : Rules → List ℕ → Type 0
Valid R s = R.valid s ≡ true

-- the page under a key
abbrev pub lookup : ℕ → List Entry → Option (List ℕ)
lookup k [] = None
lookup k (e ∷ es) = cond (e.key == k) (Some e.page) (lookup k es)

abbrev pub held : Rules → List ℕ → ℕ → Option (List ℕ)
held R s k = lookup k (R.pages s)

-- a key's pool and object, as one number
abbrev pub pool_object : ℕ → ℕ
pool_object k = k / 2 ^ 12

-- how many pages a pool holds
abbrev pub pool_pages : Rules → List ℕ → ℕ → ℕ
pool_pages R s pool = count_by (λ e. nat_eq (pool_of e.key) pool) (R.pages s)
