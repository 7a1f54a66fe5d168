-- What the list of held pages promises, whatever lacks a place.
use Rattle.std.specs.Prelude.{◌≡◌, ℕ, ◌^◌, ◌<◌, ◌≤◌, Bool, true, false, List, ◌∷◌, ◌++◌, Some, None, ◌==◌}
use Rattle.std.specs.List.{AllByRecursion}
use Rattle.page.specs.Keys.{pool_of, ephemeral}
use Rattle.backend.specs.Listing.{ListState, read_state, write_state, keys_of, without, one, room_made, list_rules}
use Rattle.backend.specs.Meaning.{Meaning}
use Rattle.backend.specs.Rules.{Entry}
use Rattle.backend.specs.Victims.{pool_size, even_pools_above_0, victim}

-- the keys from the oldest to the newest: before k, which is among them, none is of its pool
pub record OldestOfPool (ks : List ℕ) (k : ℕ) : Type 0 where
  pub older : List ℕ
  pub newer : List ℕ
  pub among : ks ≡ older ++ k ∷ newer
  pub first : AllByRecursion (λ j. (pool_of j == pool_of k) ≡ false) older

-- k gives way: it is the oldest of its even pool, no even pool holds more, and those of lower numbers hold fewer
pub record GivesWay (ks : List ℕ) (k : ℕ) : Type 0 where
  pub even : ephemeral k ≡ true
  pub oldest : OldestOfPool ks k
  pub most : AllByRecursion (λ pool. pool_size ks pool ≤ pool_size ks (pool_of k)) (0 ∷ even_pools_above_0)
  pub lowest : AllByRecursion (λ pool. pool < pool_of k → pool_size ks pool < pool_size ks (pool_of k)) (0 ∷ even_pools_above_0)

pub record ListLaw : Type 0 where
  pub keeps : (lacks : List ℕ → List Entry → List ℕ → Bool) → Meaning (list_rules lacks)
  -- the page that gives way; there is none only where every held page is persistent
  pub gives_way : (ks : List ℕ) (k : ℕ) → victim ks ≡ Some k → GivesWay ks k
  pub none_gives_way : (ks : List ℕ) → AllByRecursion (λ k. k < 2 ^ 32) ks → victim ks ≡ None → AllByRecursion (λ k. ephemeral k ≡ false) ks
  -- pages are evicted one by one while a place is lacking and an ephemeral page is held
  pub enough : (lacks : List Entry → Bool) (es : List Entry) → lacks es ≡ false → room_made lacks es ≡ es
  pub none_left : (lacks : List Entry → Bool) (es : List Entry) → victim (keys_of es) ≡ None → room_made lacks es ≡ es
  pub goes_on : (lacks : List Entry → Bool) (es : List Entry) (k : ℕ) → lacks es ≡ true → victim (keys_of es) ≡ Some k
      → room_made lacks es ≡ room_made lacks (without (one k) es)
  -- a state that a store writes is read as it was written
  pub states : (v : ListState) → read_state (write_state v) ≡ v
