-- Quota: a limit on the pages that each pool may hold in the backend below.
use Rattle.std.specs.Prelude.{ℕ, Bool, cond, not, ◌&&◌, List, is_some, Some, nat_le, slice_index}
use Rattle.page.specs.Counts.{one_more}
use Rattle.page.specs.Keys.{pool_of}
use Rattle.page.specs.declared.counts.Count.{Count}
use Rattle.backend.specs.Rules.{Rules, held, pool_pages}
use Rattle.backend.specs.States.{View, encode, decode}
use Rattle.backend.specs.declared.refusals.Cause.TheVariants.{OverLimit}
use Rattle.layers.specs.declared.quota.Quota.{Quota}

abbrev pub quota_view : {B : Type 0} → (B → List ℕ) → Quota B → View
quota_view state q = record { label = q.account.label; offers = q.account.offers; first = q.limits; second = state q.below }

abbrev pub quota_state : {B : Type 0} → (B → List ℕ) → Quota B → List ℕ
quota_state state q = encode (quota_view state q)

-- The first list of a quota's state has its limits, the second is the state below.
abbrev pub limits : List ℕ → List ℕ
limits s = (decode s).first

abbrev pub below : List ℕ → List ℕ
below s = (decode s).second

-- the quota with another offer count and another state below
abbrev pub over : List ℕ → Count → List ℕ → List ℕ
over s offers t = encode (record { label = (decode s).label; offers = offers; first = limits s; second = t })

-- under limits `ls`, a backend in the state t does not hold the key, and holds its pool's limit or more
abbrev pub full : Rules → List ℕ → List ℕ → ℕ → Bool
full R ls t k = not (is_some (held R t k)) && nat_le (slice_index ls (pool_of k)) (pool_pages R t (pool_of k))

abbrev pub at_limit : Rules → List ℕ → ℕ → Bool
at_limit R s k = full R (limits s) (below s) k

abbrev pub quota_rules : Rules → Rules
quota_rules R = record {
  valid = λ s. R.valid (below s);
  pages = λ s. R.pages (below s);
  offers = λ s. (decode s).offers;
  label = λ s. (decode s).label;
  put_refusal = λ s k p.
      cond (at_limit R s k)
      (Some (record { cause = OverLimit; key = record { number = k }; label = (decode s).label }))
      (R.put_refusal (below s) k p);
  put_next = λ s k p. over s (one_more (decode s).offers) (cond (at_limit R s k) (below s) (R.put_next (below s) k p));
  get_next = λ s k. over s (decode s).offers (R.get_next (below s) k);
  drop_page_next = λ s k. over s (decode s).offers (R.drop_page_next (below s) k);
  drop_object_next = λ s k. over s (decode s).offers (R.drop_object_next (below s) k);
  drop_pool_next = λ s k. over s (decode s).offers (R.drop_pool_next (below s) k);
}
