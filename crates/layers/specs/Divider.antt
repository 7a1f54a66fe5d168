-- Divider: even pools in one backend, odd pools in another.
use Rattle.std.specs.Prelude.{ℕ, Bool, cond, not, ◌&&◌, List, ◌++◌, filter}
use Rattle.page.specs.Counts.{one_more}
use Rattle.page.specs.Keys.{ephemeral}
use Rattle.page.specs.declared.counts.Count.{Count}
use Rattle.backend.specs.Rules.{Entry, Rules}
use Rattle.backend.specs.States.{View, encode, decode}
use Rattle.layers.specs.declared.divider.Divider.{Divider}

abbrev pub divider_view : {A B : Type 0} → (A → List ℕ) → (B → List ℕ) → Divider A B → View
divider_view first second d = record { label = d.account.label; offers = d.account.offers; first = first d.first; second = second d.second }

abbrev pub divider_state : {A B : Type 0} → (A → List ℕ) → (B → List ℕ) → Divider A B → List ℕ
divider_state first second d = encode (divider_view first second d)

-- The first list of a divider's state is the state of the first backend, the second that of the second.
abbrev pub even_side : List ℕ → List ℕ
even_side s = (decode s).first

abbrev pub odd_side : List ℕ → List ℕ
odd_side s = (decode s).second

abbrev pub sides : List ℕ → Count → List ℕ → List ℕ → List ℕ
sides s offers t u = encode (record { label = (decode s).label; offers = offers; first = t; second = u })

-- a call on a key goes to the side of its pool
abbrev pub moved : List ℕ → Count → ℕ → List ℕ → List ℕ → List ℕ
moved s offers k t u = cond (ephemeral k) (sides s offers t (odd_side s)) (sides s offers (even_side s) u)

abbrev pub even : Entry → Bool
even e = ephemeral e.key

abbrev pub odd : Entry → Bool
odd e = not (ephemeral e.key)

abbrev pub divider_rules : Rules → Rules → Rules
divider_rules R S = record {
  valid = λ s. R.valid (even_side s) && S.valid (odd_side s);
  pages = λ s. filter even (R.pages (even_side s)) ++ filter odd (S.pages (odd_side s));
  offers = λ s. (decode s).offers;
  label = λ s. (decode s).label;
  put_refusal = λ s k p. cond (ephemeral k) (R.put_refusal (even_side s) k p) (S.put_refusal (odd_side s) k p);
  put_next = λ s k p. moved s (one_more (decode s).offers) k (R.put_next (even_side s) k p) (S.put_next (odd_side s) k p);
  get_next = λ s k. moved s (decode s).offers k (R.get_next (even_side s) k) (S.get_next (odd_side s) k);
  drop_page_next = λ s k. moved s (decode s).offers k (R.drop_page_next (even_side s) k) (S.drop_page_next (odd_side s) k);
  drop_object_next = λ s k. moved s (decode s).offers k (R.drop_object_next (even_side s) k) (S.drop_object_next (odd_side s) k);
  drop_pool_next = λ s k. moved s (decode s).offers k (R.drop_pool_next (even_side s) k) (S.drop_pool_next (odd_side s) k);
}
