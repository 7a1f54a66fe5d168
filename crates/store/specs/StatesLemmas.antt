-- The rules of the list of held pages at a state that a store wrote.
use Rattle.std.specs.Prelude.{◌≡◌, ℕ, ◌+◌, Bool, cond, List, [], ◌∷◌, Some, None, count_by, ◌==◌, nat_eq, refl}
use Rattle.std.proofs.Common.{sym, ap, ◌∙◌}
use Rattle.std.proofs.lemmas.List.Sums.{sum_by-cons}
use Rattle.page.specs.Keys.{pool_of}
use Rattle.page.specs.Counts.{one_more}
use Rattle.backend.specs.Victims.{pool_size}
use Rattle.backend.specs.Listing.{keys_of, ListState, write_state, read_state, without, cleared, put_entries, got_entries, relisted, listed, list_rules}
use Rattle.backend.specs.Rules.{Entry}
use Rattle.backend.specs.declared.refusals.Cause.TheVariants.{NoPlace}
use Rattle.backend.proofs.Keeping.{read_write}

abbrev pub with_entries : ListState → List Entry → ListState
with_entries v es = record { label = v.label; offers = v.offers; fixed = v.fixed; entries = es }

abbrev pub offered_once_more : ListState → ListState
offered_once_more v = record { label = v.label; offers = one_more v.offers; fixed = v.fixed; entries = v.entries }

pub listed_is : (v : ListState) → listed (write_state v) ≡ v.entries
listed_is v = ap (λ (u : ListState). u.entries) (read_write v)

pub label_is : (v : ListState) → (read_state (write_state v)).label ≡ v.label
label_is v = ap (λ (u : ListState). u.label) (read_write v)

pub offers_are : (v : ListState) → (read_state (write_state v)).offers ≡ v.offers
offers_are v = ap (λ (u : ListState). u.offers) (read_write v)

pub dropped_is : (v : ListState) (named : ℕ → Bool)
    → relisted (write_state v) (read_state (write_state v)).offers (without named (listed (write_state v))) ≡ write_state (with_entries v (without named v.entries))
dropped_is v named = ap (λ (u : ListState). write_state (with_entries u (without named u.entries))) (read_write v)

module _ (lacks : List ℕ → List Entry → List ℕ → Bool) (v : ListState) (k : ℕ) where
  pub put_next_is : (p : List ℕ) → (list_rules lacks).put_next (write_state v) k p
      ≡ write_state (with_entries (offered_once_more v) (put_entries (λ es. lacks v.fixed es p) (record { key = k; page = p }) v.entries))
  put_next_is p =
      ap (λ (u : ListState). write_state (with_entries (offered_once_more u) (put_entries (λ es. lacks u.fixed es p) (record { key = k; page = p }) u.entries))) (read_write v)

  pub put_refusal_is : (p : List ℕ) → (list_rules lacks).put_refusal (write_state v) k p
      ≡ cond (lacks v.fixed (cleared (λ es. lacks v.fixed es p) k v.entries) p) (Some (record { cause = NoPlace; key = record { number = k }; label = v.label })) None
  put_refusal_is p =
      ap (λ (u : ListState). cond (lacks u.fixed (cleared (λ es. lacks u.fixed es p) k u.entries) p) (Some (record { cause = NoPlace; key = record { number = k }; label = u.label })) None)
      (read_write v)

  pub get_next_is : (list_rules lacks).get_next (write_state v) k ≡ write_state (with_entries v (got_entries k v.entries))
  get_next_is = ap (λ (u : ListState). write_state (with_entries u (got_entries k u.entries))) (read_write v)

-- a pool's pages are counted by their keys
pub size_is : (pool : ℕ) (es : List Entry) → pool_size (keys_of es) pool ≡ count_by (λ e. nat_eq (pool_of e.key) pool) es
size_is pool [] = refl
size_is pool (e ∷ es) =
    sum_by-cons (λ k. cond (pool_of k == pool) 1 0) e.key (keys_of es)
    ∙ (ap (λ (n : ℕ). cond (pool_of e.key == pool) 1 0 + n) (size_is pool es) ∙ sym (sum_by-cons (λ f. cond (pool_of f.key == pool) 1 0) e es))
