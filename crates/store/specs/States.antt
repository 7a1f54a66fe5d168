-- The state of a store.
use Rattle.std.specs.Prelude.{ℕ, List}
use Rattle.backend.specs.Listing.{ListState, write_state}
use Rattle.backend.specs.Rules.{Entry}
use Rattle.store.specs.declared.store.Store.{Store}

abbrev pub store_view : {H : Type 0} → (H → List ℕ) → (H → List Entry) → Store H → ListState
store_view fixed entries b = record { label = b.account.label; offers = b.account.offers; fixed = fixed b.pages; entries = entries b.pages }

abbrev pub store_state : {H : Type 0} → (H → List ℕ) → (H → List Entry) → Store H → List ℕ
store_state fixed entries b = write_state (store_view fixed entries b)
