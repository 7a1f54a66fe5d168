-- A new local backend.
use Rattle.std.specs.Prelude.{◌≡◌, ℕ, List, length}
use Rattle.page.specs.Memory.{area_of}
use Rattle.backend.specs.Listing.{list_rules}
use Rattle.backend.specs.Meaning.{New}
use Rattle.held.specs.View.{size_of}
use Rattle.store.specs.States.{store_state}
use Rattle.store.specs.declared.store.Store.{Store}
use Rattle.local.specs.Local.{local_entries, local_fixed}
use Rattle.local.specs.Places.{capacity, local_lack}
use Rattle.local.specs.declared.pages.LocalPages.{LocalPages}

pub record NewLocal (label : ℕ) (bytes : List ℕ) (slots nodes : ℕ) (b : Store LocalPages) : Type 0 where
  pub new : New (list_rules local_lack) (store_state local_fixed local_entries b)
  pub labelled : b.account.label ≡ label
  -- how many pages it can hold, and its page bytes, which are as they were given
  pub size : size_of b.pages.held ≡ capacity (length bytes) slots nodes
  pub bytes_are : area_of b.pages.memory ≡ bytes
