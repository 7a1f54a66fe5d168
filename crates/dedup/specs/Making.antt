-- A new deduplicating backend.
use Rattle.std.specs.Prelude.{◌≡◌, ℕ, List, length}
use Rattle.backend.specs.Listing.{list_rules}
use Rattle.backend.specs.Meaning.{New}
use Rattle.contents.specs.View.{users_of, contents_area}
use Rattle.held.specs.View.{size_of}
use Rattle.store.specs.States.{store_state}
use Rattle.store.specs.declared.store.Store.{Store}
use Rattle.dedup.specs.Dedup.{shared_entries, shared_fixed}
use Rattle.dedup.specs.Different.{dedup_lack}
use Rattle.dedup.specs.Sizes.{most_pages, most_different}
use Rattle.dedup.specs.declared.pages.SharedPages.{SharedPages}

pub record NewDedup (label : ℕ) (bytes : List ℕ) (records slots nodes : ℕ) (b : Store SharedPages) : Type 0 where
  pub new : New (list_rules dedup_lack) (store_state shared_fixed shared_entries b)
  pub labelled : b.account.label ≡ label
  -- how many pages it can hold, how many different ones, and its page bytes, which are as they were given
  pub size : size_of b.pages.held ≡ most_pages slots nodes
  pub different_size : length (users_of b.pages.contents) ≡ most_different (length bytes) records
  pub bytes_are : contents_area b.pages.contents ≡ bytes
