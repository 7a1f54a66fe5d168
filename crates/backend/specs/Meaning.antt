-- What every backend keeps, whatever its rules.
use Rattle.std.specs.Prelude.{◌≡◌, ℕ, ◌^◌, ◌<◌, Bool, true, false, ◌⊎◌, List, [], ◌∷◌, length, Some, None, nat_eq}
use Rattle.std.specs.List.{AllByRecursion}
use Rattle.page.specs.Counts.{count_of, one_more}
use Rattle.page.specs.Keys.{pool_of, ephemeral}
use Rattle.backend.specs.Rules.{Entry, Rules, Valid, lookup, held, pool_object}
use Rattle.backend.specs.declared.refusals.Cause.TheVariants.{NoPlace, OverLimit}
use Rattle.backend.specs.declared.refusals.Refusal.{Refusal}

-- each key stands once
abbrev pub Apart : List Entry → Type 0
Apart [] = Unit {0}
Apart (e ∷ es) = (lookup e.key es ≡ None) × Apart es

-- a key has 32 bits, a page 256 bytes
abbrev pub Sized : Entry → Type 0
Sized e = (e.key < 2 ^ 32) × (length e.page ≡ 256)

-- the key j holds afterwards what it held, or it is ephemeral and holds nothing
abbrev pub Kept : Rules → List ℕ → List ℕ → ℕ → Type 0
Kept R s t j = (held R t j ≡ held R s j) ⊎ ((ephemeral j ≡ true) × (held R t j ≡ None))

-- a call leads from the state s to t: the label stays, and so do the keys that it does not name, but for ephemeral ones
pub record Step (R : Rules) (s t : List ℕ) (named : ℕ → Bool) : Type 0 where
  pub valid : Valid R t
  pub label : R.label t ≡ R.label s
  pub others : (j : ℕ) → named j ≡ false → Kept R s t j

-- an offered page is held if it is accepted; if it is refused, for want of a place or over the limit, its key holds nothing
pub record PutLaw (R : Rules) (s : List ℕ) (k : ℕ) (p : List ℕ) : Type 0 where
  pub step : Step R s (R.put_next s k p) (λ j. nat_eq j k)
  pub counted : R.offers (R.put_next s k p) ≡ one_more (R.offers s)
  pub accepted : R.put_refusal s k p ≡ None → held R (R.put_next s k p) k ≡ Some p
  pub refused : (e : Refusal) → R.put_refusal s k p ≡ Some e
      → (held R (R.put_next s k p) k ≡ None) × (e.key.number ≡ k) × ((e.cause ≡ NoPlace) ⊎ (e.cause ≡ OverLimit))

-- a page that was got is held no longer if it is ephemeral, and still if it is persistent
pub record GetLaw (R : Rules) (s : List ℕ) (k : ℕ) : Type 0 where
  pub step : Step R s (R.get_next s k) (λ j. nat_eq j k)
  pub counted : R.offers (R.get_next s k) ≡ R.offers s
  pub ephemeral_gone : ephemeral k ≡ true → held R (R.get_next s k) k ≡ None
  pub persistent_kept : ephemeral k ≡ false → held R (R.get_next s k) k ≡ held R s k

-- the keys that a drop names hold nothing
pub record DropLaw (R : Rules) (s t : List ℕ) (named : ℕ → Bool) : Type 0 where
  pub step : Step R s t named
  pub counted : R.offers t ≡ R.offers s
  pub gone : (j : ℕ) → named j ≡ true → held R t j ≡ None

pub record Meaning (R : Rules) : Type 0 where
  pub apart : (s : List ℕ) → Valid R s → Apart (R.pages s)
  pub sized : (s : List ℕ) → Valid R s → AllByRecursion Sized (R.pages s)
  pub put : (s : List ℕ) (k : ℕ) (p : List ℕ) → Valid R s → k < 2 ^ 32 → length p ≡ 256 → PutLaw R s k p
  pub get : (s : List ℕ) (k : ℕ) → Valid R s → GetLaw R s k
  pub drop_page : (s : List ℕ) (k : ℕ) → Valid R s → DropLaw R s (R.drop_page_next s k) (λ j. nat_eq j k)
  pub drop_object : (s : List ℕ) (k : ℕ) → Valid R s → DropLaw R s (R.drop_object_next s k) (λ j. nat_eq (pool_object j) (pool_object k))
  pub drop_pool : (s : List ℕ) (k : ℕ) → Valid R s → DropLaw R s (R.drop_pool_next s k) (λ j. nat_eq (pool_of j) (pool_of k))

-- a backend is new when it holds nothing and nothing was offered to it
pub record New (R : Rules) (s : List ℕ) : Type 0 where
  pub valid : Valid R s
  pub empty : R.pages s ≡ []
  pub unoffered : R.offers s ≡ count_of 0
