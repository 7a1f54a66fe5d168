-- A part's own state as a list of numbers: its label, its offer count, and two lists, the first behind its length.
use Rattle.std.specs.Prelude.{ℕ, zero, suc, List, ◌∷◌, ◌++◌, length, take, drop, slice_index}
use Rattle.page.specs.declared.counts.Count.{Count}
use Rattle.page.specs.declared.counts.Count.TheVariants.{Exact, Over}

pub record View : Type 0 where
  pub label : ℕ
  pub offers : Count
  pub first : List ℕ
  pub second : List ℕ

abbrev pub count_number : Count → ℕ
count_number (Exact n) = suc n
count_number Over = 0

abbrev pub numbered_count : ℕ → Count
numbered_count zero = Over
numbered_count (suc n) = Exact n

unfoldable pub encode : View → List ℕ
encode v = v.label ∷ count_number v.offers ∷ length v.first ∷ (v.first ++ v.second)

unfoldable pub decode : List ℕ → View
decode s = record {
  label = slice_index s 0;
  offers = numbered_count (slice_index s 1);
  first = take (slice_index s 2) (drop 3 s);
  second = drop (slice_index s 2) (drop 3 s);
}
