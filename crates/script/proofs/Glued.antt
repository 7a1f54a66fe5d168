-- Numbers with a space before each, and the pieces that they are cut into.
use Rattle.std.proofs.Common.{◌≡◌, ℕ, ◌^◌, ◌<◌, false, eqb, List, [], ◌∷◌, ◌++◌, get_or, map, decimal, sym, refl, ap, ◌∙◌, arith, ne_eqb}
use Rattle.std.proofs.lemmas.Fmt.{digits_decimal}
use Rattle.std.proofs.lemmas.List.{append-nil}
use Rattle.std.proofs.lemmas.List.Elements.{All-from_get_or}
use Rattle.std.proofs.lemmas.List.Splits.{slice_split_none, slice_split_at, join_with_byte-slice_split}
use Rattle.std.proofs.lemmas.Str.Parse.{numerals_by_value, tells_by_index}
use Rattle.std.specs.List.{flat_map, All, AllByRecursion, join_with_byte}
use Rattle.tokens.specs.Cuts.{pieces}

-- numbers, each behind a space
abbrev pub spaced : List ℕ → List ℕ
spaced ns = flat_map (λ n. 32 ∷ decimal n) ns

joined_decimals : (n : ℕ) (ns : List ℕ) → join_with_byte 32 (decimal n ∷ map decimal ns) ≡ decimal n ++ spaced ns
joined_decimals n [] = sym (append-nil (decimal n))
joined_decimals n (m ∷ ms) = ap (λ (t : List ℕ). decimal n ++ 32 ∷ t) (joined_decimals m ms)

-- a text that is cut into decimal numbers is those numbers
pub numbers_only : (s : List ℕ) (n : ℕ) (ns : List ℕ) → pieces 32 s ≡ decimal n ∷ map decimal ns → s ≡ decimal n ++ spaced ns
numbers_only s n ns e = sym (join_with_byte-slice_split 32 s) ∙ ap (join_with_byte 32) e ∙ joined_decimals n ns

no_space : (n : ℕ) → n < 2 ^ 64 → All (λ d. eqb d 32 ≡ false) (decimal n)
no_space n h =
    let digits = digits_decimal (numerals_by_value _ tells_by_index) n h in
    All-from_get_or (λ d. eqb d 32 ≡ false) (decimal n) 0 (λ i lt. ne_eqb (get_or (decimal n) i 0) 32 (λ e. let d = digits i lt in omega arith))

-- numbers are cut into just those numbers
pub numbers_back : (n : ℕ) (ns : List ℕ) → n < 2 ^ 64 → AllByRecursion (λ m. m < 2 ^ 64) ns → pieces 32 (decimal n ++ spaced ns) ≡ decimal n ∷ map decimal ns
numbers_back n [] h hs = rw append-nil (slice_split_none (λ d. eqb d 32) (decimal n) (no_space n h))
numbers_back n (m ∷ ms) h hs =
    slice_split_at (λ d. eqb d 32) (decimal n) 32 (decimal m ++ spaced ms) (no_space n h) refl
    ∙ ap (λ (ps : List (List ℕ)). decimal n ∷ ps) (numbers_back m ms hs.0 hs.1)
