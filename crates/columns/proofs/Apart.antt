-- Two lines with the same text are the same line.
use Rattle.std.proofs.Common.{◌≡◌, ℕ, zero, suc, ◌+◌, ◌-◌, ◌%◌, ◌^◌, ◌<◌, ◌≤◌, false, cond, eqb, List, [], ◌∷◌, ◌++◌, length, take, drop, replicate, codes, decimal, sym, refl, ap, ◌∙◌, subst, arith, rules}
use Rattle.std.specs.List.{flat_map, AllByRecursion}
use Rattle.std.proofs.lemmas.Fmt.{decimal_by_steps, length-decimal-le, decimal_injective}
use Rattle.std.proofs.lemmas.List.{append_assoc, append_cancel_right, length-append, length-replicate, take_at, drop_at}
use Rattle.page.specs.Counts.{count_text}
use Rattle.page.specs.declared.counts.Count.{Count}
use Rattle.page.specs.declared.counts.Count.TheVariants.{Exact, Over}
use Rattle.columns.specs.Columns.{right, value_text, values_of, line_text, Counted, Valued, Printable}
use Rattle.columns.specs.declared.OutputLine.{OutputLine}
use Rattle.columns.specs.declared.Values.{Values}
use Rattle.columns.specs.declared.Values.TheVariants.{Nothing, Number, Counts}

-- columns of one width at the front are equal, and so is what follows
fronts : (a b c d : List ℕ) (w : ℕ) → length a ≡ w → length b ≡ w → a ++ c ≡ b ++ d → (a ≡ b) × (c ≡ d)
fronts a b c d w la lb e = (
  sym (take_at a c w la) ∙ ap (λ l. take w l) e ∙ take_at b d w lb,
  sym (drop_at a c w la) ∙ ap (λ l. drop w l) e ∙ drop_at b d w lb,
)

pub length_right : (w : ℕ) (bytes : List ℕ) → length bytes ≤ w → length (right w bytes) ≡ w
unfolding right
length_right w bytes fits = simp (length-append, length-replicate) (omega arith)

-- a text without the spaces in front
trimmed : List ℕ → List ℕ
trimmed [] = []
trimmed (b ∷ bs) = cond (eqb b 32) (trimmed bs) (b ∷ bs)

trimmed_blanks : (n : ℕ) (bytes : List ℕ) → trimmed (replicate n 32 ++ bytes) ≡ trimmed bytes
unfolding trimmed
trimmed_blanks zero bytes = refl
trimmed_blanks (suc n) bytes = trimmed_blanks n bytes

-- right-justified texts that begin with no space are equal where their columns are
same_from_right : (w : ℕ) (a b : List ℕ) → trimmed a ≡ a → trimmed b ≡ b → right w a ≡ right w b → a ≡ b
unfolding right
same_from_right w a b ta tb e =
    sym ta ∙ sym (trimmed_blanks (w - length a) a) ∙ ap trimmed e ∙ trimmed_blanks (w - length b) b ∙ tb

-- it begins with a digit
Begins : List ℕ → Type 0
Begins [] = ⊥
Begins (b ∷ bs) = (48 ≤ b) × (b ≤ 57)

begins_push : (ds : List ℕ) (d : ℕ) → Begins ds → Begins (ds ++ d ∷ [])
unfolding Begins
begins_push [] d h = absurd h
begins_push (b ∷ bs) d h = h

begins_decimal : (n : ℕ) → n < 2 ^ 64 → Begins (decimal n)
unfolding Begins
begins_decimal = decimal_by_steps (λ n ds. Begins ds) (λ n low. (omega arith, omega arith)) (λ n ds big h. begins_push ds (48 + n % 10) h)

trimmed_digits : (ds : List ℕ) → Begins ds → trimmed ds ≡ ds
unfolding Begins trimmed
trimmed_digits [] h = absurd h
trimmed_digits (b ∷ bs) h = let ne : eqb b 32 ≡ false = search rules in ap (λ t. cond t (trimmed bs) (b ∷ bs)) ne

trimmed_decimal : (n : ℕ) → n < 2 ^ 64 → trimmed (decimal n) ≡ decimal n
trimmed_decimal n small = trimmed_digits (decimal n) (begins_decimal n small)

-- a number's column
same_from_number : (w m n : ℕ) → m < 2 ^ 64 → n < 2 ^ 64 → right w (decimal m) ≡ right w (decimal n) → m ≡ n
same_from_number w m n sm sn e =
    decimal_injective m n sm sn (same_from_right w (decimal m) (decimal n) (trimmed_decimal m sm) (trimmed_decimal n sn) e)

trimmed_count : (c : Count) → Counted c → trimmed (count_text c) ≡ count_text c
unfolding trimmed
trimmed_count (Exact n) h = trimmed_decimal n (omega arith)
trimmed_count Over h = refl

length_count : (c : Count) → Counted c → length (count_text c) ≤ 11
length_count (Exact n) h = let l = length-decimal-le 10 n (omega arith) (omega arith) (omega arith) in omega arith
length_count Over h = omega arith

-- no number is written as the word
no_word : (n : ℕ) → n < 2 ^ 64 → decimal n ≡ codes "over" → ⊥
unfolding Begins
no_word n small e = let h : (48 ≤ 111) × (111 ≤ 57) = subst Begins e (begins_decimal n small) in omega arith

same_from_text : (a b : Count) → Counted a → Counted b → count_text a ≡ count_text b → a ≡ b
same_from_text (Exact m) (Exact n) ha hb e = ap Exact (decimal_injective m n (omega arith) (omega arith) e)
same_from_text (Exact m) Over ha hb e = absurd (no_word m (omega arith) e)
same_from_text Over (Exact n) ha hb e = absurd (no_word n (omega arith) (sym e))
same_from_text Over Over ha hb e = refl

same_from_value : (a b : Count) → Counted a → Counted b → value_text a ≡ value_text b → a ≡ b
same_from_value a b ha hb e =
    same_from_text a b ha hb (same_from_right 11 (count_text a) (count_text b) (trimmed_count a ha) (trimmed_count b hb) e)

length_value : (c : Count) → Counted c → length (value_text c) ≡ 11
length_value c h = length_right 11 (count_text c) (length_count c h)

-- a row that is empty and one that is not
no_row : (c : Count) (cs : List Count) → Counted c → [] ≡ flat_map value_text (c ∷ cs) → ⊥
no_row c cs h e =
    let l = ap length e ∙ length-append (value_text c) (flat_map value_text cs) in
    omega (arith, length_value c h)

same_from_row : (xs ys : List Count) → AllByRecursion Counted xs → AllByRecursion Counted ys → flat_map value_text xs ≡ flat_map value_text ys → xs ≡ ys
same_from_row [] [] hx hy e = refl
same_from_row [] (y ∷ ys) hx hy e = absurd (no_row y ys hy.0 e)
same_from_row (x ∷ xs) [] hx hy e = absurd (no_row x xs hx.0 (sym e))
same_from_row (x ∷ xs) (y ∷ ys) hx hy e =
    let p = fronts (value_text x) (value_text y) (flat_map value_text xs) (flat_map value_text ys) 11 (length_value x hx.0) (length_value y hy.0) e in
    let first = same_from_value x y hx.0 hy.0 p.0 in
    let rest = same_from_row xs ys hx.1 hy.1 p.1 in
    cc

all_counted : (v : Values) → Valued v → AllByRecursion Counted (values_of v)
all_counted Nothing h = tt
all_counted (Number n) h = (h, tt)
all_counted (Counts cs) h = h.1

-- how many values there are tells which kind they are
same_from_values : (v w : Values) → Valued v → Valued w → values_of v ≡ values_of w → v ≡ w
same_from_values Nothing Nothing hv hw e = refl
same_from_values Nothing (Number n) hv hw e = absurd (omega (arith, ap length e))
same_from_values Nothing (Counts ds) hv hw e = absurd (omega (arith, ap length e))
same_from_values (Number m) Nothing hv hw e = absurd (omega (arith, ap length e))
same_from_values (Number m) (Number n) hv hw e = cc
same_from_values (Number m) (Counts ds) hv hw e = absurd (omega (arith, ap length e))
same_from_values (Counts cs) Nothing hv hw e = absurd (omega (arith, ap length e))
same_from_values (Counts cs) (Number n) hv hw e = absurd (omega (arith, ap length e))
same_from_values (Counts cs) (Counts ds) hv hw e = ap Counts e

pub length_number : (w n : ℕ) → 0 < w → n < 10 ^ w → n < 2 ^ 64 → length (right w (decimal n)) ≡ w
length_number w n pos fits small = length_right w (decimal n) (length-decimal-le w n pos fits small)

pub same_from_line : (a b : OutputLine) → Printable a → Printable b → line_text a ≡ line_text b → a ≡ b
unfolding line_text
same_from_line a b ha hb e =
    let la = ha.line in let lb = hb.line in
    let aa = ha.answer in let ab = hb.answer in
    let first : OutputLine → List ℕ = λ o. right 6 (decimal o.line) in
    let second : OutputLine → List ℕ = λ o. right 4 (decimal o.answer) in
    let row : OutputLine → List ℕ = λ o. flat_map value_text (values_of o.values) in
    let texts : first a ++ (second a ++ row a) ≡ first b ++ (second b ++ row b)
    = sym (append_assoc (first a) (second a) (row a)) ∙ append_cancel_right _ _ (10 ∷ []) e ∙ append_assoc (first b) (second b) (row b) in
    let p = fronts (first a) (first b) (second a ++ row a) (second b ++ row b) 6
    (length_number 6 a.line (omega arith) (omega arith) (omega arith)) (length_number 6 b.line (omega arith) (omega arith) (omega arith)) texts in
    let q = fronts (second a) (second b) (row a) (row b) 4
    (length_number 4 a.answer (omega arith) (omega arith) (omega arith)) (length_number 4 b.answer (omega arith) (omega arith) (omega arith)) p.1 in
    let line : a.line ≡ b.line = same_from_number 6 a.line b.line (omega arith) (omega arith) p.0 in
    let answer : a.answer ≡ b.answer = same_from_number 4 a.answer b.answer (omega arith) (omega arith) q.0 in
    let counts = same_from_row (values_of a.values) (values_of b.values) (all_counted a.values ha.values) (all_counted b.values hb.values) q.1 in
    let values : a.values ≡ b.values = same_from_values a.values b.values ha.values hb.values counts in
    λ i. record { line = line i; answer = answer i; values = values i }
