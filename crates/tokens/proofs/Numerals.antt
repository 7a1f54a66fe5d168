-- A field writes a number just where it is the number's decimal digits.
use Rattle.std.proofs.Common.{◌≡◌, ℕ, ◌+◌, ◌-◌, ◌*◌, ◌^◌, ◌<◌, ◌≤◌, Bool, true, false, cond, ◌&&◌, eqb, ltb, List, [], ◌∷◌, length, get_or, Some, None, decimal, Option, sym, refl, ap, ◌∙◌, inl, inr, arith, rules, ltb-true, lt-ltb, ne_eqb}
use borrow.Author.Tests.{eqb-false}
use Rattle.std.proofs.lemmas.Bool.{and_parts, cases_order}
use Rattle.std.specs.Char.{is_ascii_digit}
use Rattle.std.specs.Str.{all_ascii_digits}
use Rattle.std.proofs.lemmas.Str.Parse.{IsNumeralModel, numerals_by_fold}
use Rattle.std.proofs.lemmas.Fmt.{digits_decimal, digits_value-decimal, decimal-digits_value, decimal_nonempty, first_decimal, decimal_digit}
use Rattle.tokens.specs.Numbers.{scanned, zero_first, number_of}

-- the number that digits write behind n
abbrev read_on : ℕ → List ℕ → ℕ
read_on n [] = n
read_on n (c ∷ cs) = read_on (n * 10 + (c - 48)) cs

own : IsNumeralModel (λ ds. all_ascii_digits ds ≡ true) (read_on 0)
own = numerals_by_fold _ (search rules) read_on (search rules)

read_on_ge : (n : ℕ) (ds : List ℕ) → n ≤ read_on n ds
read_on_ge n [] = omega arith
read_on_ge n (c ∷ cs) = omega (arith, read_on_ge (n * 10 + (c - 48)) cs)

-- one digit more
digit_more : (d t : Bool) (m : ℕ) (cs : List ℕ) (v : ℕ)
    → elim (cond (d && t) (Some m) None) [ None ↦ None | Some k ↦ scanned k cs ] ≡ Some v
    → (d ≡ true) × (t ≡ true) × (scanned m cs ≡ Some v)
digit_more true true m cs v e = (refl, refl, e)
digit_more true false m cs v e = cc
digit_more false t m cs v e = cc

digit_taken : (d t : Bool) (m : ℕ) (cs : List ℕ) → d ≡ true → t ≡ true
    → elim (cond (d && t) (Some m) None) [ None ↦ None | Some k ↦ scanned k cs ] ≡ scanned m cs
digit_taken d t m cs e f = rw (e, f)

scanned_only : (n : ℕ) (ds : List ℕ) (v : ℕ) → n < 2 ^ 16 → scanned n ds ≡ Some v
    → (all_ascii_digits ds ≡ true) × (read_on n ds ≡ v) × (v < 2 ^ 16)
scanned_only n [] v h e = let same : n ≡ v = cc in (refl, same, omega arith)
scanned_only n (c ∷ cs) v h e =
    let m = n * 10 + (c - 48) in
    let d = digit_more (is_ascii_digit c) (ltb m (2 ^ 16)) m cs v e in
    let r = scanned_only m cs v (ltb-true m (2 ^ 16) d.1) d.2 in
    (rw d.0 r.0, r.1, r.2)

scanned_back : (n : ℕ) (ds : List ℕ) → all_ascii_digits ds ≡ true → read_on n ds < 2 ^ 16 → scanned n ds ≡ Some (read_on n ds)
scanned_back n [] a h = refl
scanned_back n (c ∷ cs) a h =
    let m = n * 10 + (c - 48) in
    let t = lt-ltb m (2 ^ 16) (omega (arith, read_on_ge m cs)) in
    let d = and_parts (is_ascii_digit c) (all_ascii_digits cs) a in
    digit_taken (is_ascii_digit c) (ltb m (2 ^ 16)) m cs d.0 t ∙ scanned_back m cs d.1 h

-- a field without a needless zero
plain : (ds : List ℕ) → 0 < length ds → (get_or ds 0 0 ≡ 48 → length ds ≡ 1) → number_of ds ≡ scanned 0 ds
plain [] some one = absurd (omega arith)
plain (c ∷ []) some one = refl
plain (c ∷ d ∷ s) some one =
    let differs : eqb c 48 ≡ false = ne_eqb c 48 (λ e. let two = one e in omega arith) in rw differs

zero_alone : (v : ℕ) → v < 2 ^ 64 → get_or (decimal v) 0 0 ≡ 48 → length (decimal v) ≡ 1
zero_alone v w e =
    elim (cases_order 0 v) [
      | inl z ↦ ap length (ap decimal (sym z) ∙ decimal_digit 0 (omega arith))
      | inr o ↦ elim o [ inl pos ↦ absurd (omega (arith, first_decimal v pos w)) | inr neg ↦ absurd (omega arith) ]
    ]

-- the number that decimal digits write is that number
pub number_back : (v : ℕ) → v < 2 ^ 16 → number_of (decimal v) ≡ Some v
number_back v h =
    let w : v < 2 ^ 64 = omega arith in
    let e = digits_value-decimal own v w in
    plain (decimal v) (decimal_nonempty v w) (zero_alone v w)
    ∙ scanned_back 0 (decimal v) (digits_decimal own v w) (omega (arith, e))
    ∙ ap Some e

lone_zero : (ds : List ℕ) → 0 < length ds → zero_first ds ≡ false → get_or ds 0 0 ≡ 48 → length ds ≡ 1
lone_zero [] some z e = absurd (omega arith)
lone_zero (c ∷ []) some z e = refl
lone_zero (c ∷ d ∷ s) some z e = absurd (eqb-false c 48 z e)

not_zero_first : (z : Bool) (o : Option ℕ) (v : ℕ) → cond z None o ≡ Some v → (z ≡ false) × (o ≡ Some v)
not_zero_first true o v e = cc
not_zero_first false o v e = (refl, e)

-- and only decimal digits write a number
pub number_only : (f : List ℕ) (v : ℕ) → number_of f ≡ Some v → (f ≡ decimal v) × (v < 2 ^ 16)
number_only [] v e = cc
number_only (c ∷ s) v e =
    let f = c ∷ s in
    let p = not_zero_first (zero_first f) (scanned 0 f) v e in
    let r = scanned_only 0 f v (omega arith) p.1 in
    (sym (decimal-digits_value own f r.0 (omega arith) (lone_zero f (omega arith) p.0) (omega (arith, r))) ∙ ap decimal r.1, r.2)
