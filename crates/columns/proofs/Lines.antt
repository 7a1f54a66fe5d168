-- The whole line, written to a buffer of 110 bytes: the number, the answer, the values and the line feed.
use Rattle.std.proofs.Common.{◌≡◌, ℕ, ◌+◌, ◌≤◌, List, [], ◌∷◌, ◌++◌, length, drop, set, decimal, sym, ap, ◌∙◌, arith}
use borrow.Rule.Slice.PartMut.{mid_of, post_of, put_mid}
use Rattle.std.specs.List.{flat_map}
use Rattle.std.proofs.lemmas.List.{length-append, length-drop, length-take}
use Rattle.columns.specs.Columns.{right, value_text, values_of, line_text, Printable}
use Rattle.columns.specs.declared.OutputLine.{OutputLine}
use Rattle.columns.proofs.Apart.{length_number}
use Rattle.columns.proofs.Appends.{appended, ended}

pub mid_length : (a k : ℕ) (xs : List ℕ) → a + k ≤ length xs → length (mid_of a k xs) ≡ k
mid_length a k xs within = simp (length-take, length-drop) (omega arith)

-- a first field of 6 bytes, written, leaves the second of 4
pub second_length : (one buffer : List ℕ) → length one ≡ 6 → length buffer ≡ 110 → length (mid_of 6 4 (one ++ post_of 0 6 buffer)) ≡ 4
second_length one buffer l6 l110 = mid_length 6 4 (one ++ post_of 0 6 buffer) (simp (length-append, length-drop) (omega arith))

module _
    (o : OutputLine) (one two part buffer : List ℕ) (r : ℕ) (printable : Printable o) (whole : length buffer ≡ 110)
    (number : one ≡ right (length (mid_of 0 6 buffer)) (decimal o.line))
    (answer : two ≡ right (length (mid_of 6 4 (one ++ post_of 0 6 buffer))) (decimal o.answer))
    (length_row : r ≡ length (flat_map value_text (values_of o.values))) (short : r ≤ 99)
    (row : part ≡ flat_map value_text (values_of o.values) ++ drop r (mid_of 10 100 (put_mid 6 4 (one ++ post_of 0 6 buffer) two)))
  where
    first : one ≡ right 6 (decimal o.line)
    first = number ∙ ap (λ w. right w (decimal o.line)) (mid_length 0 6 buffer (omega arith))

    length_first : length one ≡ 6
    length_first = let h = printable.line in ap length first ∙ length_number 6 o.line (omega arith) (omega arith) (omega arith)

    second : two ≡ right 4 (decimal o.answer)
    second = answer ∙ ap (λ w. right w (decimal o.answer)) (second_length one buffer length_first whole)

    length_second : length two ≡ 4
    length_second = let h = printable.answer in ap length second ∙ length_number 4 o.answer (omega arith) (omega arith) (omega arith)

    length_front : length (one ++ two) ≡ 10
    length_front = let f = length_first in let s = length_second in simp length-append (omega arith)

    line_is : line_text o ≡ (one ++ two) ++ flat_map value_text (values_of o.values) ++ (10 ∷ [])
    unfolding line_text
    line_is =
        ap (λ l. l ++ right 4 (decimal o.answer) ++ flat_map value_text (values_of o.values) ++ (10 ∷ [])) (sym first)
        ∙ ap (λ l. one ++ l ++ flat_map value_text (values_of o.values) ++ (10 ∷ [])) (sym second)

    line_length : 10 + r + 1 ≡ length (line_text o)
    line_length =
        let f = length_first in
        let s = length_second in
        let l : 10 + r + 1 ≡ length ((one ++ two) ++ flat_map value_text (values_of o.values) ++ (10 ∷ [])) = simp length-append (omega arith) in
        l ∙ sym (ap length line_is)

    pub line_written : (10 + r + 1 ≡ length (line_text o))
        × (set (put_mid 10 100 (put_mid 6 4 (one ++ post_of 0 6 buffer) two) part) (10 + r) 10 ≡ line_text o ++ drop (length (line_text o)) buffer)
    line_written = (
      line_length,
      ended (one ++ two) (flat_map value_text (values_of o.values)) part (put_mid 6 4 (one ++ post_of 0 6 buffer) two) buffer 10 100 r 10 length_front
          (sym length_row) whole (omega arith) (appended one two buffer 6 4 length_first) row
          ∙ ap (λ l. l ++ drop (10 + r + 1) buffer) (sym line_is) ∙ ap (λ n. line_text o ++ drop n buffer) line_length,
    )
