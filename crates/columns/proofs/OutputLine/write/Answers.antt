use Rattle.std.proofs.Common.{ℕ, ◌<◌, ◌++◌, length, decimal, ap, ◌∙◌, arith, rules}
use borrow.Rule.Slice.PartMut.{mid_of, post_of}
use Rattle.std.proofs.lemmas.Fmt.{length-decimal-le}
use Rattle.columns.specs.Columns.{right, Printable}
use Rattle.columns.proofs.Apart.{same_from_line}
use Rattle.columns.proofs.Lines.{mid_length, second_length, line_written}
use Rattle.columns.proofs.OutputLine.write.Goals as goal

pub put_number-requires : goal.put_number-requires
put_number-requires c =
    let low : c.from.result < 65536 = search rules in
    omega (arith, mid_length 0 6 c.args.buffer.now (omega arith), length-decimal-le 6 c.from.result (omega arith) (omega arith) (omega arith))

pub put_number-requires-2 : goal.put_number-requires-2
put_number-requires-2 c =
    let low : c.from-2.result < 256 = search rules in
    let l6 = mid_length 0 6 c.args.buffer.now (omega arith) in
    let l4 = second_length c.put_number.new.field c.args.buffer.now (omega arith) (omega arith) in
    omega (arith, length-decimal-le 4 c.from-2.result (omega arith) (omega arith) (omega arith))

pub returns : goal.returns
returns c =
    let self = c.args.self.now in
    let fits : Printable self = record { line = search rules; answer = search rules; values = c.put_values-end.ensures.fits } in
    let buffer = c.args.buffer.now in
    let one = c.put_number.new.field in
    let number = c.put_number.ensures ∙ ap (λ (n : ℕ). right (length (mid_of 0 6 buffer)) (decimal n)) c.from.ensures in
    let answer = c.put_number-2.ensures ∙ ap (λ (n : ℕ). right (length (mid_of 6 4 (one ++ post_of 0 6 buffer))) (decimal n)) c.from-2.ensures in
    let values = c.put_values-end.ensures in
    let line = line_written self one c.put_number-2.new.field c.put_values-end.new.buffer buffer c.put_values-end.result fits (omega arith) number
    answer values.length values.short values.bytes in
    record { within = omega (arith, values.short); length = line.0; bytes = line.1; apart = λ other printable same. same_from_line other self printable fits same }
