use Rattle.std.proofs.Common.{ℕ, length, ap, ◌∙◌}
use Rattle.std.specs.Prelude.{decimal}
use Rattle.columns.specs.Columns.{right}
use Rattle.columns.proofs.Appends.{up_to_end}
use Rattle.columns.proofs.put_number.Goals as goal

pub returns : goal.returns
returns c =
    let w = length c.args.field.now in
    let blank = c.fill.ensures.after (λ y p. p) in
    up_to_end w c.write_digits.result c.fill.new.self (decimal c.from.result) c.write_digits.new.buf blank
    c.write_digits.ensures.start c.write_digits.ensures.before c.write_digits.ensures.written
    ∙ ap (λ (n : ℕ). right w (decimal n)) c.from.ensures
