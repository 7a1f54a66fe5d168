use Rattle.std.proofs.Common.{◌≡◌, Some, None, sym, ◌∙◌, arith}
use Rattle.std.proofs.lemmas.Result.{err_from_is_err_and}
use Rattle.command.specs.declared.commands.LineRefusal.TheVariants.{UnknownLetter}
use Rattle.script.specs.Reading.{read_line}
use Rattle.tokens.specs.Spans.{left}
use Rattle.script.proofs.Exact.{exact_reading}
use Rattle.script.proofs.Fields.{line_by_letter}
use Rattle.script.proofs.reading.read_line.Goals as goal

pub returns : goal.returns
returns c =
    let t = c.new-tokens.result in
    let e = c.next_letter.ensures in
    let some : c.next_letter.result ≡ Some c.in_ok-letter.letter = grind arith in
    let value : c.whole_command.result ≡ read_line c.args.line.now
    = c.whole_command.ensures
    ∙ line_by_letter c.args.line.now (left t.rest) (left c.next_letter.new.self.rest) t.place _
    c.new-tokens.ensures.rest (sym some ∙ e.value) e.after in
    record { value = value; exact = exact_reading c.args.line.now _ value }

pub returns-in_err-letter : goal.returns-in_err-letter
returns-in_err-letter c =
    let t = c.new-tokens.result in
    let e = c.next_letter.ensures in
    let p = err_from_is_err_and c.from_residual.result c.from_residual.ensures.1 in
    let none : c.next_letter.result ≡ None = grind arith in
    let refusal : c.in_err-letter.field-0.0 ≡ UnknownLetter = grind arith in
    let value : c.from_residual.result ≡ read_line c.args.line.now
    = rw (p.1, p.2, refusal)
    (line_by_letter c.args.line.now (left t.rest) (left c.next_letter.new.self.rest) t.place _
    c.new-tokens.ensures.rest (sym none ∙ e.value) e.after) in
    record { value = value; exact = exact_reading c.args.line.now _ value }
