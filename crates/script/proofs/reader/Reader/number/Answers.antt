use Rattle.std.proofs.Common.{◌≡◌, Some, None, sym, ◌∙◌, arith}
use Rattle.std.proofs.lemmas.Result.{err_from_is_err_and}
use Rattle.command.specs.declared.commands.LineRefusal.TheVariants.{BadField}
use Rattle.tokens.specs.Spans.{left}
use Rattle.script.proofs.Fields.{number_by_token}
use Rattle.script.proofs.reader.Reader.number.Goals as goal

pub returns : goal.returns
returns c =
    let t = c.args.self.now.tokens in
    let e = c.next_value.ensures in
    let some : c.next_value.result ≡ Some c.in_ok-value.value = grind arith in
    number_by_token (left t.rest) (left c.next_value.new.self.rest) t.place _ _ (sym some ∙ e.value) e.after

pub returns-in_err-value : goal.returns-in_err-value
returns-in_err-value c =
    let t = c.args.self.now.tokens in
    let e = c.next_value.ensures in
    let p = err_from_is_err_and c.from_residual.result c.from_residual.ensures.1 in
    let none : c.next_value.result ≡ None = grind arith in
    let refusal : c.in_err-value.field-0.0 ≡ BadField c.args.self.now.field = grind arith in
    rw (p.1, p.2, refusal) (number_by_token (left t.rest) (left c.next_value.new.self.rest) t.place _ _ (sym none ∙ e.value) e.after)
