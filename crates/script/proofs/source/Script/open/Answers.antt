use Rattle.std.proofs.Common.{◌≡◌, sym, ap, ◌∙◌}
use Rattle.script.specs.Lines.{script_level}
use Rattle.script.proofs.Rows.{lines_law, level_by_line}
use Rattle.script.proofs.source.Script.open.Goals.{in-Ok, in-Err}
use Rattle.script.proofs.source.Script.open.Goals as goal

pub returns-then-bytes-gt-SCRIPT_BYTES-clause-law : goal.returns-then-bytes-gt-SCRIPT_BYTES-clause-law
returns-then-bytes-gt-SCRIPT_BYTES-clause-law c = lines_law c.args.bytes.now

pub returns-clause-level : goal.returns-clause-level
returns-clause-level c =
    let read : c.try_from.result ≡ script_level c.args.bytes.now
    = c.try_from.ensures ∙ level_by_line c.args.bytes.now _ c.if-bytes-gt-SCRIPT_BYTES.false c.cut.ensures.text in
    elim c.match-try_from.branch [
      | in-Ok w ↦ ap (λ r. r.0) w.result-is ∙ sym w.in-Ok.is ∙ read
      | in-Err w ↦ ap (λ r. r.0) w.result-is ∙ w.refused-in-Err.ensures.level ∙ sym w.in-Err.is ∙ read
    ]

pub returns-clause-law : goal.returns-clause-law
returns-clause-law c = lines_law c.args.bytes.now
