use Rattle.std.proofs.Common.{◌<◌, length, refl, ap, arith, rules}
use Rattle.std.proofs.lemmas.List.{length-drop}
use Rattle.script.proofs.Rows.{first_line, later_lines, fewer_lines}
use Rattle.script.proofs.lines.ScriptIterator.next.Goals as goal

pub returns-clause-steps : goal.returns-clause-steps
returns-clause-steps c =
    let s = c.args.self.now.rest.now in
    let some : 0 < length s = search rules in
    record {
      value = first_line s _ some c.cut.ensures.text;
      after = later_lines s _ some c.cut.ensures.rest;
      number = (refl, refl);
      lines = refl;
      end = let l = simp length-drop at (ap length c.cut.ensures.rest) in omega arith;
      level = refl;
    }

pub returns-clause-goes : goal.returns-clause-goes
returns-clause-goes c =
    let s = c.args.self.now.rest.now in
    let some : 0 < length s = search rules in
    record { on = λ _. (tt, tt, fewer_lines s _ some c.cut.ensures.rest); keeps = tt; rests = λ _. tt }
