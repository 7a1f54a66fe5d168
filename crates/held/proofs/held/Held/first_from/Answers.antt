use Rattle.std.proofs.Common.{is_some, None, sym, ap, ◌∙◌, subst, arith}
use Rattle.index.specs.Map.{look}
use Rattle.index.specs.View.{view}
use Rattle.held.specs.Holdings.{FirstHeld}
use Rattle.held.specs.View.{holdings}
use Rattle.held.proofs.Facts.{filed_places}
use Rattle.held.proofs.held.Held.first_from.Goals as goal

pub returns-in_err-number : goal.returns-in_err-number
returns-in_err-number c =
    let h = c.args.self.now in
    let f = c.in_err-number.ensures.first in
    let none : FirstHeld c.args.key.number (holdings h) None = λ q l. sym (filed_places h q) ∙ f q (let e = c.from.ensures in omega arith) in
    subst (FirstHeld c.args.key.number (holdings h)) (sym c.from_residual.ensures) none

pub returns : goal.returns
returns c =
    let h = c.args.self.now in
    let f = c.in_ok-number.ensures.first in
    let e = c.from.ensures in
    let is = c.from-2.ensures.value in
    let low = f.0 in (
      omega arith,
      ap is_some (sym (filed_places h c.from-2.result.number)) ∙ (ap (λ k. is_some (look k (view h.index))) is ∙ f.1),
      (λ q l u. sym (filed_places h q) ∙ f.2 q (omega arith) (omega arith)),
    )
