use Rattle.std.proofs.Common.{◌≡◌, ℕ, ◌^◌, ◌<◌, false, List, length, Some, Ok, sym, ap, ◌∙◌, subst, rules}
use Rattle.std.proofs.lemmas.Result.{err_from_is_err_and}
use Rattle.std.proofs.lemmas.Bool.{cond-true, eq-eqb}
use Rattle.backend.specs.Moves.{Moved}
use Rattle.backend.specs.Outcomes.{granted_unless, is_page}
use Rattle.backend.specs.Rules.{held}
use Rattle.backend.proofs.Moving.{some_copied, none_found, same_found, granted, not_granted, missed, arrives, is_refused}
use Rattle.backend.proofs.moves.move_page.Goals as goal

pub returns-then-not-branch : goal.returns-then-not-branch
returns-then-not-branch g c =
    let R = g.B.Backend.rules in
    let m = g.met.B.Backend.keeps in
    let b = c.args.backend.now in
    let s = g.B.Backend.state b in
    let from = c.args.from.number in
    let to = c.args.to.number in
    let found = same_found _ _ c.get.result c.get.ensures.answer c.in_ok-get.was ∙ c.if-not-branch.true in
    subst (λ (t : List ℕ). Moved R s t from to (Ok false)) (sym c.get.ensures.after)
    (missed R m s (g.met.B.Backend.valid b) from to (none_found (held R s from) found))

pub returns-in_err-put : goal.returns-in_err-put
returns-in_err-put g c =
    let R = g.B.Backend.rules in
    let m = g.met.B.Backend.keeps in
    let b = c.args.backend.now in
    let s = g.B.Backend.state b in
    let from = c.args.from.number in
    let to = c.args.to.number in
    let page = c.get.new.out in
    let found = same_found _ _ c.get.result c.get.ensures.answer c.in_ok-get.was ∙ c.if-not-branch.false in
    let was : held R s from ≡ Some page = some_copied (held R s from) _ found ∙ ap (λ (p : List ℕ). Some p) (sym c.get.ensures.buffer) in
    let fits : to < 2 ^ 32 = search rules in
    let whole : length page ≡ 256 = c.get.auto.out in
    let is = eq-eqb (length page) 256 whole in
    let dropped = c.drop_page.ensures ∙ ap (λ (t : List ℕ). R.drop_page_next t from) c.get.ensures.after in
    let offered = c.put.ensures.after ∙ cond-true (is_page page) _ _ is ∙ ap (λ (t : List ℕ). R.put_next t to page) dropped in
    let answer = c.put.ensures.answer ∙ cond-true (is_page page) _ _ is ∙ ap (λ (t : List ℕ). granted_unless (R.put_refusal t to page)) dropped in
    let none = not_granted _ _ c.put.result answer c.in_err-put.was in
    let exit = err_from_is_err_and c.from_residual-in_err-put.result c.from_residual-in_err-put.ensures.1 in
    rw (exit.1, exit.2, offered) (is_refused R m s (g.met.B.Backend.valid b) from to page was fits whole _ none)

pub returns : goal.returns
returns g c =
    let R = g.B.Backend.rules in
    let m = g.met.B.Backend.keeps in
    let b = c.args.backend.now in
    let s = g.B.Backend.state b in
    let from = c.args.from.number in
    let to = c.args.to.number in
    let page = c.get.new.out in
    let found = same_found _ _ c.get.result c.get.ensures.answer c.in_ok-get.was ∙ c.if-not-branch.false in
    let was : held R s from ≡ Some page = some_copied (held R s from) _ found ∙ ap (λ (p : List ℕ). Some p) (sym c.get.ensures.buffer) in
    let fits : to < 2 ^ 32 = search rules in
    let whole : length page ≡ 256 = c.get.auto.out in
    let is = eq-eqb (length page) 256 whole in
    let dropped = c.drop_page.ensures ∙ ap (λ (t : List ℕ). R.drop_page_next t from) c.get.ensures.after in
    let offered = c.put.ensures.after ∙ cond-true (is_page page) _ _ is ∙ ap (λ (t : List ℕ). R.put_next t to page) dropped in
    let answer = c.put.ensures.answer ∙ cond-true (is_page page) _ _ is ∙ ap (λ (t : List ℕ). granted_unless (R.put_refusal t to page)) dropped in
    let none = granted _ c.put.result answer c.in_ok-put.was in
    rw offered (arrives R m s (g.met.B.Backend.valid b) from to page was fits whole none)
