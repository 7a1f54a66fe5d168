use Rattle.std.proofs.Common.{◌≡◌, ◌+◌, Some, None, sym, ap, ◌∙◌, subst, arith}
use Rattle.held.specs.Holdings.{keys, FirstHeld}
use Rattle.held.specs.Pools.{between}
use Rattle.held.specs.View.{holdings}
use Rattle.held.proofs.Counts.{between_empty, between_first, between_first_none, between_first_past}
use Rattle.held.proofs.Facts.{keys_apart}
use Rattle.held.proofs.held.Held.first_between.Goals as goal

pub returns-then-from-end : goal.returns-then-from-end
returns-then-from-end c = between_empty (keys (holdings c.args.self.now)) c.args.from c.args.end (omega arith)

pub returns-in_err-key : goal.returns-in_err-key
returns-in_err-key c =
    let H = holdings c.args.self.now in
    let f = subst (λ k. FirstHeld k H None) c.from.ensures.value c.in_err-key.ensures in
    rw c.from_residual.ensures (between_first_none H c.args.from c.args.end f)

pub returns-then-number-end : goal.returns-then-number-end
returns-then-number-end c =
    let h = c.args.self.now in
    let H = holdings h in
    let key = c.in_ok-key.key in
    let f = subst (λ k. FirstHeld k H (Some key)) c.from.ensures.value c.in_ok-key.ensures in
    let is : key.number ≡ c.from-number.result = sym (c.from-number.ensures ∙ c.from-2.ensures) in
    let low = f.0 in (
      omega arith,
      c.if-number-end.true,
      between_first H c.args.from c.args.end key (keys_apart h) f (omega arith) ∙ ap (λ k. 1 + between (keys H) (k + 1) c.args.end) is,
    )

pub returns-else-number-end : goal.returns-else-number-end
returns-else-number-end c =
    let H = holdings c.args.self.now in
    let key = c.in_ok-key.key in
    let f = subst (λ k. FirstHeld k H (Some key)) c.from.ensures.value c.in_ok-key.ensures in
    between_first_past H c.args.from c.args.end key f (omega arith)
