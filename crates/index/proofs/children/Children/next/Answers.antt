use Rattle.std.proofs.Common.{◌+◌, ◌/◌, ◌^◌, refl, arith}
use lib.Count.{count_trailing_zeros}
use Rattle.index.proofs.Masks.{agreed, next_none, next_some}
use Rattle.index.proofs.children.Children.next.Goals as goal

pub returns-then-step-lt16 : goal.returns-then-step-lt16
returns-then-step-lt16 c =
    let s = c.args.self.now in
    next_some s.mask c.args.from (c.args.from + count_trailing_zeros 32 (s.mask / 2 ^ c.args.from)) s.items (agreed s.agrees) refl (omega arith)

pub returns-else-step-lt16 : goal.returns-else-step-lt16
returns-else-step-lt16 c =
    let s = c.args.self.now in
    next_none s.mask c.args.from s.items (agreed s.agrees) (omega arith)
