use Rattle.std.proofs.Common.{◌-◌, ◌*◌, ◌%◌, ◌^◌, set, ap, arith}
use lib.Bits.{bit_and}
use Rattle.std.proofs.lemmas.Nat.{one_shl, pow_below}
use Rattle.std.proofs.lemmas.List.{get_or-set_same, get_or-set_other}
use Rattle.index.proofs.Masks.{agreed, agrees_clear}
use Rattle.index.proofs.children.Children.clear.Goals as goal

pub invariant_of-self : goal.invariant_of-self
invariant_of-self c =
    let old = c.args.self.now in
    record {
      agrees = ∣ agrees_clear old.mask (bit_and old.mask (2 ^ 32 - 1 - (1 * 2 ^ c.args.step) % 2 ^ 32)) c.args.step old.items (set old.items c.args.step 0) (omega arith)
          (ap (λ x. bit_and old.mask (2 ^ 32 - 1 - x)) (one_shl c.args.step 32 (omega arith))) (pow_below c.args.step 32 (omega arith)) (get_or-set_same old.items c.args.step 0 0 (omega arith))
          (λ d ne. get_or-set_other old.items c.args.step d 0 0 ne) (agreed old.agrees) ∣₁;
    }
