use Rattle.std.proofs.Common.{◌*◌, ◌%◌, ◌^◌, set, sym, ap, ◌∙◌, arith}
use lib.Bits.{bit_or}
use Rattle.std.proofs.lemmas.Nat.{one_shl}
use Rattle.std.proofs.lemmas.List.{get_or-set_same, get_or-set_other}
use Rattle.index.proofs.Masks.{agreed, agrees_set}
use Rattle.index.proofs.children.Children.set.Goals as goal

pub invariant_of-self : goal.invariant_of-self
invariant_of-self c =
    let old = c.args.self.now in
    record {
      agrees = ∣ agrees_set old.mask (bit_or old.mask ((1 * 2 ^ c.args.step) % 2 ^ 32)) c.args.step old.items (set old.items c.args.step c.args.item)
          (ap (bit_or old.mask) (one_shl c.args.step 32 (omega arith))) (λ q. c.requires.some (sym (get_or-set_same old.items c.args.step c.args.item 0 (omega arith)) ∙ q))
          (λ d ne. get_or-set_other old.items c.args.step d c.args.item 0 ne) (agreed old.agrees) ∣₁;
    }
