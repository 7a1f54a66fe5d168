use Rattle.std.proofs.Common.{vec_items, arith}
use Rattle.std.proofs.lemmas.List.{length-map}
use Rattle.index.proofs.tree.Tree.slot_count.Goals as goal

pub returns : goal.returns
returns g c =
    let v = c.args.self.now.slots.ok.0 in
    omega (arith, length-map (vec_items c.args.self.now.slots) (λ s. s.head))
