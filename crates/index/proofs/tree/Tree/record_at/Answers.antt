use Rattle.std.proofs.Common.{◌<◌, length, vec_items, arith}
use Rattle.std.proofs.lemmas.List.{length-map}
use Rattle.index.proofs.Heads.{record_was}
use Rattle.index.proofs.tree.Tree.record_at.Goals as goal

pub index-requires : goal.index-requires
index-requires g c =
    let v = c.args.self.now.slots.ok.0 in
    omega (arith, length-map (vec_items c.args.self.now.slots) (λ s. s.head))

pub returns : goal.returns
returns g c =
    let ss = vec_items c.args.self.now.slots in
    let l : c.args.slot < length ss = omega (arith, length-map ss (λ s. s.head)) in
    record_was ss c.args.slot c.index.result.now l c.index.ensures
