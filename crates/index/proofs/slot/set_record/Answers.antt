use Rattle.std.proofs.Common.{◌<◌, length, vec_items, arith}
use Rattle.std.proofs.lemmas.List.{length-map}
use Rattle.index.proofs.Heads.{record_heads, record_set}
use Rattle.index.proofs.slot.set_record.Goals as goal

pub index_mut-requires : goal.index_mut-requires
index_mut-requires g c =
    let v = c.args.slots.now.ok.0 in
    omega (arith, length-map (vec_items c.args.slots.now) (λ s. s.head))

pub returns : goal.returns
returns g c =
    let ss = vec_items c.args.slots.now in
    let l : c.args.slot < length ss = omega (arith, length-map ss (λ s. s.head)) in
    let old = c.index_mut.result.now in
    let e = c.index_mut.ensures.value in
    record { heads = record_heads ss c.args.slot old l e c.args.value; values = record_set ss c.args.slot old l e c.args.value }
