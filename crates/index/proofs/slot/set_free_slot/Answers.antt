use Rattle.std.proofs.Common.{◌<◌, length, vec_items, refl, ap, arith}
use Rattle.std.proofs.lemmas.List.{length-map}
use Rattle.index.specs.declared.slot.Head.{Head}
use Rattle.index.specs.Slots.{key_mark}
use Rattle.index.proofs.Heads.{head_here, head_rest, head_field, head_len, head_records}
use Rattle.index.proofs.slot.set_free_slot.Goals as goal

pub index_mut-requires : goal.index_mut-requires
index_mut-requires g c =
    let v = c.args.slots.now.ok.0 in
    omega (arith, length-map (vec_items c.args.slots.now) (λ s. s.head))

pub returns : goal.returns
returns g c =
    let ss = vec_items c.args.slots.now in
    let l : c.args.at < length ss = omega (arith, length-map ss (λ s. s.head)) in
    let old = c.index_mut.result.now in
    let e = c.index_mut.ensures.value in
    let h : Head = record { key = old.head.key; parent = old.head.parent; free = c.args.slot } in
    record {
      marks = head_field ss c.args.at old l e h (λ x. key_mark x.key) refl;
      parents = head_field ss c.args.at old l e h (λ x. x.parent) refl;
      here = ap (λ x. x.free) (head_here ss c.args.at old l e h);
      rest = λ j ne. ap (λ x. x.free) (head_rest ss c.args.at old l e h j ne);
      len = head_len ss c.args.at old l e h;
      values = head_records ss c.args.at old l e h;
    }
