use Rattle.std.proofs.Common.{◌<◌, length, vec_items, refl, ap, arith}
use Rattle.std.proofs.lemmas.List.{length-map}
use Rattle.index.specs.declared.slot.Head.{Head}
use Rattle.index.specs.Slots.{key_mark}
use Rattle.index.proofs.Heads.{head_here, head_rest, head_field, head_len, head_records}
use Rattle.index.proofs.slot.set_key.Goals as goal

pub index_mut-requires : goal.index_mut-requires
index_mut-requires g c =
    let v = c.args.slots.now.ok.0 in
    omega (arith, length-map (vec_items c.args.slots.now) (λ s. s.head))

pub returns : goal.returns
returns g c =
    let ss = vec_items c.args.slots.now in
    let l : c.args.slot < length ss = omega (arith, length-map ss (λ s. s.head)) in
    let old = c.index_mut.result.now in
    let e = c.index_mut.ensures.value in
    let h : Head = record { key = c.args.key; parent = c.args.parent; free = old.head.free } in
    record {
      mark_here = ap (λ x. key_mark x.key) (head_here ss c.args.slot old l e h);
      mark_rest = λ j ne. ap (λ x. key_mark x.key) (head_rest ss c.args.slot old l e h j ne);
      here = ap (λ x. x.parent) (head_here ss c.args.slot old l e h);
      rest = λ j ne. ap (λ x. x.parent) (head_rest ss c.args.slot old l e h j ne);
      frees = head_field ss c.args.slot old l e h (λ x. x.free) refl;
      len = head_len ss c.args.slot old l e h;
      values = head_records ss c.args.slot old l e h;
    }
