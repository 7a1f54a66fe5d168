use Rattle.std.proofs.Common.{◌≡◌, ◌<◌, length, get_or, None, ap, ◌∙◌, arith, below_more}
use Rattle.std.proofs.lemmas.List.{get_or_default}
use Rattle.index.specs.declared.slot.Head.{Head}
use Rattle.index.specs.Slots.{key_mark}
use Rattle.index.proofs.Heads.{head_here, head_rest}
use Rattle.index.proofs.make.clear_slots.Goals as goal

pub loop-i-preserved : goal.loop-i-preserved
loop-i-preserved g c =
    let ss = c.loop-i.slot-items in
    let i = c.loop-i.i in
    let old = get_or ss i c.slot-item.result in
    let l : i < length ss = omega arith in
    let e : old ≡ get_or ss i old = get_or_default ss i c.slot-item.result old l in
    let h : Head = record { key = None; parent = 0; free = i } in
    record {
      marks = below_more _ _ (λ j jl. ap (λ x. key_mark x.key) (head_rest ss i old l e h j (omega arith)) ∙ c.loop-i.invariant.marks j jl) (ap (λ x. key_mark x.key) (head_here ss i old l e h));
      frees = below_more _ _ (λ j jl. ap (λ x. x.free) (head_rest ss i old l e h j (omega arith)) ∙ c.loop-i.invariant.frees j jl) (ap (λ x. x.free) (head_here ss i old l e h));
    }
