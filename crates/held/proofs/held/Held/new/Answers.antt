use Rattle.std.proofs.Common.{◌≡◌, ◌+◌, ◌≤◌, min, length, vec_items, refl, ap, ◌∙◌, arith}
use Rattle.index.specs.Map.{room}
use Rattle.index.specs.View.{view, nodes, slots}
use Rattle.held.specs.View.{holdings}
use Rattle.held.proofs.Fresh.{whole_new, size_cut}
use Rattle.held.proofs.held.Held.new.Goals as goal

pub invariant_of-result : goal.invariant_of-result
invariant_of-result c =
    let x = c.new-index.result in
    let t = vec_items c.free_all.new.table in
    let v = c.in_ok-table.table.ok.0 in
    let size = c.min-size.result in
    let made = c.in_ok-table.ensures in
    let n = made.len in
    let long : length t ≡ size + 2 = omega (arith, c.free_all.ensures.len) in
    let is : size ≡ min c.min.result c.room.result = c.min-size.ensures in
    let small : size ≤ 4096 = omega (arith, c.min.ensures) in
    let roomy : size ≤ room (slots x) (nodes x) = omega (arith, c.room.ensures) in
    record { whole = ∣ whole_new size t (view x) (slots x) (nodes x) c.free_all.ensures.rings small long roomy c.new-index.ensures.none ∣₁ }

pub returns : goal.returns
unfolding holdings
returns c =
    let x = c.new-index.result in
    let z = c.new-index.ensures in (
      refl,
      c.min-size.ensures
          ∙ (ap (λ k. min k c.room.result) c.min.ensures
          ∙ (ap (min (min c.args.most 4096)) c.room.ensures
          ∙ size_cut c.args.most (length (vec_items c.args.memory.slots)) (length (vec_items c.args.memory.nodes)) (slots x) (nodes x) z.slots z.nodes)),
    )
