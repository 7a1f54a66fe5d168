use Rattle.std.proofs.Common.{◌+◌, vec_items, ◌∙◌, arith}
use Rattle.held.specs.Records.{older_in, newer_in}
use Rattle.held.proofs.Fresh.{rings_more}
use Rattle.held.proofs.Links.{end_within}
use Rattle.held.proofs.make.free_all.Goals as goal

pub link_before-requires : goal.link_before-requires
link_before-requires c =
    let v = c.loop-place.table.ok.0 in
    let e = c.loop-place.invariant.0 in
    let w = (end_within (c.args.size + 2) c.loop-place.invariant.1 (omega arith) (omega arith)).0 in
    record { place_within = omega arith; end_within = omega arith; older_within = omega arith }

pub loop-place-preserved : goal.loop-place-preserved
loop-place-preserved c =
    let t = vec_items c.loop-place.table in
    let t' = vec_items c.link_before.new.table in
    let z = c.link_before.ensures in
    (z.len ∙ c.loop-place.invariant.0, rings_more (newer_in t) (older_in t) (newer_in t') (older_in t') c.args.size c.loop-place.place c.loop-place.invariant.1 (omega arith) z.links)
