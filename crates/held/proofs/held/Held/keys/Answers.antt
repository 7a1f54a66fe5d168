use Rattle.std.proofs.Common.{ap, ◌∙◌, arith}
use Rattle.held.specs.Walks.{keys_from}
use Rattle.held.proofs.Facts.{whole}
use Rattle.held.proofs.Walking.{oldest_place, all_keys}
use Rattle.held.proofs.held.Held.keys.Goals as goal

pub index-requires : goal.index-requires
index-requires c =
    let h = c.args.self.now in
    let v = h.table.ok.0 in
    omega (arith, (whole h).long)

pub returns : goal.returns
returns c =
    let h = c.args.self.now in
    let place = c.index.result.now.newer in
    ap (λ t. keys_from t place h.count) c.deref.ensures.value ∙ all_keys h place (oldest_place h c.index.result.now c.index.ensures)
