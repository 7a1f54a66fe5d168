use Rattle.index.specs.Sound.{records_of}
use Rattle.index.proofs.Meaning.{view_empty, level}
use Rattle.index.proofs.index.Index.new.Goals as goal

pub invariant_of-result : goal.invariant_of-result
invariant_of-result g c = record { whole = ∣ c.new.ensures.whole ∣₁ }

pub returns : goal.returns
returns g c =
    let t = c.new.result in
    let z = c.new.ensures in
    record { none = view_empty t (records_of t) z.whole (level t) z.none; nodes = z.nodes; slots = z.slots }
