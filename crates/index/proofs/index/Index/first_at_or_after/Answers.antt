use Rattle.std.proofs.Common.{sym, subst}
use Rattle.index.specs.Slots.{marks}
use Rattle.index.specs.Sound.{heads_of, records_of}
use Rattle.index.proofs.Unique.{kept}
use Rattle.index.specs.Map.{FirstFrom}
use Rattle.index.specs.View.{view, pairs}
use Rattle.index.proofs.Meaning.{view_next, level}
use Rattle.index.proofs.Views.{first_from, rises_sorted}
use Rattle.index.proofs.index.Index.first_at_or_after.Goals as goal

pub first_at_or_after-requires : goal.first_at_or_after-requires
first_at_or_after-requires g c = (kept c.args.self.now.whole).sound

pub returns : goal.returns
returns g c =
    let t = c.args.self.now.tree in
    let v = view c.args.self.now in
    let e = view_next t (records_of t) (kept c.args.self.now.whole) (level t) c.args.key c.first_at_or_after.result c.first_at_or_after.ensures in
    record { value = e; first = subst (FirstFrom c.args.key v) (sym e) (first_from c.args.key v (rises_sorted (pairs (marks (heads_of t)) (records_of t)))) }
