use Rattle.std.proofs.Common.{Some, sym, ap, ◌∙◌}
use Rattle.index.specs.Sound.{records_of}
use Rattle.index.proofs.Unique.{kept}
use Rattle.index.proofs.Meaning.{view_look, view_none, level}
use Rattle.index.proofs.index.Index.find.Goals as goal

pub find-requires : goal.find-requires
find-requires g c = (kept c.args.self.now.whole).sound

pub returns : goal.returns
returns g c =
    let t = c.args.self.now.tree in
    let f = c.in_ok-slot.ensures in
    sym (view_look t (records_of t) (kept c.args.self.now.whole) (level t) c.args.key c.in_ok-slot.slot c.record_at.result f.0 f.1
    ∙ ap Some (sym c.record_at.ensures))

pub returns-in_err-slot : goal.returns-in_err-slot
returns-in_err-slot g c =
    let t = c.args.self.now.tree in
    c.from_residual.ensures ∙ sym (view_none t (records_of t) (kept c.args.self.now.whole) (level t) c.args.key c.in_err-slot.ensures)
