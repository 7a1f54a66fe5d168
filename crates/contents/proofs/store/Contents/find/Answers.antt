use Rattle.std.proofs.Common.{length, ap, arith}
use Rattle.contents.specs.Calls.{Absent}
use Rattle.contents.specs.View.{users_of, contents_area}
use Rattle.contents.proofs.Facts.{page_length}
use Rattle.contents.proofs.store.Contents.find.Goals as goal

-- every content is as long as a page
pub returns-in_err-new : goal.returns-in_err-new
returns-in_err-new c =
    let self = c.args.self.now in
    let absent : Absent (users_of self) (contents_area self) c.args.page.now = λ i holds.
    let e = ap length holds.same in
    c.in_err-new.ensures (omega (arith, page_length self i holds.within)) in
    rw c.from_residual.ensures absent
