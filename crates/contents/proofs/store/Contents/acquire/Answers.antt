use Rattle.std.proofs.Common.{◌≡◌, length, sym, ap, ◌∙◌}
use Rattle.contents.specs.Calls.{Absent, LaidDown}
use Rattle.contents.specs.View.{users_of, contents_area}
use Rattle.contents.proofs.Facts.{size_paged}
use Rattle.contents.proofs.Outcomes.{told_absent}
use Rattle.contents.proofs.store.Contents.acquire.Goals as goal

pub returns-in-None : goal.returns-in-None
returns-in-None c =
    let self = c.args.self.now in
    let after = c.store.new.self in
    let page = c.args.page.now in
    let same : c.in_ok-page.page.bytes.now ≡ page = c.in_ok-page.ensures in
    let whole : length page ≡ 256 = sym (ap length same) ∙ c.in_ok-page.page.whole in
    let absent : Absent (users_of self) (contents_area self) page = rw same at c.in-None.ensures in
    let laid : LaidDown (users_of self) (contents_area self) page c.store.result (users_of after) (contents_area after) = rw same at c.store.ensures in
    let t = told_absent (users_of self) (contents_area self) page (size_paged self) absent whole c.store.result (users_of after) (contents_area after) laid in
    record { outcome = t.outcome; same_size = t.same_size; same_length = t.same_length; holds = t.holds; others = t.others }
