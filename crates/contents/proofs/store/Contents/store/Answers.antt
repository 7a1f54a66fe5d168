use Rattle.std.proofs.Common.{◌<◌, vec_items, refl, arith}
use Rattle.page.specs.Memory.{area_of, pages_in}
use Rattle.contents.specs.View.{users_of, contents_area}
use Rattle.contents.proofs.Columns.{fingerprints_set, users_set}
use Rattle.contents.proofs.Facts.{size_is, size_limit, size_paged, whole_of}
use Rattle.contents.proofs.InUse.{in_use_le, in_use_all, in_use_lt}
use Rattle.contents.proofs.Keeping.{laid_in, taken_in, whole_stored}
use Rattle.contents.proofs.store.Contents.store.Goals as goal

pub returns-in_err-content : goal.returns-in_err-content
returns-in_err-content c = let self = c.args.self.now in rw c.from_residual.ensures (in_use_all (users_of self) c.in_err-content.ensures, refl, refl)

pub unwrap-requires : goal.unwrap-requires
unwrap-requires c =
    let self = c.args.self.now in
    let page = c.args.page.now in
    let exists : c.in_ok-content.content < pages_in (contents_area self) = omega (arith, c.in_ok-content.ensures.0, size_paged self) in
    rw (taken_in (contents_area self) c.in_ok-content.content page.bytes.now exists page.whole c.write.result c.write.ensures.answer) refl

pub index_mut-requires : goal.index_mut-requires
index_mut-requires c = omega (arith, c.in_ok-content.ensures.0, size_is c.args.self.now)

pub overflow_add-self : goal.overflow_add-self
overflow_add-self c =
    let self = c.args.self.now in
    let w = (whole_of self).counted in
    let s = size_limit self in
    omega (arith, in_use_le (users_of self))

pub invariant_of-self : goal.invariant_of-self
invariant_of-self c =
    let self = c.args.self.now in
    let page = c.args.page.now in
    let i = c.in_ok-content.content in
    let h = c.in_ok-content.ensures in
    let exists : i < pages_in (contents_area self) = omega (arith, h.0, size_paged self) in
    let laid = laid_in (contents_area self) i page.bytes.now exists page.whole c.write.result c.write.ensures.answer (area_of c.write.new.self) c.write.ensures.area in
    record { whole = ∣ rw (users_set, fingerprints_set, laid, page.printed) (whole_stored (whole_of self) page.bytes.now i h.0 h.1 c.requires.absent page.whole) ∣₁ }

pub overflow_cast-result : goal.overflow_cast-result
overflow_cast-result c = omega (arith, c.in_ok-content.ensures.0, size_limit c.args.self.now)

pub returns : goal.returns
returns c =
    let self = c.args.self.now in
    let page = c.args.page.now in
    let i = c.in_ok-content.content in
    let h = c.in_ok-content.ensures in
    let exists : i < pages_in (contents_area self) = omega (arith, h.0, size_paged self) in
    record {
      absent = c.requires.absent;
      within = h.0;
      free = h.1;
      room = in_use_lt (users_of self) i h.0 h.1;
      users_now = users_set (vec_items self.records) i _;
      area_now = laid_in (contents_area self) i page.bytes.now exists page.whole c.write.result c.write.ensures.answer _ c.write.ensures.area;
    }
