use Rattle.std.proofs.Common.{◌<◌, length, vec_items, refl, ◌∙◌, arith}
use Rattle.contents.specs.View.{users_of}
use Rattle.contents.proofs.Columns.{fingerprints_kept, users_set}
use Rattle.contents.proofs.Facts.{size_is, whole_of}
use Rattle.contents.proofs.InUse.{used_within}
use Rattle.contents.proofs.Keeping.{whole_shared}
use Rattle.contents.proofs.store.Contents.share.Goals as goal

pub index_mut-requires : goal.index_mut-requires
index_mut-requires c =
    let self = c.args.self.now in
    omega (arith, size_is self, used_within (users_of self) c.args.content c.requires)

pub invariant_of-self : goal.invariant_of-self
invariant_of-self c =
    let self = c.args.self.now in
    let records = vec_items self.records in
    let v = self.records.ok.0 in
    let h : c.from.result < length records = omega (arith, size_is self, used_within (users_of self) c.args.content c.requires) in
    let more = c.in_ok-users.ensures in
    record {
      whole = ∣ rw (users_set, fingerprints_kept records c.from.result c.index_mut.result.now c.in_ok-users.users h c.index_mut.ensures.value, c.from.ensures)
          (whole_shared (whole_of self) c.args.content c.requires c.in_ok-users.users (omega arith)) ∣₁;
    }

pub returns : goal.returns
returns c =
    let more = c.in_ok-users.ensures in
    let before = c.users.ensures in
    (refl, omega arith, users_set (vec_items c.args.self.now.records) c.from.result _ ∙ cc, refl)
