use Rattle.std.proofs.Common.{◌-◌, ◌<◌, ◌≤◌, get_or, length, vec_items, ◌∙◌, arith}
use Rattle.contents.specs.View.{users_of}
use Rattle.contents.proofs.Columns.{fingerprints_kept, users_set}
use Rattle.contents.proofs.Facts.{size_is, whole_of}
use Rattle.contents.proofs.InUse.{used_within, in_use_freed}
use Rattle.contents.proofs.Keeping.{whole_shared, whole_freed}
use Rattle.contents.proofs.store.Contents.release.Goals as goal

pub index_mut-requires : goal.index_mut-requires
index_mut-requires c =
    let self = c.args.self.now in
    let used : 1 ≤ get_or (users_of self) c.args.content 0 = omega arith in
    omega (arith, size_is self, used_within (users_of self) c.args.content used)

pub overflow_sub-self : goal.overflow_sub-self
overflow_sub-self c =
    let self = c.args.self.now in
    let used : 1 ≤ get_or (users_of self) c.args.content 0 = omega arith in
    let w = (whole_of self).counted in
    omega (arith, in_use_freed (users_of self) c.args.content (used_within (users_of self) c.args.content used) used)

pub invariant_of-self : goal.invariant_of-self
invariant_of-self c =
    let self = c.args.self.now in
    let records = vec_items self.records in
    let v = self.records.ok.0 in
    let used : 1 ≤ get_or (users_of self) c.args.content 0 = omega arith in
    let h : c.from.result < length records = omega (arith, size_is self, used_within (users_of self) c.args.content used) in
    let left = c.users-users.result - 1 in
    record {
      whole = ∣ rw (users_set, fingerprints_kept records c.from.result c.index_mut.result.now left h c.index_mut.ensures.value, c.from.ensures)
          (whole_freed (whole_of self) c.args.content used left (omega arith)) ∣₁;
    }

pub invariant_of-self-else-users-eq1 : goal.invariant_of-self-else-users-eq1
invariant_of-self-else-users-eq1 c =
    let self = c.args.self.now in
    let records = vec_items self.records in
    let v = self.records.ok.0 in
    let used : 1 ≤ get_or (users_of self) c.args.content 0 = omega arith in
    let h : c.from.result < length records = omega (arith, size_is self, used_within (users_of self) c.args.content used) in
    let left = c.users-users.result - 1 in
    record {
      whole = ∣ rw (users_set, fingerprints_kept records c.from.result c.index_mut.result.now left h c.index_mut.ensures.value, c.from.ensures)
          (whole_shared (whole_of self) c.args.content used left (omega arith)) ∣₁;
    }

pub returns-then-users-eq1-clause-users : goal.returns-then-users-eq1-clause-users
returns-then-users-eq1-clause-users c = let before = c.users-users.ensures in users_set (vec_items c.args.self.now.records) c.from.result _ ∙ cc

pub returns-else-users-eq1-clause-users : goal.returns-else-users-eq1-clause-users
returns-else-users-eq1-clause-users c = let before = c.users-users.ensures in users_set (vec_items c.args.self.now.records) c.from.result _ ∙ cc
