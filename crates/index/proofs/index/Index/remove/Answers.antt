use Rattle.std.proofs.Common.{get_or, Some, sym, ap, ◌∙◌}
use Rattle.index.specs.Slots.{marks}
use Rattle.index.specs.Sound.{heads_of, records_of}
use Rattle.index.proofs.Unique.{kept}
use Rattle.index.specs.View.{sorted, pairs}
use Rattle.index.proofs.Meaning.{view_look, view_none, view_removed, view_unremoved, empty_free, level}
use Rattle.index.proofs.index.Index.remove.Goals as goal

pub remove-requires : goal.remove-requires
remove-requires g c = kept c.args.self.now.whole

pub invariant_of-self : goal.invariant_of-self
invariant_of-self g c = record { whole = ∣ c.remove.ensures.whole ∣₁ }

pub returns : goal.returns
returns g c =
    let t = c.args.self.now.tree in
    let u = c.remove.new.self in
    let w = kept c.args.self.now.whole in
    let z = c.in_ok-slot.ensures in
    let k = z.cases in
    let rs = k.records_are in
    record {
      value = sym (view_look t (records_of t) w (level t) c.args.key c.in_ok-slot.slot c.record_at.result k.within k.held ∙ ap Some (sym (c.record_at.ensures ∙ ap (λ x. get_or x c.in_ok-slot.slot c.record_at.result) rs)));
      after = ap (λ x. sorted (pairs (marks (heads_of u)) x)) rs ∙ view_removed t (records_of t) w (level t) u c.args.key c.in_ok-slot.slot c.record_at.result z.whole k;
      nodes = z.sizes.0;
      slots = z.sizes.1;
      last = λ e. empty_free u z.whole e;
    }

pub returns-in_err-slot : goal.returns-in_err-slot
returns-in_err-slot g c =
    let t = c.args.self.now.tree in
    let u = c.remove.new.self in
    let w = kept c.args.self.now.whole in
    let z = c.in_err-slot.ensures in
    let k = z.cases in
    record {
      value = c.from_residual.ensures ∙ sym (view_none t (records_of t) w (level t) c.args.key k.0);
      after = ap (λ x. sorted (pairs (marks (heads_of x)) (records_of x))) k.1 ∙ sym (view_unremoved t (records_of t) w (level t) c.args.key k.0);
      nodes = z.sizes.0;
      slots = z.sizes.1;
      last = λ e. empty_free u z.whole e;
    }
