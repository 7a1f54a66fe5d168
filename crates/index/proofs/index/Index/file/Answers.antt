use Rattle.std.proofs.Common.{◌≡◌, cond, length, is_ok, Err, vec_items, sym, refl, ap, ◌∙◌, arith}
use Rattle.std.proofs.lemmas.Result.{err_from_is_err_and}
use Rattle.index.specs.Filing.{nodes_of, slots_of}
use Rattle.index.specs.Slots.{marks}
use Rattle.index.specs.Sound.{heads_of, records_of}
use Rattle.index.proofs.Unique.{kept}
use Rattle.index.specs.Map.{put}
use Rattle.index.specs.View.{sorted, pairs}
use Rattle.index.proofs.Meaning.{level, view_ruling, view_filed, ruling_ok, ruling_err, room_file, again_file, whole_kept}
use Rattle.index.proofs.index.Index.file.Goals as goal

pub place-requires : goal.place-requires
place-requires g c = kept c.args.self.now.whole

pub set_record_at-requires : goal.set_record_at-requires
set_record_at-requires g c = let z = c.in_ok-slot.ensures in omega (arith, z.sizes.1, z.cases.within)

pub invariant_of-self-2 : goal.invariant_of-self-2
invariant_of-self-2 g c =
    let s = c.set_record_at.ensures in
    record { whole = ∣ whole_kept c.place.new.self c.set_record_at.new.self s.heads s.nodes s.unused s.vacant c.place.ensures.whole ∣₁ }

pub returns : goal.returns
returns g c =
    let t = c.args.self.now.tree in
    let w = kept c.args.self.now.whole in
    let z = c.in_ok-slot.ensures in
    let k = z.cases in
    let s = c.set_record_at.ensures in
    let a = ruling_ok t c.place.new.self c.args.key c.in_ok-slot.slot k ∙ sym (view_ruling t (records_of t) w (level t) c.args.key (slots_of t) (nodes_of t)) in
    record {
      answer = a;
      after = view_filed t c.place.new.self c.set_record_at.new.self c.args.key c.in_ok-slot.slot c.args.value w z.whole k s.heads s.records;
      room = λ _. refl;
      again = λ _. refl;
      nodes = ap (λ x. length (vec_items x)) s.nodes ∙ z.sizes.0;
      slots = ap length s.heads ∙ z.sizes.1;
    }

pub returns-in_err-slot : goal.returns-in_err-slot
returns-in_err-slot g c =
    let t = c.args.self.now.tree in
    let w = kept c.args.self.now.whole in
    let z = c.in_err-slot.ensures in
    let k = z.cases in
    let v = sorted (pairs (marks (heads_of t)) (records_of t)) in
    let p = err_from_is_err_and c.from_residual.result c.from_residual.ensures.1 in
    let is : c.from_residual.result ≡ Err c.in_err-slot.field-0.0 = p.1 ∙ ap Err p.2 in
    let a = is ∙ (ruling_err t c.args.key c.in_err-slot.field-0.0 w k.0 ∙ sym (view_ruling t (records_of t) w (level t) c.args.key (slots_of t) (nodes_of t))) in
    record {
      answer = a;
      after = ap (λ u. sorted (pairs (marks (heads_of u)) (records_of u))) k.1 ∙ ap (λ x. cond (is_ok x) (put c.args.key c.args.value v) v) (sym is);
      room = room_file v c.args.key (slots_of t) (nodes_of t) c.from_residual.result a;
      again = again_file v c.args.key (slots_of t) (nodes_of t) c.from_residual.result a;
      nodes = z.sizes.0;
      slots = z.sizes.1;
    }
