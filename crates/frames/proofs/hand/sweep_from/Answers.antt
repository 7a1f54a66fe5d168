use Rattle.std.proofs.Common.{◌≡◌, ℕ, true, length, get_or, set, sym, ap, ◌∙◌, subst}
use Rattle.std.proofs.lemmas.List.{length-set}
use Rattle.frames.specs.Clock.{next_place}
use Rattle.frames.specs.Held.{blank}
use Rattle.frames.proofs.Swept.{Turning, passed, stopped, turned_on, turning, unmarked}
use Rattle.frames.proofs.hand.sweep_from.Goals as goal

pub turn-init : goal.turn-init
turn-init c = (length c.args.frames.now, turning c.args.frames.now c.args.hand c.requires)

was_passed : (c : goal.After-next_place-place) → passed (get_or c.turn.frames c.turn.place blank) ≡ true
was_passed c = sym c.if-not-is_passed.ensures

pub turn-preserved : goal.turn-preserved
turn-preserved c =
    let fs = c.turn.frames in
    let place = c.turn.place in
    let next = set fs place (unmarked (get_or fs place blank)) in
    let at = c.next_place-place.ensures ∙ ap (λ (n : ℕ). next_place n place) (length-set fs place (unmarked (get_or fs place blank)) ∙ c.turn.auto.frames) in
    subst (λ (x : ℕ). (left : ℕ) × Turning left c.args.frames.now next c.args.hand x) (sym at)
    (turned_on c.args.frames.now fs c.args.hand place blank c.turn.invariant.0 c.turn.invariant.1 (was_passed c))

pub returns : goal.returns
returns c =
    let t = c.turn.invariant.1 in
    let at = sym (stopped c.args.frames.now c.turn.frames c.args.hand c.turn.place blank c.turn.invariant.0 t (sym c.if-not-is_passed.ensures)) ∙ t.goes_on in
    record { taken = ap (λ s. s.1) at; marks = ap (λ s. s.0) at; pages = t.pages; dirty = t.dirty; within = t.within }
