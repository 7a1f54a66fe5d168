use Rattle.std.proofs.Common.{◌≡◌, ◌+◌, ◌-◌, length, None, vec_items, sym, refl, ap, ◌∙◌, subst, arith}
use Rattle.index.specs.Map.{look, without}
use Rattle.index.specs.Slots.{marks}
use Rattle.index.specs.Sound.{heads_of, records_of}
use Rattle.index.specs.View.{view, nodes, slots, pairs}
use Rattle.index.proofs.Views.{rises_sorted, without_none}
use Rattle.held.specs.Holdings.{place_of, without_key}
use Rattle.held.specs.Records.{older_in, newer_in}
use Rattle.held.specs.Rings.{Linked}
use Rattle.held.specs.View.{holdings}
use Rattle.held.specs.Whole.{places, held_at, WholeIn}
use Rattle.held.proofs.Facts.{whole, filed_places}
use Rattle.held.proofs.Moves.{removed, remove_within, remove_last, some_held, whole_like}
use Rattle.held.proofs.Places.{absent_from_none, without_absent}
use Rattle.held.proofs.held.Held.remove.Goals as goal
use Rattle.held.proofs.held.Held.remove.Goals.{After-link_before}

pub invariant_of-self : goal.invariant_of-self
invariant_of-self c =
    let h = c.args.self.now in
    let z = c.in_err-freed.ensures in
    let x = c.remove.new.self in
    let none : look c.from.result (view h.index) ≡ None = sym z.value in
    record { whole = ∣ whole_like h.size h.count (vec_items h.table) (view h.index) (view x) (slots h.index) (slots x) (nodes h.index) (nodes x) (z.after ∙ without_none c.from.result (view h.index) none) z.slots z.nodes (whole h) ∣₁ }

pub returns-in_err-freed : goal.returns-in_err-freed
unfolding holdings
returns-in_err-freed c =
    let h = c.args.self.now in
    let z = c.in_err-freed.ensures in
    let none : place_of c.args.key.number (holdings h) ≡ None = sym (filed_places h c.args.key.number) ∙ (ap (λ k. look k (view h.index)) (sym c.from.ensures) ∙ sym z.value) in
    record { size = refl; value = c.from_residual.ensures ∙ sym none; after = sym (without_absent c.args.key.number (holdings h) (absent_from_none c.args.key.number (holdings h) none)) }

pub unlink-requires : goal.unlink-requires
unlink-requires c =
    let h = c.args.self.now in
    let v = h.table.ok.0 in
    let w = whole h in
    let b = remove_within h.size h.count (vec_items h.table) (view h.index) (slots h.index) (nodes h.index) w c.from.result c.in_ok-freed.freed (sym c.in_ok-freed.ensures.value) in
    let long = w.long in
    record { place_within = omega (arith, b.0); older_within = omega (arith, b.1); newer_within = omega (arith, b.2) }

pub link_before-requires : goal.link_before-requires
link_before-requires c =
    let h = c.args.self.now in
    let v = c.unlink.new.table.ok.0 in
    let w = whole h in
    let is = sym c.in_ok-freed.ensures.value in
    let t₁ = vec_items c.unlink.new.table in
    let b = (remove_within h.size h.count (vec_items h.table) (view h.index) (slots h.index) (nodes h.index) w c.from.result c.in_ok-freed.freed is).0 in
    let last = remove_last h.size h.count (vec_items h.table) (view h.index) (slots h.index) (nodes h.index) w c.from.result c.in_ok-freed.freed t₁ is c.unlink.ensures.links in
    let long : length t₁ ≡ h.size + 2 = c.unlink.ensures.len ∙ w.long in
    let end = c.free_end-end.ensures in
    record { place_within = omega arith; end_within = omega arith; older_within = omega (arith, ap (older_in t₁) end) }

pub overflow_sub-self : goal.overflow_sub-self
overflow_sub-self c =
    let h = c.args.self.now in
    some_held h.size h.count (vec_items h.table) (view h.index) (slots h.index) (nodes h.index) (whole h) c.from.result c.in_ok-freed.freed (sym c.in_ok-freed.ensures.value)

-- the holdings and what always holds, after all writes
after : (c : After-link_before) →
    (held_at (vec_items c.link_before.new.table) (places c.args.self.now.size (c.args.self.now.count - 1) (vec_items c.link_before.new.table))
    ≡ without_key c.from.result (holdings c.args.self.now))
    × WholeIn c.args.self.now.size (c.args.self.now.count - 1) (vec_items c.link_before.new.table) (without c.from.result (view c.args.self.now.index)) (slots c.args.self.now.index) (nodes c.args.self.now.index)
unfolding holdings
after c =
    let h = c.args.self.now in
    let t = h.index.tree in
    let t₁ = vec_items c.unlink.new.table in
    let t₂ = vec_items c.link_before.new.table in
    let p = c.in_ok-freed.freed in
    let u = c.unlink.ensures in
    let l = c.link_before.ensures in
    removed h.size h.count (vec_items h.table) (view h.index) (slots h.index) (nodes h.index) (whole h) c.from.result p t₁ t₂ (rises_sorted (pairs (marks (heads_of t)) (records_of t))) (sym c.in_ok-freed.ensures.value)
    u.links u.keys (subst (λ x. Linked (newer_in t₁) (older_in t₁) x p (newer_in t₂) (older_in t₂)) c.free_end-end.ensures l.links) l.keys (l.len ∙ u.len)

pub invariant_of-self-2 : goal.invariant_of-self-2
invariant_of-self-2 c =
    let h = c.args.self.now in
    let x = c.remove.new.self in
    let z = c.in_ok-freed.ensures in
    record { whole = ∣ whole_like h.size (h.count - 1) (vec_items c.link_before.new.table) (without c.from.result (view h.index)) (view x) (slots h.index) (slots x) (nodes h.index) (nodes x) z.after z.slots z.nodes (after c).1 ∣₁ }

pub returns : goal.returns
unfolding holdings
returns c =
    let h = c.args.self.now in
    let is = sym c.in_ok-freed.ensures.value in
    record {
      size = refl;
      value = sym (sym (filed_places h c.args.key.number) ∙ (ap (λ k. look k (view h.index)) (sym c.from.ensures) ∙ is));
      after = (after (goal.at.returns c).After-link_before).0 ∙ ap (λ k. without_key k (holdings h)) c.from.ensures;
    }
