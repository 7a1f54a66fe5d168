use Rattle.std.proofs.Common.{◌≡◌, ◌+◌, ◌^◌, ◌<◌, true, false, [], ◌∷◌, ◌++◌, length, is_some, is_ok, vec_items, sym, refl, ap, ◌∙◌, subst, inr, arith}
use Rattle.std.proofs.lemmas.Bool.{cond-true}
use Rattle.index.specs.Map.{put}
use Rattle.index.specs.View.{view, nodes, slots}
use Rattle.held.specs.Holdings.{place_of}
use Rattle.held.specs.Records.{older_in, newer_in}
use Rattle.held.specs.Rings.{Linked}
use Rattle.held.specs.View.{holdings}
use Rattle.held.specs.Whole.{places, held_at, WholeIn}
use Rattle.held.proofs.Facts.{whole, count_is}
use Rattle.held.proofs.Walking.{first_place}
use Rattle.held.proofs.Moves.{pushed, push_within, push_absent, push_last, whole_like}
use Rattle.held.proofs.Places.{none_from_false}
use Rattle.held.proofs.held.Held.push.Goals as goal
use Rattle.held.proofs.held.Held.push.Goals.{After-set_key}

pub returns-then-self : goal.returns-then-self
returns-then-self c = record { size = refl; cases = (inr (sym (count_is c.args.self.now) ∙ c.if-self.true), refl) }

pub index-requires : goal.index-requires
index-requires c =
    let h = c.args.self.now in
    let v = h.table.ok.0 in
    omega (arith, (whole h).long, c.free_end.ensures, c.from.ensures)

pub unlink-requires : goal.unlink-requires
unlink-requires c =
    let h = c.args.self.now in
    let v = h.table.ok.0 in
    let w = whole h in
    let some : h.count < h.size = omega (arith, w.fits) in
    let first = first_place h c.from.result c.free_end.result c.index.result.now c.from.ensures c.free_end.ensures c.index.ensures in
    let b = push_within h.size h.count (vec_items h.table) (view h.index) (slots h.index) (nodes h.index) w c.index.result.now.newer first some in
    let long = w.long in
    record { place_within = omega (arith, b.0); older_within = omega (arith, b.1); newer_within = omega (arith, b.2) }

pub link_before-requires : goal.link_before-requires
link_before-requires c =
    let h = c.args.self.now in
    let v = c.unlink.new.table.ok.0 in
    let w = whole h in
    let some : h.count < h.size = omega (arith, w.fits) in
    let first = first_place h c.from.result c.free_end.result c.index.result.now c.from.ensures c.free_end.ensures c.index.ensures in
    let b = (push_within h.size h.count (vec_items h.table) (view h.index) (slots h.index) (nodes h.index) w c.index.result.now.newer first some).0 in
    let t₁ = vec_items c.unlink.new.table in
    let last = push_last h.size h.count (vec_items h.table) (view h.index) (slots h.index) (nodes h.index) w c.index.result.now.newer t₁ first some c.unlink.ensures.links in
    let long : length t₁ ≡ h.size + 2 = c.unlink.ensures.len ∙ w.long in
    let end = c.held_end-end.ensures in
    record { place_within = omega arith; end_within = omega arith; older_within = omega (arith, ap (older_in t₁) end) }

pub set_key-requires : goal.set_key-requires
set_key-requires c =
    let h = c.args.self.now in
    let v = c.link_before.new.table.ok.0 in
    let w = whole h in
    let some : h.count < h.size = omega (arith, w.fits) in
    let first = first_place h c.from.result c.free_end.result c.index.result.now c.from.ensures c.free_end.ensures c.index.ensures in
    let b = (push_within h.size h.count (vec_items h.table) (view h.index) (slots h.index) (nodes h.index) w c.index.result.now.newer first some).0 in
    let long : length (vec_items c.link_before.new.table) ≡ h.size + 2 = c.link_before.ensures.len ∙ (c.unlink.ensures.len ∙ w.long) in
    omega arith

pub overflow_add-self : goal.overflow_add-self
overflow_add-self c = let h = c.args.self.now in omega (arith, (whole h).fits, (whole h).small)

-- the holdings and what always holds, after all writes
after : (c : After-set_key) →
    (held_at (vec_items c.set_key.new.table) (places c.args.self.now.size (c.args.self.now.count + 1) (vec_items c.set_key.new.table))
    ≡ holdings c.args.self.now ++ record { key = c.args.key.number; place = c.index.result.now.newer } ∷ [])
    × WholeIn c.args.self.now.size (c.args.self.now.count + 1) (vec_items c.set_key.new.table) (put c.args.key.number c.index.result.now.newer (view c.args.self.now.index)) (slots c.args.self.now.index) (nodes c.args.self.now.index)
unfolding holdings
after c =
    let h = c.args.self.now in
    let w = whole h in
    let t = vec_items h.table in
    let t₁ = vec_items c.unlink.new.table in
    let t₂ = vec_items c.link_before.new.table in
    let t₃ = vec_items c.set_key.new.table in
    let p = c.index.result.now.newer in
    let some : h.count < h.size = omega (arith, w.fits) in
    let first = first_place h c.from.result c.free_end.result c.index.result.now c.from.ensures c.free_end.ensures c.index.ensures in
    let absent : is_some (place_of c.args.key.number (holdings h)) ≡ false = ap is_some (sym c.find.ensures) ∙ (sym c.is_some.ensures ∙ c.if-is_some.false) in
    let low : c.args.key.number < 2 ^ 32 = omega (arith, c.from-2.ensures) in
    let u = c.unlink.ensures in
    let l = c.link_before.ensures in
    let s = c.set_key.ensures in
    pushed h.size h.count t (view h.index) (slots h.index) (nodes h.index) w c.args.key.number p t₁ t₂ t₃ first some (none_from_false (place_of c.args.key.number (holdings h)) absent) low
    u.links u.keys (subst (λ x. Linked (newer_in t₁) (older_in t₁) x p (newer_in t₂) (older_in t₂)) c.held_end-end.ensures l.links) l.keys
    s.here s.rest s.newer s.older (s.len ∙ (l.len ∙ u.len))

pub invariant_of-self : goal.invariant_of-self
invariant_of-self c =
    let h = c.args.self.now in
    let w = whole h in
    let x = c.file.new.self in
    let z = c.file.ensures in
    let p = c.index.result.now.newer in
    let n = w.filed_count in
    let r = w.roomy in
    let granted : is_ok c.file.result ≡ true = z.room (omega (arith, w.fits)) in
    let filed : view x ≡ put c.args.key.number p (view h.index)
    = z.after ∙ (cond-true (is_ok c.file.result) (put c.from-2.result p (view h.index)) (view h.index) granted ∙ ap (λ k. put k p (view h.index)) c.from-2.ensures) in
    record { whole = ∣ whole_like h.size (h.count + 1) (vec_items c.set_key.new.table) (put c.args.key.number p (view h.index)) (view x) (slots h.index) (slots x) (nodes h.index) (nodes x) filed z.slots z.nodes (after c).1 ∣₁ }

pub returns : goal.returns
unfolding holdings
returns c =
    let h = c.args.self.now in
    let w = whole h in
    let t = vec_items h.table in
    let some : h.count < h.size = omega (arith, w.fits) in
    let first = first_place h c.from.result c.free_end.result c.index.result.now c.from.ensures c.free_end.ensures c.index.ensures in
    let absent : is_some (place_of c.args.key.number (holdings h)) ≡ false = ap is_some (sym c.find.ensures) ∙ (sym c.is_some.ensures ∙ c.if-is_some.false) in
    record {
      size = refl;
      cases = (
        none_from_false (place_of c.args.key.number (holdings h)) absent,
        omega (arith, count_is h),
        (push_within h.size h.count t (view h.index) (slots h.index) (nodes h.index) w c.index.result.now.newer first some).0,
        push_absent h.size h.count t (view h.index) (slots h.index) (nodes h.index) w c.index.result.now.newer first some,
        (after (goal.at.returns c).After-set_key).0,
      );
    }
