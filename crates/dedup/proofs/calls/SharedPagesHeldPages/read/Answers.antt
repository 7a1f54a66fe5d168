use Rattle.std.proofs.Common.{ℕ, Bool, cond, ◌&&◌, eqb, ltb, length, get_or, vec_items, sym, refl, ap, ◌∙◌, arith}
use Rattle.page.specs.Memory.{page_at}
use Rattle.contents.specs.View.{users_of, contents_area}
use Rattle.contents.proofs.Facts.{pages_apart}
use Rattle.held.specs.View.{holdings}
use Rattle.std.proofs.lemmas.List.{get_or_read_under}
use Rattle.held.proofs.Entries.{missed}
use Rattle.held.proofs.Facts.{place_below}
use Rattle.dedup.specs.Kept.{read_there}
use Rattle.dedup.proofs.calls.SharedPagesHeldPages.read.Goals as goal

pub index-requires : goal.index-requires
index-requires c =
    let b = c.args.self.now in
    let below = place_below b.held c.args.key.number c.in-Some.place (sym c.in-Some.ensures) in
    omega (arith, below, b.long, b.content_at.ok.0, c.from.ensures)

pub returns : goal.returns
returns c =
    let b = c.args.self.now in
    let noted = vec_items b.content_at in
    let g : ℕ → ℕ = λ q. get_or noted q 0 in
    let users = users_of b.contents in
    let area = contents_area b.contents in
    let H = holdings b.held in
    let k = c.args.key.number in
    let at = sym c.in-Some.ensures in
    let there = read_there users area g H b.counted (pages_apart b.contents) k c.in-Some.place c.args.out.now at in
    let content =
    get_or_read_under noted c.from.result (length noted) c.index.result.now 0 c.index.ensures (omega (arith, c.from.ensures, place_below b.held k c.in-Some.place at, b.long)) refl
    ∙ ap (λ (q : ℕ). get_or noted q 0) c.from.ensures in
    let out = c.args.out.now in
    record {
      answer = c.read.ensures.answer ∙ (ap (λ (i : ℕ). ltb i (length users) && eqb (length out) 256) content ∙ there.0);
      buffer =
          c.read.ensures.out
          ∙ (ap (λ (t : Bool). cond t (page_at area c.index.result.now) out) (c.read.ensures.answer ∙ ap (λ (i : ℕ). ltb i (length users) && eqb (length out) 256) content)
          ∙ (ap (λ (i : ℕ). cond (ltb (g c.in-Some.place) (length users) && eqb (length out) 256) (page_at area i) out) content ∙ there.1));
    }

pub returns-in_default : goal.returns-in_default
returns-in_default c =
    let b = c.args.self.now in
    let noted = vec_items b.content_at in
    let g : ℕ → ℕ = λ q. get_or noted q 0 in
    let users = users_of b.contents in
    let area = contents_area b.contents in
    let H = holdings b.held in
    let none = missed (λ q. page_at area (g q)) c.args.key.number H c.args.out.now (sym c.in_default.ensures) in
    record { answer = none.0; buffer = none.1 }
