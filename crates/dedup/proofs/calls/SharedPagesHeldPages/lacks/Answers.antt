use Rattle.std.proofs.Common.{ℕ, get_or, is_some, vec_items, sym, refl, ◌∙◌, arith}
use Rattle.contents.specs.View.{users_of, contents_area}
use Rattle.contents.proofs.Facts.{pages_apart}
use Rattle.held.specs.View.{holdings, size_of}
use Rattle.std.proofs.lemmas.Bool.{lt-leb}
use Rattle.dedup.specs.Dedup.{shared_fixed}
use Rattle.dedup.specs.Kept.{lacks_places, has_content, lack_is, flipped}
use Rattle.dedup.proofs.calls.SharedPagesHeldPages.lacks.Goals as goal

pub returns-then-count-size : goal.returns-then-count-size
returns-then-count-size c =
    let b = c.args.self.now in
    let noted = vec_items b.content_at in
    let g : ℕ → ℕ = λ q. get_or noted q 0 in
    let users = users_of b.contents in
    let area = contents_area b.contents in
    let H = holdings b.held in
    sym (lacks_places users area g H b.counted (pages_apart b.contents) (shared_fixed b) (size_of b.held) c.args.page.now refl refl
    (omega (arith, c.if-count-size.true, c.count.ensures, c.size.ensures)))

pub returns-then-in_use-size : goal.returns-then-in_use-size
returns-then-in_use-size c =
    let b = c.args.self.now in
    let noted = vec_items b.content_at in
    let g : ℕ → ℕ = λ q. get_or noted q 0 in
    let users = users_of b.contents in
    let area = contents_area b.contents in
    let H = holdings b.held in
    flipped c.is_none.result (is_some c.find.result) c.is_none.ensures
    ∙ lack_is users area g H b.counted (pages_apart b.contents) (shared_fixed b) (size_of b.held) c.args.page.now refl refl
    (omega (arith, c.if-count-size.false, c.count.ensures, c.size.ensures)) (omega (arith, c.if-in_use-size.true, c.in_use.ensures, c.size-2.ensures))
    c.find.result c.find.ensures

pub returns-else-in_use-size : goal.returns-else-in_use-size
returns-else-in_use-size c =
    let b = c.args.self.now in
    let noted = vec_items b.content_at in
    let g : ℕ → ℕ = λ q. get_or noted q 0 in
    let users = users_of b.contents in
    let area = contents_area b.contents in
    let H = holdings b.held in
    lt-leb c.size-2.result c.in_use.result c.if-in_use-size.false
    ∙ sym (has_content users area g H b.counted (pages_apart b.contents) (shared_fixed b) (size_of b.held) c.args.page.now refl refl
    (omega (arith, c.if-count-size.false, c.count.ensures, c.size.ensures)) (omega (arith, c.if-in_use-size.false, c.in_use.ensures, c.size-2.ensures)))
