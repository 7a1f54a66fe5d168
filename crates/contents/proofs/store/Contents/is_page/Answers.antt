use Rattle.std.proofs.Common.{◌≡◌, ◌<◌, get_or, length, vec_items, sym, ◌∙◌, arith, rules}
use borrow.Author.Tests.{tests}
use Rattle.std.proofs.lemmas.Bool.{false≢true}
use Rattle.contents.proofs.Columns.{length_users}
use Rattle.contents.proofs.Facts.{size_paged}
use Rattle.contents.proofs.Searches.{holds_when, printed_when, used_when}
use Rattle.contents.proofs.store.Contents.is_page.Goals as goal
use Rattle.contents.proofs.store.Contents.is_page.Goals.{then-record-page, else-record-page}

pub returns-in_default : goal.returns-in_default
returns-in_default c =
    (λ e. absurd (false≢true e), λ holds. absurd (omega (arith, holds.within, length_users (vec_items c.args.self.now.records), c.in_default.ensures.lookup.3)))

pub returns-then-record-ne0 : goal.returns-then-record-ne0
returns-then-record-ne0 c =
    let self = c.args.self.now in
    let page = c.args.page.now.bytes.now in
    let i = c.args.content in
    let r = c.in-Some.record.now in
    let l : i < length (vec_items self.records) = search rules in
    let at : r ≡ get_or (vec_items self.records) i r = search rules in
    let used : r.users ≡ 0 → ⊥ = λ z. elim c.if-record-page.branch [
      | then-record-page w ↦ grind (arith, tests)
      | else-record-page w ↦ grind (arith, tests)
    ] in
    (λ h. holds_when self page i r l at used (search (rules, tests)), λ holds. let s = holds.same in search (rules, tests, size_paged self))

pub returns-else-record-ne0 : goal.returns-else-record-ne0
returns-else-record-ne0 c =
    let self = c.args.self.now in
    let page = c.args.page.now in
    let i = c.args.content in
    let r = c.in-Some.record.now in
    let l : i < length (vec_items self.records) = search rules in
    let at : r ≡ get_or (vec_items self.records) i r = search rules in (
      λ h. absurd (false≢true (sym c.if-record-ne0.false ∙ h)),
      λ holds. elim c.if-record-page.branch [
        | then-record-page w ↦ absurd (used_when self page.bytes.now i r l at holds (grind (arith, tests)))
        | else-record-page w ↦ absurd (w.if-record-page.false (printed_when self page.bytes.now i r l at holds ∙ sym page.printed))
      ],
    )
