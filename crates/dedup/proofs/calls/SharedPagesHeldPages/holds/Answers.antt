use Rattle.std.proofs.Common.{ℕ, get_or, is_some, vec_items, sym, ap, ◌∙◌}
use Rattle.page.specs.Memory.{page_at}
use Rattle.contents.specs.View.{users_of, contents_area}
use Rattle.held.specs.View.{holdings}
use Rattle.held.proofs.Entries.{holds_entries}
use Rattle.dedup.proofs.calls.SharedPagesHeldPages.holds.Goals as goal

pub returns : goal.returns
returns c =
    let b = c.args.self.now in
    let noted = vec_items b.content_at in
    let g : ℕ → ℕ = λ q. get_or noted q 0 in
    let users = users_of b.contents in
    let area = contents_area b.contents in
    let H = holdings b.held in
    c.is_some.ensures ∙ (ap is_some c.find.ensures ∙ sym (holds_entries (λ q. page_at area (g q)) c.args.key.number H))
