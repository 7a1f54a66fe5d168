use Rattle.std.proofs.Common.{ℕ, List, get_or, vec_items, sym, ap, ◌∙◌}
use Rattle.page.specs.Memory.{page_at}
use Rattle.contents.specs.View.{users_of, contents_area}
use Rattle.held.specs.View.{holdings}
use Rattle.backend.specs.Victims.{pool_size}
use Rattle.held.proofs.Entries.{keys_entries}
use Rattle.dedup.proofs.calls.SharedPagesHeldPages.pool_pages.Goals as goal

pub returns : goal.returns
returns c =
    let b = c.args.self.now in
    let noted = vec_items b.content_at in
    let g : ℕ → ℕ = λ q. get_or noted q 0 in
    let users = users_of b.contents in
    let area = contents_area b.contents in
    let H = holdings b.held in
    c.pool_count.ensures ∙ ap (λ (ks : List ℕ). pool_size ks c.args.pool) (sym (keys_entries (λ q. page_at area (g q)) H))
