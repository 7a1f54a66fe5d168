use Rattle.std.proofs.Common.{ℕ, List, sym, ap, ◌∙◌}
use Rattle.page.specs.Memory.{area_of, page_at}
use Rattle.backend.specs.Victims.{pool_size}
use Rattle.held.specs.View.{holdings}
use Rattle.held.proofs.Entries.{keys_entries}
use Rattle.local.proofs.calls.LocalPagesHeldPages.pool_pages.Goals as goal

pub returns : goal.returns
returns c =
    let b = c.args.self.now in
    c.pool_count.ensures ∙ ap (λ (ks : List ℕ). pool_size ks c.args.pool) (sym (keys_entries (page_at (area_of b.memory)) (holdings b.held)))
