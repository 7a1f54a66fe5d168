use Rattle.std.proofs.Common.{ℕ, leb, sym, ap, ◌∙◌}
use Rattle.page.specs.Memory.{area_of, page_at}
use Rattle.held.specs.View.{holdings, size_of}
use Rattle.held.proofs.Entries.{length_entries}
use Rattle.local.proofs.calls.LocalPagesHeldPages.lacks.Goals as goal

pub returns : goal.returns
returns c =
    let b = c.args.self.now in
    ap (λ (n : ℕ). leb n c.count.result) c.size.ensures
    ∙ ap (λ (n : ℕ). leb (size_of b.held) n) (c.count.ensures ∙ sym (length_entries (page_at (area_of b.memory)) (holdings b.held)))
