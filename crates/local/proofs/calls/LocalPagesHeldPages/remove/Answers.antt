use Rattle.std.proofs.Common.{ℕ, ◌∷◌, drop, ap, ◌∙◌}
use Rattle.page.specs.Memory.{area_of, page_at, start_of}
use Rattle.held.specs.Entries.{entries_by}
use Rattle.held.specs.View.{holdings}
use Rattle.held.proofs.Entries.{without_entries}
use Rattle.local.proofs.calls.LocalPagesHeldPages.remove.Goals as goal

pub returns : goal.returns
returns c =
    let area = area_of c.args.self.now.memory in
    record {
      entries = ap (entries_by (page_at area)) c.remove.ensures.after ∙ without_entries (page_at area) c.args.key.number (holdings c.args.self.now.held);
      fixed = ap (λ (n : ℕ). n ∷ drop (start_of n) area) c.remove.ensures.size;
    }
