use Rattle.std.proofs.Common.{sym, ap, ◌∙◌}
use Rattle.page.specs.Memory.{area_of, page_at}
use Rattle.backend.specs.Victims.{victim}
use Rattle.held.specs.View.{holdings}
use Rattle.held.proofs.Entries.{keys_entries}
use Rattle.local.proofs.calls.LocalPagesHeldPages.victim.Goals as goal

pub returns : goal.returns
returns c =
    let b = c.args.self.now in
    c.victim.ensures ∙ ap victim (sym (keys_entries (page_at (area_of b.memory)) (holdings b.held)))
