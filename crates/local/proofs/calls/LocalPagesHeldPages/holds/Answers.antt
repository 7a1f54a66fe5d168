use Rattle.std.proofs.Common.{is_some, sym, ap, ◌∙◌}
use Rattle.page.specs.Memory.{area_of, page_at}
use Rattle.held.specs.View.{holdings}
use Rattle.held.proofs.Entries.{holds_entries}
use Rattle.local.proofs.calls.LocalPagesHeldPages.holds.Goals as goal

pub returns : goal.returns
returns c =
    let b = c.args.self.now in
    c.is_some.ensures ∙ (ap is_some c.find.ensures ∙ sym (holds_entries (page_at (area_of b.memory)) c.args.key.number (holdings b.held)))
