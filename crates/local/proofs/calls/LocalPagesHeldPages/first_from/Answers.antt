use Rattle.page.specs.Memory.{area_of, page_at}
use Rattle.held.specs.View.{holdings}
use Rattle.held.proofs.Entries.{first_found}
use Rattle.local.proofs.calls.LocalPagesHeldPages.first_from.Goals as goal

pub returns : goal.returns
returns c = first_found (page_at (area_of c.args.self.now.memory)) c.args.key.number (holdings c.args.self.now.held) c.first_from.result c.first_from.ensures
