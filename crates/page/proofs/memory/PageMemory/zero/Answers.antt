use Rattle.page.specs.Memory.{zero_page}
use Rattle.page.proofs.memory.PageMemory.zero.Goals as goal

pub returns : goal.returns
unfolding zero_page
returns c = c.write.ensures
