use Rattle.index.proofs.Histories.{nothing_leaks_lem}
use Rattle.index.proofs.laws.nothing_leaks.Goals as goal

pub returns : goal.returns
returns g c = nothing_leaks_lem _
