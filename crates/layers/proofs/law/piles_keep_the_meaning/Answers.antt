use Rattle.layers.proofs.Piles.{piles_law}
use Rattle.layers.proofs.law.piles_keep_the_meaning.Goals as goal

pub returns : goal.returns
returns c = piles_law
