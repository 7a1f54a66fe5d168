use Rattle.std.proofs.Common.{replicate}
use Rattle.std.proofs.lemmas.List.{get_or-replicate}
use Rattle.index.proofs.Masks.{agrees_none}
use Rattle.index.proofs.make.clear_nodes.Goals as goal

pub invariant_of-node : goal.invariant_of-node
invariant_of-node c = record { agrees = ∣ agrees_none (replicate 16 0) (λ c l. get_or-replicate 16 c 0 0 l) ∣₁ }
