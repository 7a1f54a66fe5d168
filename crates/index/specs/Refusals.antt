-- The numbers of the refusals.
use Rattle.std.specs.Prelude.{ℕ}
use Rattle.index.specs.declared.tree.FileRefusal.{FileRefusal}
use Rattle.index.specs.declared.tree.FileRefusal.TheVariants.{NoSlot, TooFewNodes}

abbrev pub number_of : FileRefusal → ℕ
number_of NoSlot = 41
number_of TooFewNodes = 42
