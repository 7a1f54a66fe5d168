use Rattle.std.proofs.Common.{rules}
use Rattle.backend.specs.Codec.{decode_encode}
use Rattle.backend.proofs.nothing.Nothing.new.Goals as goal

pub returns : goal.returns
returns c = search (rules, decode_encode)
