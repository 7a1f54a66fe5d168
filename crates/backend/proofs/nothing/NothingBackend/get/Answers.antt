use Rattle.std.proofs.Common.{rules}
use Rattle.backend.specs.Codec.{decode_encode}
use Rattle.backend.proofs.nothing.NothingBackend.get.Goals as goal

pub returns-in_err-check : goal.returns-in_err-check
returns-in_err-check c = search (rules, decode_encode)

pub returns : goal.returns
returns c = search (rules, decode_encode)
