use Rattle.std.proofs.Common.{rules}
use Rattle.backend.specs.Codec.{decode_encode}
use Rattle.backend.proofs.nothing.NothingBackend.put.Goals as goal

pub returns-in_err-offer : goal.returns-in_err-offer
returns-in_err-offer c = search (rules, decode_encode)

pub returns : goal.returns
returns c = search (rules, decode_encode)
