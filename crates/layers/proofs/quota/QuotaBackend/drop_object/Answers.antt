use Rattle.std.proofs.Common.{rules}
use Rattle.backend.specs.Codec.{decode_encode}
use Rattle.layers.proofs.quota.QuotaBackend.drop_object.Goals as goal

pub returns : goal.returns
returns g c = search (rules, decode_encode)
