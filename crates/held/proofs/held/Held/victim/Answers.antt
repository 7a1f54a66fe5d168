use Rattle.std.proofs.Common.{◌≡◌, get_or, sym, ap, ◌∙◌, arith}
use Rattle.backend.specs.Victims.{pool_size, oldest_of, fullest}
use Rattle.held.specs.Holdings.{keys}
use Rattle.held.specs.View.{holdings}
use Rattle.held.proofs.Counts.{fullest_alike, fullest_is, victim_is}
use Rattle.held.proofs.held.Held.victim.Goals as goal

pub returns : goal.returns
returns c =
    let ks = keys (holdings c.args.self.now) in
    let pool : c.fullest_even.result ≡ fullest ks
    = c.fullest_even.ensures ∙ (fullest_alike (λ p. get_or c.pool_sizes.result p 0) (pool_size ks) c.pool_sizes.ensures 7 (omega arith) ∙ sym (fullest_is ks)) in
    c.oldest_of.ensures ∙ (ap (λ p. oldest_of p ks) pool ∙ sym (victim_is ks))
