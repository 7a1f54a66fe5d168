use Rattle.std.proofs.Common.{◌≡◌, length, sym, refl, rules, arith}
use borrow.Author.Tests.{tests}
use Rattle.std.proofs.lemmas.Bool.Decides.{nat_tests}
use Rattle.std.proofs.lemmas.Iterator.{YieldsList-from_slice, IsFirst-from_position, index_from_first}
use Rattle.std.specs.Option.{unwrap_or}
use Rattle.std.specs.Prelude.{◌≢◌}
use Rattle.tokens.specs.Cuts.{before}
use Rattle.tokens.proofs.cuts.find.Goals as goal

pub returns-clause-value : goal.returns-clause-value
returns-clause-value c =
    let mark = c.args.mark in
    let s = c.args.bytes.now in
    let first = IsFirst-from_position _ _ _ (λ b. b ≡ mark) (λ b. b ≢ mark) c.position.ensures.ran (YieldsList-from_slice s cc) (λ x q k. search (rules, tests)) (λ x q k. search (rules, tests)) in
    let index : unwrap_or c.position.result (length s) ≡ before mark s
    = sym (index_from_first (before mark) (λ b. b ≡ mark) (λ b. b ≢ mark) refl (λ b bs is. search (rules, tests)) (λ b bs differs. grind (arith, nat_tests)) s _ first) in
    cc
