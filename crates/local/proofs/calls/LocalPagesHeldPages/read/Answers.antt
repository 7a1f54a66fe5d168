use Rattle.std.proofs.Common.{◌<◌, Some, sym, ap, ◌∙◌, arith}
use Rattle.page.specs.Memory.{area_of, page_at}
use Rattle.held.specs.View.{holdings, size_of}
use Rattle.held.proofs.Entries.{missed, place_taken}
use Rattle.held.proofs.Facts.{places_below}
use Rattle.local.specs.Kept.{read_found}
use Rattle.local.proofs.calls.LocalPagesHeldPages.read.Goals as goal

pub returns : goal.returns
returns c =
    let b = c.args.self.now in
    let k = c.args.key.number in
    let p = c.from.result in
    let at = sym c.in-Some.ensures ∙ ap Some (sym c.from.ensures) in
    let below = place_taken (λ q. q < size_of b.held) k p (holdings b.held) (places_below b.held) at in
    let found = read_found (area_of b.memory) (holdings b.held) k c.args.out.now p c.read.result at (omega (arith, below, b.fits)) c.read.ensures.answer in
    record { answer = c.is_ok.ensures.value ∙ found.0; buffer = c.read.ensures.out ∙ found.1 }

pub returns-in_default : goal.returns-in_default
returns-in_default c =
    let b = c.args.self.now in
    let none = missed (page_at (area_of b.memory)) c.args.key.number (holdings b.held) c.args.out.now (sym c.in_default.ensures) in
    record { answer = none.0; buffer = none.1 }
