-- What a page and its fingerprint tell of one another.
use Rattle.std.proofs.Common.{◌≡◌, ℕ, List, get_or, ap, ◌∙◌}
use Rattle.contents.specs.Calls.{Holds}
use Rattle.contents.specs.Fingerprint.{fingerprint_of}
use Rattle.contents.specs.Whole.{Printed}

-- a content that is the page has its fingerprint
pub print_tells : (users fingerprints area page : List ℕ) (i : ℕ) → Printed users fingerprints area → Holds users area page i → get_or fingerprints i 0 ≡ fingerprint_of page
print_tells users fingerprints area page i printed holds = printed i holds.used ∙ ap fingerprint_of holds.same
