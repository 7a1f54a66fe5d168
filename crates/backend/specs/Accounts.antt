-- What a part of a pile keeps of itself, and what it refuses by it.
use Rattle.std.specs.Prelude.{cond, List, ℕ, Ok, Err, Result}
use Rattle.page.specs.Counts.{one_more}
use Rattle.page.specs.declared.keys.Key.{Key}
use Rattle.backend.specs.Outcomes.{is_page}
use Rattle.backend.specs.declared.account.Account.{Account}
use Rattle.backend.specs.declared.refusals.Cause.{Cause}
use Rattle.backend.specs.declared.refusals.Cause.TheVariants.{NotAPage}
use Rattle.backend.specs.declared.refusals.Refusal.{Refusal}

-- the part's refusal of a call on a key
abbrev pub refusal_of : Account → Cause → Key → Refusal
refusal_of a cause k = record { cause = cause; key = k; label = a.label }

-- a buffer of another length than 256 is refused
abbrev pub checked : Account → Key → List ℕ → Result Unit Refusal
checked a k buffer = cond (is_page buffer) (Ok tt) (Err (refusal_of a NotAPage k))

-- the account after one offer more
abbrev pub offered : Account → Account
offered a = record { label = a.label; offers = one_more a.offers }
