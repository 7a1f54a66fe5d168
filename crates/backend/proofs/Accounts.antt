-- What passes the test of its length is a page, and its offer was counted.
use Rattle.std.proofs.Common.{◌≡◌, Bool, true, false, cond, List, ℕ, Ok, Err, Result, sym, refl, ◌∙◌, arith}
use Rattle.std.proofs.lemmas.Bool.{cond-true}
use Rattle.backend.specs.Accounts.{offered}
use Rattle.backend.specs.States.{encode}
use Rattle.backend.specs.declared.account.Account.{Account}
use Rattle.backend.specs.declared.refusals.Refusal.{Refusal}

abbrev unless : Bool → Refusal → Result Unit Refusal
unless b e = cond b (Ok tt) (Err e)

abbrev granted : Result Unit Refusal
granted = Ok tt

passed_if : (e : Refusal) (b : Bool) → unless b e ≡ granted → b ≡ true
passed_if e true h = refl
passed_if e false h = let z : ◌≡◌ {A = ℕ} 0 1 = cc in absurd (omega arith)

-- granted, the buffer is a page
pub passed : (e : Refusal) (b : Bool) (r : Result Unit Refusal) → r ≡ unless b e → r ≡ granted → b ≡ true
passed e b r answer was = passed_if e b (sym answer ∙ was)

-- and the offer of it was counted
pub counted : (a n : Account) (b : Bool) → b ≡ true → n ≡ cond b (offered a) a → n ≡ offered a
counted a n b page after = after ∙ cond-true b _ _ page

-- a part's state as its account and two lists
abbrev pub stated : Account → List ℕ → List ℕ → List ℕ
stated a first second = encode (record { label = a.label; offers = a.offers; first = first; second = second })

pub same_state : {a b : Account} {s t u v : List ℕ} → a ≡ b → s ≡ t → u ≡ v → stated a s u ≡ stated b t v
same_state e f h = rw (e, f, h)
