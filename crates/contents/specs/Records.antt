-- The columns of a list of records.
use Rattle.std.specs.Prelude.{ℕ, List, map, count_by, nat_le}
use Rattle.contents.specs.declared.records.ContentRecord.{ContentRecord}

unfoldable pub users_in : List ContentRecord → List ℕ
users_in records = map (λ r. r.users) records

unfoldable pub fingerprints_in : List ContentRecord → List ℕ
fingerprints_in records = map (λ r. r.fingerprint) records

-- how many contents have users
unfoldable pub in_use_in : List ℕ → ℕ
in_use_in users = count_by (λ n. nat_le 1 n) users
