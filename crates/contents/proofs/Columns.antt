-- The laws of the columns of a list of records.
use Rattle.std.proofs.Common.{◌≡◌, ℕ, zero, suc, ◌<◌, List, ◌∷◌, length, get_or, set, replicate, sym, refl, ap, ◌∙◌}
use Rattle.std.proofs.lemmas.List.{length-map, get_or-map, map-set, set-get_or}
use Rattle.std.proofs.Math.ListN.{get_or-map as column_at}
use Rattle.contents.specs.declared.records.ContentRecord.{ContentRecord}
use Rattle.contents.specs.Records.{users_in, fingerprints_in}

pub length_users : (rs : List ContentRecord) → length (users_in rs) ≡ length rs
unfolding users_in
length_users rs = length-map rs (λ r. r.users)

pub length_fingerprints : (rs : List ContentRecord) → length (fingerprints_in rs) ≡ length rs
unfolding fingerprints_in
length_fingerprints rs = length-map rs (λ r. r.fingerprint)

pub users_read : (rs : List ContentRecord) (i : ℕ) (d : ContentRecord) → i < length rs → get_or (users_in rs) i 0 ≡ (get_or rs i d).users
unfolding users_in
users_read rs i d h = get_or-map (λ r. r.users) rs i d 0 h

pub fingerprints_read : (rs : List ContentRecord) (i : ℕ) (d : ContentRecord) → i < length rs → get_or (fingerprints_in rs) i 0 ≡ (get_or rs i d).fingerprint
unfolding fingerprints_in
fingerprints_read rs i d h = get_or-map (λ r. r.fingerprint) rs i d 0 h

-- what a read past the end of the records would give
abbrev pub blank : ContentRecord
blank = record { users = 0; fingerprint = 0 }

pub users_at : (rs : List ContentRecord) (i : ℕ) → get_or (users_in rs) i 0 ≡ (get_or rs i blank).users
unfolding users_in
users_at rs i = column_at (λ r. r.users) rs i blank

pub users_set : (rs : List ContentRecord) (i : ℕ) (r : ContentRecord) → users_in (set rs i r) ≡ set (users_in rs) i r.users
unfolding users_in
users_set rs i r = map-set (λ r. r.users) rs i r

pub fingerprints_set : (rs : List ContentRecord) (i : ℕ) (r : ContentRecord) → fingerprints_in (set rs i r) ≡ set (fingerprints_in rs) i r.fingerprint
unfolding fingerprints_in
fingerprints_set rs i r = map-set (λ r. r.fingerprint) rs i r

-- a record whose users alone are new
pub fingerprints_kept : (rs : List ContentRecord) (i : ℕ) (old : ContentRecord) (users : ℕ) → i < length rs → old ≡ get_or rs i old
    → fingerprints_in (set rs i (record { users = users; fingerprint = old.fingerprint })) ≡ fingerprints_in rs
fingerprints_kept rs i old users h e =
    let read : old.fingerprint ≡ get_or (fingerprints_in rs) i 0 = ap (λ r. r.fingerprint) e ∙ sym (fingerprints_read rs i old h) in
    fingerprints_set rs i _ ∙ ap (λ v. set (fingerprints_in rs) i v) read ∙ set-get_or (fingerprints_in rs) i 0

users_alike : (n : ℕ) (r : ContentRecord) → users_in (replicate n r) ≡ replicate n r.users
unfolding users_in
users_alike zero r = refl
users_alike (suc n) r = ap (λ us. r.users ∷ us) (users_alike n r)

-- records that are all free
pub users_free : (rs : List ContentRecord) (n : ℕ) (r : ContentRecord) → rs ≡ replicate n r → r.users ≡ 0 → users_in rs ≡ replicate n 0
users_free rs n r alike free = ap users_in alike ∙ users_alike n r ∙ ap (replicate n) free
