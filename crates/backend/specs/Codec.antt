-- A state that was written reads as it was.
use Rattle.std.specs.Prelude.{◌≡◌, length, refl}
use Rattle.std.proofs.Common.{ap}
use Rattle.std.proofs.lemmas.List.{take_at, drop_at}
use Rattle.page.specs.declared.counts.Count.{Count}
use Rattle.page.specs.declared.counts.Count.TheVariants.{Exact, Over}
use Rattle.backend.specs.States.{View, count_number, numbered_count, encode, decode}

count_back : (c : Count) → numbered_count (count_number c) ≡ c
count_back (Exact n) = refl
count_back Over = refl

pub decode_encode : (v : View) → decode (encode v) ≡ v
unfolding encode decode
decode_encode v =
    rw (take_at v.first v.second (length v.first) refl, drop_at v.first v.second (length v.first) refl)
    (ap (λ (c : Count). record { label = v.label; offers = c; first = v.first; second = v.second }) (count_back v.offers))
