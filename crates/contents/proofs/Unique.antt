-- That contents are whole holds in at most one way, so that a ghost field may say it.
use Rattle.std.proofs.Common.{◌≡◌, ℕ, ◌≤◌, List, length}
use mathlib.Core.Logic.{∥∥₁_elim}
use denote.Struct.Props.{props}
use Rattle.page.specs.Memory.{pages_in}
use Rattle.contents.specs.Records.{in_use_in}
use Rattle.contents.specs.Whole.{Printed, Apart, Whole}

whole_prop : (users fingerprints area : List ℕ) (count : ℕ) → IsProp (Whole users fingerprints area count)
whole_prop users fingerprints area count p q =
    let few : IsProp (length users ≤ 4096) = hlevel props in
    let paged : IsProp (length users ≤ pages_in area) = hlevel props in
    let level : IsProp (length fingerprints ≡ length users) = hlevel props in
    let counted : IsProp (count ≡ in_use_in users) = hlevel props in
    let printed : IsProp (Printed users fingerprints area) = hlevel props in
    let apart : IsProp (Apart users area) = hlevel props in
    λ i. record {
      few = few p.few q.few i;
      paged = paged p.paged q.paged i;
      level = level p.level q.level i;
      counted = counted p.counted q.counted i;
      printed = printed p.printed q.printed i;
      apart = apart p.apart q.apart i;
    }

-- what the ghost field keeps
pub kept : {users fingerprints area : List ℕ} {count : ℕ} → ∥ Whole users fingerprints area count ∥₁ → Whole users fingerprints area count
kept {users} {fingerprints} {area} {count} w = ∥∥₁_elim w (whole_prop users fingerprints area count) (λ x. x)
