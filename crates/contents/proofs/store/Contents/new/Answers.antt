use Rattle.std.proofs.Common.{◌≡◌, ◌≤◌, min, length, replicate, vec_items, vec_len, ap, ◌∙◌, arith}
use Rattle.std.proofs.lemmas.List.{length-take}
use Rattle.page.specs.Memory.{pages_in}
use Rattle.contents.specs.Records.{fingerprints_in}
use Rattle.contents.proofs.Columns.{length_fingerprints, users_free}
use Rattle.contents.proofs.Keeping.{whole_none}
use Rattle.contents.proofs.store.Contents.new.Goals as goal

pub invariant_of-result : goal.invariant_of-result
invariant_of-result c =
    let area = vec_items c.args.memory.bytes in
    let n = vec_len c.truncate.new.self in
    let rs = vec_items c.fill.new.self in
    let pages = c.pages.ensures ∙ ap (λ v. pages_in (vec_items v)) c.new-memory.ensures in
    let cut = ap length c.truncate.ensures.items ∙ length-take c.min.result (vec_items c.args.memory.records) in
    let few : n ≤ 4096 = omega arith in
    let paged : n ≤ pages_in area = omega arith in
    let level : length (fingerprints_in rs) ≡ n = omega (arith, length_fingerprints rs, c.fill.ensures.len) in
    record {
      whole = ∣ rw (users_free rs n c.blank.result (c.fill.ensures.items (λ y same. same)) c.blank.ensures.users, c.new-memory.ensures)
          (whole_none n (fingerprints_in rs) area few paged level) ∣₁;
    }

pub returns-clause-users : goal.returns-clause-users
returns-clause-users c =
    let pages = c.pages.ensures ∙ ap (λ v. pages_in (vec_items v)) c.new-memory.ensures in
    let cut = ap length c.truncate.ensures.items ∙ length-take c.min.result (vec_items c.args.memory.records) in
    let kept : vec_len c.truncate.new.self ≡ min 4096 (min (pages_in (vec_items c.args.memory.bytes)) (length (vec_items c.args.memory.records))) = omega arith in
    users_free (vec_items c.fill.new.self) (vec_len c.truncate.new.self) c.blank.result (c.fill.ensures.items (λ y same. same)) c.blank.ensures.users ∙ ap (λ n. replicate n 0) kept
