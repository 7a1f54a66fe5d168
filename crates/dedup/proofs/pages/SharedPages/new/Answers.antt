use Rattle.std.proofs.Common.{◌≡◌, ℕ, List, length, get_or, vec_items, sym, ap, ◌∙◌, arith}
use Rattle.std.proofs.lemmas.List.{length-replicate}
use Rattle.page.specs.Memory.{page_at}
use Rattle.contents.specs.View.{contents_area}
use Rattle.held.specs.Entries.{entries_by}
use Rattle.held.specs.Holdings.{Holding}
use Rattle.held.specs.View.{size_of}
use Rattle.dedup.specs.Shares.{contents_by, uses}
use Rattle.dedup.specs.Kept.{get_or_zeros}
use Rattle.dedup.proofs.pages.SharedPages.new.Goals as goal

pub invariant_of-result : goal.invariant_of-result
invariant_of-result c =
    let h = c.in_ok-held.ensures in
    let v = c.in_ok-content_at.content_at.ok.0 in
    let made = c.in_ok-content_at.ensures in
    let n = made.len in
    let noted = vec_items c.in_ok-content_at.content_at in
    let long : length noted ≡ size_of c.in_ok-held.held = omega (arith, c.size.ensures) in record {
      counted = λ i.
          ap (λ (us : List ℕ). get_or us i 0) c.new-contents.ensures.users
          ∙ (get_or_zeros _ i ∙ ap (λ (H : List Holding). uses i (contents_by (λ q. get_or noted q 0) H)) (sym h.0));
      long = long;
    }

pub returns : goal.returns
returns c =
    let h = c.in_ok-held.ensures in
    let noted = vec_items c.in_ok-content_at.content_at in (
      ap (entries_by (λ q. page_at (contents_area c.new-contents.result) (get_or noted q 0))) h.0,
      h.1,
      ap length c.new-contents.ensures.users ∙ length-replicate _ 0,
      c.new-contents.ensures.area,
    )
