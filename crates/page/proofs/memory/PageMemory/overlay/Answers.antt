use Rattle.std.proofs.Common.{ℕ, List, length, sym, ap, ◌∙◌}
use Rattle.std.proofs.lemmas.List.{with_items_is}
use Rattle.page.specs.Memory.{area_of, overlaid}
use Rattle.page.proofs.Areas.{overlaid_by, length_overlaid}
use Rattle.page.proofs.memory.PageMemory.overlay.Goals as goal

pub returns : goal.returns
returns c =
    let memory = c.args.self.now in
    let at = c.args.at in
    let bytes = c.args.bytes.now in
    let laid =
    overlaid_by c.as_mut_slice-area.result.now at bytes _ c.copy_from_slice.ensures.after
    ∙ ap (λ (area : List ℕ). overlaid area at bytes) c.as_mut_slice-area.ensures.value in
    let long = ap length laid ∙ length_overlaid (area_of memory) at bytes c.requires ∙ sym memory.bytes.ok.0 in
    with_items_is memory.bytes _ long ∙ laid
