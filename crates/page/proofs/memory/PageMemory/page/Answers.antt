use Rattle.std.proofs.Common.{◌≡◌, ◌<◌, rules}
use Rattle.page.specs.Memory.{area_of, pages_in, start_of}
use Rattle.page.proofs.Areas.{page_read, length_page_at}
use Rattle.page.proofs.memory.PageMemory.page.Goals as goal

pub returns : goal.returns
returns c =
    let start = c.in_ok-start.start in
    let at_place : start ≡ start_of c.args.place = search rules in
    let exists : c.args.place < pages_in (area_of c.args.self.now) = search rules in
    let part = page_read c.as_slice.result.now c.args.place start at_place in
    let long = length_page_at c.as_slice.result.now c.args.place in
    grind rules
