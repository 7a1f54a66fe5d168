use Rattle.std.proofs.Common.{◌≡◌, ◌<◌, length, rules}
use Rattle.page.specs.Memory.{area_of, pages_in, put_page}
use Rattle.page.proofs.Areas.{length_put_page, same_place, other_places}
use Rattle.page.proofs.memory.PageMemory.write.Goals as goal

pub returns : goal.returns
returns c =
    let area = area_of c.args.self.now in
    let place = c.args.place in
    let page = c.args.page.now in
    let exists : place < pages_in area = search rules in
    let whole : length page ≡ 256 = search rules in
    let laid : area_of c.overlay.new.self ≡ put_page area place page = search rules in
    record {
      answer = search rules;
      area = laid;
      same_length = rw laid (length_put_page area place page exists whole);
      same_place = λ _. rw laid (same_place area place page exists whole);
      other_places = rw laid (other_places area place page exists whole);
    }
