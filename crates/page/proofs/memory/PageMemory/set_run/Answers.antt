use Rattle.std.proofs.Common.{◌≡◌, ◌+◌, ◌<◌, ◌≤◌, length, rules}
use Rattle.page.specs.Memory.{area_of, pages_in, put_run}
use Rattle.page.proofs.Areas.{length_put_run, same_place_run, other_places_run}
use Rattle.page.proofs.memory.PageMemory.set_run.Goals as goal

pub returns : goal.returns
returns c =
    let area = area_of c.args.self.now in
    let place = c.args.place in
    let at = c.args.at in
    let run = c.args.run.now in
    let exists : place < pages_in area = search rules in
    let within : at + length run ≤ 256 = search rules in
    let laid : area_of c.overlay.new.self ≡ put_run area place at run = search rules in
    record {
      answer = search rules;
      area = laid;
      same_length = rw laid (length_put_run area place at run exists within);
      same_place = λ _. rw laid (same_place_run area place at run exists within);
      other_places = rw laid (other_places_run area place at run exists within);
    }
