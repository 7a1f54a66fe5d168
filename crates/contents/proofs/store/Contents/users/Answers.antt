use Rattle.std.proofs.Common.{◌≡◌, get_or, vec_items, sym, ◌∙◌, rules}
use Rattle.contents.proofs.Columns.{blank, users_at}
use Rattle.contents.proofs.store.Contents.users.Goals as goal

pub returns : goal.returns
returns c =
    let records = vec_items c.args.self.now.records in
    let e : c.map_or.result ≡ (get_or records c.args.content blank).users = search rules in
    e ∙ sym (users_at records c.args.content)
