use Rattle.std.proofs.Common.{sym, ◌∙◌, rules}
use Rattle.store.proofs.Gets.{got_answer, got_buffer, taken_after, read_after}
use Rattle.store.specs.StatesLemmas.{label_is}
use Rattle.store.specs.States.{store_view}
use Rattle.backend.proofs.Accounts.{passed}
use Rattle.store.proofs.calls.StoreBackend.get.Goals as goal

pub returns-in_err-check : goal.returns-in_err-check
returns-in_err-check g c = search (rules, label_is)

pub returns-then-is_ephemeral : goal.returns-then-is_ephemeral
returns-then-is_ephemeral g c =
    let b = c.args.self.now in
    let v = store_view g.H.HeldPages.fixed g.H.HeldPages.entries b in
    let k = c.args.key.number in
    let out = c.args.out.now in
    let page = passed _ _ _ c.check.ensures c.in_ok-check.was in
    let lack = g.H.HeldPages.lack in
    record {
      answer = got_answer lack v k out page _ _ c.take-found.ensures.answer;
      after = taken_after lack v k out page _ _ (sym c.is_ephemeral.ensures ∙ c.if-is_ephemeral.true) c.take-found.ensures.fixed c.take-found.ensures.entries;
      buffer = got_buffer lack v k out page _ c.take-found.ensures.buffer;
    }

pub returns-else-is_ephemeral : goal.returns-else-is_ephemeral
returns-else-is_ephemeral g c =
    let b = c.args.self.now in
    let v = store_view g.H.HeldPages.fixed g.H.HeldPages.entries b in
    let k = c.args.key.number in
    let out = c.args.out.now in
    let page = passed _ _ _ c.check.ensures c.in_ok-check.was in
    let lack = g.H.HeldPages.lack in
    record {
      answer = got_answer lack v k out page _ _ c.read-found.ensures.answer;
      after = read_after lack v k out page (sym c.is_ephemeral.ensures ∙ c.if-is_ephemeral.false);
      buffer = got_buffer lack v k out page _ c.read-found.ensures.buffer;
    }
