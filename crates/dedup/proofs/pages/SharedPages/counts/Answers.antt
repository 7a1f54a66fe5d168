use Rattle.std.proofs.Common.{ℕ, length, get_or, vec_items, sym, ap, ◌∙◌, arith}
use Rattle.page.specs.Counts.{count_of}
use Rattle.page.specs.Memory.{page_at}
use Rattle.contents.specs.View.{users_of, contents_area}
use Rattle.contents.proofs.Facts.{pages_apart, size_limit}
use Rattle.contents.proofs.InUse.{in_use_le}
use Rattle.held.specs.View.{holdings}
use Rattle.held.proofs.Entries.{length_entries}
use Rattle.held.proofs.Facts.{count_fits, size_small}
use Rattle.dedup.specs.Kept.{in_use_different, exact_is}
use Rattle.dedup.proofs.pages.SharedPages.counts.Goals as goal

pub overflow_cast-held : goal.overflow_cast-held
overflow_cast-held c =
    let b = c.args.self.now in
    omega (arith, c.count.ensures, count_fits b.held, size_small b.held)

pub overflow_cast-different : goal.overflow_cast-different
overflow_cast-different c =
    let b = c.args.self.now in
    omega (arith, c.in_use.ensures, in_use_le (users_of b.contents), size_limit b.contents)

pub returns : goal.returns
returns c =
    let b = c.args.self.now in
    let noted = vec_items b.content_at in
    let g : ℕ → ℕ = λ q. get_or noted q 0 in
    let users = users_of b.contents in
    let area = contents_area b.contents in
    let H = holdings b.held in
    let stored = in_use_different users area g H b.counted (pages_apart b.contents) in
    record {
      held = exact_is c.count.result (length H) c.count.ensures (omega (arith, count_fits b.held, size_small b.held)) ∙ ap count_of (sym (length_entries (λ q. page_at area (g q)) H));
      different = exact_is c.in_use.result _ c.in_use.ensures (omega (arith, in_use_le users, size_limit b.contents)) ∙ ap count_of stored;
      stored = stored;
    }
