use Rattle.std.proofs.Common.{◌≡◌, ℕ, ◌*◌, ◌+◌, List, ◌++◌, length, get_or, drop, take, ap, ◌∙◌, subst, arith}
use Rattle.std.specs.List.{flat_map, AllByRecursion}
use Rattle.std.proofs.ByRecursion.{All-more}
use Rattle.std.proofs.lemmas.List.{take_all}
use Rattle.page.specs.Counts.{count_text}
use Rattle.page.specs.declared.counts.Count.{Count}
use Rattle.page.specs.declared.counts.Count.TheVariants.{Exact}
use Rattle.columns.specs.Columns.{right, value_text, Counted}
use Rattle.columns.proofs.Appends.{part_length, appended_more}
use Rattle.columns.proofs.put_counts.Goals as goal

pub loop-i-preserved : goal.loop-i-preserved
loop-i-preserved c =
    let counts = c.args.counts.now in
    let i = c.loop-i.i in
    let start : ℕ = 11 * i in
    let part = part_length start 11 c.loop-i.buffer (omega arith) in
    let next : 11 * i + 11 ≡ 11 * (i + 1) = omega arith in (
      appended_more value_text counts i (Exact 0) c.put_count.new.field c.loop-i.buffer c.args.buffer.now start 11
          (omega arith) c.loop-i.invariant.0 (omega arith) (omega arith)
          (c.put_count.ensures.bytes ∙ ap (λ (w : ℕ). right w (count_text (get_or counts i (Exact 0)))) part)
          ∙ ap (λ (n : ℕ). flat_map value_text (take (i + 1) counts) ++ drop n c.args.buffer.now) next,
      All-more Counted counts i (Exact 0) (omega arith) c.loop-i.invariant.1 c.put_count.ensures.fits,
    )

pub returns : goal.returns
returns c =
    let counts = c.args.counts.now in
    let all = take_all c.loop-i.i counts (omega arith) in
    let end : 11 * c.loop-i.i ≡ 11 * length counts = omega arith in
    record {
      bytes = c.loop-i.invariant.0 ∙ ap (λ (cs : List Count). flat_map value_text cs ++ drop (11 * c.loop-i.i) c.args.buffer.now) all
          ∙ ap (λ (n : ℕ). flat_map value_text counts ++ drop n c.args.buffer.now) end;
      fits = subst (λ cs. AllByRecursion Counted cs) all c.loop-i.invariant.1;
    }
