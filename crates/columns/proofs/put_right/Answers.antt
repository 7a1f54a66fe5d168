use Rattle.std.proofs.Common.{◌≡◌, ℕ, ◌-◌, List, length, replicate, sym, ap, ◌∙◌, arith}
use borrow.Rule.Slice.PartMut.{put_mid}
use Rattle.columns.specs.Columns.{right}
use Rattle.columns.proofs.Appends.{over_blanks}
use Rattle.columns.proofs.put_right.Goals as goal

pub returns : goal.returns
returns c =
    let field = c.fill.new.self in
    let text = c.args.text.now in
    let w = length field in
    let blank : field ≡ replicate w 32 = c.fill.ensures.after (λ y p. p) ∙ ap (λ (n : ℕ). replicate {A = ℕ} n 32) (sym c.fill.ensures.len) in
    ap (λ (t : List ℕ). put_mid (w - length text) (w - (w - length text)) field t) c.copy_from_slice.ensures.after
    ∙ over_blanks w field text blank (omega (arith, c.fill.ensures.len, c.requires)) ∙ ap (λ (n : ℕ). right n text) c.fill.ensures.len
