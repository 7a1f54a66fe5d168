use Rattle.std.proofs.Common.{◌≡◌, ℕ, ◌-◌, List, length, get_or, drop, set, vec_items, sym, refl, ap, ◌∙◌, arith}
use Rattle.std.proofs.lemmas.List.{get_or_read_under, length-set}
use Rattle.page.specs.Memory.{page_at, start_of}
use Rattle.contents.specs.View.{users_of, contents_area}
use Rattle.contents.proofs.Facts.{pages_apart}
use Rattle.held.specs.Entries.{entries_by}
use Rattle.held.specs.Holdings.{Holding}
use Rattle.held.specs.View.{holdings, size_of}
use Rattle.held.proofs.Entries.{without_entries}
use Rattle.held.proofs.Facts.{keys_apart, place_below}
use Rattle.dedup.specs.Shares.{contents_by, uses}
use Rattle.dedup.proofs.Joining.{fixed_same, left_counted}
use Rattle.dedup.specs.SharesLemmas.{without_none}
use Rattle.dedup.proofs.calls.SharedPagesHeldPages.remove.Goals as goal

pub index-requires : goal.index-requires
index-requires c =
    let b = c.args.self.now in
    let below = place_below b.held c.args.key.number c.in-Some.place (sym c.in-Some.ensures.value) in
    omega (arith, below, b.long, b.content_at.ok.0, c.from.ensures)

pub invariant_of-self : goal.invariant_of-self
invariant_of-self c =
    let b = c.args.self.now in
    let noted = vec_items b.content_at in
    let users = users_of b.contents in
    let p = c.in-Some.place in
    let k = c.args.key.number in
    let e = c.in-Some.ensures in
    let content =
    get_or_read_under noted c.from.result (length noted) c.index.result.now 0 c.index.ensures (omega (arith, c.from.ensures, place_below b.held k p (sym e.value), b.long)) refl
    ∙ ap (λ (q : ℕ). get_or noted q 0) c.from.ensures in
    let less = left_counted users (contents_area b.contents) noted (holdings b.held) b.counted (pages_apart b.contents) k p (keys_apart b.held) (sym e.value) in record {
      counted = λ i.
          ap (λ (us : List ℕ). get_or us i 0) (c.release.ensures.users ∙ ap (λ (j : ℕ). set users j (get_or users j 0 - 1)) content)
          ∙ (less i ∙ ap (λ (H : List Holding). uses i (contents_by (λ q. get_or noted q 0) H)) (sym e.after));
      long = b.long ∙ sym e.size;
    }

pub invariant_of-self-in_default : goal.invariant_of-self-in_default
invariant_of-self-in_default c =
    let b = c.args.self.now in
    let noted = vec_items b.content_at in
    let e = c.in_default.ensures in
    let same : holdings c.remove.new.self ≡ holdings b.held = e.after ∙ without_none c.args.key.number (holdings b.held) (sym e.value) in record {
      counted = λ i. b.counted i ∙ ap (λ (H : List Holding). uses i (contents_by (λ q. get_or noted q 0) H)) (sym same);
      long = b.long ∙ sym e.size;
    }

pub returns-in-Some : goal.returns-in-Some
returns-in-Some c =
    let b = c.args.self.now in
    let f : ℕ → List ℕ = λ q. page_at (contents_area b.contents) (get_or (vec_items b.content_at) q 0) in
    let e = c.in-Some.ensures in
    let u = c.release.ensures in
    record {
      entries =
          ap (λ (a : List ℕ). entries_by (λ q. page_at a (get_or (vec_items b.content_at) q 0)) (holdings c.remove.new.self)) u.area
          ∙ (ap (entries_by f) e.after ∙ without_entries f c.args.key.number (holdings b.held));
      fixed =
          fixed_same (size_of b.held) (length (users_of b.contents)) _ _ (contents_area b.contents) _ e.size
          (ap length u.users ∙ length-set (users_of b.contents) _ _) (ap (drop (start_of (length (users_of b.contents)))) u.area);
    }

pub returns-in_default : goal.returns-in_default
returns-in_default c =
    let b = c.args.self.now in
    let f : ℕ → List ℕ = λ q. page_at (contents_area b.contents) (get_or (vec_items b.content_at) q 0) in
    let e = c.in_default.ensures in
    record {
      entries = ap (entries_by f) e.after ∙ without_entries f c.args.key.number (holdings b.held);
      fixed = fixed_same (size_of b.held) (length (users_of b.contents)) _ _ (contents_area b.contents) _ e.size refl refl;
    }
