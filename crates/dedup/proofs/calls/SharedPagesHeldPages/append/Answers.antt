use Rattle.std.proofs.Common.{◌≡◌, ℕ, ◌<◌, true, ◌⊎◌, List, length, get_or, drop, set, is_some, Some, subst, vec_items, sym, refl, ap, ◌∙◌, inl, inr, arith, eq-eqb}
use Rattle.std.proofs.lemmas.List.{length-set}
use Rattle.page.specs.Memory.{page_at, start_of}
use Rattle.contents.specs.View.{users_of, contents_area}
use Rattle.contents.proofs.Facts.{pages_apart, size_paged}
use Rattle.held.specs.Entries.{entries_by}
use Rattle.held.specs.Holdings.{Holding, Pushed, place_of, without_key}
use Rattle.held.specs.View.{holdings, size_of}
use Rattle.held.proofs.Entries.{not_joined, may_join}
use Rattle.held.proofs.Facts.{count_fits, size_small}
use Rattle.dedup.specs.Dedup.{shared_fixed, shared_entries}
use Rattle.dedup.specs.Different.{dedup_lack}
use Rattle.dedup.specs.Shares.{contents_by, uses}
use Rattle.dedup.proofs.Joining.{without_pushed, fixed_same, refused_lacks, joined_counted, joined_entries, joined_place, joined_behind}
use Rattle.dedup.specs.Kept.{lacks_places}
use Rattle.dedup.proofs.calls.SharedPagesHeldPages.append.Goals as goal

pub returns-in_default : goal.returns-in_default
returns-in_default c =
    let b = c.args.self.now in
    let noted = vec_items b.content_at in
    let g : ℕ → ℕ = λ q. get_or noted q 0 in
    let users = users_of b.contents in
    let area = contents_area b.contents in
    let H = holdings b.held in
    let page = c.args.page.now in
    let e = c.in_default.ensures in
    let lack = dedup_lack (shared_fixed b) (shared_entries b) page in
    let why : (is_some (place_of c.args.key.number H) ≡ true) ⊎ (lack ≡ true) =
    elim e.cases.0 [
      | inl h ↦ inl h
      | inr h ↦ inr (lacks_places users area g H b.counted (pages_apart b.contents) (shared_fixed b) (size_of b.held) page refl refl (omega (arith, h)))
    ] in
    record {
      answer = not_joined (λ q. page_at area (g q)) c.args.key.number H page lack why;
      entries = ap (entries_by (λ q. page_at area (g q))) e.cases.1;
      fixed = fixed_same (size_of b.held) (length users) _ _ area _ e.size refl refl;
    }

pub invariant_of-self-in_default-acquire : goal.invariant_of-self-in_default-acquire
invariant_of-self-in_default-acquire c =
    let b = c.args.self.now in
    let noted = vec_items b.content_at in
    let k = c.args.key.number in
    let H = holdings b.held in
    let p = c.in-Some.place in
    let e = c.in-Some.ensures in
    let a = c.in_default-acquire.ensures.outcome in
    let back : holdings c.remove.new.self ≡ H = c.remove.ensures.after ∙ (ap (without_key k) e.cases.4 ∙ without_pushed k p H e.cases.0) in record {
      counted = λ i. ap (λ (us : List ℕ). get_or us i 0) a.0 ∙ (b.counted i ∙ ap (λ (R : List Holding). uses i (contents_by (λ q. get_or noted q 0) R)) (sym back));
      long = b.long ∙ sym (c.remove.ensures.size ∙ e.size);
    }

pub returns-in_default-acquire : goal.returns-in_default-acquire
returns-in_default-acquire c =
    let b = c.args.self.now in
    let noted = vec_items b.content_at in
    let g : ℕ → ℕ = λ q. get_or noted q 0 in
    let users = users_of b.contents in
    let area = contents_area b.contents in
    let H = holdings b.held in
    let k = c.args.key.number in
    let p = c.in-Some.place in
    let page = c.args.page.now in
    let e = c.in-Some.ensures in
    let a = c.in_default-acquire.ensures.outcome in
    let lack = dedup_lack (shared_fixed b) (shared_entries b) page in
    let lacks : lack ≡ true =
    refused_lacks users area noted H b.counted (pages_apart b.contents) (shared_fixed b) page refl c.if-page-ne-PAGE_BYTES.false
    (omega (arith, count_fits b.held, size_small b.held)) a.2 in
    let back : holdings c.remove.new.self ≡ H = c.remove.ensures.after ∙ (ap (without_key k) e.cases.4 ∙ without_pushed k p H e.cases.0) in
    record {
      answer = not_joined (λ q. page_at area (g q)) k H page lack (inr lacks);
      entries =
          ap (λ (bytes : List ℕ). entries_by (λ q. page_at bytes (g q)) (holdings c.remove.new.self)) a.1 ∙ ap (entries_by (λ q. page_at area (g q))) back;
      fixed =
          fixed_same (size_of b.held) (length users) _ _ area _ (c.remove.ensures.size ∙ e.size) (ap length a.0) (ap (drop (start_of (length users))) a.1);
    }

pub invariant_of-self-2 : goal.invariant_of-self-2
invariant_of-self-2 c =
    let b = c.args.self.now in
    let noted = vec_items b.content_at in
    let e = c.in-Some.ensures in
    let cases = subst (λ q. Pushed (size_of b.held) c.args.key.number (holdings b.held) (Some q) (holdings c.push.new.self)) (sym c.from.ensures) e.cases in
    let a = c.in-Some-acquire.ensures in
    let counted =
    joined_counted (users_of b.contents) (contents_area b.contents) noted (holdings b.held) b.counted (pages_apart b.contents)
    c.args.key.number c.from.result c.in-Some-acquire.content c.args.page.now _ _ cases.3 (omega (arith, cases.2, b.long)) a.outcome.1 in record {
      counted = λ i. counted i ∙ ap (λ (R : List Holding). uses i (contents_by (λ q. get_or (set noted c.from.result c.in-Some-acquire.content) q 0) R)) (sym cases.4);
      long = length-set noted _ _ ∙ (b.long ∙ sym e.size);
    }

pub returns : goal.returns
returns c =
    let b = c.args.self.now in
    let noted = vec_items b.content_at in
    let g : ℕ → ℕ = λ q. get_or noted q 0 in
    let users = users_of b.contents in
    let area = contents_area b.contents in
    let H = holdings b.held in
    let k = c.args.key.number in
    let p = c.from.result in
    let i = c.in-Some-acquire.content in
    let page = c.args.page.now in
    let whole = eq-eqb _ _ c.if-page-ne-PAGE_BYTES.false in
    let e = c.in-Some.ensures in
    let cases = subst (λ q. Pushed (size_of b.held) c.args.key.number (holdings b.held) (Some q) (holdings c.push.new.self)) (sym c.from.ensures) e.cases in
    let a = c.in-Some-acquire.ensures in
    let within : p < length noted = omega (arith, cases.2, b.long) in
    let lack = dedup_lack (shared_fixed b) (shared_entries b) page in
    record {
      answer =
          may_join (λ q. page_at area (g q)) k H page lack whole cases.0
          (joined_place users area noted H b.counted (pages_apart b.contents) k p i page _ _ cases.3 within a.outcome.1 (shared_fixed b) (size_of b.held) refl refl cases.1);
      entries =
          ap (entries_by (λ q. page_at (contents_area c.acquire.new.self) (get_or (set noted p i) q 0))) cases.4
          ∙ joined_entries users area noted H b.counted (pages_apart b.contents) k p i page _ _ cases.3 within a.outcome.1 (a.holds i refl) a.others;
      fixed =
          fixed_same (size_of b.held) (length users) _ _ area _ e.size a.same_size
          (joined_behind users area noted H b.counted (pages_apart b.contents) k p i page _ _ cases.3 within a.outcome.1 c.if-page-ne-PAGE_BYTES.false (size_paged b.contents));
    }
