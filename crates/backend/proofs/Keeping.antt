-- The list of held pages keeps the interface's meaning, whatever lacks a place.
use Rattle.std.proofs.Common.{◌≡◌, ℕ, ◌^◌, ◌<◌, Bool, true, false, cond, eqb, ◌⊎◌, List, [], ◌∷◌, ◌++◌, length, Some, None, sym, refl, ap, ◌∙◌, subst, inl, inr, arith}
use Rattle.std.proofs.lemmas.List.{take_at, drop_at}
use Rattle.std.proofs.lemmas.Bool.{cond-true, cond-false, eq-eqb, eqb-true, true≢false}
use Rattle.page.specs.Counts.{one_more}
use Rattle.page.specs.Keys.{ephemeral}
use Rattle.page.specs.declared.counts.Count.{Count}
use Rattle.backend.specs.ListLaw.{ListLaw}
use Rattle.backend.specs.Listing.{ListState, flat, entries_from, read_state, write_state, without, one, cleared, joined_if, got_entries, in_object, in_pool, tidy, relisted, listed, lacking, no_place, list_rules}
use Rattle.backend.specs.Meaning.{Step, PutLaw, GetLaw, DropLaw, Meaning}
use Rattle.backend.specs.Rules.{Entry, lookup}
use Rattle.backend.specs.declared.refusals.Refusal.{Refusal}
use Rattle.backend.specs.Codec.{decode_encode}
use Rattle.backend.proofs.Entries.{lookup_second, lookup_first}
use Rattle.backend.proofs.Evictions.{Thinned, thinned_none, thinned_room, lookup_other, lookup_named, tidy_apart, tidy_sized, tidy_without, tidy_push, room_enough, room_none, room_more}
use Rattle.backend.proofs.Victims.{victim_gives_way, no_victim}

entries_back : (es : List Entry) → entries_from (length es) (flat es) ≡ es
entries_back [] = refl
entries_back (e ∷ es) =
    rw (take_at e.page (flat es) (length e.page) refl, drop_at e.page (flat es) (length e.page) refl)
    (ap (λ (fs : List Entry). e ∷ fs) (entries_back es))

pub read_write : (v : ListState) → read_state (write_state v) ≡ v
unfolding read_state write_state
read_write v = rw decode_encode (ap (λ (es : List Entry). record { label = v.label; offers = v.offers; fixed = v.fixed; entries = es }) (entries_back v.entries))

-- what a state that was written is read as
module _ (s : List ℕ) (o : Count) (es : List Entry) where
  at_entries : (P : List Entry → Type 0) → P es → P (listed (relisted s o es))
  at_entries P h = subst P (sym (ap (λ (v : ListState). v.entries) (read_write _))) h

  offers_are : (read_state (relisted s o es)).offers ≡ o
  offers_are = ap (λ (v : ListState). v.offers) (read_write _)

  label_stays : (read_state (relisted s o es)).label ≡ (read_state s).label
  label_stays = ap (λ (v : ListState). v.label) (read_write _)

module _ (lacks : List ℕ → List Entry → List ℕ → Bool) where
  step : (s : List ℕ) (o : Count) (es : List Entry) (named : ℕ → Bool) → tidy es ≡ true
      → ((j : ℕ) → named j ≡ false → (lookup j es ≡ lookup j (listed s)) ⊎ ((ephemeral j ≡ true) × (lookup j es ≡ None)))
      → Step (list_rules lacks) s (relisted s o es) named
  step s o es named good others = record {
    valid = at_entries s o es (λ fs. tidy fs ≡ true) good;
    label = label_stays s o es;
    others = λ j h. at_entries s o es (λ fs. (lookup j fs ≡ lookup j (listed s)) ⊎ ((ephemeral j ≡ true) × (lookup j fs ≡ None))) (others j h);
  }

  drops : (s : List ℕ) (named : ℕ → Bool) → tidy (listed s) ≡ true → DropLaw (list_rules lacks) s (relisted s (read_state s).offers (without named (listed s))) named
  drops s named good =
      let es = without named (listed s) in
      let o = (read_state s).offers in
      record {
        step = step s o es named (tidy_without named (listed s) good) (λ j h. inl (lookup_other named (listed s) j h));
        counted = offers_are s o es;
        gone = λ j h. at_entries s o es (λ fs. lookup j fs ≡ None) (lookup_named named (listed s) j h);
      }

  gets : (s : List ℕ) (k : ℕ) → tidy (listed s) ≡ true → GetLaw (list_rules lacks) s k
  gets s k good =
      let es = got_entries k (listed s) in
      let o = (read_state s).offers in
      record {
        step = step s o es (one k) (good_either (ephemeral k)) (λ j h. inl (other_either (ephemeral k) j h));
        counted = offers_are s o es;
        ephemeral_gone = λ e. at_entries s o es (λ fs. lookup k fs ≡ None)
            (ap (lookup k) (cond-true (ephemeral k) _ _ e) ∙ lookup_named (one k) (listed s) k (eq-eqb k k refl));
        persistent_kept = λ e. at_entries s o es (λ fs. lookup k fs ≡ lookup k (listed s)) (ap (lookup k) (cond-false (ephemeral k) _ _ e));
      }
    where
      good_either : (b : Bool) → tidy (cond b (without (one k) (listed s)) (listed s)) ≡ true
      good_either true = tidy_without (one k) (listed s) good
      good_either false = good

      other_either : (b : Bool) (j : ℕ) → eqb j k ≡ false → lookup j (cond b (without (one k) (listed s)) (listed s)) ≡ lookup j (listed s)
      other_either true j h = lookup_other (one k) (listed s) j h
      other_either false j h = refl

  module _ (s : List ℕ) (k : ℕ) (p : List ℕ) (good : tidy (listed s) ≡ true) (small : k < 2 ^ 32) (whole : length p ≡ 256) where
    rest : List Entry
    rest = cleared (lacking lacks s p) k (listed s)

    rest_thinned : Thinned (without (one k) (listed s)) rest
    unfolding rest cleared
    rest_thinned = thinned_room (lacking lacks s p) (without (one k) (listed s))

    rest_tidy : tidy rest ≡ true
    rest_tidy = rest_thinned.tidied (tidy_without (one k) (listed s) good)

    rest_none : lookup k rest ≡ None
    rest_none = thinned_none rest_thinned k (lookup_named (one k) (listed s) k (eq-eqb k k refl))

    offered : Entry
    offered = record { key = k; page = p }

    joined_tidy : (b : Bool) → tidy (joined_if b offered rest) ≡ true
    unfolding offered
    joined_tidy true = rest_tidy
    joined_tidy false = tidy_push k p rest rest_tidy rest_none small whole

    joined_other : (b : Bool) (j : ℕ) → eqb j k ≡ false → lookup j (joined_if b offered rest) ≡ lookup j rest
    unfolding offered
    joined_other true j h = refl
    joined_other false j h = lookup_first j rest _ (cond-false (eqb k j) _ _ (flipped (eqb k j) refl))
      where
        flipped : (b : Bool) → eqb k j ≡ b → eqb k j ≡ false
        flipped true e = absurd (true≢false (sym (eq-eqb _ _ (sym (eqb-true k j e))) ∙ h))
        flipped false e = e

    joined_kept : (b : Bool) (j : ℕ) → eqb j k ≡ false
        → (lookup j (joined_if b offered rest) ≡ lookup j (listed s)) ⊎ ((ephemeral j ≡ true) × (lookup j (joined_if b offered rest) ≡ None))
    joined_kept b j h =
        let same = joined_other b j h in
        elim (rest_thinned.kept j) [ inl was ↦ inl (same ∙ (was ∙ lookup_other (one k) (listed s) j h)) | inr gone ↦ inr (gone.0, same ∙ gone.1) ]

    joined_held : lookup k (rest ++ offered ∷ []) ≡ Some p
    unfolding offered
    joined_held = lookup_second k rest _ rest_none ∙ cond-true (eqb k k) _ _ (eq-eqb k k refl)

    accepted_held : (b : Bool) → cond b (Some (no_place s k)) None ≡ None → lookup k (joined_if b offered rest) ≡ Some p
    accepted_held true h = let z : ◌≡◌ {A = ℕ} 0 1 = cc in absurd (omega arith)
    accepted_held false h = joined_held

    refused_none : (b : Bool) (e : Refusal) → cond b (Some (no_place s k)) None ≡ Some e
        → (lookup k (joined_if b offered rest) ≡ None) × (no_place s k ≡ e)
    refused_none true e h = (rest_none, cc)
    refused_none false e h = let z : ◌≡◌ {A = ℕ} 0 1 = cc in absurd (omega arith)

    puts : PutLaw (list_rules lacks) s k p
    unfolding rest offered
    puts =
        let b = lacking lacks s p rest in
        let es = joined_if b offered rest in
        let o = one_more (read_state s).offers in
        record {
          step = step s o es (one k) (joined_tidy b) (joined_kept b);
          counted = offers_are s o es;
          accepted = λ h. at_entries s o es (λ fs. lookup k fs ≡ Some p) (accepted_held b h);
          refused = λ e h.
              let r = refused_none b e h in (
                at_entries s o es (λ fs. lookup k fs ≡ None) r.0,
                ap (λ (x : Refusal). x.key.number) (sym r.1),
                inl (ap (λ (x : Refusal). x.cause) (sym r.1)),
              );
        }

  pub list_keeps : Meaning (list_rules lacks)
  list_keeps = record {
    apart = λ s v. tidy_apart (listed s) v;
    sized = λ s v. tidy_sized (listed s) v;
    put = λ s k p v small whole. puts s k p v small whole;
    get = λ s k v. gets s k v;
    drop_page = λ s k v. drops s (one k) v;
    drop_object = λ s k v. drops s (in_object k) v;
    drop_pool = λ s k v. drops s (in_pool k) v;
  }

pub list_law : ListLaw
list_law = record {
  keeps = list_keeps;
  gives_way = victim_gives_way;
  none_gives_way = no_victim;
  enough = room_enough;
  none_left = room_none;
  goes_on = room_more;
  states = read_write;
}
