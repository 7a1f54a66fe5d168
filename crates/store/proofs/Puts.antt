-- A put: its key goes, room is made, and the page joins if it has a place.
use Rattle.std.proofs.Common.{◌≡◌, ℕ, Bool, true, false, cond, not, ◌&&◌, List, [], ◌∷◌, ◌++◌, is_some, Some, None, Ok, Err, Option, sym, refl, ap, ◌∙◌, arith}
use Rattle.std.proofs.lemmas.Bool.{cond-true, eq-eqb, false≢true}
use Rattle.backend.specs.Listing.{ListState, write_state, without, one, room_made, cleared, joined_if, list_rules}
use Rattle.backend.specs.Outcomes.{granted_unless, is_page}
use Rattle.backend.specs.Rules.{Entry, lookup}
use Rattle.backend.specs.declared.account.Account.{Account}
use Rattle.backend.specs.declared.refusals.Cause.TheVariants.{NoPlace}
use Rattle.backend.proofs.Evictions.{thinned_none, thinned_room, lookup_named}
use Rattle.backend.specs.Finding.{joins}
use Rattle.store.specs.StatesLemmas.{offered_once_more, put_next_is, put_refusal_is}

module _ (lack : List ℕ → List Entry → List ℕ → Bool) (v : ListState) (k : ℕ) (p : List ℕ) where
  abbrev lacks : List Entry → Bool
  lacks es = lack v.fixed es p

  abbrev offered : Entry
  offered = record { key = k; page = p }

  -- the pages that the put finds
  pub rest : List Entry
  rest = cleared lacks k v.entries

  pub rest_is : (s : List ℕ) (es fs : List Entry) → s ≡ v.fixed → es ≡ without (one k) v.entries → fs ≡ room_made (λ gs. lack s gs p) es → fs ≡ rest
  unfolding rest cleared
  rest_is s es fs fixed gone made = made ∙ (ap (λ (t : List ℕ). room_made (λ gs. lack t gs p) es) fixed ∙ ap (room_made lacks) gone)

  rest_none : lookup k rest ≡ None
  unfolding rest cleared
  rest_none = thinned_none (thinned_room lacks (without (one k) v.entries)) k (lookup_named (one k) v.entries k (eq-eqb k k refl))

  joins_if : (o : Option (List ℕ)) (page b : Bool) → page ≡ true → o ≡ None → page && (not (is_some o) && not b) ≡ not b
  joins_if None true b h none = refl
  joins_if None false b h none = absurd (false≢true h)
  joins_if (Some q) page b h none = let z : ◌≡◌ {A = ℕ} 0 1 = cc in absurd (omega arith)

  module _ (page : is_page p ≡ true) (s : List ℕ) (fs : List Entry) (r : Bool) (fixed : s ≡ v.fixed) (found : fs ≡ rest) (answer : r ≡ joins (lack s fs p) k p fs) where
    joins_is : r ≡ not (lacks rest)
    joins_is =
        answer
        ∙ (ap (λ (t : List ℕ). joins (lack t fs p) k p fs) fixed
        ∙ (ap (λ (gs : List Entry). joins (lacks gs) k p gs) found ∙ joins_if (lookup k rest) (is_page p) (lacks rest) page rest_none))

    after_if : (b : Bool) → r ≡ not b → cond r (rest ++ offered ∷ []) rest ≡ joined_if b offered rest
    after_if true h = rw h
    after_if false h = rw h

    answer_if : (b : Bool) → r ≡ not b
        → granted_unless (cond b (Some (record { cause = NoPlace; key = record { number = k }; label = v.label })) None)
        ≡ cond r (Ok tt) (Err (record { cause = NoPlace; key = record { number = k }; label = v.label }))
    answer_if true h = rw h
    answer_if false h = rw h

    pub put_answer : granted_unless ((list_rules lack).put_refusal (write_state v) k p)
        ≡ cond r (Ok tt) (Err (record { cause = NoPlace; key = record { number = k }; label = v.label }))
    unfolding rest
    put_answer = ap granted_unless (put_refusal_is lack v k p) ∙ answer_if (lacks rest) joins_is

    pub put_after : (t : List ℕ) (gs : List Entry) → t ≡ s → gs ≡ cond r (fs ++ offered ∷ []) fs
        → write_state (record { label = v.label; offers = (offered_once_more v).offers; fixed = t; entries = gs }) ≡ (list_rules lack).put_next (write_state v) k p
    unfolding rest
    put_after t gs same made =
        let entries : gs ≡ joined_if (lacks rest) offered rest =
        made ∙ (ap (λ (es : List Entry). cond r (es ++ offered ∷ []) es) found ∙ after_if (lacks rest) joins_is) in
        ap (λ (es : List Entry). write_state (record { label = v.label; offers = (offered_once_more v).offers; fixed = t; entries = es })) entries
        ∙ (ap (λ (u : List ℕ). write_state (record { label = v.label; offers = (offered_once_more v).offers; fixed = u; entries = joined_if (lacks rest) offered rest })) (same ∙ fixed)
        ∙ sym (put_next_is lack v k p))

  -- the offer was counted
  pub put_counted : is_page p ≡ true → (a b : Account) (t u : List ℕ) (es : List Entry) → b ≡ a
      → write_state (record { label = a.label; offers = a.offers; fixed = t; entries = es }) ≡ u
      → write_state (record { label = b.label; offers = b.offers; fixed = t; entries = es }) ≡ cond (is_page p) u (write_state v)
  put_counted page a b t u es same h =
      ap (λ (c : Account). write_state (record { label = c.label; offers = c.offers; fixed = t; entries = es })) same ∙ (h ∙ sym (cond-true (is_page p) _ _ page))
