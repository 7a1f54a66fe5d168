-- A get of a buffer that is a page.
use Rattle.std.proofs.Common.{◌≡◌, ℕ, Bool, true, false, cond, ◌&&◌, List, is_some, Ok, Err, sym, refl, ap, ◌∙◌}
use Rattle.std.proofs.lemmas.Bool.{cond-true, cond-false, false≢true}
use Rattle.page.specs.Keys.{ephemeral}
use Rattle.backend.specs.Listing.{ListState, write_state, without, one, listed, list_rules}
use Rattle.backend.specs.Outcomes.{is_page, copied}
use Rattle.backend.specs.Rules.{Entry, lookup}
use Rattle.backend.specs.declared.refusals.Refusal.{Refusal}
use Rattle.backend.specs.Finding.{found, filled}
use Rattle.store.specs.StatesLemmas.{with_entries, listed_is, get_next_is}

module _ (lack : List ℕ → List Entry → List ℕ → Bool) (v : ListState) (k : ℕ) (out : List ℕ) (page : is_page out ≡ true) where
  found_is : (a b : Bool) → a ≡ true → (a && b) ≡ b
  found_is true b h = refl
  found_is false b h = absurd (false≢true h)

  pub got_answer : (r : Bool) (e : Refusal) → r ≡ found k out v.entries → Ok r ≡ cond (is_page out) (Ok (is_some (lookup k (listed (write_state v))))) (Err e)
  got_answer r e h =
      ap Ok (h ∙ (found_is (is_page out) (is_some (lookup k v.entries)) page ∙ ap (λ (es : List Entry). is_some (lookup k es)) (sym (listed_is v))))
      ∙ sym (cond-true (is_page out) _ _ page)

  pub got_buffer : (o : List ℕ) → o ≡ filled k out v.entries → o ≡ cond (is_page out) (copied (lookup k (listed (write_state v))) out) out
  got_buffer o h = h ∙ ap (λ (es : List Entry). cond (is_page out) (copied (lookup k es) out) out) (sym (listed_is v))

  -- a found ephemeral page went
  pub taken_after : (s : List ℕ) (es : List Entry) → ephemeral k ≡ true → s ≡ v.fixed → es ≡ cond (is_page out) (without (one k) v.entries) v.entries
      → write_state (record { label = v.label; offers = v.offers; fixed = s; entries = es }) ≡ cond (is_page out) ((list_rules lack).get_next (write_state v) k) (write_state v)
  taken_after s es even same gone =
      let here = gone ∙ (cond-true (is_page out) _ _ page ∙ sym (cond-true (ephemeral k) _ _ even)) in
      ap (λ (t : List ℕ). write_state (record { label = v.label; offers = v.offers; fixed = t; entries = es })) same
      ∙ (ap (λ (fs : List Entry). write_state (with_entries v fs)) here ∙ (sym (get_next_is lack v k) ∙ sym (cond-true (is_page out) _ _ page)))

  -- a persistent page stayed
  pub read_after : ephemeral k ≡ false → write_state v ≡ cond (is_page out) ((list_rules lack).get_next (write_state v) k) (write_state v)
  read_after odd =
      ap (λ (fs : List Entry). write_state (with_entries v fs)) (sym (cond-false (ephemeral k) _ _ odd))
      ∙ (sym (get_next_is lack v k) ∙ sym (cond-true (is_page out) _ _ page))
