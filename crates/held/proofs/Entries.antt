-- Held keys with the pages at their places are a list of held pages.
use Rattle.std.proofs.Common.{◌≡◌, ℕ, ◌^◌, ◌<◌, Bool, true, false, cond, not, ◌&&◌, eqb, ◌⊎◌, List, [], ◌∷◌, ◌++◌, length, is_some, Some, None, Option, sym, refl, ap, ◌∙◌, subst, inl, inr, arith}
use Rattle.std.proofs.lemmas.List.{map-append, length-map}
use Rattle.std.proofs.lemmas.Bool.{and_from, and_left, and_right, cond-false, ne_eqb, not_from_true, not_from_false}
use Rattle.std.specs.Option.{option_map}
use Rattle.std.specs.List.{AllByRecursion}
use Rattle.page.specs.declared.keys.Key.{Key}
use Rattle.backend.specs.Finding.{FirstHeld, joins, found, filled}
use Rattle.backend.specs.Outcomes.{is_page, copied}
use Rattle.backend.specs.Listing.{keys_of, without, one, tidy}
use Rattle.backend.specs.Meaning.{Apart as KeysApart, Sized}
use Rattle.backend.specs.Rules.{Entry, lookup}
use Rattle.backend.proofs.Evictions.{tidy_from}
use Rattle.held.specs.declared.held.Held.{Held}
use Rattle.held.specs.View.{holdings}
use Rattle.held.proofs.Facts.{keys_apart, keys_small}
use Rattle.held.specs.Entries.{entry_by, entries_by}
use Rattle.held.specs.Holdings.{Holding, keys, taken, place_of, without_key, FirstHeld as FirstKey}
use Rattle.held.specs.Rings.{Absent, Apart}

module _ (f : ℕ → List ℕ) where
  lookup_head : (x : Holding) (b : Bool) (o : Option (List ℕ)) (p : Option ℕ) → o ≡ option_map f p
      → cond b (Some (f x.place)) o ≡ option_map f (cond b (Some x.place) p)
  lookup_head x true o p h = refl
  lookup_head x false o p h = h

  -- a key holds the page at its place
  pub lookup_entries : (k : ℕ) (H : List Holding) → lookup k (entries_by f H) ≡ option_map f (place_of k H)
  lookup_entries k [] = refl
  lookup_entries k (x ∷ H) = lookup_head x (eqb x.key k) (lookup k (entries_by f H)) (place_of k H) (lookup_entries k H)

  some_mapped : (o : Option ℕ) → is_some (option_map f o) ≡ is_some o
  some_mapped None = refl
  some_mapped (Some x) = refl

  pub holds_entries : (k : ℕ) (H : List Holding) → is_some (lookup k (entries_by f H)) ≡ is_some (place_of k H)
  holds_entries k H = ap is_some (lookup_entries k H) ∙ some_mapped (place_of k H)

  pub none_entries : (k : ℕ) (H : List Holding) → place_of k H ≡ None → lookup k (entries_by f H) ≡ None
  none_entries k H h = lookup_entries k H ∙ ap (option_map f) h

  without_head : (x : Holding) (R : List Holding) (b : Bool) → entries_by f (cond b (x ∷ R) R) ≡ cond b (entry_by f x ∷ entries_by f R) (entries_by f R)
  without_head x R true = refl
  without_head x R false = refl

  pub without_entries : (k : ℕ) (H : List Holding) → entries_by f (without_key k H) ≡ without (one k) (entries_by f H)
  without_entries k [] = refl
  without_entries k (x ∷ H) =
      without_head x (without_key k H) (not (eqb x.key k))
      ∙ ap (λ (es : List Entry). cond (not (eqb x.key k)) (entry_by f x ∷ es) es) (without_entries k H)

  pub push_entries : (H : List Holding) (k p : ℕ) → entries_by f (H ++ record { key = k; place = p } ∷ []) ≡ entries_by f H ++ record { key = k; page = f p } ∷ []
  push_entries H k p = map-append (entry_by f) H _

  pub keys_entries : (H : List Holding) → keys_of (entries_by f H) ≡ keys H
  keys_entries [] = refl
  keys_entries (x ∷ H) = ap (λ (ks : List ℕ). x.key ∷ ks) (keys_entries H)

  pub length_entries : (H : List Holding) → length (entries_by f H) ≡ length H
  length_entries H = length-map H (entry_by f)

-- pages that are the same at every taken place
pub same_entries : (f h : ℕ → List ℕ) (H : List Holding) → AllByRecursion (λ p. f p ≡ h p) (taken H) → entries_by f H ≡ entries_by h H
same_entries f h [] same = refl
same_entries f h (x ∷ H) same =
    ap (λ (p : List ℕ). record { key = x.key; page = p } ∷ entries_by f H) same.0
    ∙ ap (λ (es : List Entry). record { key = x.key; page = h x.place } ∷ es) (same_entries f h H same.1)

absent_none : (k : ℕ) (H : List Holding) → Absent k (keys H) → place_of k H ≡ None
absent_none k [] h = refl
absent_none k (x ∷ H) h = cond-false (eqb x.key k) _ _ (ne_eqb _ _ h.0) ∙ absent_none k H h.1

entries_apart : (f : ℕ → List ℕ) (H : List Holding) → Apart (keys H) → KeysApart (entries_by f H)
entries_apart f [] h = tt
entries_apart f (x ∷ H) h = (none_entries f x.key H (absent_none x.key H h.0), entries_apart f H h.1)

entries_sized : (f : ℕ → List ℕ) (H : List Holding) → AllByRecursion (λ k. k < 2 ^ 32) (keys H) → AllByRecursion (λ p. length (f p) ≡ 256) (taken H) → AllByRecursion Sized (entries_by f H)
entries_sized f [] small whole = tt
entries_sized f (x ∷ H) small whole = ((small.0, whole.0), entries_sized f H small.1 whole.1)

-- held keys are apart and have 32 bits, so with whole pages the list can be that of a store
pub tidy_entries : (h : Held) (f : ℕ → List ℕ) → AllByRecursion (λ p. length (f p) ≡ 256) (taken (holdings h)) → tidy (entries_by f (holdings h)) ≡ true
tidy_entries h f whole = tidy_from _ (entries_apart f (holdings h) (keys_apart h)) (entries_sized f (holdings h) (keys_small h) whole)

-- a place of a held key is one of the taken places
pub place_taken : (P : ℕ → Type 0) (k p : ℕ) (H : List Holding) → AllByRecursion P (taken H) → place_of k H ≡ Some p → P p
place_taken P k p [] all h = let z : ◌≡◌ {A = ℕ} 0 1 = cc in absurd (omega arith)
place_taken P k p (x ∷ H) all h = way (eqb x.key k) (place_taken P k p H all.1) h
  where
    way : (b : Bool) → (place_of k H ≡ Some p → P p) → cond b (Some x.place) (place_of k H) ≡ Some p → P p
    way true more e = let same : x.place ≡ p = cc in subst P same all.0
    way false more e = more e

module _ (f : ℕ → List ℕ) (k : ℕ) (H : List Holding) where
  pub first_found : (r : Option Key) → FirstKey k H r → FirstHeld k (entries_by f H) r
  first_found None h = λ j l. none_entries f j H (h j l)
  first_found (Some x) h = (h.0, holds_entries f x.number H ∙ h.1, λ j l m. none_entries f j H (h.2 j l m))

  module _ (out : List ℕ) where
    none_filled : (b : Bool) (o : Option (List ℕ)) → o ≡ None → cond b (copied o out) out ≡ out
    none_filled true None n = refl
    none_filled false o n = refl
    none_filled true (Some q) n = let z : ◌≡◌ {A = ℕ} 0 1 = cc in absurd (omega arith)

    -- a key that is not held is not found
    pub missed : place_of k H ≡ None → (false ≡ found k out (entries_by f H)) × (out ≡ filled k out (entries_by f H))
    missed h =
        let none = none_entries f k H h in
        (sym (and_right (is_page out) _ (ap is_some none)), sym (none_filled (is_page out) (lookup k (entries_by f H)) none))

    and_some : (b : Bool) → (b && true) ≡ b
    and_some true = refl
    and_some false = refl

    -- a key that is held is found at its place
    pub met : (p : ℕ) → place_of k H ≡ Some p → (is_page out ≡ found k out (entries_by f H)) × (cond (is_page out) (f p) out ≡ filled k out (entries_by f H))
    met p h =
        let held = lookup_entries f k H ∙ ap (option_map f) h in (
          sym (and_some (is_page out)) ∙ ap (λ (o : Option (List ℕ)). is_page out && is_some o) (sym held),
          ap (λ (o : Option (List ℕ)). cond (is_page out) (copied o out) out) (sym held),
        )

-- a key that is held, or a full list, lets no page join
pub not_joined : (f : ℕ → List ℕ) (k : ℕ) (H : List Holding) (page : List ℕ) (lacking : Bool) → (is_some (place_of k H) ≡ true) ⊎ (lacking ≡ true)
    → false ≡ joins lacking k page (entries_by f H)
not_joined f k H page lacking (inl h) = sym (and_right (is_page page) _ (and_left _ _ (not_from_true _ (holds_entries f k H ∙ h))))
not_joined f k H page lacking (inr h) = sym (and_right (is_page page) _ (and_right (not (is_some (lookup k (entries_by f H)))) _ (not_from_true _ h)))

-- a page joins where its key is not held and it does not lack a place
pub may_join : (f : ℕ → List ℕ) (k : ℕ) (H : List Holding) (page : List ℕ) (lacking : Bool) → is_page page ≡ true → place_of k H ≡ None → lacking ≡ false
    → true ≡ joins lacking k page (entries_by f H)
may_join f k H page lacking whole none enough =
    sym (and_from _ _ whole (and_from _ _ (not_from_false _ (holds_entries f k H ∙ ap is_some none)) (not_from_false _ enough)))
