-- Pieces between marks, and the fields of a line.
use Rattle.std.proofs.Common.{◌≡◌, ℕ, suc, ◌+◌, Bool, true, false, cond, not, eqb, ltb, List, [], ◌∷◌, length, take, drop, sym, refl, ap, ◌∙◌, add-one, one-add, arith, lt-ltb}
use Prim.Native.Nat.compare
use Rattle.std.specs.List.{onto_first}
use Rattle.tokens.specs.Cuts.{before, pieces}
use Rattle.tokens.specs.Spans.{fields, nothing}
use Rattle.tokens.specs.Tokens.{after_token, fields_in, some}

-- the first piece, and the pieces behind its mark
one_more : (mark c : ℕ) (s : List ℕ) (b : Bool)
    → pieces mark s ≡ take (before mark s) s ∷ cond (ltb (before mark s) (length s)) (pieces mark (drop (before mark s + 1) s)) []
    → cond b ([] ∷ pieces mark s) (onto_first c (pieces mark s))
    ≡ take (cond (not b) (1 + before mark s) 0) (c ∷ s)
    ∷ cond (ltb (cond (not b) (1 + before mark s) 0) (suc (length s))) (pieces mark (drop (cond (not b) (1 + before mark s) 0 + 1) (c ∷ s))) []
one_more mark c s true ih = rw (lt-ltb 0 (suc (length s)) (omega arith))
one_more mark c s false ih = rw (ih, one-add, add-one, add-one, compare.suc-suc)

pub pieces_step : (mark : ℕ) (s : List ℕ) → pieces mark s
    ≡ take (before mark s) s ∷ cond (ltb (before mark s) (length s)) (pieces mark (drop (before mark s + 1) s)) []
pieces_step mark [] = refl
pieces_step mark (c ∷ s) = one_more mark c s (eqb c mark) (pieces_step mark s)

fields_after : (b : Bool) (s : List ℕ) → cond b (pieces 32 s) [] ≡ fields_in (cond b (fields s) nothing)
fields_after true s = refl
fields_after false s = refl

-- the fields after the next token are the fields behind the first
pub fields_step : (s : List ℕ) → pieces 32 s ≡ take (before 32 s) s ∷ fields_in (after_token (fields s))
fields_step s = pieces_step 32 s ∙ ap (λ (fs : List (List ℕ)). take (before 32 s) s ∷ fs) (fields_after (ltb (before 32 s) (length s)) (drop (before 32 s + 1) s))

-- fields are never none
pub some_field : (s : List ℕ) → true ≡ some (pieces 32 s)
some_field s = sym (ap some (fields_step s))
