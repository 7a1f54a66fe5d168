-- What a line stands for, by its tokens.
use Rattle.std.proofs.Common.{◌≡◌, ℕ, Bool, true, false, cond, eqb, List, [], ◌∷◌, take, Some, None, Err, Option, Result, sym, refl, ap, ◌∙◌}
use Rattle.command.specs.declared.commands.Command.{Command}
use Rattle.command.specs.declared.commands.LineRefusal.{LineRefusal}
use Rattle.command.specs.declared.commands.LineRefusal.TheVariants.{UnknownLetter}
use Rattle.tokens.specs.Cuts.{before, pieces}
use Rattle.tokens.specs.Numbers.{number_of}
use Rattle.tokens.specs.Spans.{Left, line, fields, nothing}
use Rattle.tokens.specs.Tokens.{letter, numbered, token_value, value_of, letter_in, first_token, after_token, fields_in}
use Rattle.tokens.proofs.Pieces.{fields_step}
use Rattle.script.specs.Reading.{field_read, number_from, command, whole, read_line}

numbered_value : (f : List ℕ) (at : ℕ) (o : Option ℕ) → o ≡ token_value (numbered f at o)
numbered_value f at None = refl
numbered_value f at (Some v) = refl

letter_value : (b : Bool) (t : List ℕ) (at c : ℕ) → None ≡ value_of (cond b (Some (letter t at c)) None)
letter_value true t at c = refl
letter_value false t at c = refl

line_value : (s : List ℕ) (at : ℕ) → None ≡ value_of (first_token (line s) at)
line_value [] at = refl
line_value (c ∷ []) at = refl
line_value (c ∷ d ∷ s) at = letter_value (eqb d 32) (c ∷ []) at c

by_token : (l : Left) (at n : ℕ)
    → number_from n (fields_in l) ≡ field_read n (fields_in (after_token l)) (value_of (first_token l at))
by_token (line s) at n = ap (field_read n (fields_in (after_token (line s)))) (line_value s at)
by_token nothing at n = refl
by_token (fields s) at n =
    ap (number_from n) (fields_step s)
    ∙ ap (field_read n (fields_in (after_token (fields s)))) (numbered_value (take (before 32 s) s) at (number_of (take (before 32 s) s)))

-- reading a number, by the next token
pub number_by_token : (l m : Left) (at n : ℕ) (o : Option ℕ) → o ≡ value_of (first_token l at) → m ≡ after_token l
    → field_read n (fields_in m) o ≡ number_from n (fields_in l)
number_by_token l m at n o e a = rw (e, a) (sym (by_token l at n))

-- what a line stands for, by its letter and its fields
abbrev pub letter_read : Option ℕ → List (List ℕ) → Result Command LineRefusal
letter_read None fs = Err UnknownLetter
letter_read (Some c) fs = whole (command c (record { next = 1; fields = fs }))

with_space : (b : Bool) (c : ℕ) (s t : List ℕ) (at : ℕ)
    → cond b (whole (command c (record { next = 1; fields = pieces 32 s }))) (Err UnknownLetter)
    ≡ letter_read (letter_in (cond b (Some (letter t at c)) None)) (fields_in (cond b (fields s) nothing))
with_space true c s t at = refl
with_space false c s t at = refl

by_letter : (s : List ℕ) (at : ℕ) → read_line s ≡ letter_read (letter_in (first_token (line s) at)) (fields_in (after_token (line s)))
by_letter [] at = refl
by_letter (c ∷ []) at = refl
by_letter (c ∷ d ∷ s) at = with_space (eqb d 32) c s (c ∷ []) at

pub line_by_letter : (s : List ℕ) (l m : Left) (at : ℕ) (o : Option ℕ) → l ≡ line s → o ≡ letter_in (first_token l at) → m ≡ after_token l
    → letter_read o (fields_in m) ≡ read_line s
line_by_letter s l m at o start e a = rw (e, a, start) (sym (by_letter s at))
