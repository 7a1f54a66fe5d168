-- The tokens of a line.
use Rattle.std.specs.Prelude.{◌≡◌, ℕ, ◌+◌, Bool, true, false, cond, List, [], ◌∷◌, length, take, drop, Some, None, Option, ◌==◌, nat_lt}
use Rattle.std.specs.Option.{option_map}
use Rattle.tokens.specs.Cuts.{before, pieces}
use Rattle.tokens.specs.Numbers.{number_of}
use Rattle.tokens.specs.Spans.{Left, line, fields, nothing, left, span}
use Rattle.tokens.specs.declared.parts.Token.{Token}
use Rattle.tokens.specs.declared.parts.Tokens.{Tokens}
use Rattle.tokens.specs.declared.parts.Token.TheVariants.{Letter, Number, IllFormed}

-- a token's bytes, its place and what it stands for
pub data Lexeme : Type 0 where
  letter : List ℕ → ℕ → ℕ → Lexeme
  number : List ℕ → ℕ → ℕ → Lexeme
  ill_formed : List ℕ → ℕ → Lexeme

abbrev pub lexeme : Token → Lexeme
lexeme (Letter text place c) = letter text.now place c
lexeme (Number text place value) = number text.now place value
lexeme (IllFormed text place) = ill_formed text.now place

-- a field at a place, by the number that it writes
abbrev pub numbered : List ℕ → ℕ → Option ℕ → Lexeme
numbered f at None = ill_formed f at
numbered f at (Some v) = number f at v

abbrev pub field_lexeme : List ℕ → ℕ → Lexeme
field_lexeme f at = numbered f at (number_of f)

-- the number that a token writes
abbrev pub token_value : Lexeme → Option ℕ
token_value (letter text place c) = None
token_value (number text place v) = Some v
token_value (ill_formed text place) = None

abbrev pub value_of : Option Lexeme → Option ℕ
value_of None = None
value_of (Some t) = token_value t

-- the first token of what is left; a line has a letter where its first byte ends it or a space follows
abbrev pub first_token : Left → ℕ → Option Lexeme
first_token (line []) at = None
first_token (line (c ∷ [])) at = Some (letter (c ∷ []) at c)
first_token (line (c ∷ d ∷ s)) at = cond (d == 32) (Some (letter (c ∷ []) at c)) None
first_token (fields s) at = Some (field_lexeme (take (before 32 s) s) at)
first_token nothing at = None

-- what is left after the first token
abbrev pub after_token : Left → Left
after_token (line []) = nothing
after_token (line (c ∷ [])) = nothing
after_token (line (c ∷ d ∷ s)) = cond (d == 32) (fields s) nothing
after_token (fields s) = cond (nat_lt (before 32 s) (length s)) (fields (drop (before 32 s + 1) s)) nothing
after_token nothing = nothing

-- no more tokens than this are left
abbrev pub most_tokens : Left → ℕ
most_tokens (line s) = length s
most_tokens (fields s) = length s + 1
most_tokens nothing = 0

-- What a call for the next token does: it gives the first token of what is left and leaves the others, and the line ends where it did.
pub record TakesToken (was : Tokens) (token : Option Token) (is : Tokens) : Type 0 where
  pub value : option_map lexeme token ≡ first_token (left was.rest) was.place
  pub after : left is.rest ≡ after_token (left was.rest)
  pub end : is.place + span (left is.rest) ≡ was.place + span (left was.rest)

-- the letter that a token is
abbrev pub token_letter : Lexeme → Option ℕ
token_letter (letter text place c) = Some c
token_letter (number text place v) = None
token_letter (ill_formed text place) = None

abbrev pub letter_in : Option Lexeme → Option ℕ
letter_in None = None
letter_in (Some t) = token_letter t

-- the fields that are left, once the letter was handed out
abbrev pub fields_in : Left → List (List ℕ)
fields_in (line s) = []
fields_in (fields s) = pieces 32 s
fields_in nothing = []

-- whether there are some
abbrev pub some : List (List ℕ) → Bool
some [] = false
some (f ∷ fs) = true
