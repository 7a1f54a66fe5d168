-- The contents of held pages.
use Rattle.std.specs.Prelude.{ℕ, List, map, count_by, nat_eq}
use Rattle.held.specs.Holdings.{Holding}

-- the content of each held key, by its place
abbrev pub contents_by : (ℕ → ℕ) → List Holding → List ℕ
contents_by content_at H = map (λ x. content_at x.place) H

-- how many of them are the content i
abbrev pub uses : ℕ → List ℕ → ℕ
uses i cs = count_by (λ c. nat_eq c i) cs
