-- What the held keys stand for.
use Rattle.std.specs.Prelude.{ℕ, List, vec_items}
use Rattle.held.specs.declared.held.Held.{Held}
use Rattle.held.specs.Holdings.{Holding}
use Rattle.held.specs.Whole.{places, held_at}

-- the held keys with their places, oldest put first
unfoldable pub holdings : Held → List Holding
holdings h = held_at (vec_items h.table) (places h.size h.count (vec_items h.table))

-- how many keys can be held
abbrev pub size_of : Held → ℕ
size_of h = h.size
