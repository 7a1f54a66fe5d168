-- The list of held pages, oldest put first: the rule that every storing backend follows. What lacks a place is a parameter,
-- a test of what was fixed at making, of the pages that are held and of the page that is offered: stores differ only there.
use Rattle.std.specs.Prelude.{ℕ, zero, suc, ◌^◌, Bool, true, cond, not, ◌&&◌, List, [], ◌∷◌, ◌++◌, map, length, take, drop, is_some, Some, None, filter, Option, ◌==◌, nat_lt}
use Rattle.page.specs.Counts.{one_more}
use Rattle.page.specs.Keys.{pool_of, ephemeral}
use Rattle.page.specs.declared.counts.Count.{Count}
use Rattle.backend.specs.Rules.{Entry, Rules, lookup, pool_object}
use Rattle.backend.specs.States.{encode, decode}
use Rattle.backend.specs.Victims.{victim}
use Rattle.backend.specs.declared.refusals.Cause.TheVariants.{NoPlace}
use Rattle.backend.specs.declared.refusals.Refusal.{Refusal}

-- The state of a store. `fixed` has what no call changes: its sizes, and memory that it leaves alone.
pub record ListState : Type 0 where
  pub label : ℕ
  pub offers : Count
  pub fixed : List ℕ
  pub entries : List Entry

-- entries as numbers: how many, then of each its key, the page's length and its bytes
abbrev pub flat : List Entry → List ℕ
flat [] = []
flat (e ∷ es) = e.key ∷ length e.page ∷ (e.page ++ flat es)

abbrev pub entries_from : ℕ → List ℕ → List Entry
entries_from zero ns = []
entries_from (suc n) [] = []
entries_from (suc n) (k ∷ []) = []
entries_from (suc n) (k ∷ size ∷ ns) = record { key = k; page = take size ns } ∷ entries_from n (drop size ns)

abbrev pub read_entries : List ℕ → List Entry
read_entries [] = []
read_entries (n ∷ ns) = entries_from n ns

unfoldable pub write_state : ListState → List ℕ
write_state v = encode (record { label = v.label; offers = v.offers; first = v.fixed; second = length v.entries ∷ flat v.entries })

unfoldable pub read_state : List ℕ → ListState
read_state s = record { label = (decode s).label; offers = (decode s).offers; fixed = (decode s).first; entries = read_entries (decode s).second }

abbrev pub keys_of : List Entry → List ℕ
keys_of es = map (λ e. e.key) es

-- the pages but those whose keys are named, in their order
abbrev pub without : (ℕ → Bool) → List Entry → List Entry
without named es = filter (λ e. not (named e.key)) es

abbrev pub one : ℕ → ℕ → Bool
one k j = j == k

abbrev pub without_any : Option ℕ → List Entry → List Entry
without_any None es = es
without_any (Some k) es = without (one k) es

-- the pages after an eviction; where no ephemeral page is held, none goes
abbrev pub evicted : List Entry → List Entry
evicted es = without_any (victim (keys_of es)) es

-- at most n evictions, while a place is lacking
abbrev pub evicted_upto : (List Entry → Bool) → ℕ → List Entry → List Entry
evicted_upto lacks zero es = es
evicted_upto lacks (suc n) es = cond (lacks es) (evicted_upto lacks n (evicted es)) es

-- Evictions while a place is lacking and an ephemeral page is held: each takes a page out, so as many as there are pages suffice.
unfoldable pub room_made : (List Entry → Bool) → List Entry → List Entry
room_made lacks es = evicted_upto lacks (length es) es

-- the pages that a put finds: without its key, and after the evictions that it makes
unfoldable pub cleared : (List Entry → Bool) → ℕ → List Entry → List Entry
cleared lacks k es = room_made lacks (without (one k) es)

-- the page joins at the end if it has a place
abbrev pub joined_if : Bool → Entry → List Entry → List Entry
joined_if lacking e es = cond lacking es (es ++ e ∷ [])

abbrev pub put_entries : (List Entry → Bool) → Entry → List Entry → List Entry
put_entries lacks e es = joined_if (lacks (cleared lacks e.key es)) e (cleared lacks e.key es)

-- a found ephemeral page goes, a persistent one stays
abbrev pub got_entries : ℕ → List Entry → List Entry
got_entries k es = cond (ephemeral k) (without (one k) es) es

abbrev pub in_object : ℕ → ℕ → Bool
in_object k j = pool_object j == pool_object k

abbrev pub in_pool : ℕ → ℕ → Bool
in_pool k j = pool_of j == pool_of k

-- each key stands once and has 32 bits, each page has 256 bytes
abbrev pub tidy : List Entry → Bool
tidy [] = true
tidy (e ∷ es) = not (is_some (lookup e.key es)) && (nat_lt e.key (2 ^ 32) && (length e.page == 256 && tidy es))

-- the state s with other pages, and with another offer count
abbrev pub relisted : List ℕ → Count → List Entry → List ℕ
relisted s offers es = write_state (record { label = (read_state s).label; offers = offers; fixed = (read_state s).fixed; entries = es })

abbrev pub listed : List ℕ → List Entry
listed s = (read_state s).entries

-- whether a store in the state s lacks a place for the page p, while it holds the pages es
abbrev pub lacking : (List ℕ → List Entry → List ℕ → Bool) → List ℕ → List ℕ → List Entry → Bool
lacking lacks s p es = lacks (read_state s).fixed es p

abbrev pub no_place : List ℕ → ℕ → Refusal
no_place s k = record { cause = NoPlace; key = record { number = k }; label = (read_state s).label }

abbrev pub list_rules : (List ℕ → List Entry → List ℕ → Bool) → Rules
list_rules lacks = record {
  valid = λ s. tidy (listed s);
  pages = listed;
  offers = λ s. (read_state s).offers;
  label = λ s. (read_state s).label;
  put_refusal = λ s k p. cond (lacking lacks s p (cleared (lacking lacks s p) k (listed s))) (Some (no_place s k)) None;
  put_next = λ s k p. relisted s (one_more (read_state s).offers) (put_entries (lacking lacks s p) (record { key = k; page = p }) (listed s));
  get_next = λ s k. relisted s (read_state s).offers (got_entries k (listed s));
  drop_page_next = λ s k. relisted s (read_state s).offers (without (one k) (listed s));
  drop_object_next = λ s k. relisted s (read_state s).offers (without (in_object k) (listed s));
  drop_pool_next = λ s k. relisted s (read_state s).offers (without (in_pool k) (listed s));
}
