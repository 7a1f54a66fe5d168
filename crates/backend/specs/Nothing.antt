-- The backend that holds no page and refuses every put for want of a place.
use Rattle.std.specs.Prelude.{ℕ, true, List, [], Some}
use Rattle.page.specs.Counts.{one_more}
use Rattle.backend.specs.Rules.{Rules}
use Rattle.backend.specs.States.{encode, decode}
use Rattle.backend.specs.declared.nothing.Nothing.{Nothing}
use Rattle.backend.specs.declared.refusals.Cause.TheVariants.{NoPlace}

abbrev pub nothing_state : Nothing → List ℕ
nothing_state b = encode (record { label = b.account.label; offers = b.account.offers; first = []; second = [] })

abbrev pub nothing_rules : Rules
nothing_rules = record {
  valid = λ s. true;
  pages = λ s. [];
  offers = λ s. (decode s).offers;
  label = λ s. (decode s).label;
  put_refusal = λ s k p. Some (record { cause = NoPlace; key = record { number = k }; label = (decode s).label });
  put_next = λ s k p. encode (record { label = (decode s).label; offers = one_more (decode s).offers; first = []; second = [] });
  get_next = λ s k. s;
  drop_page_next = λ s k. s;
  drop_object_next = λ s k. s;
  drop_pool_next = λ s k. s;
}
