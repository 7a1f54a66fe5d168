-- What the frame rule promises: of one access, and of every guest after any calls.
use Rattle.std.specs.Prelude.{◌≡◌, ℕ, ◌-◌, ◌<◌, ◌≤◌, true, false, List, length, get_or, Some, None, Option, ◌≢◌, slice_index_or}
use Rattle.frames.specs.declared.pages.Page.{Page}
use Rattle.frames.specs.declared.refusals.HostRefusal.{HostRefusal}
use Rattle.frames.specs.Clock.{Clock, access, evictee}
use Rattle.frames.specs.Pages.{Dimensions}
use Rattle.frames.specs.Rule.{Call, Rule, Shape, check, clock_of, is_admitted, rule_after, rule_step}

-- the page in the frame i
abbrev pub page_at : Clock → ℕ → Option Page
page_at c i = slice_index_or c.pages i None

-- a guest has f frames and as many marks, its hand stands on one of them, and no page is in two
pub record SoundClock (f : ℕ) (c : Clock) : Type 0 where
  pub frames : length c.pages ≡ f
  pub marks : length c.marks ≡ f
  pub hand : c.hand ≤ f - 1
  pub once : (i j : ℕ) (p : Page) → page_at c i ≡ Some p → page_at c j ≡ Some p → i ≡ j

-- an access to p has left the frames so, and evicted that
pub record Accessed (before after : Clock) (evicted : Option Page) (p : Page) : Type 0 where
  -- p is in a frame, which is marked
  pub frame : ℕ
  pub there : page_at after frame ≡ Some p
  pub marked : get_or after.marks frame false ≡ true
  -- every page that was in a frame is there still, but for the one that was evicted, which is in none; and only p has come
  pub stays : (i : ℕ) (q : Page) → page_at before i ≡ Some q → (evicted ≢ Some q) → page_at after i ≡ Some q
  pub gone : (i : ℕ) (q : Page) → evicted ≡ Some q → page_at after i ≢ Some q
  pub came : (i : ℕ) (q : Page) → page_at after i ≡ Some q → (q ≢ p) → page_at before i ≡ Some q

pub record SoundShape (D : Dimensions) (S : Shape) : Type 0 where
  pub guests : length S.admitted ≡ 4
  pub clocks : length S.clocks ≡ 4
  pub sound : (g : ℕ) → g < 4 → SoundClock D.frames (clock_of S g)
  -- a guest that is not admitted has nothing in its frames, and while closed no guest is admitted
  pub out : (g i : ℕ) → is_admitted S g ≡ false → page_at (clock_of S g) i ≡ None
  pub closed : (g : ℕ) → S.opened ≡ false → is_admitted S g ≡ false
  -- without frames no guest is admitted
  pub framed : (g : ℕ) → is_admitted S g ≡ true → 0 < D.frames

pub record RuleLaw : Type 0 where
  pub refused : (D : Dimensions) (r : Rule) (call : Call) (x : HostRefusal) → check D r.shape call ≡ Some x → rule_step D r call ≡ r
  pub sound : (D : Dimensions) (past : List Call) → SoundShape D (rule_after D past).shape
  pub accessed : (f : ℕ) (c : Clock) (p : Page) → SoundClock f c → 0 < f → Accessed c (access c p) (evictee c p) p
