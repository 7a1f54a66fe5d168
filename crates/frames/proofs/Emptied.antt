-- Frames that are emptied one after the other.
use Rattle.std.proofs.Common.{◌≡◌, ℕ, ◌+◌, ◌<◌, Bool, true, false, cond, List, [], ◌∷◌, ◌++◌, map, length, get_or, take, drop, set, replicate, Some, None, Option, refl, ap, ◌∙◌, arith}
use Rattle.std.proofs.lemmas.List.Edits.{map_over_more}
use Rattle.std.proofs.lemmas.List.{get_or_default}
use Rattle.frames.specs.declared.pages.Page.{Page}
use Rattle.frames.specs.declared.pages.PageSet.{PageSet}
use Rattle.frames.specs.declared.pages.PageSet.TheVariants.{All}
use Rattle.frames.specs.declared.states.Frame.{Frame}
use Rattle.frames.specs.declared.states.FrameEvent.TheVariants.{Emptying}
use Rattle.frames.specs.declared.table.Frames.{Frames}
use Rattle.frames.specs.Clock.{Clock, empty_clock, emptied, emptied_page, filled, lowered}
use Rattle.frames.specs.Held.{blank, clock, dirties, dirty_in, emptied_frame, frames_of, marks_in, pages_in}
use Rattle.frames.specs.Pages.{in_set}
use Rattle.frames.specs.States.{after_event, dirty, held}
use Rattle.frames.proofs.Views.{clean_emptied, held_emptied}

-- the frames below i have been emptied
abbrev pub EmptiedBelow : PageSet → List Frame → List Frame → ℕ → Type 0
EmptiedBelow s before after i = after ≡ map (emptied_frame s) (take i before) ++ drop i before

pub emptied_more : (s : PageSet) (before after : List Frame) (i : ℕ) (f : Frame) → i < length before → length after ≡ length before
    → EmptiedBelow s before after i → f ≡ emptied_frame s (get_or after i blank) → EmptiedBelow s before (set after i f) (i + 1)
emptied_more s before after i f l len below e =
    let h : i < length after = omega arith in
    ap (set after i) e ∙ map_over_more (emptied_frame s) before after i (get_or after i blank) l below (get_or_default after i blank (get_or after i blank) h)

-- what an emptied frame shows

emptied_held : (t : Page → Bool) (f : Frame) (x : Option Page) → held f ≡ x → held (cond (filled (emptied_page t x)) f (after_event f Emptying)) ≡ emptied_page t x
emptied_held t f None e = held_emptied f.state
emptied_held t f (Some p) e =
    elim (t p) as (λ b. held (cond (filled (cond b None (Some p))) f (after_event f Emptying)) ≡ cond b None (Some p)) [
      | true ↦ held_emptied f.state
      | false ↦ e
    ]

emptied_mark : (b : Bool) (f : Frame) → (cond b f (after_event f Emptying)).marked ≡ cond b f.marked false
emptied_mark true f = refl
emptied_mark false f = refl

emptied_dirty : (b : Bool) (f : Frame) → dirty (cond b f (after_event f Emptying)) ≡ cond b (dirty f) false
emptied_dirty true f = refl
emptied_dirty false f = clean_emptied f.state

-- whether the frame stays as it is
abbrev stays : PageSet → Frame → Bool
stays s f = filled (emptied_page (in_set s) (held f))

pub emptied_pages : (s : PageSet) (fs : List Frame) → pages_in (map (emptied_frame s) fs) ≡ map (emptied_page (in_set s)) (pages_in fs)
emptied_pages s [] = refl
emptied_pages s (f ∷ fs) =
    let a = emptied_held (in_set s) f (held f) refl in
    let b = emptied_pages s fs in
    cc

pub emptied_marks : (s : PageSet) (fs : List Frame) → marks_in (map (emptied_frame s) fs) ≡ lowered (in_set s) (pages_in fs) (marks_in fs)
unfolding lowered
emptied_marks s [] = refl
emptied_marks s (f ∷ fs) = let a = emptied_mark (stays s f) f in let b = emptied_marks s fs in cc

pub emptied_flags : (s : PageSet) (fs : List Frame) → dirty_in (map (emptied_frame s) fs) ≡ lowered (in_set s) (pages_in fs) (dirty_in fs)
unfolding lowered
emptied_flags s [] = refl
emptied_flags s (f ∷ fs) = let a = emptied_dirty (stays s f) f in let b = emptied_flags s fs in cc

-- where every page is in the set

pub none_left : (ps : List (Option Page)) → map (emptied_page (in_set All)) ps ≡ replicate (length ps) None
none_left [] = refl
none_left (None ∷ ps) = ap (λ xs. None ∷ xs) (none_left ps)
none_left (Some p ∷ ps) = ap (λ xs. None ∷ xs) (none_left ps)

pub all_lowered : (ps : List (Option Page)) (bs : List Bool) → length ps ≡ length bs → lowered (in_set All) ps bs ≡ replicate (length ps) false
unfolding lowered
all_lowered [] [] e = refl
all_lowered [] (b ∷ bs) e = absurd (omega arith)
all_lowered (p ∷ ps) [] e = absurd (omega arith)
all_lowered (None ∷ ps) (b ∷ bs) e = ap (λ xs. false ∷ xs) (all_lowered ps bs (omega arith))
all_lowered (Some p ∷ ps) (b ∷ bs) e = ap (λ xs. false ∷ xs) (all_lowered ps bs (omega arith))

pub emptied_all : (c : Clock) → length c.pages ≡ length c.marks → emptied (in_set All) c ≡ empty_clock (length c.pages) c.hand
emptied_all c e = let a = none_left c.pages in let b = all_lowered c.pages c.marks e in cc

module _ (before after : Frames) (s : PageSet) (e : frames_of after ≡ map (emptied_frame s) (frames_of before)) where
  pub clock_emptied : after.hand ≡ before.hand → clock after ≡ emptied (in_set s) (clock before)
  unfolding clock
  clock_emptied h =
      let a = ap pages_in e ∙ emptied_pages s (frames_of before) in
      let b = ap marks_in e ∙ emptied_marks s (frames_of before) in
      cc

  pub dirties_emptied : dirties after ≡ lowered (in_set s) (clock before).pages (dirties before)
  unfolding clock dirties
  dirties_emptied = ap dirty_in e ∙ emptied_flags s (frames_of before)
