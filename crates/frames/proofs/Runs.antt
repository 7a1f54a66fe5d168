-- The rule after any calls.
use Rattle.std.proofs.Common.{◌≡◌, ℕ, zero, suc, ◌+◌, ◌-◌, ◌<◌, ◌≤◌, Bool, true, false, ◌⊎◌, List, [], ◌∷◌, length, get_or, set, replicate, Some, None, Option, sym, refl, ap, ◌∙◌, subst, inl, inr, arith, get_or-set_other, get_or-set_same}
use Rattle.std.proofs.Math.ListN.{get_or-map}
use Rattle.std.proofs.lemmas.List.{get_or_past, get_or-replicate, length-map, length-replicate, length-set, set-get_or}
use Rattle.std.proofs.lemmas.Bool.{both_ways, cases_Bool, cases_eq, cases_lt, cond-true, cond-false, eqb-false, ltb-false, not-false}
use Rattle.frames.specs.declared.pages.Page.{Page}
use Rattle.frames.specs.declared.pages.Page.TheVariants.{File, Anonymous}
use Rattle.frames.specs.declared.refusals.HostRefusal.{HostRefusal}
use Rattle.frames.specs.Clock.{Clock, access, emptied, emptied_page, empty_clock, given, lowered}
use Rattle.frames.specs.Law.{RuleLaw, SoundClock, SoundShape, page_at}
use Rattle.frames.specs.Pages.{Dimensions, file_from, same_page}
use Rattle.frames.specs.Rule.{Call, Check, Rule, Shape, admit, admitted_as, admission, check, clock_of, closing, evicts, first, is_admitted, is_closed, is_in, leave, leave_below, leaving, moved, new_shape, no_frames, no_guest, no_page, not_a_page_long, not_admitted, opened_as, opening, past_the_page, question, read, release, rule_after, rule_step, sync, truncation, with_clock, write}
use Rattle.frames.proofs.Accesses.{accessed, access_sound}

-- empty frames

none_in : (n i : ℕ) → get_or {A = Option Page} (replicate n None) i None ≡ None
none_in zero i = refl
none_in (suc n) zero = refl
none_in (suc n) (suc i) = none_in n i

empty_sound : (f h : ℕ) → h ≤ f - 1 → SoundClock f (empty_clock f h)
empty_sound f h l = record {
  frames = length-replicate f None;
  marks = length-replicate f false;
  hand = l;
  once = λ i j p e _. absurd (let n = none_in f i in let z : ◌≡◌ {A = ℕ} 0 1 = cc in omega arith);
}

-- emptied frames

length_lowered : (t : Page → Bool) (ps : List (Option Page)) (bs : List Bool) → length (lowered t ps bs) ≡ length bs
unfolding lowered
length_lowered t [] bs = refl
length_lowered t (x ∷ xs) [] = refl
length_lowered t (x ∷ xs) (b ∷ bs) = ap suc (length_lowered t xs bs)

was_there : (t : Page → Bool) (x : Option Page) (p : Page) → emptied_page t x ≡ Some p → x ≡ Some p
was_there t None p e = e
was_there t (Some q) p e = elim (cases_Bool (t q)) [
  | inl h ↦ absurd (let a = cond-true {A = Option Page} (t q) None (Some q) h in let z : ◌≡◌ {A = ℕ} 0 1 = cc in omega arith)
  | inr h ↦ sym (cond-false (t q) None (Some q) h) ∙ e
]

emptied_sound : (f : ℕ) (t : Page → Bool) (c : Clock) → SoundClock f c → SoundClock f (emptied t c)
emptied_sound f t c s = record {
  frames = length-map c.pages (emptied_page t) ∙ s.frames;
  marks = length_lowered t c.pages c.marks ∙ s.marks;
  hand = s.hand;
  once = λ i j p hi hj. s.once i j p (before i p hi) (before j p hj);
}
  where
    before : (i : ℕ) (p : Page) → page_at (emptied t c) i ≡ Some p → page_at c i ≡ Some p
    before i p h = was_there t (page_at c i) p (sym (get_or-map (emptied_page t) c.pages i None) ∙ h)

-- one guest changes

module _ (D : Dimensions) (S : Shape) (s : SoundShape D S) (g : ℕ) (l : g < 4) (b : Bool) (c : Clock) where
  changed : Shape
  changed = with_clock (admitted_as b S g) g c

  clock_here : clock_of changed g ≡ c
  unfolding changed
  clock_here = get_or-set_same S.clocks g c (empty_clock 0 0) (let n = s.clocks in omega arith)

  clock_there : (h : ℕ) → (h ≡ g → ⊥) → clock_of changed h ≡ clock_of S h
  unfolding changed
  clock_there h ne = get_or-set_other S.clocks g h c (empty_clock 0 0) ne

  admitted_here : is_admitted changed g ≡ b
  unfolding changed
  admitted_here = get_or-set_same S.admitted g b false (let n = s.guests in omega arith)

  admitted_there : (h : ℕ) → (h ≡ g → ⊥) → is_admitted changed h ≡ is_admitted S h
  unfolding changed
  admitted_there h ne = get_or-set_other S.admitted g h b false ne

  changed_sound : SoundClock D.frames c → (b ≡ false → (i : ℕ) → page_at c i ≡ None) → (S.opened ≡ false → b ≡ false) → (b ≡ true → 0 < D.frames) → SoundShape D changed
  unfolding changed
  changed_sound sc out closed framed = record {
    guests = length-set S.admitted g b ∙ s.guests;
    clocks = length-set S.clocks g c ∙ s.clocks;
    sound = λ h lh. elim (cases_eq h g) [
      | inl q ↦ subst (SoundClock D.frames) (sym (ap (clock_of changed) q ∙ clock_here)) sc
      | inr ne ↦ subst (SoundClock D.frames) (sym (clock_there h ne)) (s.sound h lh)
    ];
    out = λ h i e. elim (cases_eq h g) [
      | inl q ↦ ap (λ (k : Clock). page_at k i) (ap (clock_of changed) q ∙ clock_here) ∙ out (sym (ap (is_admitted changed) q ∙ admitted_here) ∙ e) i
      | inr ne ↦ ap (λ (k : Clock). page_at k i) (clock_there h ne) ∙ s.out h i (sym (admitted_there h ne) ∙ e)
    ];
    closed = λ h e. elim (cases_eq h g) [
      | inl q ↦ ap (is_admitted changed) q ∙ admitted_here ∙ closed e
      | inr ne ↦ admitted_there h ne ∙ s.closed h e
    ];
    framed = λ h e. elim (cases_eq h g) [
      | inl q ↦ framed (sym (ap (is_admitted changed) q ∙ admitted_here) ∙ e)
      | inr ne ↦ s.framed h (sym (admitted_there h ne) ∙ e)
    ];
  }

-- an admitted guest's frames change
clock_changed : (D : Dimensions) (S : Shape) → SoundShape D S → (g : ℕ) → g < 4 → is_admitted S g ≡ true → (c : Clock) → SoundClock D.frames c → SoundShape D (with_clock S g c)
unfolding changed
clock_changed D S s g l a c sc =
    subst (λ (flags : List Bool). SoundShape D (record { opened = S.opened; admitted = flags; clocks = set S.clocks g c })) (set-get_or S.admitted g false)
    (changed_sound D S s g l (is_admitted S g) c sc
    (λ e. absurd (both_ways (is_admitted S g) e a))
    (λ e. s.closed g e)
    (s.framed g))

-- guests leave

leave_sound : (D : Dimensions) (S : Shape) → SoundShape D S → (g : ℕ) → g < 4 → SoundShape D (leave D S g)
unfolding changed
leave_sound D S s g l =
    changed_sound D S s g l false (empty_clock D.frames (clock_of S g).hand) (empty_sound D.frames (clock_of S g).hand (s.sound g l).hand)
    (λ _ i. none_in D.frames i) (λ _. refl) (λ e. absurd (both_ways false refl e))

left_out : (D : Dimensions) (S : Shape) → SoundShape D S → (g : ℕ) → g < 4 → (h : ℕ) → (h ≡ g) ⊎ (is_admitted S h ≡ false) → is_admitted (leave D S g) h ≡ false
unfolding changed
left_out D S s g l h why =
    let c = empty_clock D.frames (clock_of S g).hand in
    elim (cases_eq h g) [
      | inl q ↦ ap (is_admitted (leave D S g)) q ∙ admitted_here D S s g l false c
      | inr ne ↦ admitted_there D S s g l false c h ne ∙ elim why [ inl q ↦ absurd (ne q) | inr e ↦ e ]
    ]

all_left : (D : Dimensions) (S : Shape) → SoundShape D S → (n : ℕ) → n ≤ 4
    → SoundShape D (leave_below D S n) × ((g : ℕ) → g < n → is_admitted (leave_below D S n) g ≡ false)
all_left D S s zero l = (s, λ g h. absurd (omega arith))
all_left D S s (suc n) l =
    let T = leave_below D S n in
    let r = all_left D S s n (omega arith) in
    let Left : Shape → Type 0 = λ U. SoundShape D U × ((g : ℕ) → g < suc n → is_admitted U g ≡ false) in
    elim (cases_Bool (is_admitted T n)) [
      | inl e ↦ subst Left (sym (cond-true (is_admitted T n) (leave D T n) T e)) (
        leave_sound D T r.0 n (omega arith),
        λ g h. left_out D T r.0 n (omega arith) g (elim (cases_eq g n) [ inl q ↦ inl q | inr ne ↦ inr (r.1 g (omega arith)) ]),
      )
      | inr e ↦ subst Left (sym (cond-false (is_admitted T n) (leave D T n) T e))
          (r.0, λ g h. elim (cases_eq g n) [ inl q ↦ ap (is_admitted T) q ∙ e | inr ne ↦ r.1 g (omega arith) ])
    ]

closed_sound : (D : Dimensions) (S : Shape) → SoundShape D S → SoundShape D (opened_as false (leave_below D S 4))
closed_sound D S s =
    let r = all_left D S s 4 (omega arith) in
    let t = r.0 in
    record {
      guests = t.guests;
      clocks = t.clocks;
      sound = t.sound;
      out = t.out;
      framed = t.framed;
      closed = λ g _. elim (cases_lt g 4) [
        | inl l ↦ r.1 g l
        | inr l ↦ get_or_past (leave_below D S 4).admitted g false (let n = t.guests in omega arith)
      ];
    }

-- what a granted call has passed

passed_first : (t : Check) (ts : List Check) → first (t ∷ ts) ≡ None → (t.0 ≡ false) × (first ts ≡ None)
passed_first t ts e = elim (cases_Bool t.0) [
  | inl h ↦ absurd (let a = cond-true t.0 (Some t.1) (first ts) h in let z : ◌≡◌ {A = ℕ} 0 1 = cc in omega arith)
  | inr h ↦ (h, sym (cond-false t.0 (Some t.1) (first ts) h) ∙ e)
]

-- open, such a guest, and it is admitted
guest_passed : (S : Shape) (g : ℕ) (ts : List Check) → first (is_closed S ∷ no_guest g ∷ not_admitted S g ∷ ts) ≡ None
    → (g < 4) × (is_admitted S g ≡ true)
guest_passed S g ts e =
    let a = passed_first (is_closed S) (no_guest g ∷ not_admitted S g ∷ ts) e in
    let b = passed_first (no_guest g) (not_admitted S g ∷ ts) a.1 in
    let d = passed_first (not_admitted S g) ts b.1 in
    (let l = ltb-false 3 g b.0 in omega arith, not-false (is_admitted S g) d.0)

access_moved : (D : Dimensions) (S : Shape) → SoundShape D S → (g : ℕ) (p : Page) (ts : List Check)
    → first (is_closed S ∷ no_guest g ∷ not_admitted S g ∷ ts) ≡ None → SoundShape D (with_clock S g (access (clock_of S g) p))
access_moved D S s g p ts e =
    let k = guest_passed S g ts e in
    clock_changed D S s g k.0 k.1 (access (clock_of S g) p) (access_sound (clock_of S g) p D.frames (s.sound g k.0) (s.framed g k.1))

emptied_moved : (D : Dimensions) (S : Shape) → SoundShape D S → (g : ℕ) (t : Page → Bool) (ts : List Check)
    → first (is_closed S ∷ no_guest g ∷ not_admitted S g ∷ ts) ≡ None → SoundShape D (with_clock S g (emptied t (clock_of S g)))
emptied_moved D S s g t ts e =
    let k = guest_passed S g ts e in
    clock_changed D S s g k.0 k.1 (emptied t (clock_of S g)) (emptied_sound D.frames t (clock_of S g) (s.sound g k.0))

admit_sound : (D : Dimensions) (S : Shape) → SoundShape D S → (g : ℕ) → first (is_closed S ∷ no_guest g ∷ is_in S g ∷ no_frames D ∷ []) ≡ None → SoundShape D (admit D S g)
unfolding changed
admit_sound D S s g e =
    let a = passed_first (is_closed S) (no_guest g ∷ is_in S g ∷ no_frames D ∷ []) e in
    let b = passed_first (no_guest g) (is_in S g ∷ no_frames D ∷ []) a.1 in
    let d = passed_first (is_in S g) (no_frames D ∷ []) b.1 in
    let f = passed_first (no_frames D) [] d.1 in
    let l : g < 4 = let h = ltb-false 3 g b.0 in omega arith in
    let n = eqb-false D.frames 0 f.0 in
    changed_sound D S s g l true (empty_clock D.frames 0) (empty_sound D.frames 0 (omega arith))
    (λ x. absurd (both_ways true x refl))
    (λ x. absurd (both_ways S.opened x (not-false S.opened a.0)))
    (λ _. omega arith)

moved_sound : (D : Dimensions) (S : Shape) → SoundShape D S → (call : Call) → check D S call ≡ None → SoundShape D (moved D S call)
unfolding check moved
moved_sound D S s opening e = record { guests = s.guests; clocks = s.clocks; sound = s.sound; out = s.out; framed = s.framed; closed = λ g x. absurd (both_ways true x refl) }
moved_sound D S s closing e = closed_sound D S s
moved_sound D S s (admission g) e = admit_sound D S s g e
moved_sound D S s (leaving g) e = leave_sound D S s g (guest_passed S g [] e).0
moved_sound D S s (read g p n) e = access_moved D S s g p (no_page D p ∷ not_a_page_long n ∷ []) e
moved_sound D S s (write g p at bytes) e = access_moved D S s g p (no_page D p ∷ past_the_page (at + length bytes) ∷ []) e
moved_sound D S s (truncation g o i) e = emptied_moved D S s g (file_from o i) (no_page D (File o i) ∷ []) e
moved_sound D S s (release g i) e = emptied_moved D S s g (same_page (Anonymous i)) (no_page D (Anonymous i) ∷ []) e
moved_sound D S s (sync g) e = s
moved_sound D S s (question g) e = s

new_sound : (D : Dimensions) → SoundShape D (new_shape D)
new_sound D = record {
  guests = refl;
  clocks = refl;
  sound = λ g l. subst (SoundClock D.frames) (sym (of_four g l)) (empty_sound D.frames 0 (omega arith));
  out = λ g i _. elim (cases_lt g 4) [
    | inl l ↦ ap (λ (c : Clock). page_at c i) (of_four g l) ∙ none_in D.frames i
    | inr l ↦ ap (λ (c : Clock). page_at c i) (get_or_past (new_shape D).clocks g (empty_clock 0 0) l)
  ];
  closed = λ g _. none_admitted g;
  framed = λ g e. absurd (both_ways (is_admitted (new_shape D) g) (none_admitted g) e);
}
  where
    of_four : (g : ℕ) → g < 4 → clock_of (new_shape D) g ≡ empty_clock D.frames 0
    of_four g l = get_or-replicate 4 g (empty_clock D.frames 0) (empty_clock 0 0) l

    none_admitted : (g : ℕ) → is_admitted (new_shape D) g ≡ false
    none_admitted g = elim (cases_lt g 4) [ inl l ↦ get_or-replicate 4 g false false l | inr l ↦ get_or_past (new_shape D).admitted g false l ]

step_sound : (D : Dimensions) (r : Rule) (call : Call) → SoundShape D r.shape → SoundShape D (rule_step D r call).shape
step_sound D r call s = go (check D r.shape call) refl
  where
    go : (o : Option HostRefusal) → check D r.shape call ≡ o
        → SoundShape D (given o (λ refusal. r) (record { shape = moved D r.shape call; evictions = r.evictions + given (evicts r.shape call) (λ p. 1) 0 })).shape
    go None e = moved_sound D r.shape s call e
    go (Some x) e = s

after_sound : (D : Dimensions) (past : List Call) → SoundShape D (rule_after D past).shape
unfolding rule_after
after_sound D [] = new_sound D
after_sound D (call ∷ past) = step_sound D (rule_after D past) call (after_sound D past)

pub rule_stands : RuleLaw
rule_stands = record {
  refused = λ D r call x e. ap (λ (o : Option HostRefusal). given o (λ refusal. r) (record { shape = moved D r.shape call; evictions = r.evictions + given (evicts r.shape call) (λ p. 1) 0 })) e;
  sound = after_sound;
  accessed = λ f c p s some. accessed c p f s some;
}
