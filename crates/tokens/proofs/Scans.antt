-- What `try_fold` makes of digits by calls that append one digit each.
use Rattle.std.proofs.Common.{◌≡◌, ℕ, List, [], ◌∷◌, Some, None, Option, Iter, Bor, sym, refl, ap, ◌∙◌, subst}
use Rattle.std.proofs.iter.Yields.{fronts}
use Rattle.std.proofs.lemmas.List.{nil_from_length}
use Rattle.std.specs.ControlFlow.{continue_value}
use Rattle.std.specs.Fn.{Called}
use Rattle.std.specs.Iterator.{Yields, TryFoldsItems, TryFoldTurn}
use Rattle.std.specs.List.{FoldsTo}
use Rattle.std.specs.Option.{MatchOption}
use Rattle.std.specs.declared.ops.ControlFlow.{ControlFlow}
use Rattle.std.specs.declared.ops.ControlFlow.TheVariants.{Continue, Break}
use denote.Param.Members.{Mut}
use Rattle.tokens.specs.Numbers.{scanned, appended}

-- the number that the digits behind the first write, if the first is appended
step : (n d : ℕ) (ds : List ℕ) (o : Option ℕ) → o ≡ appended n d → scanned n (d ∷ ds) ≡ elim o [ None ↦ None | Some m ↦ scanned m ds ]
step n d ds o e = ap (λ (o : Option ℕ). elim o [ None ↦ None | Some m ↦ scanned m ds ]) (sym e)

module _ {F : Type 0} (E : Type 0) (g : Mut F (ℕ × (Bor ℕ × Unit {0})) (Option ℕ)) (f : F)
    (call : (n : ℕ) (d : Bor ℕ) (r : Option ℕ) (h : F) → Called g f (n, (d, tt)) r h → (h ≡ f) × (r ≡ appended n d.now))
  where
    abbrev Branches : Option ℕ → ControlFlow E ℕ → Type 0
    Branches o r = o ≡ continue_value r

    -- a call of what is still f
    called : (k h : F) (n : ℕ) (d : Bor ℕ) (r : Option ℕ) → k ≡ f → Called g k (n, (d, tt)) r h → (h ≡ f) × (r ≡ appended n d.now)
    called k h n d r same c = call n d r h (subst (λ (x : F). Called g x (n, (d, tt)) r h) same c)

    folded : (ds : List (Bor ℕ)) (s t u : Iter ℕ) (o : Option (Bor ℕ)) (p q : F × ℕ) (r : Option ℕ) → p.0 ≡ f
        → Yields fronts s ds t → fronts t o u → FoldsTo {P = F × ℕ} (TryFoldTurn g Branches) p ds q
        → MatchOption o (Branches r (Continue q.1)) (λ x. (v : Option ℕ) × (h : F) × (e : E) × Called g q.0 (q.1, (x, tt)) v h × Branches v (Break e) × (r ≡ None))
        → r ≡ scanned p.1 s.rest.now
    folded [] s t u None p q r same ys end fs is =
        let none : s.rest.now ≡ [] = ap (λ (i : Iter ℕ). i.rest.now) ys ∙ nil_from_length t.rest.now end.0 in
        is ∙ ap (λ (k : F × ℕ). Some k.1) (sym fs) ∙ sym (ap (scanned p.1) none)
    folded [] s t u (Some d) p q r same ys more fs is =
        let some : s.rest.now ≡ d.now ∷ u.rest.now = ap (λ (i : Iter ℕ). i.rest.now) ys ∙ more in
        let kept : q.0 ≡ f = ap (λ (k : F × ℕ). k.0) (sym fs) ∙ same in
        let c = called q.0 is.1 q.1 d is.0 kept is.3 in
        let stop : None ≡ appended p.1 d.now = sym is.4 ∙ c.1 ∙ ap (λ (k : F × ℕ). appended k.1 d.now) (sym fs) in
        is.5 ∙ sym (ap (scanned p.1) some ∙ step p.1 d.now u.rest.now None stop)
    folded (d ∷ ds) s t u o p q r same ys more fs is =
        let j = ys.0 in
        let k = fs.0 in
        let turn = fs.1 in
        let c = called p.0 k.0 p.1 d turn.0 same turn.1 in
        let on : Some k.1 ≡ appended p.1 d.now = sym turn.2 ∙ c.1 in
        folded ds j t u o k q r c.0 ys.2 more fs.2 is ∙ sym (ap (scanned p.1) ys.1 ∙ step p.1 d.now j.rest.now (Some k.1) on)

    pub scanned_by : (s u : Iter ℕ) (n : ℕ) (r : Option ℕ) → TryFoldsItems fronts g Branches (λ (_ : E) r. r ≡ None) s f n r u → r ≡ scanned n s.rest.now
    scanned_by s u n r ran = let y = ran.4 in folded ran.0 s y.0 u ran.1 (f, n) (ran.2, ran.3) r refl y.1 y.2 ran.5 ran.6
