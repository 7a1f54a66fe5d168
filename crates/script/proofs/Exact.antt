-- Reading a line undoes writing a command, and only a command's text reads as that command.
use Rattle.std.proofs.Common.{◌≡◌, ℕ, ◌+◌, ◌^◌, ◌<◌, Bool, true, false, cond, eqb, ltb, List, [], ◌∷◌, ◌++◌, map, Some, None, Ok, Err, decimal, Option, Result, sym, refl, ap, ◌∙◌, subst, arith, ltb-true, lt-ltb, eqb-true}
use Rattle.std.proofs.lemmas.List.{append_assoc, append-nil, map-append}
use Rattle.std.specs.List.{AllByRecursion}
use Rattle.tokens.specs.Cuts.{pieces}
use Rattle.tokens.specs.Numbers.{number_of}
use Rattle.script.specs.Reading.{Cursor, Read, then, making, field_read, number_from, number, at_most_255, byte, file_page, anonymous_page, byte_write, command, whole, read_line}
use Rattle.tokens.specs.Tokens.{some}
use Rattle.command.specs.Texts.{command_letter, file_page_numbers, anonymous_page_numbers, write_numbers, command_numbers, command_text, FilePageFits, AnonymousPageFits, WriteFits, CommandFits, ExactReading}
use Rattle.command.specs.declared.commands.FilePage.{FilePage}
use Rattle.command.specs.declared.commands.AnonymousPage.{AnonymousPage}
use Rattle.command.specs.declared.commands.ByteWrite.{ByteWrite}
use Rattle.command.specs.declared.commands.Command.{Command}
use Rattle.command.specs.declared.commands.Command.TheVariants.{Admit, Leave, ReadFile, ReadAnonymous, WriteFile, WriteAnonymous, Truncate, Release, Sync, Counts}
use Rattle.command.specs.declared.commands.LineRefusal.{LineRefusal}
use Rattle.script.proofs.Glued.{spaced, numbers_only, numbers_back}
use Rattle.tokens.proofs.Numerals.{number_back, number_only}

abbrev at : ℕ → List (List ℕ) → Cursor
at n fs = record { next = n; fields = fs }

-- a step that reads, and what it leaves
then_only : {X Y : Type 0} (r : Read X) (f : X → Cursor → Read Y) (y : Y) (t : Cursor) → then r f ≡ Ok (y, t)
    → (x : X) × (s : Cursor) × (r ≡ Ok (x, s)) × (f x s ≡ Ok (y, t))
then_only (Ok p) f y t e = (p.0, p.1, refl, e)
then_only (Err d) f y t e = cc

ok_same : {X : Type 0} (p q : X × Cursor) → ◌≡◌ {A = Read X} (Ok p) (Ok q) → p ≡ q
ok_same p q e = cc

making_only : {X Y : Type 0} (r : Read X) (f : X → Y) (y : Y) (t : Cursor) → making r f ≡ Ok (y, t)
    → (x : X) × (r ≡ Ok (x, t)) × (y ≡ f x)
making_only {X} {Y} (Ok p) f y t e =
    let same = ok_same (f p.0, p.1) (y, t) e in
    (p.0, ap (λ (s : Cursor). Ok (p.0, s)) (ap (λ (q : Y × Cursor). q.1) same), sym (ap (λ (q : Y × Cursor). q.0) same))
making_only (Err d) f y t e = cc

-- one number
field_only : (n : ℕ) (fs : List (List ℕ)) (o : Option ℕ) (v : ℕ) (t : Cursor) → field_read n fs o ≡ Ok (v, t) → (o ≡ Some v) × (fs ≡ t.fields)
field_only n fs None v t e = cc
field_only n fs (Some w) v t e =
    let same = ok_same (w, at (n + 1) fs) (v, t) e in
    (ap (λ (q : ℕ × Cursor). Some q.0) same, ap (λ (q : ℕ × Cursor). q.1.fields) same)

from_only : (n : ℕ) (fs : List (List ℕ)) (v : ℕ) (t : Cursor) → number_from n fs ≡ Ok (v, t) → (fs ≡ decimal v ∷ t.fields) × (v < 2 ^ 16)
from_only n [] v t e = cc
from_only n (f ∷ fs) v t e =
    let p = field_only n fs (number_of f) v t e in
    let q = number_only f v p.0 in
    (cc (q.0, p.1), q.1)

number_only_one : (s : Cursor) (v : ℕ) (t : Cursor) → number s ≡ Ok (v, t) → (s.fields ≡ decimal v ∷ t.fields) × (v < 2 ^ 16)
number_only_one s v t e = from_only s.next s.fields v t e

-- one byte
granted : {X : Type 0} (b : Bool) (x : Result X LineRefusal) (d : LineRefusal) (y : X) → cond b x (Err d) ≡ Ok y → (b ≡ true) × (x ≡ Ok y)
granted true x d y e = (refl, e)
granted false x d y e = cc

small_only : (n : ℕ) (r : Read ℕ) (b : ℕ) (t : Cursor) → at_most_255 n r ≡ Ok (b, t) → (r ≡ Ok (b, t)) × (b < 2 ^ 8)
small_only n (Err d) b t e = cc
small_only n (Ok p) b t e =
    let g = granted (ltb p.0 256) (Ok p) _ (b, t) e in
    let same : p.0 ≡ b = ap (λ (q : ℕ × Cursor). q.0) (ok_same p (b, t) g.1) in
    (g.1, omega (arith, ltb-true p.0 256 g.0))

byte_only : (s : Cursor) (b : ℕ) (t : Cursor) → byte s ≡ Ok (b, t) → (s.fields ≡ decimal b ∷ t.fields) × (b < 2 ^ 8)
byte_only s b t e = let p = small_only s.next (number s) b t e in ((number_only_one s b t p.0).0, p.1)

-- the parts of a command
file_page_back : (p : FilePage) (n : ℕ) (fs : List (List ℕ)) → FilePageFits p
    → file_page (at n (map decimal (file_page_numbers p) ++ fs)) ≡ Ok (p, at (n + 1 + 1 + 1) fs)
file_page_back p n fs h = rw (number_back p.guest h.0, number_back p.file h.1, number_back p.page h.2)

file_page_only : (s : Cursor) (p : FilePage) (t : Cursor) → file_page s ≡ Ok (p, t)
    → (s.fields ≡ map decimal (file_page_numbers p) ++ t.fields) × FilePageFits p
file_page_only s p t e =
    let a = then_only (number s) _ p t e in
    let b = then_only (number a.1) _ p t a.3 in
    let c = making_only (number b.1) _ p t b.3 in
    let g = number_only_one s a.0 a.1 a.2 in
    let o = number_only_one a.1 b.0 b.1 b.2 in
    let i = number_only_one b.1 c.0 t c.1 in
    rw c.2
    (g.0 ∙ ap (λ (fs : List (List ℕ)). decimal a.0 ∷ fs) (o.0 ∙ ap (λ (fs : List (List ℕ)). decimal b.0 ∷ fs) i.0), (g.1, o.1, i.1))

anonymous_page_back : (p : AnonymousPage) (n : ℕ) (fs : List (List ℕ)) → AnonymousPageFits p
    → anonymous_page (at n (map decimal (anonymous_page_numbers p) ++ fs)) ≡ Ok (p, at (n + 1 + 1) fs)
anonymous_page_back p n fs h = rw (number_back p.guest h.0, number_back p.page h.1)

anonymous_page_only : (s : Cursor) (p : AnonymousPage) (t : Cursor) → anonymous_page s ≡ Ok (p, t)
    → (s.fields ≡ map decimal (anonymous_page_numbers p) ++ t.fields) × AnonymousPageFits p
anonymous_page_only s p t e =
    let a = then_only (number s) _ p t e in
    let b = making_only (number a.1) _ p t a.3 in
    let g = number_only_one s a.0 a.1 a.2 in
    let i = number_only_one a.1 b.0 t b.1 in
    rw b.2 (g.0 ∙ ap (λ (fs : List (List ℕ)). decimal a.0 ∷ fs) i.0, (g.1, i.1))

byte_write_back : (w : ByteWrite) (n : ℕ) (fs : List (List ℕ)) → WriteFits w
    → byte_write (at n (map decimal (write_numbers w) ++ fs)) ≡ Ok (w, at (n + 1 + 1) fs)
byte_write_back w n fs h = rw (number_back w.at h.0, number_back w.byte (omega (arith, h.1)), lt-ltb w.byte 256 h.1)

byte_write_only : (s : Cursor) (w : ByteWrite) (t : Cursor) → byte_write s ≡ Ok (w, t)
    → (s.fields ≡ map decimal (write_numbers w) ++ t.fields) × WriteFits w
byte_write_only s w t e =
    let a = then_only (number s) _ w t e in
    let b = making_only (byte a.1) _ w t a.3 in
    let at = number_only_one s a.0 a.1 a.2 in
    let y = byte_only a.1 b.0 t b.1 in
    rw b.2 (at.0 ∙ ap (λ (fs : List (List ℕ)). decimal a.0 ∷ fs) y.0, (at.1, y.1))

-- a command with its letter
command_back : (c : Command) (n : ℕ) (fs : List (List ℕ)) → CommandFits c
    → (m : ℕ) × (command (command_letter c) (at n (map decimal (command_numbers c) ++ fs)) ≡ Ok (c, at m fs))
command_back (Admit g) n fs h = (n + 1, rw (number_back g h))
command_back (Leave g) n fs h = (n + 1, rw (number_back g h))
command_back (ReadFile p) n fs h = (n + 1 + 1 + 1, rw (file_page_back p n fs h))
command_back (ReadAnonymous p) n fs h = (n + 1 + 1, rw (anonymous_page_back p n fs h))
command_back (WriteFile p w) n fs h =
    (n + 1 + 1 + 1 + 1 + 1, rw (file_page_back p n (map decimal (write_numbers w) ++ fs) h.0, byte_write_back w (n + 1 + 1 + 1) fs h.1))
command_back (WriteAnonymous p w) n fs h =
    (n + 1 + 1 + 1 + 1, rw (anonymous_page_back p n (map decimal (write_numbers w) ++ fs) h.0, byte_write_back w (n + 1 + 1) fs h.1))
command_back (Truncate p) n fs h = (n + 1 + 1 + 1, rw (file_page_back p n fs h))
command_back (Release p) n fs h = (n + 1 + 1, rw (anonymous_page_back p n fs h))
command_back (Sync g) n fs h = (n + 1, rw (number_back g h))
command_back (Counts g) n fs h = (n + 1, rw (number_back g h))

-- what the reading of a command says of its letter and its fields
abbrev Reads : ℕ → Cursor → Command → Cursor → Type 0
Reads a s c t = (a ≡ command_letter c) × (s.fields ≡ map decimal (command_numbers c) ++ t.fields) × CommandFits c

by_test : (b : Bool) (x y : Read Command) (q : Command × Cursor) (P : Type 0) → (b ≡ true → x ≡ Ok q → P) → (y ≡ Ok q → P) → cond b x y ≡ Ok q → P
by_test true x y q P here there e = here refl e
by_test false x y q P here there e = there e

-- a command of one part, and of two
part : {X : Type 0} (p : Cursor → Read X) (w : X → List ℕ) (V : X → Type 0)
    → ((s : Cursor) (x : X) (t : Cursor) → p s ≡ Ok (x, t) → (s.fields ≡ map decimal (w x) ++ t.fields) × V x)
    → (f : X → Command) (a : ℕ) → ((x : X) → (a ≡ command_letter (f x)) × (w x ≡ command_numbers (f x)) × (V x → CommandFits (f x)))
    → (s : Cursor) (c : Command) (t : Cursor) → making (p s) f ≡ Ok (c, t) → Reads a s c t
part p w V only f a is s c t e =
    let m = making_only (p s) f c t e in
    let o = only s m.0 t m.1 in
    let i = is m.0 in
    rw m.2 (i.0, o.0 ∙ ap (λ (ns : List ℕ). map decimal ns ++ t.fields) i.1, i.2 o.1)

two_parts : {X Y : Type 0} (p : Cursor → Read X) (w : X → List ℕ) (V : X → Type 0) (q : Cursor → Read Y) (v : Y → List ℕ) (U : Y → Type 0)
    → ((s : Cursor) (x : X) (t : Cursor) → p s ≡ Ok (x, t) → (s.fields ≡ map decimal (w x) ++ t.fields) × V x)
    → ((s : Cursor) (y : Y) (t : Cursor) → q s ≡ Ok (y, t) → (s.fields ≡ map decimal (v y) ++ t.fields) × U y)
    → (f : X → Y → Command) (a : ℕ)
    → ((x : X) (y : Y) → (a ≡ command_letter (f x y)) × (w x ++ v y ≡ command_numbers (f x y)) × (V x → U y → CommandFits (f x y)))
    → (s : Cursor) (c : Command) (t : Cursor) → then (p s) (λ x s. making (q s) (f x)) ≡ Ok (c, t) → Reads a s c t
two_parts p w V q v U only-p only-q f a is s c t e =
    let m = then_only (p s) (λ x s. making (q s) (f x)) c t e in
    let n = making_only (q m.1) (f m.0) c t m.3 in
    let o = only-p s m.0 m.1 m.2 in
    let u = only-q m.1 n.0 t n.1 in
    let i = is m.0 n.0 in
    let first = map decimal (w m.0) in
    rw n.2 (
      i.0,
      o.0 ∙ ap (λ (fs : List (List ℕ)). first ++ fs) u.0
          ∙ sym (append_assoc first (map decimal (v n.0)) t.fields)
          ∙ ap (λ (fs : List (List ℕ)). fs ++ t.fields) (sym (map-append decimal (w m.0) (v n.0)))
          ∙ ap (λ (ns : List ℕ). map decimal ns ++ t.fields) i.1,
      i.2 o.1 u.1,
    )

command_only : (a : ℕ) (s : Cursor) (c : Command) (t : Cursor) → command a s ≡ Ok (c, t) → Reads a s c t
command_only a s c t =
    let P = Reads a s c t in
    let one : (f : ℕ → Command) → ((g : ℕ) → (a ≡ command_letter (f g)) × ((g ∷ []) ≡ command_numbers (f g)) × (g < 2 ^ 16 → CommandFits (f g))) → making (number s) f ≡ Ok (c, t) → P
    = λ f is. part number (λ g. g ∷ []) (λ g. g < 2 ^ 16) number_only_one f a is s c t in
    let file : (f : FilePage → Command) → ((p : FilePage) → (a ≡ command_letter (f p)) × (file_page_numbers p ≡ command_numbers (f p)) × (FilePageFits p → CommandFits (f p))) → making (file_page s) f ≡ Ok (c, t) → P
    = λ f is. part file_page file_page_numbers FilePageFits file_page_only f a is s c t in
    let anonymous : (f : AnonymousPage → Command) → ((p : AnonymousPage) → (a ≡ command_letter (f p)) × (anonymous_page_numbers p ≡ command_numbers (f p)) × (AnonymousPageFits p → CommandFits (f p))) → making (anonymous_page s) f ≡ Ok (c, t) → P
    = λ f is. part anonymous_page anonymous_page_numbers AnonymousPageFits anonymous_page_only f a is s c t in
    by_test (eqb a 65) _ _ _ P (λ k. one Admit (λ g. (eqb-true a 65 k, refl, λ h. h)))
    (by_test (eqb a 76) _ _ _ P (λ k. one Leave (λ g. (eqb-true a 76 k, refl, λ h. h)))
    (by_test (eqb a 82) _ _ _ P (λ k. file ReadFile (λ p. (eqb-true a 82 k, refl, λ h. h)))
    (by_test (eqb a 114) _ _ _ P (λ k. anonymous ReadAnonymous (λ p. (eqb-true a 114 k, refl, λ h. h)))
    (by_test (eqb a 87) _ _ _ P
    (λ k. two_parts file_page file_page_numbers FilePageFits byte_write write_numbers WriteFits file_page_only byte_write_only WriteFile a
    (λ p w. (eqb-true a 87 k, refl, λ h i. (h, i))) s c t)
    (by_test (eqb a 119) _ _ _ P
    (λ k. two_parts anonymous_page anonymous_page_numbers AnonymousPageFits byte_write write_numbers WriteFits anonymous_page_only byte_write_only WriteAnonymous a
    (λ p w. (eqb-true a 119 k, refl, λ h i. (h, i))) s c t)
    (by_test (eqb a 84) _ _ _ P (λ k. file Truncate (λ p. (eqb-true a 84 k, refl, λ h. h)))
    (by_test (eqb a 70) _ _ _ P (λ k. anonymous Release (λ p. (eqb-true a 70 k, refl, λ h. h)))
    (by_test (eqb a 83) _ _ _ P (λ k. one Sync (λ g. (eqb-true a 83 k, refl, λ h. h)))
    (by_test (eqb a 67) _ _ _ P (λ k. one Counts (λ g. (eqb-true a 67 k, refl, λ h. h)))
    (λ e. cc))))))))))

-- every command has numbers, and they are short
some_number : (c : Command) → (n : ℕ) × (ns : List ℕ) × (command_numbers c ≡ n ∷ ns)
some_number (Admit g) = (g, [], refl)
some_number (Leave g) = (g, [], refl)
some_number (ReadFile p) = (p.guest, p.file ∷ p.page ∷ [], refl)
some_number (ReadAnonymous p) = (p.guest, p.page ∷ [], refl)
some_number (WriteFile p w) = (p.guest, p.file ∷ p.page ∷ w.at ∷ w.byte ∷ [], refl)
some_number (WriteAnonymous p w) = (p.guest, p.page ∷ w.at ∷ w.byte ∷ [], refl)
some_number (Truncate p) = (p.guest, p.file ∷ p.page ∷ [], refl)
some_number (Release p) = (p.guest, p.page ∷ [], refl)
some_number (Sync g) = (g, [], refl)
some_number (Counts g) = (g, [], refl)

abbrev Short : ℕ → Type 0
Short n = n < 2 ^ 64

short_page : (p : FilePage) (ns : List ℕ) → FilePageFits p → AllByRecursion Short ns → AllByRecursion Short (file_page_numbers p ++ ns)
short_page p ns h a = (omega (arith, h.0), (omega (arith, h.1), (omega (arith, h.2), a)))

short_anonymous : (p : AnonymousPage) (ns : List ℕ) → AnonymousPageFits p → AllByRecursion Short ns → AllByRecursion Short (anonymous_page_numbers p ++ ns)
short_anonymous p ns h a = (omega (arith, h.0), (omega (arith, h.1), a))

short_write : (w : ByteWrite) → WriteFits w → AllByRecursion Short (write_numbers w)
short_write w h = (omega (arith, h.0), (omega (arith, h.1), tt))

short_numbers : (c : Command) → CommandFits c → AllByRecursion Short (command_numbers c)
short_numbers (Admit g) h = (omega (arith, h), tt)
short_numbers (Leave g) h = (omega (arith, h), tt)
short_numbers (ReadFile p) h = short_page p [] h tt
short_numbers (ReadAnonymous p) h = short_anonymous p [] h tt
short_numbers (WriteFile p w) h = short_page p (write_numbers w) h.0 (short_write w h.1)
short_numbers (WriteAnonymous p w) h = short_anonymous p (write_numbers w) h.0 (short_write w h.1)
short_numbers (Truncate p) h = short_page p [] h tt
short_numbers (Release p) h = short_anonymous p [] h tt
short_numbers (Sync g) h = (omega (arith, h), tt)
short_numbers (Counts g) h = (omega (arith, h), tt)

-- writing a command and reading it back gives that command
pub reads_back : (c : Command) → CommandFits c → read_line (command_text c) ≡ Ok c
reads_back c h =
    let k = some_number c in
    let n = k.0 in
    let ns = k.1 in
    let short : AllByRecursion Short (n ∷ ns) = subst (AllByRecursion Short) k.2 (short_numbers c h) in
    let cut = numbers_back n ns short.0 short.1 in
    let b = command_back c 1 [] h in
    ap (λ (m : List ℕ). read_line (command_letter c ∷ spaced m)) k.2
    ∙ ap (λ (fs : List (List ℕ)). whole (command (command_letter c) (at 1 fs)))
    (cut ∙ sym (ap (map decimal) k.2) ∙ sym (append-nil (map decimal (command_numbers c))))
    ∙ ap whole b.1

-- a command that is all of its line leaves no field
no_field : (fs : List (List ℕ)) → some fs ≡ false → fs ≡ []
no_field [] e = refl
no_field (f ∷ fs) e = cc

not_refused : {X : Type 0} (b : Bool) (d : LineRefusal) (x : Result X LineRefusal) (y : X) → cond b (Err d) x ≡ Ok y → (b ≡ false) × (x ≡ Ok y)
not_refused true d x y e = cc
not_refused false d x y e = (refl, e)

whole_only : (r : Read Command) (c : Command) → whole r ≡ Ok c → (t : Cursor) × (r ≡ Ok (c, t)) × (t.fields ≡ [])
whole_only (Err d) c e = cc
whole_only (Ok p) c e =
    let g = not_refused (some p.1.fields) _ (Ok p.0) c e in
    let same : p.0 ≡ c = cc g.1 in
    (p.1, ap (λ (d : Command). Ok (d, p.1)) same, no_field p.1.fields g.0)

fields_only : (a : ℕ) (fs : List (List ℕ)) (c : Command) → whole (command a (at 1 fs)) ≡ Ok c
    → (a ≡ command_letter c) × (fs ≡ map decimal (command_numbers c)) × CommandFits c
fields_only a fs c e =
    let w = whole_only (command a (at 1 fs)) c e in
    let r = command_only a (at 1 fs) c w.0 w.1 in
    (r.0, r.1 ∙ ap (λ (gs : List (List ℕ)). map decimal (command_numbers c) ++ gs) w.2 ∙ append-nil (map decimal (command_numbers c)), r.2)

-- a line that reads as a command is exactly that command's text
pub reads_only : (s : List ℕ) (c : Command) → read_line s ≡ Ok c → (s ≡ command_text c) × CommandFits c
reads_only [] c e = cc
reads_only (a ∷ []) c e =
    let o = fields_only a [] c e in
    let k = some_number c in
    let none : [] ≡ decimal k.0 ∷ map decimal k.1 = o.1 ∙ ap (map decimal) k.2 in
    cc
reads_only (a ∷ d ∷ s) c e =
    let g = granted (eqb d 32) (whole (command a (at 1 (pieces 32 s)))) _ c e in
    let o = fields_only a (pieces 32 s) c g.1 in
    let k = some_number c in
    let r = numbers_only s k.0 k.1 (o.1 ∙ ap (map decimal) k.2) in
    let t : spaced (k.0 ∷ k.1) ≡ spaced (command_numbers c) = ap spaced (sym k.2) in
    (cc (o.0, eqb-true d 32 g.0, r, t), o.2)

pub exact_reading : (s : List ℕ) (r : Result Command LineRefusal) → r ≡ read_line s → ExactReading s r
exact_reading s r e = record {
  back = λ c h t. e ∙ ap read_line t ∙ reads_back c h;
  only = λ c k. reads_only s c (sym e ∙ k);
}
