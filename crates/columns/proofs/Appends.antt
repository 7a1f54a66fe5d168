-- What a buffer holds once a text was written to a part of it.
use Rattle.std.proofs.Common.{◌≡◌, ℕ, ◌+◌, ◌-◌, ◌<◌, ◌≤◌, List, [], ◌∷◌, ◌++◌, length, get_or, take, drop, set, replicate, sym, ap, ◌∙◌, arith}
use borrow.Rule.Slice.PartMut.{put_mid}
use Rattle.std.specs.List.{flat_map}
use Rattle.std.proofs.lemmas.List.{append-nil, append_assoc, length-append, length-drop, length-replicate, length-take, take_at, drop_at, drop_all, drop-drop, drop_more, flat_map_more, set_at, take_all, take_more, take-append-drop, take-replicate}
use Rattle.columns.specs.Columns.{right}

-- a text over the end of a field of spaces
pub over_blanks : (w : ℕ) (field text : List ℕ) → field ≡ replicate w 32 → length text ≤ w
    → put_mid (w - length text) (w - (w - length text)) field text ≡ right w text
unfolding right
over_blanks w field text e fits =
    let a = w - length text in
    let rest : length (drop {A = ℕ} a (replicate w 32)) ≤ w - a = simp (length-drop, length-replicate) (omega arith) in
    ap (λ f. put_mid a (w - a) f text) e ∙ ap (λ l. l ++ (text ++ drop (w - a) (drop a (replicate w 32)))) (take-replicate a w 32 (omega arith))
    ∙ ap (λ l. replicate a 32 ++ (text ++ l)) (drop_all (w - a) (drop a (replicate w 32)) rest) ∙ ap (λ l. replicate a 32 ++ l) (append-nil text)

-- a text up to the end of a field of spaces
pub up_to_end : (w start : ℕ) (blank text now : List ℕ) → blank ≡ replicate w 32 → start + length text ≡ w
    → take start now ≡ take start blank → drop start now ≡ text ++ drop w blank → now ≡ right w text
unfolding right
up_to_end w start blank text now e fits before written =
    let width : start ≡ w - length text = omega arith in
    let none : length blank ≤ w = omega (arith, ap length e ∙ length-replicate w 32) in
    sym (take-append-drop start now) ∙ ap (λ l. l ++ drop start now) (before ∙ ap (λ l. take start l) e ∙ take-replicate start w 32 (omega arith))
    ∙ ap (λ l. replicate start 32 ++ l) (written ∙ ap (λ l. text ++ l) (drop_all w blank none) ∙ append-nil text)
    ∙ ap (λ n. replicate {A = ℕ} n 32 ++ text) width

-- a text after what stands at the start of the buffer already
pub appended : (done text buffer : List ℕ) (a k : ℕ) → length done ≡ a
    → put_mid a k (done ++ drop a buffer) text ≡ (done ++ text) ++ drop (a + k) buffer
appended done text buffer a k e =
    ap (λ l. l ++ (text ++ drop k (drop a (done ++ drop a buffer)))) (take_at done (drop a buffer) a e)
    ∙ ap (λ l. done ++ (text ++ drop k l)) (drop_at done (drop a buffer) a e) ∙ ap (λ l. done ++ (text ++ l)) (drop-drop k a buffer)
    ∙ sym (append_assoc done text (drop (a + k) buffer))

-- how long the text at the start of a buffer is, of which the length is kept
pub start_length : (done was buffer : List ℕ) (a : ℕ) → was ≡ done ++ drop a buffer → length was ≡ length buffer → a ≤ length buffer → length done ≡ a
start_length done was buffer a e kept within =
    let l = ap length e ∙ length-append done (drop a buffer) ∙ ap (λ n. length done + n) (length-drop a buffer) in
    omega arith

-- how long a part from a to a + w is
pub part_length : (a w : ℕ) (xs : List ℕ) → a + w ≤ length xs → length (take (a + w - a) (drop a xs)) ≡ w
part_length a w xs within = simp (length-take, length-drop) (omega arith)

-- one more text in a row of them
pub appended_more : {X : Type 0} (f : X → List ℕ) (xs : List X) (i : ℕ) (d : X) (text was buffer : List ℕ) (a w : ℕ) → i < length xs
    → was ≡ flat_map f (take i xs) ++ drop a buffer → length was ≡ length buffer → a ≤ length buffer → text ≡ f (get_or xs i d)
    → put_mid a (a + w - a) was text ≡ flat_map f (take (i + 1) xs) ++ drop (a + w) buffer
appended_more f xs i d text was buffer a w lt e kept within is =
    let done = flat_map f (take i xs) in
    let k : a + w - a ≡ w = omega arith in
    ap (λ n. put_mid a n was text) k ∙ ap (λ l. put_mid a w l text) e ∙ appended done text buffer a w (start_length done was buffer a e kept within)
    ∙ ap (λ l. l ++ drop (a + w) buffer)
    (ap (λ t. done ++ t) is ∙ flat_map_more f [] (take i xs) (get_or xs i d) ∙ ap (λ l. flat_map f l) (sym (take_more xs i d lt)))

-- The end of a line: after the front of n bytes the row is written to the m bytes that are left, of which it takes r, and then one byte more.
pub ended : (front row part was buffer : List ℕ) (n m r b : ℕ) → length front ≡ n → length row ≡ r → length buffer ≡ n + m → r < m
    → was ≡ front ++ drop n buffer → part ≡ row ++ drop r (take m (drop n was))
    → set (put_mid n m was part) (n + r) b ≡ ((front ++ row) ++ (b ∷ [])) ++ drop (n + r + 1) buffer
ended front row part was buffer n m r b lf lr lb lt e is =
    let rest : drop n was ≡ drop n buffer = ap (λ l. drop n l) e ∙ drop_at front (drop n buffer) n lf in
    let short : length (drop n buffer) ≤ m = simp length-drop (omega arith) in
    let there : part ≡ row ++ drop (n + r) buffer
    = is ∙ ap (λ l. row ++ drop r (take m l)) rest ∙ ap (λ l. row ++ drop r l) (take_all m (drop n buffer) short) ∙ ap (λ l. row ++ l) (drop-drop r n buffer) in
    let whole : put_mid n m was part ≡ (front ++ row) ++ drop (n + r) buffer
    = ap (λ l. put_mid n m l part) e ∙ appended front part buffer n m lf ∙ ap (λ l. (front ++ part) ++ l) (drop_all (n + m) buffer (omega arith))
    ∙ append-nil (front ++ part) ∙ ap (λ l. front ++ l) there ∙ sym (append_assoc front row (drop (n + r) buffer)) in
    let long : length (front ++ row) ≡ n + r = simp length-append (omega arith) in
    ap (λ l. set l (n + r) b) (whole ∙ ap (λ l. (front ++ row) ++ l) (drop_more buffer (n + r) 0 (omega arith)))
    ∙ set_at (front ++ row) (get_or buffer (n + r) 0) (drop (n + r + 1) buffer) b (n + r) long ∙ sym (append_assoc (front ++ row) (b ∷ []) (drop (n + r + 1) buffer))
