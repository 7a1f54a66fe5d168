-- Lists of frames, and what is seen of them.
use Rattle.std.proofs.Common.{◌≡◌, ℕ, zero, suc, ◌-◌, List, [], ◌∷◌, ◌++◌, map, length, get_or, take, drop, set, replicate, refl, ap, ◌∙◌, arith, length-append, length-drop, rules}
use Rattle.std.proofs.lemmas.List.{length-take-le}
use Rattle.frames.specs.declared.states.Frame.{Frame}
use Rattle.frames.specs.declared.table.Frames.{Frames}
use Rattle.frames.specs.Held.{frames_of}

-- an element that is set twice, past the end too
pub set_again : {X : Type 0} (xs : List X) (i : ℕ) (x y : X) → set (set xs i x) i y ≡ set xs i y
set_again [] i x y = refl
set_again (z ∷ xs) zero x y = refl
set_again (z ∷ xs) (suc i) x y = ap (λ l. z ∷ l) (set_again xs i x y)

-- where one that is read past the end is set
pub get_set_same : {X : Type 0} (xs : List X) (i : ℕ) (d : X) → get_or (set xs i d) i d ≡ d
get_set_same [] i d = refl
get_set_same (x ∷ xs) zero d = refl
get_set_same (x ∷ xs) (suc i) d = get_set_same xs i d

pub map_replicate : {X Y : Type 0} (f : X → Y) (n : ℕ) (x : X) → map f (replicate n x) ≡ replicate n (f x)
map_replicate f zero x = refl
map_replicate f (suc n) x = ap (λ l. f x ∷ l) (map_replicate f n x)

pub count_of : (fs : Frames) → length (frames_of fs) ≡ fs.count
count_of fs = length-take-le fs.count fs.table (omega (arith, fs.full, fs.few))

-- the part of a table from its start, as the code lends it
pub from_start : {X : Type 0} (xs : List X) (n : ℕ) → take (n - 0) (drop 0 xs) ≡ take n xs
from_start xs n = search rules

-- the frames as the code lends them
abbrev pub lent : Frames → List Frame
lent fs = take (fs.count - 0) (drop 0 fs.table)

pub lent_is : (fs : Frames) → lent fs ≡ frames_of fs
lent_is fs = from_start fs.table fs.count

pub lent_long : (fs : Frames) (ys : List Frame) → length ys ≡ length (lent fs) → length ys ≡ fs.count
lent_long fs ys e = e ∙ ap length (lent_is fs) ∙ count_of fs
