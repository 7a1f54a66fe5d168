use Rattle.std.proofs.Common.{◌≡◌, List, map, length, refl, ap, ◌∙◌}
use Rattle.std.proofs.lemmas.List.{length-map, take_at}
use Rattle.frames.specs.declared.pages.PageSet.{PageSet}
use Rattle.frames.specs.declared.states.Frame.{Frame}
use Rattle.frames.specs.declared.table.Frames.{Frames}
use Rattle.frames.specs.Held.{emptied_frame}
use Rattle.frames.proofs.Emptied.{clock_emptied, dirties_emptied}
use Rattle.frames.proofs.Tables.{lent, lent_is, lent_long}
use Rattle.frames.proofs.table.Frames.empty_set.Goals as goal

long : (fs : Frames) (pages : PageSet) (ys : List Frame) → ys ≡ map (emptied_frame pages) (lent fs) → length ys ≡ fs.count
long fs pages ys e = lent_long fs ys (ap length e ∙ length-map (lent fs) (emptied_frame pages))

pub returns : goal.returns
returns c =
    let fs = c.args.self.now in
    let pages = c.args.pages in
    let ys = c.empty_pages.new.frames in
    let e = take_at ys _ fs.count (long fs pages ys c.empty_pages.ensures) ∙ c.empty_pages.ensures ∙ ap (map (emptied_frame pages)) (lent_is fs) in
    record { clock = clock_emptied fs _ pages e refl; dirty = dirties_emptied fs _ pages e }
