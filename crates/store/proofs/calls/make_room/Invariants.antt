use Rattle.std.proofs.Common.{◌≡◌, length}
use Rattle.backend.specs.Listing.{room_made}
use Rattle.store.proofs.calls.make_room.Given as goal

abbrev pub invariant-loop-pages : goal.invariant-loop-pages
invariant-loop-pages g l =
    (room_made (λ es. g.H.HeldPages.lack (g.H.HeldPages.fixed l.initial.pages) es l.page) (g.H.HeldPages.entries l.pages)
    ≡ room_made (λ es. g.H.HeldPages.lack (g.H.HeldPages.fixed l.initial.pages) es l.page) (g.H.HeldPages.entries l.initial.pages)
    )
    × (g.H.HeldPages.fixed l.pages ≡ g.H.HeldPages.fixed l.initial.pages)

abbrev pub decreases-loop-pages : goal.decreases-loop-pages
decreases-loop-pages g l = length (g.H.HeldPages.entries l.pages)
