use Rattle.std.proofs.Common.{◌≡◌, length}
use Rattle.backend.specs.Listing.{without}
use Rattle.store.specs.Blocks.{in_block}
use Rattle.store.proofs.calls.drop_block.Given as goal

abbrev pub invariant-loop-next : goal.invariant-loop-next
invariant-loop-next g l =
    (without (in_block l.size l.block) (g.H.HeldPages.entries l.pages)
    ≡ without (in_block l.size l.block) (g.H.HeldPages.entries l.initial.pages)
    )
    × (g.H.HeldPages.fixed l.pages ≡ g.H.HeldPages.fixed l.initial.pages)

abbrev pub decreases-loop-next : goal.decreases-loop-next
decreases-loop-next g l = length (g.H.HeldPages.entries l.pages)
