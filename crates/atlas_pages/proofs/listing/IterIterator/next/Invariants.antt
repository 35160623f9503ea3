use Rattle.std.proofs.Common.{◌≡◌}
use Rattle.atlas_pages.specs.Private.Listed.{listed_in}
use Rattle.atlas_pages.proofs.listing.IterIterator.next.Given as goal

-- the pages before this one were begun, and nothing has come yet of what there was
abbrev pub invariant-loop-page : goal.invariant-loop-page
invariant-loop-page l =
    (l.self-inside.pages.now ≡ l.initial.self-inside.pages.now)
    × (l.self-inside.next ≡ l.page)
    × (listed_in l.self-inside ≡ listed_in l.initial.self-inside)
