-- What is allocated on pages, as far as replies tell of it.
use Rattle.std.specs.Prelude.{ℕ, Bool, ◌&&◌, Option, None, Some, List, ◌∷◌, ◌==◌, if◌then◌else◌}
use Rattle.etagere_base.specs.declared.geometry.Rectangle.{Rectangle}
use Rattle.atlas_pages.specs.declared.paged_allocation.PagedAllocation.{PagedAllocation}
use Rattle.atlas_pages.specs.declared.runs.commands.PageCommand.{PageCommand}
use Rattle.atlas_pages.specs.declared.runs.commands.PageCommand.TheVariants.{Deallocate}
use Rattle.atlas_pages.specs.declared.runs.commands.PageReply.{PageReply}
use Rattle.atlas_pages.specs.declared.runs.commands.PageReply.TheVariants.{Placed, Returned, Cleared}

-- the rectangle on a page, by its number, under an id; none where nothing is allocated there
abbrev pub Told : Type 0
Told = ℕ → ℕ → Option Rectangle

abbrev pub nothing : Told
nothing page id = None

-- a page and an id are these
abbrev pub are : ℕ → ℕ → ℕ → ℕ → Bool
are this_page this_id page id = this_page == page && this_id == id

-- and beside it what was given a place
abbrev pub with_paged : PagedAllocation → Told → Told
with_paged paged told page id =
    if are paged.page paged.allocation.id page id then Some paged.allocation.rectangle else told page id

-- but for what was on a page under an id
abbrev pub but_for : ℕ → ℕ → Told → Told
but_for gone_page gone_id told page id = if are gone_page gone_id page id then None else told page id

-- what one reply changes
abbrev pub told_after : PageCommand → PageReply → Told → Told
told_after command (Placed paged) told = with_paged paged told
told_after (Deallocate page id) Returned told = but_for page id told
told_after command Cleared told = nothing
told_after command reply told = told

-- what the replies to commands change, one after another
abbrev pub told_from : Told → List PageCommand → List PageReply → Told
told_from told (command ∷ commands) (reply ∷ replies) =
    told_from (told_after command reply told) commands replies
told_from told commands replies = told
