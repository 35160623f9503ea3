-- Runs of commands on pages: their steps, and what holds at each moment.
use Rattle.std.specs.Prelude.{◌≡◌, ℕ, ◌+◌, ◌<◌, ◌≤◌, false, true, Some, List, [], ◌∷◌, length, take}
use Rattle.etagere_base.specs.Rectangles.{IsLarge}
use Rattle.atlas_pages.specs.declared.options.PageOptions.{PageOptions}
use Rattle.atlas_pages.specs.Allocated.{NeedsMemory, Places, cleared, is_allocated_on, rectangle_on, returned_on, shrunk, with_most}
use Rattle.atlas_pages.specs.Choosing.{IsRefusedByAll}
use Rattle.atlas_pages.specs.Pages.{ArePageOptions, PagesState, no_pages, page_frame, pages_fault}
use Rattle.atlas_pages.specs.Promises.{KeepsPagesPromises}
use Rattle.atlas_pages.specs.declared.runs.commands.PageCommand.{PageCommand}
use Rattle.atlas_pages.specs.declared.runs.commands.PageCommand.TheVariants.{Allocate, Deallocate, Clear, Grow, Shrink}
use Rattle.atlas_pages.specs.declared.runs.commands.PageReply.{PageReply}
use Rattle.atlas_pages.specs.declared.runs.commands.PageReply.TheVariants.{Placed, Refused, NoMemory, Returned, Unknown, Cleared, Grown, Fewer, Closed}
use Rattle.atlas_pages.specs.declared.runs.run_faults.PageRunFault.{PageRunFault}
use Rattle.atlas_pages.specs.declared.runs.run_faults.PageRunFault.TheVariants.{Options, Memory}
use Rattle.atlas_pages.specs.Runs.Told.{nothing, told_from}

-- pages may give this reply to a command and become the new ones
abbrev pub PageStep : PagesState → PageCommand → PageReply → PagesState → Type 0
PageStep old (Allocate size) (Placed paged) new =
    Places old size paged new × IsLarge (page_frame old.options) size paged.allocation.rectangle
PageStep old (Allocate size) Refused new = IsRefusedByAll old size × (new ≡ old)
PageStep old (Allocate size) NoMemory new = NeedsMemory old size × (new ≡ old)
PageStep old (Deallocate page id) Returned new =
    (is_allocated_on old page id ≡ true) × (new ≡ returned_on old page id)
PageStep old (Deallocate page id) Unknown new = (is_allocated_on old page id ≡ false) × (new ≡ old)
PageStep old Clear Cleared new = new ≡ cleared old
PageStep old (Grow most) Grown new = (old.options.most_pages ≤ most) × (new ≡ with_most old most)
PageStep old (Grow most) Fewer new = (most < old.options.most_pages) × (new ≡ old)
PageStep old Shrink (Closed count) new =
    (new ≡ shrunk old) × (count + length new.pages ≡ length old.pages)
-- no other reply is given
PageStep old command reply new = ⊥

-- pages may give these replies to commands, one after another, and become the new ones
abbrev pub PageRuns : PagesState → List PageCommand → List PageReply → PagesState → Type 0
PageRuns old [] [] new = new ≡ old
PageRuns old (command ∷ commands) (reply ∷ replies) new =
    (middle : PagesState) × PageStep old command reply middle × PageRuns middle commands replies new
PageRuns old commands replies new = ⊥

-- new pages of these options may give these replies to the commands
abbrev pub RunsToOnPages : PageOptions → List PageCommand → List PageReply → Type 0
RunsToOnPages options commands replies =
    (last : PagesState) × PageRuns (no_pages options) commands replies last

-- What holds after each run of new pages of these options. What its replies tell is just what is allocated, under each
-- id of each page the rectangle that was given. On each page, which is of the options' size and division, what is
-- allocated lies inside and apart. There are at most as many pages as there may be.
pub record PageRunKeepsPromises (options : PageOptions) (commands : List PageCommand) (replies : List PageReply)
    : Type 0 where
  pub state : PagesState
  pub run : PageRuns (no_pages options) commands replies state
  pub told_is : (page id : ℕ) → told_from nothing commands replies page id ≡ rectangle_on state page id
  pub promises : KeepsPagesPromises state
  pub same_pages : state.options ≡ record options { most_pages = state.options.most_pages }

-- that holds at each moment: of every prefix of the commands, with the replies to it
abbrev pub PageRunKeepsPromisesThroughout : PageOptions → List PageCommand → List PageReply → Type 0
PageRunKeepsPromisesThroughout options commands replies =
    (n : ℕ) → n ≤ length commands → PageRunKeepsPromises options (take n commands) (take n replies)

-- no run is made: the options have this fault, or they have none and there was no memory
abbrev pub RefusesPageRun : PageOptions → PageRunFault → Type 0
RefusesPageRun options (Options fault) = pages_fault options ≡ Some fault
RefusesPageRun options Memory = ArePageOptions options
