-- Runs of commands on pages with a padding: their steps, and what holds at each moment.
use Rattle.std.specs.Prelude.{◌≡◌, ℕ, ◌≤◌, List, [], ◌∷◌, length, take}
use Rattle.padding.specs.Padding.{HasSize, padded}
use Rattle.atlas_pages.specs.Choosing.{IsRefusedByAll}
use Rattle.padding.specs.Pages.Padded.{KeepsPadding, PaddedState, PlacesPadded, trimmed_on}
use Rattle.atlas_pages.specs.Allocated.{NeedsMemory}
use Rattle.atlas_pages.specs.Promises.{KeepsPagesPromises}
use Rattle.atlas_pages.specs.declared.runs.commands.PageCommand.{PageCommand}
use Rattle.atlas_pages.specs.declared.runs.commands.PageCommand.TheVariants.{Allocate}
use Rattle.atlas_pages.specs.declared.runs.commands.PageReply.{PageReply}
use Rattle.atlas_pages.specs.declared.runs.commands.PageReply.TheVariants.{Placed, Refused, NoMemory}
use Rattle.atlas_pages.specs.Runs.Running.{PageStep}
use Rattle.atlas_pages.specs.Runs.Told.{told_from}

-- Pages may give this reply to a command and become the new ones. A size gets a place for itself with its padding, in a
-- rectangle of at least the size, and none exactly where no page has one and none may be opened for it.
abbrev pub MayAnswer : PaddedState → PageCommand → PageReply → PaddedState → Type 0
MayAnswer old (Allocate size) (Placed paged) new =
    PlacesPadded old size paged new × HasSize size paged.allocation.rectangle
MayAnswer old (Allocate size) Refused new = IsRefusedByAll old.pages (padded old.padding size) × (new ≡ old)
MayAnswer old (Allocate size) NoMemory new = NeedsMemory old.pages (padded old.padding size) × (new ≡ old)
-- any other command does what it does on pages
MayAnswer old command reply new = PageStep old.pages command reply new.pages × (new.padding ≡ old.padding)

-- the same, where the pages keep their own promises
pub record Step (old : PaddedState) (command : PageCommand) (reply : PageReply) (new : PaddedState) : Type 0 where
  pub answers : MayAnswer old command reply new
  pub pages : KeepsPagesPromises new.pages

-- pages may give these replies to commands, one after another, and become the new ones
abbrev pub PaddedRuns : PaddedState → List PageCommand → List PageReply → PaddedState → Type 0
PaddedRuns old [] [] new = new ≡ old
PaddedRuns old (command ∷ commands) (reply ∷ replies) new =
    (middle : PaddedState) × Step old command reply middle × PaddedRuns middle commands replies new
PaddedRuns old commands replies new = ⊥

-- What holds after commands on pages. What the replies tell, from what was there, is just what is there: under each id
-- of each page the rectangle that was given. With their padding the rectangles lie inside their page and apart.
pub record RunKeepsPadding (start : PaddedState) (commands : List PageCommand) (replies : List PageReply)
    : Type 0 where
  pub state : PaddedState
  pub run : PaddedRuns start commands replies state
  pub told_is : (page id : ℕ) → told_from (trimmed_on start) commands replies page id ≡ trimmed_on state page id
  pub promises : KeepsPadding state
  pub padding : state.padding ≡ start.padding

-- that holds at each moment: of every prefix of the commands, with the replies to it
abbrev pub RunKeepsPaddingThroughout : PaddedState → List PageCommand → List PageReply → Type 0
RunKeepsPaddingThroughout start commands replies =
    (n : ℕ) → n ≤ length commands → RunKeepsPadding start (take n commands) (take n replies)

-- That holds of every list of commands on pages that keep their promises: new ones, where none is open, or any other.
abbrev pub EveryRunKeepsPadding : Type 0
EveryRunKeepsPadding =
    (start last : PaddedState) (commands : List PageCommand) (replies : List PageReply)
    → KeepsPadding start → PaddedRuns start commands replies last → RunKeepsPaddingThroughout start commands replies
