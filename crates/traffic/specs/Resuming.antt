-- How a saved shelf atlas goes on, and that this is the run that it would have gone on with.
use Rattle.std.specs.Prelude.{◌≡◌, ◌<◌, ◌^◌, List, [], ◌++◌, length, map}
use Rattle.etagere_base.specs.declared.geometry.Size.{Size}
use Rattle.etagere_base.specs.declared.ids.Allocation.{Allocation}
use Rattle.etagere_base.specs.declared.options.AllocatorOptions.{AllocatorOptions}
use Rattle.etagere_base.specs.Frames.{IsAccepted, atlas_frame, longest_side}
use Rattle.etagere_base.specs.Sides.{side}
use Rattle.shelf_model.specs.Fresh.{fresh}
use Rattle.shelf_model.specs.Listing.{listed}
use Rattle.shelf_model.specs.State.{AtlasState}
use Rattle.snapshot_records.specs.declared.shelves.AtlasSnapshot.{AtlasSnapshot}
use Rattle.shelf_records.specs.Snapshots.{snapshot_records}
use Rattle.shelf_records.specs.StandsFor.{StandsFor}
use Rattle.run_scripts.specs.declared.commands.AtlasCommand.{AtlasCommand}
use Rattle.run_scripts.specs.declared.commands.Reply.{Reply}
use Rattle.etagere_run.specs.Answers.AtlasRuns.{shelf_atlas}
use Rattle.etagere_run.specs.Answers.Runs.{Runs, RunsTo, live_in}
use Rattle.traffic.specs.Continuing.{renumbered, whole_position}
use Rattle.traffic.specs.Ledgers.{entries_from}

-- A snapshot stands for an atlas in which this is live, by rising index; with that at the first positions, a run of the
-- commands from this atlas gives these replies.
pub record Resumes (snapshot : AtlasSnapshot) (commands : List AtlasCommand) (live : List Allocation)
    (replies : List Reply) : Type 0 where
  pub atlas : AtlasState
  pub last : AtlasState
  pub stands : StandsFor (snapshot_records snapshot) atlas
  pub live_is : live ≡ listed atlas
  pub run : Runs shelf_atlas (length live) (entries_from 0 live) atlas commands replies last

-- the alignments are numbers of 32 bits with a sign, as in every program
pub record HasShortAlignment (options : AllocatorOptions) : Type 0 where
  pub width : side options.alignment.width < 2 ^ 31
  pub height : side options.alignment.height < 2 ^ 31

-- Whichever first commands led a new atlas to a state for which the snapshot stands: a new atlas may give their replies
-- and then these ones to the first commands and then these, each of which names what was live at first by the command
-- that was given it, and one of its own as many positions later.
abbrev pub IsRestOfRun : AtlasSnapshot → List AtlasCommand → List Allocation → List Reply → Type 0
IsRestOfRun snapshot commands live replies =
    (size : Size) (options : AllocatorOptions) → IsAccepted longest_side size options → HasShortAlignment options
    → (first : List AtlasCommand) (earlier : List Reply) (saved : AtlasState)
    → Runs shelf_atlas 0 [] (fresh (atlas_frame size options)) first earlier saved
    → StandsFor (snapshot_records snapshot) saved
    → RunsTo shelf_atlas (atlas_frame size options)
    (first ++ map (renumbered (whole_position (length first) (live_in shelf_atlas first earlier) live)) commands)
    (earlier ++ replies)
