-- What is said of a run: how much was asked, and how full it left the atlas.
use Rattle.std.specs.Prelude.{◌≡◌, ℕ, ◌*◌, ◌-◌, Bool, List, [], pos}
use Rattle.etagere_base.specs.declared.frames.Frame.{Frame}
use Rattle.bucketed_model.specs.Space as bucket_space
use Rattle.bucketed_model.specs.State.{BucketedState}
use Rattle.bucketed_model.specs.Usage as bucket_usages
use Rattle.shelf_model.specs.Space as shelf_space
use Rattle.shelf_model.specs.State.{AtlasState}
use Rattle.shelf_model.specs.Usage as shelf_usages
use Rattle.run_scripts.specs.declared.commands.AtlasCommand.{AtlasCommand}
use Rattle.run_scripts.specs.declared.commands.BucketedCommand.{BucketedCommand}
use Rattle.run_scripts.specs.declared.commands.Reply.{Reply}
use Rattle.etagere_run.specs.Answers.AtlasRuns.{shelf_atlas}
use Rattle.etagere_run.specs.Answers.BucketedRuns.{bucketed_atlas}
use Rattle.etagere_run.specs.Answers.Runs.{Kind, Runs, live_in}
use Rattle.traffic.specs.declared.stats.AtlasStats.{AtlasStats}
use Rattle.traffic.specs.declared.stats.BucketedStats.{BucketedStats}
use Rattle.traffic.specs.declared.tallies.CommandKind.{CommandKind}
use Rattle.traffic.specs.declared.tallies.Tally.{Tally}
use Rattle.traffic.specs.Tallies.{IsTallyOf, asked_space, atlas_asked, bucketed_asked, is_atlas_command, is_bucketed_command}

-- a new atlas of a frame may run the commands and become this state, so that the counts and the area that is asked for
-- by what is live are these
pub record IsOfRun {S C : Type 0} (kind : Kind S C) (sorted : CommandKind → C → Bool) (asked_of : C → ℕ) (frame : Frame)
    (commands : List C) (tally : Tally) (asked : ℕ) (last : S) : Type 0 where
  pub replies : List Reply
  pub run : Runs kind 0 [] (kind.fresh frame) commands replies last
  pub counts : IsTallyOf sorted commands replies tally
  pub asked_is : asked ≡ asked_space asked_of (live_in kind commands replies) commands

-- what is said of a run on a shelf atlas
pub record AreAtlasStats (frame : Frame) (commands : List AtlasCommand) (stats : AtlasStats) : Type 0 where
  pub last : AtlasState
  pub run : IsOfRun shelf_atlas is_atlas_command atlas_asked frame commands stats.tally stats.asked last
  pub allocated : stats.allocated ≡ pos (shelf_space.allocated_space last)
  pub free : stats.free ≡ pos (last.frame.width * last.frame.height - shelf_space.allocated_space last)
  pub usage : stats.usage ≡ shelf_usages.usage last

-- what is said of a run on a bucketed atlas
pub record AreBucketedStats (frame : Frame) (commands : List BucketedCommand) (stats : BucketedStats) : Type 0 where
  pub last : BucketedState
  pub run : IsOfRun bucketed_atlas is_bucketed_command bucketed_asked frame commands stats.tally stats.asked last
  pub allocated : stats.allocated ≡ pos (bucket_space.allocated_space last)
  pub free : stats.free ≡ pos (last.frame.width * last.frame.height - bucket_space.allocated_space last)
  pub usage : stats.usage ≡ bucket_usages.usage last
