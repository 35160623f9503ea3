-- What is saved of an atlas that a script leaves.
use Rattle.std.specs.Prelude.{List}
use Rattle.etagere_base.specs.declared.frames.Frame.{Frame}
use Rattle.bucketed_model.specs.State.{BucketedState}
use Rattle.snapshot_records.specs.declared.buckets.BucketedSnapshot.{BucketedSnapshot}
use Rattle.bucketed_records.specs.Restoring as buckets
use Rattle.bucketed_records.specs.StandsFor as bucket_rules
use Rattle.shelf_model.specs.State.{AtlasState}
use Rattle.snapshot_records.specs.declared.shelves.AtlasSnapshot.{AtlasSnapshot}
use Rattle.shelf_records.specs.Snapshots as shelves
use Rattle.shelf_records.specs.StandsFor as shelf_rules
use Rattle.run_scripts.specs.declared.commands.AtlasCommand.{AtlasCommand}
use Rattle.run_scripts.specs.declared.commands.BucketedCommand.{BucketedCommand}
use Rattle.etagere_run.specs.Answers.AtlasRuns.{shelf_atlas}
use Rattle.etagere_run.specs.Answers.BucketedRuns.{bucketed_atlas}
use Rattle.etagere_run.specs.Answers.Leading.{LeadsTo}

-- a snapshot stands for a state to which the commands may lead a new atlas of a frame
abbrev pub SavesAtlas : Frame → List AtlasCommand → AtlasSnapshot → Type 0
SavesAtlas frame commands snapshot =
    (last : AtlasState) × LeadsTo shelf_atlas frame commands last
    × shelf_rules.StandsFor (shelves.snapshot_records snapshot) last

-- the same of a bucketed atlas
abbrev pub SavesBuckets : Frame → List BucketedCommand → BucketedSnapshot → Type 0
SavesBuckets frame commands snapshot =
    (last : BucketedState) × LeadsTo bucketed_atlas frame commands last
    × bucket_rules.StandsFor (buckets.snapshot_records snapshot) last
