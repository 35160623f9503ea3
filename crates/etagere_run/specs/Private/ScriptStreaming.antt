-- What the stream of a script writes, whichever atlas it is for.
use Rattle.std.specs.Prelude.{ℕ, Option, List, Result}
use Rattle.etagere_base.specs.declared.geometry.Size.{Size}
use Rattle.etagere_base.specs.declared.options.AllocatorOptions.{AllocatorOptions}
use Rattle.etagere_base.specs.Frames.{atlas_frame}
use Rattle.bucketed_model.specs.Frames.{bucketed_frame}
use Rattle.run_scripts.specs.declared.faults.StreamFault.{StreamFault}
use Rattle.etagere_run.specs.Answers.AtlasRuns.{shelf_atlas}
use Rattle.etagere_run.specs.Answers.BucketedRuns.{bucketed_atlas}
use Rattle.run_scripts.specs.Script.{Commands, OfBuckets, OfShelves}
use Rattle.etagere_run.specs.Streaming.{Streams}

-- the commands are streamed on a new atlas of this size and options
abbrev pub StreamsScript : {T : Type 0} → Size → AllocatorOptions → Commands → Option (List ℕ) → Option (List ℕ) → Result T StreamFault → Type 0
StreamsScript size options (OfShelves commands) = Streams shelf_atlas (atlas_frame size options) commands
StreamsScript size options (OfBuckets commands) = Streams bucketed_atlas (bucketed_frame size options) commands
