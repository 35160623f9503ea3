-- What is told of a command that was refused, and of a script's run.
use Rattle.std.specs.Prelude.{All, Option, None, Some, option_map, List, []}
use Rattle.etagere_base.specs.declared.frames.Frame.{Frame}
use Rattle.bucketed_model.specs.Refusal as bucket_refusals
use Rattle.bucketed_model.specs.State.{BucketedState}
use Rattle.bucketed_model.specs.Usage as bucket_usages
use Rattle.shelf_model.specs.Refusal as shelf_refusals
use Rattle.shelf_model.specs.State.{AtlasState}
use Rattle.shelf_model.specs.Usage as shelf_usages
use Rattle.run_scripts.specs.declared.commands.AtlasCommand.{AtlasCommand}
use Rattle.run_scripts.specs.declared.commands.AtlasCommand.TheVariants as atlas
use Rattle.run_scripts.specs.declared.commands.BucketedCommand.{BucketedCommand}
use Rattle.run_scripts.specs.declared.commands.BucketedCommand.TheVariants as buckets
use Rattle.run_scripts.specs.declared.commands.Reply.{Reply}
use Rattle.run_scripts.specs.declared.commands.Reply.TheVariants as replies
use Rattle.etagere_run.specs.Answers.Leading.{HasMemory}
use Rattle.etagere_run.specs.Answers.Runs.{Kind}
use Rattle.traffic.specs.declared.going_on.Finding.{Finding}
use Rattle.traffic.specs.declared.going_on.Reason.TheVariants.{OfShelves, OfBuckets, OfGrow}
use Rattle.traffic.specs.declared.going_on.Refused.{Refused}
use Rattle.traffic.specs.GoingOn.{GoesOn}

-- why a shelf atlas refused a command: a size by the first reason that holds, a grow by the number of its fault
abbrev pub atlas_told : AtlasState → AtlasCommand → Reply → Option Refused
atlas_told state (atlas.Allocate size) replies.Refused =
    option_map
    (λ reason. record { asked = size; reason = OfShelves reason; largest_free = shelf_usages.largest_free state })
    (shelf_refusals.refusal state size)
atlas_told state (atlas.Grow size) (replies.GrowRefused number) =
    Some (record { asked = size; reason = OfGrow number; largest_free = shelf_usages.largest_free state })
atlas_told state command reply = None

-- the same of a bucketed atlas
abbrev pub bucketed_told : BucketedState → BucketedCommand → Reply → Option Refused
bucketed_told state (buckets.Allocate size) replies.Refused =
    option_map
    (λ reason. record { asked = size; reason = OfBuckets reason; largest_free = bucket_usages.largest_free state })
    (bucket_refusals.refusal state size)
bucketed_told state (buckets.Grow size) (replies.GrowRefused number) =
    Some (record { asked = size; reason = OfGrow number; largest_free = bucket_usages.largest_free state })
bucketed_told state command reply = None

-- a new atlas of a frame may run the commands so that just this is told of them, where memory was there for each
pub record IsExplainedBy {S C : Type 0} (kind : Kind S C) (told : S → C → Reply → Option Refused) (frame : Frame)
    (commands : List C) (findings : List Finding) : Type 0 where
  pub replies : List Reply
  pub last : S
  pub run : GoesOn kind told 0 [] (kind.fresh frame) commands replies findings last
  pub memory : All HasMemory replies
