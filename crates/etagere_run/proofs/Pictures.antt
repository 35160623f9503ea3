-- What an atlas leaves after the commands of a request makes the request's picture.
use Rattle.std.proofs.Common.{◌≡◌, List, refl, subst, sym}
use Rattle.etagere_base.specs.Frames.{IsAccepted, atlas_frame, longest_side}
use Rattle.shelf_model.specs.State.{AtlasState}
use Rattle.shelf_model.specs.Svg as shelves
use Rattle.bucketed_model.specs.Frames.{bucketed_frame, longest_bucketed_side}
use Rattle.bucketed_model.specs.State.{BucketedState}
use Rattle.bucketed_model.specs.Svg as buckets
use Rattle.run_scripts.specs.declared.commands.AtlasCommand.{AtlasCommand}
use Rattle.run_scripts.specs.declared.commands.BucketedCommand.{BucketedCommand}
use Rattle.etagere_run.specs.Answers.AtlasRuns.{shelf_atlas}
use Rattle.etagere_run.specs.Answers.BucketedRuns.{bucketed_atlas}
use Rattle.etagere_run.specs.Answers.Leading.{LeadsTo}
use Rattle.etagere_run.specs.Drawing.{IsPictureOf, ShowsEnd}
use Rattle.etagere_run.specs.Replaying.{longest_asked}
use Rattle.run_scripts.specs.Script.{Commands, OfBuckets, OfShelves, Request}

-- a shelf atlas that commands led to
pub shelves-picture : (request : Request) (commands : List AtlasCommand) (atlas : AtlasState)
    → request.commands ≡ OfShelves commands
    → IsAccepted longest_side request.size request.options
    → LeadsTo shelf_atlas (atlas_frame request.size request.options) commands atlas
    → IsPictureOf request (shelves.svg atlas)
shelves-picture request commands atlas is accepted led =
    let shown : ShowsEnd request.size request.options (OfShelves commands) (shelves.svg atlas) =
    record { last = atlas; led = led; text_is = refl } in
    record {
      accepted = subst (λ (asked : Commands). IsAccepted (longest_asked asked) request.size request.options)
          (sym is) accepted;
      shown = subst (λ (asked : Commands). ShowsEnd request.size request.options asked (shelves.svg atlas))
          (sym is) shown;
    }

-- a bucketed atlas that commands led to
pub buckets-picture : (request : Request) (commands : List BucketedCommand) (atlas : BucketedState)
    → request.commands ≡ OfBuckets commands
    → IsAccepted longest_bucketed_side request.size request.options
    → LeadsTo bucketed_atlas (bucketed_frame request.size request.options) commands atlas
    → IsPictureOf request (buckets.svg atlas)
buckets-picture request commands atlas is accepted led =
    let shown : ShowsEnd request.size request.options (OfBuckets commands) (buckets.svg atlas) =
    record { last = atlas; led = led; text_is = refl } in
    record {
      accepted = subst (λ (asked : Commands). IsAccepted (longest_asked asked) request.size request.options)
          (sym is) accepted;
      shown = subst (λ (asked : Commands). ShowsEnd request.size request.options asked (buckets.svg atlas))
          (sym is) shown;
    }
