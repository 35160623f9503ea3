-- Every run that the model allows keeps its promises.
use Rattle.std.proofs.Common.{◌≡◌, ℕ, ◌+◌, ◌^◌, ◌<◌, List, [], ◌∷◌, ◌++◌, length, refl, arith, subst, sym}
use Rattle.std.proofs.lemmas.List.{append-nil, append_assoc, length-append}
use Rattle.etagere_base.specs.declared.frames.Frame.{Frame}
use Rattle.etagere_base.specs.declared.geometry.Size.{Size}
use Rattle.etagere_base.specs.declared.options.AllocatorOptions.{AllocatorOptions}
use Rattle.etagere_base.specs.Frames.{IsAccepted, atlas_frame, longest_side}
use Rattle.etagere_base.specs.Sides.{side}
use Rattle.bucketed_model.specs.Frames.{bucketed_frame, longest_bucketed_side}
use Rattle.bucketed_model.specs.State as buckets
use Rattle.bucketed_model.specs.State.{BucketedState}
use Rattle.bucketed_model.proofs.Callers.{accepted-bucketed}
use Rattle.shelf_model.specs.Fresh as atlas
use Rattle.shelf_model.specs.State.{AtlasState}
use Rattle.shelf_model.proofs.Callers.{fresh-allocated, promises-new}
use Rattle.run_scripts.specs.declared.commands.AtlasCommand.{AtlasCommand}
use Rattle.run_scripts.specs.declared.commands.BucketedCommand.{BucketedCommand}
use Rattle.run_scripts.specs.declared.commands.Reply.{Reply}
use Rattle.etagere_run.specs.Answers.AtlasRuns.{shelf_atlas}
use Rattle.etagere_run.specs.Answers.BucketedRuns.{bucketed_atlas}
use Rattle.etagere_run.specs.Answers.Live.{Entry, live_after}
use Rattle.etagere_run.specs.Answers.Runs.{KeepsPromisesIn, Kind, Runs, RunKeepsPromisesThroughout}
use Rattle.etagere_run.specs.Answers.Private.Tied.{IsAnswerOf, IsInBuckets, IsTied, SuitsRuns}
use Rattle.etagere_run.proofs.RunAnswers.AtlasAnswered.{atlas-suits}
use Rattle.etagere_run.proofs.RunAnswers.AtlasAnswers.{tied-cleared}
use Rattle.etagere_run.proofs.RunAnswers.BucketedAnswered.{bucketed-suits}
use Rattle.etagere_run.proofs.RunAnswers.BucketedAnswers.{in_buckets-fresh}
use Rattle.etagere_run.proofs.RunAnswers.RunsOn.{IsUnderWay, goes_further, starts, way-promises}

-- a run to this state has kept its promises at each moment, and keeps them here
pub record HasKept {S C : Type 0} (kind : Kind S C) (frame : Frame) (commands : List C) (replies : List Reply) (last : S) : Type 0 where
  pub end : KeepsPromisesIn kind frame commands replies last
  pub throughout : RunKeepsPromisesThroughout kind frame commands replies

module _ {S C : Type 0} (kind : Kind S C) (Tied : List Entry → S → Type 0) where
  -- a run that is under way goes on by any steps
  run-on : SuitsRuns kind Tied → (frame : Frame) (front rest : List C) (replies others : List Reply) (entries : List Entry)
      (position : ℕ) (state last : S)
      → position ≡ length front
      → IsUnderWay kind Tied frame front replies entries state
      → RunKeepsPromisesThroughout kind frame front replies
      → Runs kind position entries state rest others last
      → HasKept kind frame (front ++ rest) (replies ++ others) last
  run-on suits frame front [] replies [] entries position state last at way so_far run =
      rw (append-nil front, append-nil replies) (record {
        end = subst (KeepsPromisesIn kind frame front replies) (sym run) (way-promises kind Tied suits frame front replies entries state way);
        throughout = so_far;
      })
  run-on suits frame front [] replies (reply ∷ others) entries position state last at way so_far run = absurd run
  run-on suits frame front (command ∷ rest) replies [] entries position state last at way so_far run = absurd run
  run-on suits frame front (command ∷ rest) replies (reply ∷ others) entries position state last at way so_far (middle, step, run) =
      let later = live_after position (kind.effect command reply) entries in
      let answer = suits.steps position entries state middle command reply way.tied step in
      let further = goes_further kind Tied suits frame front command replies reply entries later state middle way so_far
      (subst (λ n. IsAnswerOf kind Tied n command reply entries later state middle) at answer) in
      let end = run-on suits frame (front ++ command ∷ []) rest (replies ++ reply ∷ []) others later (position + 1) middle last
      (omega (arith, length-append front (command ∷ []), at)) further.0 further.1 run in
      rw (← append_assoc front (command ∷ []) rest, ← append_assoc replies (reply ∷ []) others) end

  -- every run of a new atlas
  pub every_run : SuitsRuns kind Tied → (frame : Frame) → kind.frame (kind.fresh frame) ≡ frame → Tied [] (kind.fresh frame)
      → (commands : List C) (replies : List Reply) (last : S)
      → Runs kind 0 [] (kind.fresh frame) commands replies last
      → HasKept kind frame commands replies last
  every_run suits frame is tied commands replies last run =
      let start = starts kind Tied suits frame (kind.fresh frame) refl
      (rw is (record { width = refl; height = refl; direction = refl })) tied in
      run-on suits frame [] commands [] replies [] 0 (kind.fresh frame) last refl start.0 start.1 run

-- every run of a new shelf atlas
pub every_atlas_run : (size : Size) (options : AllocatorOptions) → IsAccepted longest_side size options
    → side options.alignment.width < 2 ^ 31 → side options.alignment.height < 2 ^ 31
    → (commands : List AtlasCommand) (replies : List Reply) (last : AtlasState)
    → Runs shelf_atlas 0 [] (atlas.fresh (atlas_frame size options)) commands replies last
    → HasKept shelf_atlas (atlas_frame size options) commands replies last
every_atlas_run size options accepted short_width short_height =
    let frame = atlas_frame size options in
    every_run shelf_atlas IsTied atlas-suits frame refl
    (tied-cleared (atlas.fresh frame) (fresh-allocated frame) (promises-new size options accepted short_width short_height))

-- every run of a new bucketed atlas
pub every_bucketed_run : (size : Size) (options : AllocatorOptions) → IsAccepted longest_bucketed_side size options
    → side options.alignment.width < 2 ^ 31 → side options.alignment.height < 2 ^ 31
    → (commands : List BucketedCommand) (replies : List Reply) (last : BucketedState)
    → Runs bucketed_atlas 0 [] (buckets.fresh (bucketed_frame size options)) commands replies last
    → HasKept bucketed_atlas (bucketed_frame size options) commands replies last
every_bucketed_run size options accepted short_width short_height =
    let frame = bucketed_frame size options in
    every_run bucketed_atlas IsInBuckets bucketed-suits frame refl
    (in_buckets-fresh frame (buckets.fresh frame) (accepted-bucketed size options accepted short_width short_height) refl)
