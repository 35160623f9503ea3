-- Two runs of the same commands on a new atlas, of either kind, differ in the numbers of ids alone.
use Rattle.std.proofs.Common.{◌^◌, ◌<◌, ◌∙◌, [], ap, refl, sym}
use Rattle.std.proofs.lemmas.List.Elements.{recursion_from_All}
use Rattle.etagere_base.specs.declared.geometry.Size.{Size}
use Rattle.etagere_base.specs.declared.options.AllocatorOptions.{AllocatorOptions}
use Rattle.etagere_base.specs.Frames.{IsAccepted, atlas_frame, longest_side}
use Rattle.etagere_base.specs.Sides.{side}
use Rattle.bucketed_model.specs.Frames.{bucketed_frame, longest_bucketed_side}
use Rattle.bucketed_model.specs.State as buckets
use Rattle.bucketed_model.specs.Svg as bucketed_svg
use Rattle.bucketed_model.proofs.Callers.{accepted-bucketed}
use Rattle.shelf_model.specs.Fresh as shelves
use Rattle.shelf_model.specs.Svg as shelf_svg
use Rattle.shelf_model.proofs.Callers.{fresh-allocated, promises-new}
use Rattle.etagere_run.specs.Answers.AtlasRuns.{shelf_atlas}
use Rattle.etagere_run.specs.Answers.BucketedRuns.{bucketed_atlas}
use Rattle.etagere_run.specs.Answers.Laws.{DifferInIds}
use Rattle.etagere_run.proofs.RunAnswers.AtlasAnswers.{tied-cleared}
use Rattle.etagere_run.proofs.RunAnswers.BucketedAnswers.{in_buckets-fresh}
use Rattle.etagere_run.proofs.RunAnswers.Renamed.RenamedPicture.{svg-renamed}
use Rattle.etagere_run.proofs.RunAnswers.Renamed.RenamedRuns as renamed
use Rattle.etagere_run.proofs.RunAnswers.Renumbered.RenumberedChanges.{svg-renumbered}
use Rattle.etagere_run.proofs.RunAnswers.Renumbered.RenumberedRuns as renumbered

-- on a shelf atlas
pub atlas-runs-differ : (size : Size) (options : AllocatorOptions) → IsAccepted longest_side size options
    → side options.alignment.width < 2 ^ 31 → side options.alignment.height < 2 ^ 31 → DifferInIds shelf_atlas shelf_svg.svg (atlas_frame size options)
atlas-runs-differ size options accepted short_width short_height commands replies others last another one other =
    let frame = atlas_frame size options in
    let alike : renamed.RunAlike replies others last another =
    renamed.runs-alike 0 [] [] (shelves.fresh frame) (shelves.fresh frame) last another commands replies others
    (tied-cleared (shelves.fresh frame) (fresh-allocated frame) (promises-new size options accepted short_width short_height))
    (renamed.fresh-alike frame) one.run other.run (recursion_from_All _ replies one.memory) (recursion_from_All _ others other.memory) in
    (alike.same, sym (ap shelf_svg.svg alike.state ∙ svg-renamed alike.name last))

-- on a bucketed one
pub bucketed-runs-differ : (size : Size) (options : AllocatorOptions) → IsAccepted longest_bucketed_side size options
    → side options.alignment.width < 2 ^ 31 → side options.alignment.height < 2 ^ 31 → DifferInIds bucketed_atlas bucketed_svg.svg (bucketed_frame size options)
bucketed-runs-differ size options accepted short_width short_height commands replies others last another one other =
    let frame = bucketed_frame size options in
    let tied = in_buckets-fresh frame (buckets.fresh frame) (accepted-bucketed size options accepted short_width short_height) refl in
    let alike : renumbered.RunAlike replies others last another =
    renumbered.runs-alike 0 [] [] (buckets.fresh frame) (buckets.fresh frame) last another commands replies others tied tied (renumbered.fresh-alike frame) one.run other.run
    (recursion_from_All _ replies one.memory) (recursion_from_All _ others other.memory) in
    (alike.same, sym (svg-renumbered alike.name last) ∙ sym (ap bucketed_svg.svg alike.state) ∙ svg-renumbered (λ n. n) another)
