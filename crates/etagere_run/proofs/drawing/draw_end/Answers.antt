use Rattle.std.proofs.Common.{◌≡◌, List, rules, subst}
use Rattle.std.proofs.lemmas.Result.{err_from_is_err_and}
use Rattle.shelf_model.specs.Svg as shelves
use Rattle.bucketed_model.specs.Svg as buckets
use Rattle.etagere_run.specs.Drawing.{IsPictureOf}
use Rattle.run_scripts.specs.Script.{OfBuckets, OfShelves, Request}
use Rattle.run_scripts.specs.declared.commands.BucketedCommand.{BucketedCommand}
use Rattle.bucketed_model.specs.Frames.{bucketed_frame}
use Rattle.etagere_run.specs.Answers.BucketedRuns.{bucketed_atlas}
use Rattle.etagere_run.specs.Answers.Leading.{LeadsTo}
use Rattle.etagere_run.proofs.Pictures.{buckets-picture, shelves-picture}
use Rattle.etagere_run.proofs.drawing.draw_end.Goals as goal

pub returns-in_ok-dump_svg-in-OfShelves : goal.returns-in_ok-dump_svg-in-OfShelves
returns-in_ok-dump_svg-in-OfShelves g c =
    let atlas = c.in_ok-atlas-in-OfShelves.atlas in
    let is : c.args.script.now.commands ≡ OfShelves c.in-OfShelves.commands.items = search rules in
    let picture : IsPictureOf c.args.script.now (shelves.svg atlas) =
    shelves-picture c.args.script.now c.in-OfShelves.commands.items atlas is (search rules) (search rules) in
    (shelves.svg atlas, picture, search rules)

pub returns-in_err-dump_svg-in-OfShelves : goal.returns-in_err-dump_svg-in-OfShelves
returns-in_err-dump_svg-in-OfShelves g c =
    let atlas = c.in_ok-atlas-in-OfShelves.atlas in
    let is : c.args.script.now.commands ≡ OfShelves c.in-OfShelves.commands.items = search rules in
    let picture : IsPictureOf c.args.script.now (shelves.svg atlas) =
    shelves-picture c.args.script.now c.in-OfShelves.commands.items atlas is (search rules) (search rules) in
    let fault = err_from_is_err_and c.from_residual-in_err-dump_svg-in-OfShelves.result
    c.from_residual-in_err-dump_svg-in-OfShelves.ensures.1 in
    rw (fault.1, fault.2) (shelves.svg atlas, picture, c.in_err-dump_svg-in-OfShelves.ensures.err)

pub returns-in_ok-dump_svg-in-OfBuckets : goal.returns-in_ok-dump_svg-in-OfBuckets
returns-in_ok-dump_svg-in-OfBuckets g c =
    let atlas = c.in_ok-atlas-in-OfBuckets.atlas in
    let is : c.args.script.now.commands ≡ OfBuckets c.in-OfBuckets.commands.items = search rules in
    let led : LeadsTo bucketed_atlas (bucketed_frame c.args.script.now.size c.args.script.now.options) c.in-OfBuckets.commands.items atlas =
    subst (λ (request : Request). LeadsTo bucketed_atlas (bucketed_frame request.size request.options) c.in-OfBuckets.commands.items atlas) c.script.view_is
    (subst (λ (commands : List BucketedCommand). LeadsTo bucketed_atlas (bucketed_frame c.script.inside.size c.script.inside.options) commands atlas) c.as_slice-in-OfBuckets.ensures.value c.in_ok-atlas-in-OfBuckets.ensures.led) in
    let picture : IsPictureOf c.args.script.now (buckets.svg atlas) =
    buckets-picture c.args.script.now c.in-OfBuckets.commands.items atlas is (search rules) led in
    (buckets.svg atlas, picture, search rules)

pub returns-in_err-dump_svg-in-OfBuckets : goal.returns-in_err-dump_svg-in-OfBuckets
returns-in_err-dump_svg-in-OfBuckets g c =
    let atlas = c.in_ok-atlas-in-OfBuckets.atlas in
    let is : c.args.script.now.commands ≡ OfBuckets c.in-OfBuckets.commands.items = search rules in
    let led : LeadsTo bucketed_atlas (bucketed_frame c.args.script.now.size c.args.script.now.options) c.in-OfBuckets.commands.items atlas =
    subst (λ (request : Request). LeadsTo bucketed_atlas (bucketed_frame request.size request.options) c.in-OfBuckets.commands.items atlas) c.script.view_is
    (subst (λ (commands : List BucketedCommand). LeadsTo bucketed_atlas (bucketed_frame c.script.inside.size c.script.inside.options) commands atlas) c.as_slice-in-OfBuckets.ensures.value c.in_ok-atlas-in-OfBuckets.ensures.led) in
    let picture : IsPictureOf c.args.script.now (buckets.svg atlas) =
    buckets-picture c.args.script.now c.in-OfBuckets.commands.items atlas is (search rules) led in
    let fault = err_from_is_err_and c.from_residual-in_err-dump_svg-in-OfBuckets.result
    c.from_residual-in_err-dump_svg-in-OfBuckets.ensures.1 in
    rw (fault.1, fault.2) (buckets.svg atlas, picture, c.in_err-dump_svg-in-OfBuckets.ensures.err)
