use Rattle.std.proofs.Common.{◌≡◌, ◌+◌, ◌∷◌, drop, subst, sym, ◌∙◌, ap}
use Rattle.std.proofs.lemmas.List.{drop_more}
use Rattle.std.specs.List.{AllByRecursion}
use Rattle.pictures.proofs.GatheringLemmas.{along-begun, along-passed, on-err}
use Rattle.bucketed_records.specs.declared.records.KeptShelf.{KeptShelf}
use Rattle.bucketed_store.specs.Private.DrawnRecords.{FitAlong, shelf_lines}
use Rattle.bucketed_store.proofs.drawing.push_shelves.Goals as goal

-- a beginning went out of the lines of the shelf
pub returns-in_err-push_buckets-clause-err : goal.returns-in_err-push_buckets-clause-err
returns-in_err-push_buckets-clause-err g c =
    let kept : KeptShelf = c.kept-item.result in
    on-err c.from_residual.result
    (along-begun (shelf_lines c.args.frame.now c.args.buckets.now) (g.W.Write.contents c.args.writer.now) c.args.text.now
    (g.W.Write.contents c.loop-kept.writer) (g.W.Write.contents c.push_buckets.new.writer) c.loop-kept.text kept
    (drop c.loop-kept.kept-index c.args.shelves.now) (drop (c.loop-kept.kept-index + 1) c.args.shelves.now) c.args.shelves.now c.loop-kept.invariant.along
    (drop_more c.args.shelves.now c.loop-kept.kept-index kept c.loop-kept-test.true
    ∙ ap (λ (k : KeptShelf). k ∷ drop (c.loop-kept.kept-index + 1) c.args.shelves.now) (sym c.kept-item.is))
    c.in_err-push_buckets.ensures.err)

-- one more shelf was drawn
pub loop-kept-preserved : goal.loop-kept-preserved
loop-kept-preserved g c =
    let kept : KeptShelf = c.kept-item.result in
    let whole : drop c.loop-kept.kept-index c.args.shelves.now ≡ kept ∷ drop (c.loop-kept.kept-index + 1) c.args.shelves.now =
    drop_more c.args.shelves.now c.loop-kept.kept-index kept c.loop-kept-test.true
    ∙ ap (λ (k : KeptShelf). k ∷ drop (c.loop-kept.kept-index + 1) c.args.shelves.now) (sym c.kept-item.is) in
    record {
      along = along-passed (shelf_lines c.args.frame.now c.args.buckets.now) (g.W.Write.contents c.args.writer.now) c.args.text.now
          (g.W.Write.contents c.loop-kept.writer) (g.W.Write.contents c.push_buckets.new.writer) c.loop-kept.text c.push_buckets.new.text kept
          (drop c.loop-kept.kept-index c.args.shelves.now) (drop (c.loop-kept.kept-index + 1) c.args.shelves.now) c.args.shelves.now c.loop-kept.invariant.along
          whole c.in_ok-push_buckets.ensures.ok;
      fit = (subst (AllByRecursion (FitAlong c.args.buckets.now)) whole c.loop-kept.invariant.fit).1;
    }
