-- Every bucket of the records, and so every bucket of the state that they spell.
use Rattle.std.proofs.Common.{◌≡◌, List, ap, subst, sym, ◌∙◌}
use Rattle.std.proofs.lemmas.Result.{on_ok_weaker, on_err_weaker}
use Rattle.std.specs.List.{AllByRecursion, flat_map}
use Rattle.etagere_base.specs.Drawing.{drawn_lines}
use Rattle.pictures.specs.Gathering.{GathersMore, SendsBeginning}
use Rattle.etagere_base.specs.declared.frames.Frame.{Frame}
use Rattle.bucketed_model.specs.Svg.{drawn_buckets}
use Rattle.bucketed_records.specs.Private.Store.{Stored, stored_state}
use Rattle.bucketed_records.specs.declared.records.KeptShelf.{KeptShelf}
use Rattle.bucketed_records.specs.declared.records.LinkedBucket.{LinkedBucket}
use Rattle.bucketed_store.specs.Private.DrawnRecords.{AreKept, FitAlong, shelf_lines}
use Rattle.bucketed_store.proofs.Drawn.DrawnLines.{kept-fits, kept-lines}
use Rattle.bucketed_store.proofs.drawing.push_store.Goals as goal

-- the lines of the shelves are those of the buckets
lines : (frame : Frame) (store : Stored) (shelves : List KeptShelf) (buckets : List LinkedBucket) → AreKept frame store → shelves ≡ store.shelves → buckets ≡ store.buckets
    → flat_map (shelf_lines frame buckets) shelves ≡ drawn_lines (drawn_buckets (stored_state frame store))
lines frame store shelves buckets kept same_shelves same_buckets =
    ap (λ (bs : List LinkedBucket). flat_map (shelf_lines frame bs) shelves) same_buckets
    ∙ ap (flat_map (shelf_lines frame store.buckets)) same_shelves
    ∙ kept-lines frame store kept

pub returns-clause-ok : goal.returns-clause-ok
returns-clause-ok g c =
    on_ok_weaker c.push_shelves.result
    (subst (GathersMore (g.W.Write.contents c.args.writer.now) c.args.text.now (g.W.Write.contents c.push_shelves.new.writer) c.push_shelves.new.text) (lines c.args.frame.now c.args.store.now c.deref.result.now c.deref-2.result.now c.requires (c.deref.ensures.value ∙ ap (λ (s : Stored). s.shelves) c.store.view_is)
    (c.deref-2.ensures.value ∙ ap (λ (s : Stored). s.buckets) c.store.view_is)))
    c.push_shelves.ensures.ok

pub returns-clause-err : goal.returns-clause-err
returns-clause-err g c =
    on_err_weaker c.push_shelves.result
    (subst (SendsBeginning (g.W.Write.contents c.args.writer.now) c.args.text.now (g.W.Write.contents c.push_shelves.new.writer)) (lines c.args.frame.now c.args.store.now c.deref.result.now c.deref-2.result.now c.requires (c.deref.ensures.value ∙ ap (λ (s : Stored). s.shelves) c.store.view_is)
    (c.deref-2.ensures.value ∙ ap (λ (s : Stored). s.buckets) c.store.view_is)))
    c.push_shelves.ensures.err

-- no more of a bucket is free than it is wide
pub push_shelves-requires : goal.push_shelves-requires
push_shelves-requires g c =
    subst (λ (bs : List LinkedBucket). AllByRecursion (FitAlong bs) c.deref.result.now) (sym (c.deref-2.ensures.value ∙ ap (λ (s : Stored). s.buckets) c.store.view_is))
    (subst (AllByRecursion (FitAlong c.args.store.now.buckets)) (sym (c.deref.ensures.value ∙ ap (λ (s : Stored). s.shelves) c.store.view_is)) (kept-fits c.args.frame.now c.args.store.now c.requires))
