use Rattle.std.proofs.Common.{◌+◌, List, [], ◌∷◌, ◌++◌, ap, subst, sym, take, ◌∙◌}
use Rattle.std.proofs.lemmas.List.{take_more}
use Rattle.shelf_model.specs.State.{AtlasState}
use Rattle.snapshot_records.specs.declared.shelves.AtlasSnapshot.{AtlasSnapshot}
use Rattle.atlas_pages.specs.Saved.{EachStandsFor}
use Rattle.atlas_pages.proofs.SavedLemmas.{stands-more}
use Rattle.atlas_pages.proofs.saving.saved_pages.Goals as goal

pub loop-page-preserved : goal.loop-page-preserved
loop-page-preserved c =
    let pages = c.args.pages.now in
    let n = c.loop-page.page-index in
    let page = c.page-item.result in
    subst (λ (l : List AtlasSnapshot). EachStandsFor l (take (n + 1) pages)) (sym c.in_ok-push.ensures.items)
    (subst (EachStandsFor (c.loop-page.saved.items ++ c.in_ok-snapshot.field-0 ∷ []))
    (ap (λ (p : AtlasState). take n pages ++ p ∷ []) c.page-item.is ∙ sym (take_more pages n page c.loop-page-test.true))
    (stands-more c.loop-page.saved.items (take n pages) c.in_ok-snapshot.field-0 page c.loop-page.invariant c.in_ok-snapshot.ensures))
