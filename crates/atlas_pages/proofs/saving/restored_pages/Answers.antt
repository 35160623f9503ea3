use Rattle.std.proofs.Common.{rules, ◌≡◌, ◌+◌, Some, List, [], ◌∷◌, ◌++◌, length, refl, ap, subst, sym, take, slice_get, ◌∙◌, arith}
use Rattle.std.proofs.lemmas.Iterator.Adapters.{YieldsList-from_vec}
use Rattle.std.proofs.lemmas.Iterator.Consumers.{YieldsList-turn}
use Rattle.std.proofs.lemmas.List.{length-append, take_more}
use Rattle.std.proofs.lemmas.Option.{slice_get_read}
use Rattle.std.proofs.lemmas.Result.{err_from_is_err_and}
use Rattle.std.specs.List.{AllByRecursion}
use Rattle.etagere_base.proofs.EachLemmas.{Each-append}
use Rattle.shelf_model.specs.State.{AtlasState}
use Rattle.snapshot_records.specs.declared.shelves.AtlasSnapshot.{AtlasSnapshot}
use Rattle.atlas_pages.specs.Promises.{IsPage}
use Rattle.atlas_pages.specs.Saved.{EachStandsFor}
use Rattle.atlas_pages.proofs.SavedLemmas.{refused-broken, stands-more}
use Rattle.atlas_pages.proofs.saving.restored_pages.Goals as goal

pub returns-in_err-page-clause-fault : goal.returns-in_err-page-clause-fault
returns-in_err-page-clause-fault c =
    let saved = c.args.saved.items in
    let i = length c.loop-snapshot.yielded in
    let turn = YieldsList-turn (YieldsList-from_vec {s = c.into_iter-snapshot-iterator.result} saved (search rules) (search rules))
    c.loop-snapshot.yielded c.loop-snapshot.snapshot-iterator c.loop-snapshot.yielded_by c.next.result c.next.new.self c.in-Some.snapshot c.in-Some.is c.next.ensures.steps in
    let number : c.len-number.result ≡ i = search rules in
    let at : slice_get saved c.len-number.result ≡ Some c.in-Some.snapshot =
    ap (slice_get saved) number ∙ slice_get_read saved (length saved) i c.in-Some.snapshot refl turn.0 turn.1 in
    let passed = err_from_is_err_and c.from_residual.result c.from_residual.ensures.1 in
    rw (passed.1, passed.2) (refused-broken (record { options = c.args.options.now; pages = c.args.saved }) c.atlas_frame-frame.result
    c.len-number.result c.in-Some.snapshot c.in_err-page.field-0.0 c.atlas_frame-frame.ensures.value at c.in_err-page.ensures.fault)

pub loop-snapshot-preserved : goal.loop-snapshot-preserved
loop-snapshot-preserved c =
    let saved = c.args.saved.items in
    let i = length c.loop-snapshot.yielded in
    let snapshot = c.in-Some.snapshot in
    let pages = c.loop-snapshot.pages.items in
    let page = c.in_ok-page.page in
    let turn = YieldsList-turn (YieldsList-from_vec {s = c.into_iter-snapshot-iterator.result} saved (search rules) (search rules))
    c.loop-snapshot.yielded c.loop-snapshot.snapshot-iterator c.loop-snapshot.yielded_by c.next.result c.next.new.self snapshot c.in-Some.is c.next.ensures.steps in
    let count : length (c.loop-snapshot.yielded ++ snapshot ∷ []) ≡ i + 1 = length-append c.loop-snapshot.yielded (snapshot ∷ []) in
    let pushed : c.push.new.self.items ≡ pages ++ page ∷ [] = search rules in
    let more : take (length (c.loop-snapshot.yielded ++ snapshot ∷ [])) saved ≡ take i saved ++ snapshot ∷ [] =
    ap (λ n. take n saved) count ∙ take_more saved i snapshot turn.0
    ∙ ap (λ (s : AtlasSnapshot). take i saved ++ s ∷ []) (sym turn.1) in (
      omega (arith, count, ap length pushed, length-append pages (page ∷ []), c.loop-snapshot.invariant.0),
      subst (λ (l : List AtlasState). EachStandsFor (take (length (c.loop-snapshot.yielded ++ snapshot ∷ [])) saved) l) (sym pushed)
          (subst (λ (l : List AtlasSnapshot). EachStandsFor l (pages ++ page ∷ [])) (sym more)
          (stands-more (take i saved) pages snapshot page c.loop-snapshot.invariant.1 c.in_ok-page.ensures.stands)),
      subst (AllByRecursion (IsPage c.args.options.now)) (sym pushed)
          (Each-append (IsPage c.args.options.now) pages (page ∷ []) c.loop-snapshot.invariant.2
          (record { promises = c.in_ok-page.ensures.promises; frame = c.in_ok-page.ensures.frame ∙ c.atlas_frame-frame.ensures.value }, tt)),
    )
