use Rattle.std.proofs.Common.{rules, ◌≡◌, ◌<◌, ℕ, Some, List, [], ◌∷◌, ◌++◌, set, slice_get, length, below_more, refl, subst, sym, ap, ◌∙◌, ⊎_elim, arith}
use Rattle.std.proofs.lemmas.List.{get_or_append_left, length-append, set-get_or}
use Rattle.std.proofs.lemmas.Option.{same_Some, slice_get-get_or, slice_get_cases, slice_get_past, slice_get_read}
use Rattle.etagere_base.proofs.ReplacedLists.{slice_get-append}
use Rattle.shelf_model.specs.Choice.{IsRefused}
use Rattle.shelf_model.specs.State.{AtlasState}
use Rattle.uses.proofs.pages.allocate_on_pages.Goals as goal

pub loop-page-preserved : goal.loop-page-preserved
loop-page-preserved c =
    let refused = rw c.in_default.is at c.in_ok-allocation.ensures.refused in
    let stays : c.allocate.new.self ≡ c.index_mut.result.now = rw c.in_default.is at c.in_ok-allocation.ensures.none in
    let pages = c.loop-page.pages.items in
    let here : slice_get pages c.loop-page.page ≡ Some c.index_mut.result.now =
    (let within : c.loop-page.page < length pages = search rules in
    slice_get_read pages (length pages) c.loop-page.page c.index_mut.result.now refl within c.index_mut.ensures.value) in (
      rw stays (ap (set pages c.loop-page.page) c.index_mut.ensures.value ∙ set-get_or pages c.loop-page.page _) ∙ c.loop-page.invariant.0,
      below_more (λ (page : ℕ). (state : AtlasState) → slice_get c.args.pages.now.items page ≡ Some state → IsRefused state c.args.size)
          c.loop-page.page c.loop-page.invariant.1
          (λ state at. subst (λ (s : AtlasState). IsRefused s c.args.size)
          (same_Some _ _ (sym here ∙ (ap (λ (xs : List AtlasState). slice_get xs c.loop-page.page) c.loop-page.invariant.0 ∙ at)))
          refused),
    )

pub returns-clause-placed : goal.returns-clause-placed
returns-clause-placed c =
    let found = rw c.in-Some-2.is at c.in_ok-allocation-2.ensures.found in
    let pages = c.loop-page.pages.items in
    let opened = c.allocate-2.new.self in
    let long : length pages ≡ c.len-page.result = search rules in
    rw c.in_ok-push.ensures.items
    (record {
      refused = λ page below. c.loop-page.invariant.1 page (search rules);
      state = opened;
      page = slice_get-append pages opened [] c.len-page.result long;
      found = found;
      others = λ page other.
          ⊎_elim
          (λ there. slice_get-get_or (pages ++ opened ∷ []) page there.0 (omega (arith, there.1, length-append pages (opened ∷ [])))
          ∙ ap Some (get_or_append_left pages (opened ∷ []) there.0 page there.1 ∙ there.3) ∙ sym there.2)
          (λ past. slice_get_past (pages ++ opened ∷ []) page (omega (arith, past.0, other, long, length-append pages (opened ∷ [])))
          ∙ sym past.1)
          (slice_get_cases pages page).1
          ∙ ap (λ (xs : List AtlasState). slice_get xs page) c.loop-page.invariant.0;
    })
