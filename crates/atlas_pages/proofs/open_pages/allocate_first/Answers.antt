use Rattle.std.proofs.Common.{rules, ◌≡◌, ◌<◌, ◌≤◌, ◌∙◌, Some, List, length, refl, slice_get, slice_set, sym, ap}
use Rattle.std.specs.Prelude.{is_some, option_map}
use Rattle.std.proofs.lemmas.Option.{slice_get_read}
use Rattle.etagere_base.specs.Least.{Found}
use Rattle.shelf_model.specs.Choice.{IsRefused}
use Rattle.shelf_model.specs.State.{AtlasState}
use Rattle.atlas_pages.specs.declared.options.PageChoice.TheVariants.{FirstFit}
use Rattle.atlas_pages.proofs.Chosen.{chosen-first, chosen-refused}
use Rattle.atlas_pages.proofs.PageLists.{Each-all_taken, OnErr-of}
use Rattle.atlas_pages.proofs.open_pages.allocate_first.Goals as goal

pub returns-in_err-allocation-clause-split : goal.returns-in_err-allocation-clause-split
returns-in_err-allocation-clause-split c =
    let olds = c.args.pages.now.items in
    let items = c.loop-number.pages.items in
    let within : c.loop-number.number < length items = search rules in
    let here : slice_get olds c.loop-number.number ≡ Some c.index_mut.result.now =
    ap (λ (l : List AtlasState). slice_get l c.loop-number.number) (sym c.loop-number.invariant.0)
    ∙ slice_get_read items (length items) c.loop-number.number c.index_mut.result.now refl within c.index_mut.ensures.value in
    OnErr-of c.from_residual.result (record {
      number = c.loop-number.number;
      page = c.index_mut.result.now;
      chosen = ap (option_map (λ (found : Found). found.number))
          (chosen-first c.args.size olds c.loop-number.number c.index_mut.result.now c.loop-number.invariant.1 here
          (ap is_some c.in_err-allocation.ensures.split.placed));
      is_open = here;
      split = c.in_err-allocation.ensures.split;
    })

pub returns-in-Some-clause-placed : goal.returns-in-Some-clause-placed
returns-in-Some-clause-placed c =
    let olds = c.args.pages.now.items in
    let items = c.loop-number.pages.items in
    let within : c.loop-number.number < length items = search rules in
    let here : slice_get olds c.loop-number.number ≡ Some c.index_mut.result.now =
    ap (λ (l : List AtlasState). slice_get l c.loop-number.number) (sym c.loop-number.invariant.0)
    ∙ slice_get_read items (length items) c.loop-number.number c.index_mut.result.now refl within c.index_mut.ensures.value in
    let allocates = rw c.in-Some.is at c.in_ok-allocation.ensures.placed in
    record {
      chosen = ap (option_map (λ (found : Found). found.number))
          (chosen-first c.args.size olds c.loop-number.number c.index_mut.result.now c.loop-number.invariant.1 here
          (ap is_some allocates.placed));
      allocates = record {
        before = c.index_mut.result.now;
        after = c.allocate.new.self;
        is_open = here;
        allocates = allocates;
        others = ap (λ (l : List AtlasState). slice_set l c.loop-number.number c.allocate.new.self) c.loop-number.invariant.0;
      };
      promises = c.allocate.ensures.promises;
      large = rw c.in-Some.is at c.in_ok-allocation.ensures.large;
    }

pub returns-clause-none : goal.returns-clause-none
returns-clause-none c =
    let olds = c.args.pages.now.items in
    let all : length olds ≤ c.loop-number.number = search rules in
    chosen-refused FirstFit c.args.size olds
    (Each-all_taken (λ (page : AtlasState). IsRefused page c.args.size) olds c.loop-number.number all c.loop-number.invariant.1)
