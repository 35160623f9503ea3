use Rattle.std.proofs.Common.{◌≡◌, ◌<◌, ◌∙◌, Some, false, true, length, refl, slice_get, sym, ap, arith}
use Rattle.std.specs.Prelude.{is_some}
use Rattle.std.proofs.lemmas.Option.{slice_get_read}
use Rattle.atlas_pages.specs.declared.options.PageChoice.TheVariants.{FullestFirst}
use Rattle.atlas_pages.specs.Choosing.{chosen_of, has_place}
use Rattle.atlas_pages.proofs.PageLists.{OnErr-of}
use Rattle.atlas_pages.proofs.choosing.allocate_on_fullest.Goals as goal

pub index_mut-requires : goal.index_mut-requires
index_mut-requires c = omega (arith, c.in-Some.ensures.within, c.deref.ensures.len)

pub returns-in_err-allocation-clause-split : goal.returns-in_err-allocation-clause-split
returns-in_err-allocation-clause-split c =
    let items = c.args.pages.now.items in
    let within : c.in-Some.number < length items = omega (arith, c.in-Some.ensures.within, ap length c.deref.ensures.value) in
    let here : slice_get items c.in-Some.number ≡ Some c.index_mut.result.now =
    slice_get_read items (length items) c.in-Some.number c.index_mut.result.now refl within c.index_mut.ensures.value in
    OnErr-of c.from_residual.result (record {
      number = c.in-Some.number;
      page = c.index_mut.result.now;
      chosen = ap (chosen_of FullestFirst c.args.size) (sym c.deref.ensures.value) ∙ sym c.in-Some.ensures.chosen;
      is_open = here;
      split = c.in_err-allocation.ensures.split;
    })

pub unreachable-requires : goal.unreachable-requires
unreachable-requires c =
    let items = c.args.pages.now.items in
    let within : c.in-Some.number < length items = omega (arith, c.in-Some.ensures.within, ap length c.deref.ensures.value) in
    let here : slice_get items c.in-Some.number ≡ Some c.index_mut.result.now =
    slice_get_read items (length items) c.in-Some.number c.index_mut.result.now refl within c.index_mut.ensures.value in
    let fits : has_place c.args.size c.index_mut.result.now ≡ true = rw (c.deref.ensures.value, here) at c.in-Some.ensures.fits in
    let refused = rw c.in_default-2.is at c.in_ok-allocation.ensures.refused in
    let no : false ≡ true = sym (ap is_some refused) ∙ fits in
    cc

pub overflow_cast-page : goal.overflow_cast-page
overflow_cast-page c =
    let within : c.in-Some.number < length c.args.pages.now.items = omega (arith, c.in-Some.ensures.within, ap length c.deref.ensures.value) in
    omega (arith, within, c.requires.few)

pub returns-clause-placed : goal.returns-clause-placed
returns-clause-placed c =
    let items = c.args.pages.now.items in
    let within : c.in-Some.number < length items = omega (arith, c.in-Some.ensures.within, ap length c.deref.ensures.value) in
    let here : slice_get items c.in-Some.number ≡ Some c.index_mut.result.now =
    slice_get_read items (length items) c.in-Some.number c.index_mut.result.now refl within c.index_mut.ensures.value in
    record {
      chosen = ap (chosen_of FullestFirst c.args.size) (sym c.deref.ensures.value) ∙ sym c.in-Some.ensures.chosen;
      allocates = record {
        before = c.index_mut.result.now;
        after = c.allocate.new.self;
        is_open = here;
        allocates = rw c.in-Some-2.is at c.in_ok-allocation.ensures.placed;
        others = refl;
      };
      promises = c.allocate.ensures.promises;
      large = rw c.in-Some-2.is at c.in_ok-allocation.ensures.large;
    }
