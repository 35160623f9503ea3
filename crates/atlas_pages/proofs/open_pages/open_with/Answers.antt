use Rattle.std.proofs.Common.{rules, ◌≡◌, [], length, subst, sym, ◌∙◌}
use Rattle.etagere_base.proofs.ReplacedLists.{slice_get-append}
use Rattle.etagere_base.specs.Rectangles.{IsLarge}
use Rattle.shelf_model.specs.Atlas.{Allocates}
use Rattle.shelf_model.specs.State.{AtlasState}
use Rattle.atlas_pages.specs.Pages.{empty_page}
use Rattle.atlas_pages.proofs.PageLists.{slice_set-last}
use Rattle.atlas_pages.proofs.open_pages.open_with.Goals as goal

pub returns-clause-placed : goal.returns-clause-placed
returns-clause-placed c =
    let items = c.args.pages.now.items in
    let empty = empty_page c.args.options.now in
    let long : length items ≡ c.len-page.result = search rules in
    record {
      before = empty;
      after = c.allocate.new.self;
      is_open = slice_get-append items empty [] c.len-page.result long;
      allocates = subst (λ (s : AtlasState). Allocates s c.args.size c.in-Some.allocation c.allocate.new.self) c.in-Ok.ensures.ok
          (rw c.in-Some.is at c.in_ok-allocation.ensures.placed);
      others = c.in_ok-push.ensures.items ∙ sym (slice_set-last items empty c.allocate.new.self c.len-page.result (sym long));
    }

pub returns-clause-kept : goal.returns-clause-kept
returns-clause-kept c =
    let items = c.args.pages.now.items in
    let long : length items ≡ c.len-page.result = search rules in
    rw (c.in_ok-push.ensures.items, slice_get-append items c.allocate.new.self [] c.len-page.result long) c.allocate.ensures.promises

pub returns-clause-large : goal.returns-clause-large
returns-clause-large c =
    subst (λ (s : AtlasState). IsLarge s.frame c.args.size c.in-Some.allocation.rectangle) c.in-Ok.ensures.ok
    (rw c.in-Some.is at c.in_ok-allocation.ensures.large)
