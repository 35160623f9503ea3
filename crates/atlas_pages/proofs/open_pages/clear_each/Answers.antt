use Rattle.std.proofs.Common.{rules, ◌<◌, ◌≤◌, ◌∙◌, length}
use Rattle.std.proofs.lemmas.List.{length-set}
use Rattle.shelf_model.specs.Fresh.{fresh}
use Rattle.shelf_model.specs.State.{AtlasState}
use Rattle.atlas_pages.proofs.PageLists.{mapped-all, mapped-more}
use Rattle.atlas_pages.proofs.open_pages.clear_each.Goals as goal

pub loop-number-preserved : goal.loop-number-preserved
loop-number-preserved c =
    let olds = c.args.pages.now.items in
    let within : c.loop-number.number < length olds = search rules in
    let mapped = mapped-more (λ (page : AtlasState). fresh page.frame) c.loop-number.pages.items olds c.loop-number.number c.index_mut.result.now
    c.clear.new.self c.loop-number.invariant.0 within c.index_mut.ensures.value c.loop-number.invariant.1 c.loop-number.invariant.2 c.clear.ensures.cleared in
    (length-set c.loop-number.pages.items c.loop-number.number c.clear.new.self ∙ c.loop-number.invariant.0, mapped.0, mapped.1)

pub returns : goal.returns
returns c =
    let olds = c.args.pages.now.items in
    let all : length olds ≤ c.loop-number.number = search rules in
    mapped-all (λ (page : AtlasState). fresh page.frame) c.loop-number.pages.items olds c.loop-number.number
    c.loop-number.invariant.0 all c.loop-number.invariant.1
