use Rattle.std.proofs.Common.{◌≡◌, false, true, ap, sym, ◌∙◌}
use Rattle.shelf_model.specs.Places.{allocations}
use Rattle.atlas_pages.proofs.Used.{unused-more, used-all, used-more}
use Rattle.atlas_pages.proofs.open_pages.used_count.Goals as goal
use Rattle.atlas_pages.proofs.open_pages.used_count.Goals.{else-not-is_empty, then-not-is_empty}

pub loop-number-preserved : goal.loop-number-preserved
loop-number-preserved c =
    let pages = c.args.pages.now in
    let page = c.index-pages-number.result in
    elim c.if-not-is_empty.branch [
      | then-not-is_empty w ↦ rw w.count-is
          (used-more pages c.loop-number.number page c.loop-number-test.true
          (λ none. let yes : c.is_empty.result ≡ true = c.is_empty.ensures.1 (ap allocations c.index-pages-number.is ∙ none) in
          let no : false ≡ true = sym w.if-not-is_empty.true ∙ yes in
          cc))
      | else-not-is_empty w ↦ rw w.count-is
          (unused-more pages c.loop-number.number c.loop-number.count page c.loop-number-test.true
          (sym (ap allocations c.index-pages-number.is) ∙ c.is_empty.ensures.0 w.if-not-is_empty.false)
          c.loop-number.invariant)
    ]

pub returns : goal.returns
returns c = used-all c.args.pages.now c.loop-number.number c.loop-number.count c.loop-number-test.false c.loop-number.invariant
