use Rattle.std.proofs.Common.{◌≤◌, length, sym, ◌∙◌, arith, rules}
use Rattle.atlas_pages.specs.Pages.{ArePageOptions}
use Rattle.atlas_pages.proofs.SavedLemmas.{stands-length, stands-restored}
use Rattle.atlas_pages.proofs.pages.AtlasPages.restore.Goals as goal

pub invariant_of-result : goal.invariant_of-result
invariant_of-result c =
    let accepted : ArePageOptions c.args.snapshot.options = sym c.pages_fault.ensures.value ∙ c.in_default.is in
    let few : length c.args.snapshot.pages.items ≤ c.args.snapshot.options.most_pages = search rules in
    record {
      options = accepted;
      most = rw c.in_default.is at c.pages_fault.ensures.short;
      few = omega (arith, few, stands-length c.args.snapshot.pages.items c.in_ok-pages.pages.items c.in_ok-pages.ensures.stand);
      pages = c.in_ok-pages.ensures.pages;
    }

pub returns-clause-promises : goal.returns-clause-promises
returns-clause-promises c = invariant_of-result c

pub returns-clause-ok : goal.returns-clause-ok
returns-clause-ok c =
    let accepted : ArePageOptions c.args.snapshot.options = sym c.pages_fault.ensures.value ∙ c.in_default.is in
    let few : length c.args.snapshot.pages.items ≤ c.args.snapshot.options.most_pages = search rules in
    stands-restored c.args.snapshot c.in_ok-pages.pages.items accepted few c.in_ok-pages.ensures.stand c.in_ok-pages.ensures.pages
