use Rattle.std.proofs.Common.{◌≡◌, ◌∙◌, rules, subst}
use Rattle.atlas_pages.specs.Pages.{ArePageOptions, PagesState, no_pages}
use Rattle.atlas_pages.specs.Runs.Running.{PageRunKeepsPromisesThroughout}
use Rattle.atlas_pages.proofs.runs.running.run_pages.Goals as goal

pub returns-clause-promises : goal.returns-clause-promises
returns-clause-promises c =
    let is : c.in_ok-pages.pages ≡ no_pages c.args.options.now = search rules in
    subst (λ (s : PagesState). PageRunKeepsPromisesThroughout s.options c.args.commands.now c.answer_all.result.items) is c.answer_all.ensures.promises

pub returns-clause-accepted : goal.returns-clause-accepted
returns-clause-accepted c =
    let is : c.in_ok-pages.pages ≡ no_pages c.args.options.now = search rules in
    subst (λ (s : PagesState). ArePageOptions s.options) (c.pages.view_is ∙ is) c.pages.invariant.options
