-- A run goes on by one command, and keeps its promises at each moment.
use Rattle.std.proofs.Common.{◌≡◌, ℕ, ◌+◌, ◌<◌, ◌≤◌, List, [], ◌∷◌, ◌++◌, length, get_or, take, refl, ap, sym, ◌∙◌, subst, ⊎_elim, arith}
use Rattle.std.proofs.lemmas.Bool.{cases_lt}
use Rattle.std.proofs.lemmas.List.{length-append, take-append-le, take_all, take_more}
use Rattle.atlas_pages.specs.declared.options.PageOptions.{PageOptions}
use Rattle.atlas_pages.specs.Allocated.{rectangle_on}
use Rattle.atlas_pages.specs.Pages.{PagesState, no_pages}
use Rattle.atlas_pages.specs.Promises.{KeepsPagesPromises}
use Rattle.atlas_pages.specs.declared.runs.commands.PageCommand.{PageCommand}
use Rattle.atlas_pages.specs.declared.runs.commands.PageReply.{PageReply}
use Rattle.atlas_pages.specs.Runs.Running.{PageRunKeepsPromises, PageRunKeepsPromisesThroughout, PageRuns, PageStep}
use Rattle.atlas_pages.specs.Runs.Told.{Told, nothing, told_after, told_from}
use Rattle.atlas_pages.proofs.PageRuns.StepsTold.{same-step, told-step}

-- a run and one more step are a run
PageRuns-more : (old middle new : PagesState) (commands : List PageCommand) (replies : List PageReply) (command : PageCommand) (reply : PageReply)
    → PageRuns old commands replies middle → PageStep middle command reply new
    → PageRuns old (commands ++ command ∷ []) (replies ++ reply ∷ []) new
PageRuns-more old middle new [] [] command reply run step =
    (new, subst (λ (state : PagesState). PageStep state command reply new) run step, refl)
PageRuns-more old middle new [] (r ∷ replies) command reply run step = absurd run
PageRuns-more old middle new (c ∷ commands) [] command reply run step = absurd run
PageRuns-more old middle new (c ∷ commands) (r ∷ replies) command reply run step =
    (run.0, run.1, PageRuns-more run.0 middle new commands replies command reply run.2 step)

-- what replies and one more tell
told-more : (told : Told) (commands : List PageCommand) (replies : List PageReply) (command : PageCommand) (reply : PageReply)
    → length replies ≡ length commands
    → told_from told (commands ++ command ∷ []) (replies ++ reply ∷ []) ≡ told_after command reply (told_from told commands replies)
told-more told [] [] command reply same = refl
told-more told [] (r ∷ replies) command reply same = absurd (omega arith)
told-more told (c ∷ commands) [] command reply same = absurd (omega arith)
told-more told (c ∷ commands) (r ∷ replies) command reply same =
    told-more (told_after c r told) commands replies command reply (omega arith)

-- a run so far, of new pages of these options
pub record IsUnderWay (options : PageOptions) (commands : List PageCommand) (replies : List PageReply) (state : PagesState)
    : Type 0 where
  pub lengths : length replies ≡ length commands
  pub run : PageRuns (no_pages options) commands replies state
  pub told_is : (page id : ℕ) → told_from nothing commands replies page id ≡ rectangle_on state page id
  pub promises : KeepsPagesPromises state
  pub same_pages : state.options ≡ record options { most_pages = state.options.most_pages }
  pub throughout : PageRunKeepsPromisesThroughout options commands replies

module _ (options : PageOptions) where
  -- a fact holds at one moment more
  throughout-more : (commands : List PageCommand) (replies : List PageReply) (command : PageCommand) (reply : PageReply)
      → length replies ≡ length commands
      → PageRunKeepsPromisesThroughout options commands replies
      → PageRunKeepsPromises options (commands ++ command ∷ []) (replies ++ reply ∷ [])
      → PageRunKeepsPromisesThroughout options (commands ++ command ∷ []) (replies ++ reply ∷ [])
  throughout-more commands replies command reply same so_far now n within =
      ⊎_elim
      (λ last. rw (
        take_all n (commands ++ command ∷ []) (omega (arith, length-append commands (command ∷ []), last)),
        take_all n (replies ++ reply ∷ []) (omega (arith, length-append replies (reply ∷ []), last, same)),
      ) now)
      (λ before. rw (
        take-append-le n commands (command ∷ []) before,
        take-append-le n replies (reply ∷ []) (omega (arith, before, same)),
      ) (so_far n before))
      (cases_lt (length commands) n)

  -- options that differ in the most alone still do after one more such change
  same-twice : (old new : PageOptions) → old ≡ record options { most_pages = old.most_pages }
      → new ≡ record old { most_pages = new.most_pages } → new ≡ record options { most_pages = new.most_pages }
  same-twice old new was is = is ∙ ap (λ (o : PageOptions). record o { most_pages = new.most_pages }) was

  -- one command later
  under_way-more : (commands : List PageCommand) (replies : List PageReply) (old new : PagesState) (command : PageCommand) (reply : PageReply)
      → IsUnderWay options commands replies old → PageStep old command reply new → KeepsPagesPromises new
      → IsUnderWay options (commands ++ command ∷ []) (replies ++ reply ∷ []) new
  under_way-more commands replies old new command reply way step promises =
      let run = PageRuns-more (no_pages options) old new commands replies command reply way.run step in
      let tells : (page id : ℕ) → told_from nothing (commands ++ command ∷ []) (replies ++ reply ∷ []) page id ≡ rectangle_on new page id =
      λ page id. ap (λ (told : Told). told page id) (told-more nothing commands replies command reply way.lengths)
      ∙ told-step old command reply new (told_from nothing commands replies) way.promises promises step way.told_is page id in
      let same_pages = same-twice old.options new.options way.same_pages (same-step old command reply new step) in
      record {
        lengths = omega (arith, length-append replies (reply ∷ []), length-append commands (command ∷ []), way.lengths);
        run = run;
        told_is = tells;
        promises = promises;
        same_pages = same_pages;
        throughout = throughout-more commands replies command reply way.lengths way.throughout
            (record { state = new; run = run; told_is = tells; promises = promises; same_pages = same_pages });
      }

  -- before the first command
  pub starts : (state : PagesState) → state ≡ no_pages options → KeepsPagesPromises state → IsUnderWay options [] [] state
  starts state is promises =
      let commands : List PageCommand = [] in
      let replies : List PageReply = [] in
      let tells : (page id : ℕ) → told_from nothing commands replies page id ≡ rectangle_on state page id =
      λ page id. sym (ap (λ (s : PagesState). rectangle_on s page id) is) in
      let same_pages : state.options ≡ record options { most_pages = state.options.most_pages } =
      subst (λ (s : PagesState). s.options ≡ record options { most_pages = s.options.most_pages }) (sym is) refl in
      record {
        lengths = refl;
        run = is;
        told_is = tells;
        promises = promises;
        same_pages = same_pages;
        throughout = λ n within. rw (take_all n commands (omega arith), take_all n replies (omega arith))
            (record { state = state; run = is; told_is = tells; promises = promises; same_pages = same_pages });
      }

  -- after the command at a position was answered
  pub goes_on : (commands : List PageCommand) (position : ℕ) (d : PageCommand) (replies longer : List PageReply) (reply : PageReply)
      (old new : PagesState)
      → position < length commands
      → IsUnderWay options (take position commands) replies old
      → PageStep old (get_or commands position d) reply new → KeepsPagesPromises new
      → longer ≡ replies ++ reply ∷ []
      → IsUnderWay options (take (position + 1) commands) longer new
  goes_on commands position d replies longer reply old new within way step promises longer_is =
      rw (take_more commands position d within, longer_is)
      (under_way-more (take position commands) replies old new (get_or commands position d) reply way step promises)

  -- after the last command
  pub ends : (commands : List PageCommand) (position : ℕ) (replies : List PageReply) (state : PagesState)
      → length commands ≤ position → IsUnderWay options (take position commands) replies state
      → IsUnderWay options commands replies state
  ends commands position replies state all way =
      subst (λ (l : List PageCommand). IsUnderWay options l replies state) (take_all position commands all) way
