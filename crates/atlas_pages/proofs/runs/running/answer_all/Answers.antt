use Rattle.std.proofs.Common.{◌≡◌, ◌<◌, ◌≤◌, [], ◌∷◌, ◌++◌, length, subst, arith, rules}
use Rattle.atlas_pages.specs.declared.runs.commands.PageCommand.{PageCommand}
use Rattle.atlas_pages.specs.Runs.Running.{PageStep}
use Rattle.atlas_pages.proofs.PageRuns.RunsOn.{ends, goes_on, starts}
use Rattle.atlas_pages.proofs.runs.running.answer_all.Goals as goal

pub loop-position-init : goal.loop-position-init
loop-position-init c =
    let now = c.args.pages.now in
    record {
      way = rw c.requires.none (starts now.options now c.requires.new c.requires.promises);
      replies = search rules;
      space = c.requires.room;
    }

pub loop-position-preserved : goal.loop-position-preserved
loop-position-preserved c =
    let now = c.args.pages.now in
    let within : c.loop-position.position < length c.args.commands.now = omega arith in
    let longer : c.push.new.self.items ≡ c.loop-position.replies.items ++ c.answer_on_pages-reply.result ∷ [] = search rules in
    let step = subst (λ (command : PageCommand). PageStep c.loop-position.pages command c.answer_on_pages-reply.result c.answer_on_pages-reply.new.pages)
    c.index-commands-position.is c.answer_on_pages-reply.ensures.step in
    record {
      way = goes_on now.options c.args.commands.now c.loop-position.position _
          c.loop-position.replies.items c.push.new.self.items c.answer_on_pages-reply.result c.loop-position.pages
          c.answer_on_pages-reply.new.pages
          within c.loop-position.invariant.way step c.answer_on_pages-reply.ensures.promises longer;
      replies = search rules;
      space = search rules;
    }

pub returns : goal.returns
returns c =
    let now = c.args.pages.now in
    let all : length c.args.commands.now ≤ c.loop-position.position = omega arith in
    let end = ends now.options c.args.commands.now c.loop-position.position c.loop-position.replies.items
    c.loop-position.pages all c.loop-position.invariant.way in
    record { run = (c.loop-position.pages, end.run); promises = end.throughout }
