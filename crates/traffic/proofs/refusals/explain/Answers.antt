use Rattle.std.proofs.Common.{List, rules, subst}
use Rattle.std.specs.Prelude.{All}
use Rattle.run_scripts.specs.declared.commands.Reply.{Reply}
use Rattle.etagere_run.specs.Answers.Leading.{HasMemory}
use Rattle.traffic.proofs.refusals.explain.Goals as goal

pub returns-clause-told : goal.returns-clause-told
returns-clause-told g c =
    let gone = c.in_ok-gone.gone in
    record {
      replies = gone.answers.replies.items;
      last = gone.atlas;
      run = c.in_ok-gone.ensures.answers;
      memory = subst (λ (l : List Reply). All HasMemory l) c.as_slice.ensures.value (c.had_memory.ensures.all (search rules));
    }
