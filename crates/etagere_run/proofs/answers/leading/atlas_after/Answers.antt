use Rattle.std.proofs.Common.{List, rules, subst}
use Rattle.std.specs.Prelude.{All}
use Rattle.run_scripts.specs.declared.commands.Reply.{Reply}
use Rattle.etagere_run.specs.Answers.Leading.{HasMemory}
use Rattle.etagere_run.proofs.answers.leading.atlas_after.Goals as goal

pub returns-clause-led : goal.returns-clause-led
returns-clause-led g c =
    let run = c.in_ok-answered in
    record {
      replies = run.answered.replies.items;
      run = run.ensures.last;
      memory = subst (λ (l : List Reply). All HasMemory l) c.as_slice.ensures.value (c.had_memory.ensures.all (search rules));
      promises = run.ensures.promises;
    }
