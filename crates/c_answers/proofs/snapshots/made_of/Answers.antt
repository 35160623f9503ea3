use Rattle.std.proofs.Common.{rules, ◌≡◌, ◌<◌, subst, sym}
use Rattle.shelf_model.specs.Atlas.{KeepsPromises}
use Rattle.c_answers.specs.Saving.{Saves}
use Rattle.c_answers.specs.Statuses.{restore_memory}
use Rattle.c_answers.proofs.Restoring.{is_rule}
use Rattle.c_answers.proofs.Saving.{ok_on}
use Rattle.c_answers.proofs.snapshots.made_of.Goals as goal

pub returns-in-Ok-clause-made : goal.returns-in-Ok-clause-made
returns-in-Ok-clause-made c =
    ok_on (λ boxed. boxed.value ≡ c.in-Ok.atlas) (λ boxed. Saves c.args.text.now boxed.value × KeepsPromises boxed.value)
    c.boxed.result c.boxed.ensures.made
    (λ boxed same. subst (λ state. Saves c.args.text.now state × KeepsPromises state) (sym same)
    (record { snapshot = c.in-Atlas.snapshot; spells = search rules; stands = search rules }, search rules))

pub returns-in-Err-clause-broken : goal.returns-in-Err-clause-broken
returns-in-Err-clause-broken c above below =
    record {
      snapshot = c.in-Atlas.snapshot;
      spells = search rules;
      fault = c.in-Err.fault;
      rule = is_rule c.in-Err.fault (subst (λ status. status < restore_memory) c.restore_refused.ensures below);
      number = c.restore_refused.ensures;
      broken = search rules;
    }
