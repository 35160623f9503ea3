use Rattle.std.proofs.Common.{rules, ◌≡◌, ◌≢◌, subst, sym}
use Rattle.glyph_shelf.specs.Promises.{KeepsCachePromises}
use Rattle.c_answers.specs.Saving.{SavesCache}
use Rattle.c_answers.specs.Statuses.{restore_memory}
use Rattle.c_answers.proofs.Restoring.{is_cache_rule}
use Rattle.c_answers.proofs.Saving.{ok_on}
use Rattle.c_answers.proofs.cache_snapshots.cache_made_of.Goals as goal

pub returns-in-Ok-clause-made : goal.returns-in-Ok-clause-made
returns-in-Ok-clause-made c =
    ok_on (λ boxed. boxed.value ≡ c.in-Ok.cache) (λ boxed. SavesCache c.args.text.now boxed.value × KeepsCachePromises boxed.value)
    c.boxed.result c.boxed.ensures.made
    (λ boxed same. subst (λ state. SavesCache c.args.text.now state × KeepsCachePromises state) (sym same)
    (record { snapshot = c.in_ok-snapshot.snapshot; spells = search rules; stands = search rules }, search rules))

pub returns-in-Err-clause-broken : goal.returns-in-Err-clause-broken
returns-in-Err-clause-broken c above other =
    record {
      snapshot = c.in_ok-snapshot.snapshot;
      spells = search rules;
      fault = c.in-Err.fault;
      rule = is_cache_rule c.in-Err.fault (subst (λ status. status ≢ restore_memory) c.cache_restore_refused.ensures other);
      number = c.cache_restore_refused.ensures;
      broken = search rules;
    }
