-- The rules are judged over what walks have met.
use Rattle.std.proofs.Common.{refl, ◌∙◌}
use Rattle.std.proofs.lemmas.Result.{on_ok_weaker}
use Rattle.etagere_shelves.proofs.restored.judge_walked.Goals as goal

pub walked_shelves-requires : goal.walked_shelves-requires
walked_shelves-requires c = record {
  atlas = c.args.atlas.now;
  has = rw (c.deref.ensures.value, ← c.requires.lists.left_over) c.requires.lists;
}

pub judge_rules-requires-clause-entries : goal.judge_rules-requires-clause-entries
judge_rules-requires-clause-entries c =
    c.deref-2.ensures.value ∙ c.in-Ok.ensures c.args.atlas.now (rw (c.deref.ensures.value, ← c.requires.lists.left_over) c.requires.lists)

pub judge_rules-requires-clause-unused : goal.judge_rules-requires-clause-unused
judge_rules-requires-clause-unused c = c.deref-3.ensures.value ∙ c.requires.lists.left_over

pub returns-clause-ok : goal.returns-clause-ok
returns-clause-ok c =
    on_ok_weaker c.judge_rules.result (λ keeps. record { spelled = refl; columns = c.requires.columns; keeps = keeps })
    c.judge_rules.ensures.ok
