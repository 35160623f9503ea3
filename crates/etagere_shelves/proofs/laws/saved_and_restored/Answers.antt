use Rattle.etagere_shelves.proofs.laws.saved_and_restored.Goals as goal

-- what was saved stands for a state, and breaks no rule
pub returns-clause-memory : goal.returns-clause-memory
returns-clause-memory c = c.records_stand_for_one_state.ensures.memory _ _ _ c.in-Ok.ensures c.restore.ensures.fault
