use Rattle.etagere_run.proofs.InputsDecide.{drawings-same, replays-differ}
use Rattle.etagere_run.proofs.replay_laws.an_input_decides_all_but_ids.Goals as goal

pub returns-clause-replays : goal.returns-clause-replays
returns-clause-replays c = replays-differ

pub returns-clause-drawings : goal.returns-clause-drawings
returns-clause-drawings c = drawings-same
