use Rattle.bucketed_model.proofs.Allocating.{allocates-tied}
use Rattle.bucketed_model.proofs.Promises.{tied-safe}
use Rattle.bucketed_model.proofs.Ledger.TiedGrown.{grows-tied}
use Rattle.bucketed_model.proofs.Ledger.TiedReturned.{tied-returned}
use Rattle.bucketed_model.proofs.Ledger.TiedTaken.{tied-fresh}
use Rattle.bucketed_model.proofs.model_laws.a_ledger_stays_tied.Goals as goal

pub returns-clause-steps : goal.returns-clause-steps
returns-clause-steps c = (tied-fresh, allocates-tied, tied-returned, grows-tied)

pub returns-clause-safe : goal.returns-clause-safe
returns-clause-safe c = tied-safe
