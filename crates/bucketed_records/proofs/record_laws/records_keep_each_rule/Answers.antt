use Rattle.bucketed_records.proofs.Spelling.Stands.{witnessed-stands}
use Rattle.bucketed_records.proofs.record_laws.records_keep_each_rule.Goals as goal

pub returns : goal.returns
returns c = witnessed-stands
