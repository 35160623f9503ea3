use Rattle.bucketed_records.proofs.Spelling.StandsKept.{stands-witnessed}
use Rattle.bucketed_records.proofs.record_laws.each_rule_makes_an_atlas.Goals as goal

pub returns : goal.returns
returns c = stands-witnessed
