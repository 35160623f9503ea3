use Rattle.etagere_run.specs.Answers.AtlasRuns.{shelf_atlas}
use Rattle.etagere_run.specs.Answers.BucketedRuns.{bucketed_atlas}
use Rattle.traffic.proofs.Cutting.{cut_anywhere}
use Rattle.traffic.proofs.laws.a_run_is_cut_anywhere.Goals as goal

pub returns-clause-shelves : goal.returns-clause-shelves
returns-clause-shelves c = cut_anywhere shelf_atlas

pub returns-clause-buckets : goal.returns-clause-buckets
returns-clause-buckets c = cut_anywhere bucketed_atlas
