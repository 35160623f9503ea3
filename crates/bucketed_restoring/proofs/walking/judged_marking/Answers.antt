use Rattle.std.proofs.Common.{◌++◌, ℕ, List, arith, length, length-append}
use Rattle.std.proofs.lemmas.Result.{err_from_is_err_and}
use Rattle.bucketed_records.specs.BucketRecords.{bucket_walk}
use Rattle.bucketed_records.specs.StandsFor.{walked_numbers}
use Rattle.bucketed_records.proofs.Spelling.StandsKept.{once-length}
use Rattle.bucketed_restoring.proofs.Judged.Breaches.{unused-breaks}
use Rattle.bucketed_restoring.proofs.Judged.LinksRead.{end-read}
use Rattle.bucketed_restoring.proofs.walking.judged_marking.Goals as goal

pub returns-in_err-kept-clause-fault : goal.returns-in_err-kept-clause-fault
returns-in_err-kept-clause-fault c =
    let passed = err_from_is_err_and c.from_residual.result c.from_residual.ensures.1 in
    rw (passed.1, passed.2) (λ atlas frame shelves buckets _. c.in_err-kept.ensures.fault atlas frame shelves buckets)

pub returns-clause-ok : goal.returns-clause-ok
returns-clause-ok c =
    let so_far = c.in_ok-kept.ensures.ok in
    record {
      judged = so_far.judged;
      kept = so_far.kept;
      count = so_far.counted;
      space = so_far.space;
      next = c.requires.fit;
      first = c.in_ok-judge_unused.ensures.fits;
      ends = c.in_ok-judge_unused.ensures.ends;
      once = c.in_ok-judge_unused.ensures.once (walked_numbers c.args.buckets.now c.args.shelves.now)
          so_far.marked;
      idle = c.in_ok-judge_unused.ensures.idle;
    }

pub returns-clause-steps : goal.returns-clause-steps
returns-clause-steps c =
    let so_far = c.in_ok-kept.ensures.ok in
    let buckets = c.args.buckets.now in
    let numbers : List ℕ = walked_numbers buckets c.args.shelves.now in
    let met : List ℕ = (bucket_walk buckets c.args.unused).met in
    let once = c.in_ok-judge_unused.ensures.once numbers
    so_far.marked in
    omega (arith, once-length (length buckets) (numbers ++ met) once, length-append numbers met, so_far.counted, c.in_ok-judge_unused.ensures.steps)

pub returns-in_err-judge_unused-clause-fault : goal.returns-in_err-judge_unused-clause-fault
returns-in_err-judge_unused-clause-fault c =
    let passed = err_from_is_err_and c.from_residual-in_err-judge_unused.result c.from_residual-in_err-judge_unused.ensures.1 in
    rw (passed.1, passed.2) (λ atlas.
    unused-breaks c.args.frame.now c.args.buckets.now c.args.shelves.now atlas c.judged_shelves.new.marks c.args.unused c.in_err-judge_unused.field-0.0
    c.in_ok-kept.ensures.ok.marked
    c.in_err-judge_unused.ensures.fault)

pub returns-in_err-kept-clause-until : goal.returns-in_err-kept-clause-until
returns-in_err-kept-clause-until c =
    let passed = err_from_is_err_and c.from_residual.result c.from_residual.ensures.1 in
    rw (passed.1, passed.2) (λ atlas frame shelves buckets _. c.in_err-kept.ensures.until atlas frame shelves buckets)

pub returns-in_err-judge_unused-clause-until : goal.returns-in_err-judge_unused-clause-until
returns-in_err-judge_unused-clause-until c =
    let passed = err_from_is_err_and c.from_residual-in_err-judge_unused.result c.from_residual-in_err-judge_unused.ensures.1 in
    rw (passed.1, passed.2) (λ atlas.
    end-read c.args.frame.now c.args.buckets.now c.args.shelves.now atlas c.in_ok-kept.kept.shelves.items c.judged_shelves.new.marks c.args.unused c.judged_shelves.new.steps c.in_ok-kept.kept.space c.judge_unused.new.steps c.in_err-judge_unused.field-0.0
    c.in_ok-kept.ensures.ok c.in_err-judge_unused.ensures.fault c.in_err-judge_unused.ensures.read)

pub returns-clause-all : goal.returns-clause-all
returns-clause-all c = omega (arith, c.in_ok-kept.ensures.ok.counted, c.in_ok-judge_unused.ensures.steps)
