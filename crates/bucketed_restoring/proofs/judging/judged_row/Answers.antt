use Rattle.std.proofs.Common.{◌≡◌, ◌*◌, ◌&&◌, Bool, ℕ, true, false, map, ap, arith, sym, ◌∙◌}
use Rattle.std.specs.List.{AllByRecursion, list_all}
use Rattle.etagere_base.proofs.DecidingLemmas.{denied, granted}
use Rattle.bucketed_model.specs.Space.{used_width}
use Rattle.bucketed_records.specs.BucketRecords.{bucket_at}
use Rattle.bucketed_records.specs.declared.records.KeptShelf.{KeptShelf}
use Rattle.bucketed_records.specs.Private.Store.{live_items}
use Rattle.bucketed_records.specs.StandsFor.{AreBuckets}
use Rattle.bucketed_records.proofs.Spelling.UsedAreas.{frees-filled}
use Rattle.bucketed_restoring.specs.Private.Judging as spec
use Rattle.bucketed_restoring.proofs.Judged.RowTests.{buckets-decided, live-spelled, owned-decided, used-spelled, widest-spelled}
use Rattle.bucketed_restoring.proofs.judging.judged_row.Goals as goal

-- three tests, one after another, of what each says
all-three : (a b d a' b' d' all : Bool) → a ≡ a' → b ≡ b' → d ≡ d' → ((a && b) && d) ≡ all → (a' && (b' && d')) ≡ all
all-three false b d a' b' d' all is-a is-b is-d said = ap (λ (x : Bool). x && (b' && d')) (sym is-a) ∙ said
all-three true b d a' b' d' all is-a is-b is-d said =
    ap (λ (x : Bool). x && (b' && d')) (sym is-a) ∙ ap (λ (x : Bool). x && d') (sym is-b) ∙ ap (λ (x : Bool). b && x) (sym is-d) ∙ said

pub returns-then-not-judged-clause-fault : goal.returns-then-not-judged-clause-fault
returns-then-not-judged-clause-fault c =
    let none : list_all (spec.is_owned c.args.buckets.now c.args.number) c.args.numbers.now ≡ false = grind (arith, c.judged_buckets-judged.ensures.owned, c.if-not-judged.true) in
    denied (list_all (spec.is_owned c.args.buckets.now c.args.number) c.args.numbers.now) (AllByRecursion (λ (n : ℕ). spec.shelf_of c.args.buckets.now n ≡ c.args.number) c.args.numbers.now)
    (owned-decided c.args.buckets.now c.args.number c.args.numbers.now c.requires.within) none

pub returns-then-not-has_buckets-clause-fault : goal.returns-then-not-has_buckets-clause-fault
returns-then-not-has_buckets-clause-fault c =
    let none : spec.has_buckets c.args.frame.now c.args.buckets.now c.args.shelf.now c.args.numbers.now ≡ false =
    all-three _ _ _ _ _ _ false c.has_width.ensures c.judged_buckets-judged.ensures.filled c.judged_buckets-judged.ensures.stand c.if-not-has_buckets.true in
    denied (spec.has_buckets c.args.frame.now c.args.buckets.now c.args.shelf.now c.args.numbers.now) (AreBuckets c.args.frame.now c.args.buckets.now c.args.shelf.now c.args.numbers.now)
    (buckets-decided c.args.buckets.now c.args.frame.now c.args.shelf.now c.args.numbers.now c.requires.within) none

pub returns-clause-ok : goal.returns-clause-ok
returns-clause-ok c =
    let judged = c.judged_buckets-judged in
    let all : list_all (spec.is_owned c.args.buckets.now c.args.number) c.args.numbers.now ≡ true = grind (arith, judged.ensures.owned, c.if-not-judged.false) in
    let passed : spec.has_buckets c.args.frame.now c.args.buckets.now c.args.shelf.now c.args.numbers.now ≡ true =
    all-three _ _ _ _ _ _ true c.has_width.ensures judged.ensures.filled judged.ensures.stand c.if-not-has_buckets.false in
    let buckets = granted (spec.has_buckets c.args.frame.now c.args.buckets.now c.args.shelf.now c.args.numbers.now) (AreBuckets c.args.frame.now c.args.buckets.now c.args.shelf.now c.args.numbers.now)
    (buckets-decided c.args.buckets.now c.args.frame.now c.args.shelf.now c.args.numbers.now c.requires.within) passed in
    let frees = frees-filled c.args.buckets.now (spec.alignment_along c.args.frame.now) c.args.shelf.now.bucket_width c.args.shelf.now.height c.args.numbers.now buckets.filled in
    let live = judged.ensures.live ∙ live-spelled c.args.buckets.now c.args.shelf.now.bucket_width c.args.numbers.now in
    let widest = judged.ensures.widest ∙ widest-spelled c.args.buckets.now c.args.shelf.now.bucket_width c.args.numbers.now c.requires.within frees in
    let used = judged.ensures.used ∙ used-spelled c.args.buckets.now c.args.shelf.now.bucket_width c.args.numbers.now in
    record {
      owned = granted (list_all (spec.is_owned c.args.buckets.now c.args.number) c.args.numbers.now) (AllByRecursion (λ (n : ℕ). spec.shelf_of c.args.buckets.now n ≡ c.args.number) c.args.numbers.now)
          (owned-decided c.args.buckets.now c.args.number c.args.numbers.now c.requires.within) all;
      has = buckets;
      generations = judged.ensures.generations;
      kept = ap (λ (n : ℕ). let kept : KeptShelf = record { shelf = c.args.shelf.now; live_items = n; widest_room = judged.result.widest_room } in kept) live
          ∙ ap (λ (n : ℕ). let kept : KeptShelf = record { shelf = c.args.shelf.now; live_items = live_items (map (bucket_at c.args.buckets.now c.args.shelf.now.bucket_width) c.args.numbers.now); widest_room = n } in kept) widest;
      space = ap (λ (n : ℕ). n * c.from-2.result) (c.from.ensures ∙ used)
          ∙ ap (λ (h : ℕ). used_width (map (bucket_at c.args.buckets.now c.args.shelf.now.bucket_width) c.args.numbers.now) * h) c.from-2.ensures;
    }
