use Rattle.std.proofs.Common.{ap, arith}
use Rattle.std.proofs.lemmas.Option.{get_or_from_slice_get, slice_get_within}
use Rattle.etagere_links.proofs.EditLemmas.{set-changed}
use Rattle.bucketed_records.specs.declared.records.LinkedBucket.{LinkedBucket}
use Rattle.bucketed_store.specs.Private.StoreEdits.{taken_record}
use Rattle.bucketed_store.proofs.store.take_from.Goals as goal

pub overflow_cast-bucket : goal.overflow_cast-bucket
overflow_cast-bucket c = omega (arith, c.requires.narrow)

pub overflow_sub-bucket : goal.overflow_sub-bucket
overflow_sub-bucket c =
    let same = get_or_from_slice_get c.args.buckets.now c.args.number c.requires.bucket c.index-buckets-number.result c.requires.here in
    omega (arith, c.requires.free, ap (λ (b : LinkedBucket). b.free_space) same)

pub overflow_add-bucket : goal.overflow_add-bucket
overflow_add-bucket c =
    let same = get_or_from_slice_get c.args.buckets.now c.args.number c.requires.bucket c.index-buckets-number.result c.requires.here in
    omega (arith, c.requires.live, c.requires.given, ap (λ (b : LinkedBucket). b.refcount) same)

pub overflow_add-bucket-2 : goal.overflow_add-bucket-2
overflow_add-bucket-2 c =
    let same = get_or_from_slice_get c.args.buckets.now c.args.number c.requires.bucket c.index-buckets-number.result c.requires.here in
    omega (arith, c.requires.given, ap (λ (b : LinkedBucket). b.item_count) same)

pub returns : goal.returns
returns c =
    set-changed (taken_record c.args.width) c.args.buckets.now c.args.number c.index-buckets-number.result
    (slice_get_within c.args.buckets.now c.args.number c.requires.bucket c.requires.here)
