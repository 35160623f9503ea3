use Rattle.std.proofs.Common.{◌≡◌, ℕ, suc, ◌+◌, ◌-◌, ◌*◌, ap, sym, ◌∙◌, arith}
use Rattle.std.proofs.Math.Nat.{suc-mul}
use Rattle.bucket_index.proofs.LinkedRecords.{named}
use Rattle.bucketed_store.specs.Private.StoreEdits.{Made, after_first, made_many, made_one}
use Rattle.bucketed_store.proofs.MadeOnes.{before, made-parts}
use Rattle.bucketed_store.proofs.making.reuse_buckets.Goals as goal

pub reuse_bucket-requires-clause-named : goal.reuse_bucket-requires-clause-named
reuse_bucket-requires-clause-named c =
    named c.from-number.result c.bits.result c.loop-made.left c.from-number.ensures c.bits.ensures.link (omega (arith, c.if-number-buckets.false, c.loop-made.invariant.few))

pub loop-made-preserved : goal.loop-made-preserved
loop-made-preserved c =
    let now : Made = before c.loop-made.buckets c.loop-made.left c.loop-made.first in
    let less : c.args.count - c.loop-made.made ≡ suc (c.args.count - (c.loop-made.made + 1)) = omega arith in
    let after = made-parts (made_one c.loop-made.row now) c.reuse_bucket.new.buckets c.reuse_bucket.new.unused c.reuse_bucket.result
    c.reuse_bucket.ensures.buckets c.reuse_bucket.ensures.unused c.reuse_bucket.ensures.first in
    let rest = ap (made_many (c.args.count - (c.loop-made.made + 1)) (after_first c.loop-made.row)) after
    ∙ sym (ap (λ (n : ℕ). made_many n c.loop-made.row now) less) in
    record {
      whole = rest ∙ c.loop-made.invariant.whole;
      narrow = omega (arith, c.loop-made.invariant.narrow, ap (λ (n : ℕ). n * c.loop-made.row.width) less, suc-mul (c.args.count - (c.loop-made.made + 1)) c.loop-made.row.width);
      few = omega (arith, c.loop-made.invariant.few, c.reuse_bucket.auto.buckets);
      spans = c.reuse_bucket.ensures.spans;
    }
