use Rattle.std.proofs.Common.{◌≡◌, ℕ, suc, ◌+◌, ◌-◌, ◌*◌, length, ap, sym, ◌∙◌, arith}
use Rattle.std.proofs.Math.Nat.{suc-mul}
use Rattle.bucketed_store.specs.Private.StoreEdits.{Made, after_first, made_many, made_one}
use Rattle.bucketed_store.proofs.Spelling.MadeLengths.{made_many-keeps}
use Rattle.bucketed_store.proofs.MadeOnes.{made-parts}
use Rattle.bucketed_store.proofs.making.make_rest.Goals as goal

pub make_bucket-first-requires-clause-room : goal.make_bucket-first-requires-clause-room
make_bucket-first-requires-clause-room c =
    let before : Made = record { buckets = c.loop-made.buckets.items; unused = c.loop-made.left; first = c.loop-made.first } in
    let less : c.args.count - c.loop-made._made ≡ suc (c.args.count - (c.loop-made._made + 1)) = omega arith in
    omega (
      arith,
      made_many-keeps (c.args.count - (c.loop-made._made + 1)) (after_first c.loop-made.here) (made_one c.loop-made.here before),
      ap (λ (n : ℕ). length (made_many n c.loop-made.here before).buckets) less,
      c.loop-made.invariant.room,
    )

pub loop-made-preserved : goal.loop-made-preserved
loop-made-preserved c =
    let before : Made = record { buckets = c.loop-made.buckets.items; unused = c.loop-made.left; first = c.loop-made.first } in
    let less : c.args.count - c.loop-made._made ≡ suc (c.args.count - (c.loop-made._made + 1)) = omega arith in
    let after = made-parts (made_one c.loop-made.here before) c.make_bucket-first.new.buckets.items c.make_bucket-first.new.unused c.make_bucket-first.result
    c.make_bucket-first.ensures.buckets c.make_bucket-first.ensures.unused c.make_bucket-first.ensures.first in
    let rest = ap (made_many (c.args.count - (c.loop-made._made + 1)) (after_first c.loop-made.here)) after
    ∙ sym (ap (λ (n : ℕ). made_many n c.loop-made.here before) less) in
    record {
      whole = rest ∙ c.loop-made.invariant.whole;
      room = omega (arith, ap (λ (m : Made). length m.buckets) rest, c.loop-made.invariant.room, c.make_bucket-first.ensures.capacity);
      narrow = omega (arith, c.loop-made.invariant.narrow, ap (λ (n : ℕ). n * c.loop-made.here.width) less, suc-mul (c.args.count - (c.loop-made._made + 1)) c.loop-made.here.width);
      length = omega (arith, c.loop-made.invariant.length, c.make_bucket-first.ensures.length);
      capacity = omega (arith, c.loop-made.invariant.capacity, c.make_bucket-first.ensures.capacity);
      spans = c.make_bucket-first.ensures.spans;
    }
