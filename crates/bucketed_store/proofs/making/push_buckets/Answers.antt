use Rattle.std.proofs.Common.{◌≡◌, ℕ, suc, ◌+◌, ◌-◌, ◌*◌, [], ◌∷◌, None, length, length-append, ap, sym, ◌∙◌, arith}
use Rattle.std.proofs.Math.Nat.{suc-mul}
use Rattle.bucketed_store.specs.Private.StoreEdits.{Made, after_first, made_many, made_one, new_record}
use Rattle.bucketed_store.proofs.Spelling.MadeLengths.{made_many-keeps}
use Rattle.bucketed_store.proofs.making.push_buckets.Goals as goal

pub push_bucket-first-requires-clause-room : goal.push_bucket-first-requires-clause-room
push_bucket-first-requires-clause-room c =
    let made : Made = record { buckets = c.loop-made.buckets.items; unused = None; first = c.loop-made.first } in
    let less : c.args.count - c.loop-made._made ≡ suc (c.args.count - (c.loop-made._made + 1)) = omega arith in
    omega (
      arith,
      length-append made.buckets (new_record c.loop-made.here made.first 0 ∷ []),
      made_many-keeps (c.args.count - (c.loop-made._made + 1)) (after_first c.loop-made.here) (made_one c.loop-made.here made),
      ap (λ (n : ℕ). length (made_many n c.loop-made.here made).buckets) less,
      c.loop-made.invariant.room,
    )

pub loop-made-preserved : goal.loop-made-preserved
loop-made-preserved c =
    let made : Made = record { buckets = c.loop-made.buckets.items; unused = None; first = c.loop-made.first } in
    let less : c.args.count - c.loop-made._made ≡ suc (c.args.count - (c.loop-made._made + 1)) = omega arith in
    let rest = ap (made_many (c.args.count - (c.loop-made._made + 1)) (after_first c.loop-made.here)) c.push_bucket-first.ensures.made
    ∙ sym (ap (λ (n : ℕ). made_many n c.loop-made.here made) less) in
    record {
      whole = rest ∙ c.loop-made.invariant.whole;
      room = omega (arith, ap (λ (m : Made). length m.buckets) rest, c.loop-made.invariant.room, c.push_bucket-first.ensures.capacity);
      narrow = omega (arith, c.loop-made.invariant.narrow, ap (λ (n : ℕ). n * c.loop-made.here.width) less, suc-mul (c.args.count - (c.loop-made._made + 1)) c.loop-made.here.width);
      length = omega (arith, c.loop-made.invariant.length, c.push_bucket-first.ensures.length);
      capacity = omega (arith, c.loop-made.invariant.capacity, c.push_bucket-first.ensures.capacity);
      spans = λ spans known. c.push_bucket-first.ensures.spans spans (c.loop-made.invariant.spans spans known);
    }
