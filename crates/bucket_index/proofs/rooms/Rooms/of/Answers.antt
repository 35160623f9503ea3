use Rattle.std.proofs.Common.{◌≡◌, ◌+◌, ℕ, suc, length, refl, ap, arith, take}
use Rattle.std.proofs.lemmas.Option.{slice_get_read}
use Rattle.bucketed_records.specs.Private.Store.{record_room}
use Rattle.bucket_index.specs.Private.Rooms.{slot_of, tally}
use Rattle.bucket_index.proofs.CountedRooms.{enough-less, enough-raised, so_many, tally-take}
use Rattle.bucket_index.proofs.rooms.Rooms.of.Goals as goal

pub loop-number-preserved : goal.loop-number-preserved
loop-number-preserved c =
    let buckets = c.args.buckets.now in
    let number = c.loop-number.number in
    let one = c.index-buckets-number.result in
    let there = slice_get_read buckets (length buckets) number one refl c.loop-number-test.true c.index-buckets-number.is in
    let next : number + 1 ≡ suc number = omega arith in
    rw (c.raise.ensures, c.slot_of-slot.ensures, c.from.ensures, c.record_room.ensures) (record {
      counted = c.loop-number.invariant.counted;
      enough = enough-less _ (λ slot. tally slot (take number buckets) + so_many (slot_of (record_room one)) 1 slot) (λ slot. tally slot (take (number + 1) buckets))
          (enough-raised c.loop-number.rooms.counts (λ slot. tally slot (take number buckets)) (slot_of (record_room one)) 1 c.loop-number.invariant.enough)
          (λ slot. omega (arith, ap (λ (k : ℕ). tally slot (take k buckets)) next, tally-take slot number buckets one there));
    })
