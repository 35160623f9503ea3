use Rattle.std.proofs.Common.{◌≡◌, ◌-◌, ◌+◌, ◌<◌, suc, length, drop, ap, sym, ◌∙◌, arith}
use Rattle.bucketed_records.specs.Private.Store.{Stored}
use Rattle.bucketed_store.specs.Private.Grows as spec
use Rattle.bucketed_store.specs.Private.Returns.{width_of}
use Rattle.bucketed_store.proofs.Spelling.MadeLengths.{widened-keeps}
use Rattle.bucketed_store.proofs.Widening.Shares.{drop-changed, share-next, widened-next}
use Rattle.bucketed_store.proofs.growing.widen_shelves.Goals as goal

pub widen_shelf-requires-clause-room : goal.widen_shelf-requires-clause-room
widen_shelf-requires-clause-room c =
    let within : c.loop-number.number < length c.loop-number.shelves = omega (arith, c.loop-number-test.true, c.loop-number.invariant.length) in
    let count : c.share-count.result ≡ spec.share c.args.added (width_of c.loop-number.shelves c.loop-number.number) c.loop-number.left =
    c.share-count.ensures ∙ ap (λ w. spec.share c.args.added w c.loop-number.left) c.width_of.ensures in
    let stored = spec.stored_of c.loop-number.shelves c.loop-number.buckets.items c.loop-number.unused in
    let next = widened-next (length c.args.shelves.now - c.loop-number.number) (length c.args.shelves.now - (c.loop-number.number + 1)) c.loop-number.number (c.loop-number.number + 1)
    c.args.place c.args.added c.loop-number.left c.share-count.result stored (omega (arith, c.loop-number-test.true)) (omega arith) count in
    omega (
      arith,
      c.loop-number.invariant.room,
      ap (λ (s : Stored). length s.buckets) next,
      widened-keeps (length c.args.shelves.now - (c.loop-number.number + 1)) (c.loop-number.number + 1) c.args.place c.args.added (c.loop-number.left - c.share-count.result)
          (spec.shelf_widened c.loop-number.number c.args.place c.share-count.result stored),
    )

pub widen_shelf-requires-clause-few : goal.widen_shelf-requires-clause-few
widen_shelf-requires-clause-few c =
    let within : c.loop-number.number < length c.loop-number.shelves = omega (arith, c.loop-number-test.true, c.loop-number.invariant.length) in
    let count : c.share-count.result ≡ spec.share c.args.added (width_of c.loop-number.shelves c.loop-number.number) c.loop-number.left =
    c.share-count.ensures ∙ ap (λ w. spec.share c.args.added w c.loop-number.left) c.width_of.ensures in
    omega (arith, count, c.loop-number.invariant.few, share-next c.args.added c.loop-number.left c.loop-number.number c.loop-number.shelves within)

pub loop-number-preserved : goal.loop-number-preserved
loop-number-preserved c =
    let shelves = c.loop-number.shelves in
    let number = c.loop-number.number in
    let left = c.loop-number.left in
    let within : c.loop-number.number < length c.loop-number.shelves = omega (arith, c.loop-number-test.true, c.loop-number.invariant.length) in
    let count : c.share-count.result ≡ spec.share c.args.added (width_of shelves number) left =
    c.share-count.ensures ∙ ap (λ w. spec.share c.args.added w left) c.width_of.ensures in
    let behind : drop (suc number) c.widen_shelf.new.shelves ≡ drop (suc number) shelves =
    ap (λ (s : Stored). drop (suc number) s.shelves) c.widen_shelf.ensures.stored ∙ drop-changed _ number shelves in
    let next = share-next c.args.added left number shelves within in
    let one : number + 1 ≡ suc number = omega arith in
    let step = sym (widened-next (length c.args.shelves.now - number) (length c.args.shelves.now - (number + 1)) number (number + 1) c.args.place c.args.added left c.share-count.result
    (spec.stored_of shelves c.loop-number.buckets.items c.loop-number.unused) (omega (arith, c.loop-number-test.true)) (omega arith) count) in
    record {
      rest = rw c.widen_shelf.ensures.stored (step ∙ c.loop-number.invariant.rest);
      length = c.widen_shelf.ensures.length ∙ c.loop-number.invariant.length;
      room = rw c.widen_shelf.ensures.stored (omega (arith, ap (λ (s : Stored). length s.buckets) step, c.loop-number.invariant.room, c.widen_shelf.ensures.capacity));
      few = rw (one, behind, count) (omega (arith, count, next, c.loop-number.invariant.few, c.widen_shelf.ensures.used));
      capacity = omega (arith, c.widen_shelf.ensures.capacity, c.loop-number.invariant.capacity);
      spans = c.widen_shelf.ensures.spans;
    }
