use Rattle.std.proofs.Common.{◌≡◌, ◌+◌, ◌<◌, Bool, true, false, length, refl, ap, sym, subst, arith, ◌==◌, ◌∙◌}
use Rattle.std.proofs.lemmas.Bool.{eqb-true}
use Rattle.std.proofs.lemmas.Option.{slice_get_read, slice_get_within}
use Rattle.std.specs.Prelude.{slice_get}
use Rattle.bucketed_records.specs.declared.records.KeptShelf.{KeptShelf}
use Rattle.bucket_index.specs.Private.Blocks.{IsKnown, with_standing}
use Rattle.bucket_index.proofs.KnownBlocks.{standing-own, standing-still, some-same}
use Rattle.bucket_index.proofs.blocks.counted.Goals as goal

pub loop-number-preserved : goal.loop-number-preserved
loop-number-preserved c number kept low high at = rw c.with_standing-block.ensures (by_number (number == c.loop-number.number) refl)
  where
    own : number ≡ c.loop-number.number → IsKnown kept (with_standing c.index-shelves-number.result c.loop-number.block)
    own same =
        let one = c.index-shelves-number.result in
        let here = slice_get_read c.args.shelves.now (length c.args.shelves.now) c.loop-number.number one refl (omega arith) c.index-shelves-number.is in
        let shelf : one ≡ kept = some-same (slice_get c.args.shelves.now c.loop-number.number) one kept here (ap (slice_get c.args.shelves.now) (sym same) ∙ at) in
        subst (λ (s : KeptShelf). IsKnown s (with_standing one c.loop-number.block)) shelf (standing-own one c.loop-number.block)

    by_number : (t : Bool) → (number == c.loop-number.number) ≡ t → IsKnown kept (with_standing c.index-shelves-number.result c.loop-number.block)
    by_number true e = own (eqb-true number c.loop-number.number e)
    by_number false e = standing-still kept c.index-shelves-number.result c.loop-number.block (c.loop-number.invariant number kept low (lower (omega (arith, high))) at)
      where
        lower : number < c.loop-number.number + 1 → number < c.loop-number.number
        lower h = grind (arith, e)

pub returns : goal.returns
returns c number kept low high at =
    let within = slice_get_within c.args.shelves.now number kept at in
    c.loop-number.invariant number kept low (omega (arith, within, high, c.min-number-end.ensures)) at
