use Rattle.std.proofs.Common.{Some, get_or, ◌≡◌, ◌+◌, ◌<◌, Bool, true, false, refl, ap, sym, subst, arith, ◌==◌, ◌∙◌}
use Rattle.std.proofs.lemmas.Bool.{eqb-true}
use Rattle.std.proofs.lemmas.Option.{slice_get-get_or, slice_get_within}
use Rattle.std.specs.Prelude.{slice_get}
use Rattle.bucket_index.specs.Private.Blocks.{Block, IsPart, joined}
use Rattle.bucket_index.proofs.KnownBlocks.{part-own, part-still, some-same}
use Rattle.bucket_index.proofs.blocks.gathered.Goals as goal

pub loop-number-preserved : goal.loop-number-preserved
loop-number-preserved c number block low high at = rw c.joined-whole.ensures (by_number (number == c.loop-number.number) refl)
  where
    none : Block
    none = record { widest_room = 0; has_idle = false }

    one : Block
    one = get_or c.args.blocks.now c.loop-number.number none

    own : number ≡ c.loop-number.number → IsPart block (joined c.loop-number.whole one)
    own same =
        let here : slice_get c.args.blocks.now c.loop-number.number ≡ Some one = slice_get-get_or c.args.blocks.now c.loop-number.number none (omega (arith, c.loop-number-test.true, c.min-number-end.ensures)) in
        let is : one ≡ block = some-same (slice_get c.args.blocks.now c.loop-number.number) one block here (ap (slice_get c.args.blocks.now) (sym same) ∙ at) in
        subst (λ (b : Block). IsPart b (joined c.loop-number.whole one)) is (part-own c.loop-number.whole one)

    by_number : (t : Bool) → (number == c.loop-number.number) ≡ t → IsPart block (joined c.loop-number.whole one)
    by_number true e = own (eqb-true number c.loop-number.number e)
    by_number false e = part-still block c.loop-number.whole one (c.loop-number.invariant number block low (lower (omega (arith, high))) at)
      where
        lower : number < c.loop-number.number + 1 → number < c.loop-number.number
        lower h = grind (arith, e)

pub returns : goal.returns
returns c number block low high at =
    let within = slice_get_within c.args.blocks.now number block at in
    c.loop-number.invariant number block low (omega (arith, within, high, c.min-number-end.ensures)) at
