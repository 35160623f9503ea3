use Rattle.std.proofs.Common.{◌≡◌, ℕ, false, Option, None, Some, drop, refl, ap, sym, ◌∙◌, arith}
use Rattle.std.specs.Prelude.{is_some}
use Rattle.bucketed_model.specs.Picking.{or_else}
use Rattle.bucket_index.specs.declared.searching.FoundBucket.{FoundBucket}
use Rattle.bucket_index.specs.Private.Searching.{exact_from}
use Rattle.bucket_index.proofs.PassedShelves.{exact-behind, exact-passed}
use Rattle.bucket_index.proofs.TallestShelves.{exact-unfit}
use Rattle.bucket_index.proofs.searching.exact_by_blocks.Goals as goal
use Rattle.bucket_index.proofs.searching.exact_by_blocks.Goals.{then-at-behind, else-at-behind+else-is_some}

-- where nothing was found what comes after counts
none-first : (found later : Option FoundBucket) → is_some found ≡ false → or_else found later ≡ later
none-first None later h = refl
none-first (Some found) later h = absurd (cc)

pub loop-block-preserved : goal.loop-block-preserved
loop-block-preserved c =
    let sides = c.args.sides.now in
    let buckets = c.args.buckets.now in
    let shelves = c.args.shelves.now in
    let at = c.loop-block.at in
    let behind = c.behind_narrow-behind in
    elim c.if-at-behind.branch [
      | then-at-behind w ↦ record {
        rest = ap (λ (k : ℕ). exact_from sides buckets k (drop k shelves)) w.at-is
            ∙ exact-behind sides buckets shelves at behind.result behind.ensures.on
            (λ number kept on under there. exact-passed sides buckets number kept c.requires.across (behind.ensures.narrow shelves c.requires.known number kept on under there)) ∙ c.loop-block.invariant.rest;
        on = omega (arith, w.at-is, w.if-at-behind.true, c.loop-block.invariant.on);
      }
      | else-at-behind+else-is_some w ↦ record {
        rest = ap (λ (k : ℕ). exact_from sides buckets k (drop k shelves)) w.at-is
            ∙ exact-behind sides buckets shelves w.behind_wide-end.result w.behind_unfit-at.result w.behind_unfit-at.ensures.on
            (λ number kept on under there. exact-unfit sides buckets number kept (w.behind_unfit-at.ensures.unfit shelves c.requires.below number kept on under there))
            ∙ sym (none-first w.exact_between-found.result (exact_from sides buckets w.behind_wide-end.result (drop w.behind_wide-end.result shelves)) (sym w.is_some.ensures ∙ w.if-is_some.false))
            ∙ w.exact_between-found.ensures ∙ c.loop-block.invariant.rest;
        on = omega (arith, w.at-is, w.behind_unfit-at.ensures.on, w.behind_wide-end.ensures.on, c.loop-block.invariant.on);
      }
    ]
