use Rattle.std.proofs.Common.{◌≡◌, ◌+◌, ◌≤◌, false, Option, None, Some, [], drop, length, max, refl, ap, sym, ◌∙◌, arith}
use Rattle.std.proofs.lemmas.Option.{slice_get_within}
use Rattle.std.specs.Prelude.{is_some}
use Rattle.bucketed_model.specs.Merging.{Group}
use Rattle.bucketed_model.specs.Picking.{or_else}
use Rattle.bucket_index.proofs.Searched.{drop-past}
use Rattle.bucketed_store.specs.Private.Placing.{kept_mergeable}
use Rattle.bucketed_store.proofs.BusyShelves.{mergeable-behind}
use Rattle.bucketed_store.proofs.merging.mergeable_by_blocks.Goals as goal
use Rattle.bucketed_store.proofs.merging.mergeable_by_blocks.Goals.{else-loop-block-test, then-loop-block-test+then-from-shelves}

-- where nothing was found what comes after counts
none-first : (found later : Option Group) → is_some found ≡ false → or_else found later ≡ later
none-first None later h = refl
none-first (Some found) later h = absurd (cc)

pub loop-block-init : goal.loop-block-init
loop-block-init c =
    let shelves = c.args.shelves.now in
    let busy = c.behind_busy-from.ensures.busy shelves c.requires.known in
    record {
      rest = mergeable-behind c.args.sides c.requires.across shelves 0 c.saturating_sub-first.result (omega arith)
          (λ more k least most kept at. busy k kept least (omega (arith, more, most, c.saturating_sub-first.ensures)) at);
      busy = λ number kept low high at. busy number kept (omega arith) high at;
      behind = omega (arith, c.saturating_sub-first.ensures);
      on = omega arith;
    }

pub loop-block-preserved : goal.loop-block-preserved
loop-block-preserved c =
    let sides = c.args.sides in
    let shelves = c.args.shelves.now in
    let end = c.loop-block.from + 8 in
    let behind = c.behind_busy-from-in-loop-block in
    let busy = behind.ensures.busy shelves c.requires.known in
    let high : end ≤ c.max-first.result = omega (arith, c.max-first.ensures) in
    record {
      rest = mergeable-behind sides c.requires.across shelves end c.max-first.result high
          (λ more k least most kept at. busy k kept least (omega (arith, more, most, c.max-first.ensures, c.saturating_sub.ensures)) at)
          ∙ sym (none-first c.mergeable_between-group.result (kept_mergeable sides end (drop end shelves)) (sym c.is_some.ensures ∙ c.if-is_some.false))
          ∙ c.mergeable_between-group.ensures ∙ c.loop-block.invariant.rest;
      busy = λ number kept low below at. busy number kept (omega (arith, low, high)) below at;
      behind = omega (arith, c.max-first.ensures, c.saturating_sub.ensures, behind.ensures.on);
      on = omega (arith, behind.ensures.on, c.loop-block.invariant.on);
    }

pub returns : goal.returns
returns c =
    let sides = c.args.sides in
    let shelves = c.args.shelves.now in
    let first = c.loop-block.first in
    let all : length shelves ≤ c.loop-block.from =
    elim c.loop-block-test.branch [
      | else-loop-block-test w ↦ omega (arith, w.loop-block-test.false, c.loop-block.invariant.on)
      | then-loop-block-test+then-from-shelves w ↦ omega (arith, w.if-from-shelves.true)
    ] in
    let end = max first (length shelves) in
    let past : drop end shelves ≡ [] = drop-past end shelves (omega arith) in
    sym (ap (kept_mergeable sides end) past)
    ∙ mergeable-behind sides c.requires.across shelves first end (omega arith)
    (λ more k least most kept at. c.loop-block.invariant.busy k kept least (omega (arith, all, slice_get_within shelves k kept at)) at)
    ∙ c.loop-block.invariant.rest
