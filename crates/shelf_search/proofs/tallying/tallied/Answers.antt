use Rattle.std.proofs.Common.{◌≤◌, length, ap, arith, refl, ◌∙◌}
use Rattle.etagere_base.specs.Lists.{total}
use Rattle.etagere_links.specs.Edits.{link_at}
use Rattle.shelf_records.specs.RecordLists.{shelf_walk}
use Rattle.shelf_records.specs.Records.{shelf_chain}
use Rattle.shelf_records.specs.AtlasRecords.{is_empty_at}
use Rattle.shelf_search.specs.Private.Asking.{free_of, tally_of, tally_with}
use Rattle.shelf_search.specs.declared.tallying.Tally.{Tally}
use Rattle.shelf_records.proofs.AllLists.LinkedParts.{shelves-left}
use Rattle.shelf_search.proofs.Searched.OneMore.{count-most, tally-more, total-within}
use Rattle.shelf_search.proofs.Searched.PassedWalks.{walk-goes, walk-meets, walk-spent, walk-starts, walk-stops}
use Rattle.shelf_search.proofs.tallying.tallied.Goals as goal

pub loop-step-init : goal.loop-step-init
loop-step-init c =
    let records = c.args.records.now in
    walk-starts shelf_chain.next records.shelves (shelf_walk records).met (tally_of records) records.first_shelf c.number-at.result _
    (shelves-left records c.requires.linked) (c.number-at.ensures.value ∙ c.first_shelf.ensures) refl

pub returns-in_default : goal.returns-in_default
returns-in_default c =
    let records = c.args.records.now in
    walk-stops shelf_chain.next records.shelves (shelf_walk records).met (tally_of records) c.loop-step.tally c.loop-step.at c.loop-step._step c.loop-step.invariant c.in_default.is

pub with_shelf-tally-requires-clause-stands : goal.with_shelf-tally-requires-clause-stands
with_shelf-tally-requires-clause-stands c =
    let records = c.args.records.now in
    (walk-meets shelf_chain.next records.shelves (shelf_walk records).met (tally_of records) c.loop-step.tally c.loop-step.at c.in-Some.shelf c.loop-step._step c.loop-step.invariant c.in-Some.is).stands

pub with_shelf-tally-requires-clause-shelves : goal.with_shelf-tally-requires-clause-shelves
with_shelf-tally-requires-clause-shelves c =
    let records = c.args.records.now in
    let meets = walk-meets shelf_chain.next records.shelves (shelf_walk records).met (tally_of records) c.loop-step.tally c.loop-step.at c.in-Some.shelf c.loop-step._step c.loop-step.invariant c.in-Some.is in
    omega (arith, ap (λ (t : Tally). t.shelves) meets.holds, meets.count, c.loop-step-test.true, ap length c.shelves-step-end.ensures, c.requires.shelves)

pub with_shelf-tally-requires-clause-empty : goal.with_shelf-tally-requires-clause-empty
with_shelf-tally-requires-clause-empty c =
    let records = c.args.records.now in
    let meets = walk-meets shelf_chain.next records.shelves (shelf_walk records).met (tally_of records) c.loop-step.tally c.loop-step.at c.in-Some.shelf c.loop-step._step c.loop-step.invariant c.in-Some.is in
    omega (arith, ap (λ (t : Tally). t.empty_shelves) meets.holds, count-most (is_empty_at records.shelves) meets.passed, meets.count, c.loop-step-test.true, ap length c.shelves-step-end.ensures, c.requires.shelves)

pub with_shelf-tally-requires-clause-free : goal.with_shelf-tally-requires-clause-free
with_shelf-tally-requires-clause-free c =
    let records = c.args.records.now in
    let meets = walk-meets shelf_chain.next records.shelves (shelf_walk records).met (tally_of records) c.loop-step.tally c.loop-step.at c.in-Some.shelf c.loop-step._step c.loop-step.invariant c.in-Some.is in
    let all : total (λ shelf. (free_of records shelf).count) (shelf_walk records).met ≤ 65535 = c.requires.free in
    omega (
      arith,
      ap (λ (t : Tally). t.free_items) meets.holds,
      total-within (λ shelf. (free_of records shelf).count) meets.passed c.in-Some.shelf meets.others,
      ap (total (λ shelf. (free_of records shelf).count)) meets.whole,
      all,
    )

pub loop-step-preserved : goal.loop-step-preserved
loop-step-preserved c =
    let records = c.args.records.now in
    walk-goes shelf_chain.next records.shelves (shelf_walk records).met (tally_of records) c.loop-step.tally _ c.loop-step.at c.number-at-in-loop-step.result c.in-Some.shelf c.loop-step._step c.loop-step.invariant c.in-Some.is
    (c.number-at-in-loop-step.ensures.value ∙ c.next_of.ensures ∙ ap (λ shelves. link_at shelf_chain.next shelves c.in-Some.shelf) c.shelves.ensures)
    (λ passed holds. c.with_shelf-tally.ensures ∙ ap (λ t. tally_with records t c.in-Some.shelf) holds ∙ tally-more records passed c.in-Some.shelf)

pub returns : goal.returns
returns c =
    let records = c.args.records.now in
    walk-spent shelf_chain.next records.shelves (shelf_walk records).met (tally_of records) c.loop-step.tally c.loop-step.at c.loop-step._step c.loop-step.invariant
    (omega (arith, ap length c.shelves-step-end.ensures))
