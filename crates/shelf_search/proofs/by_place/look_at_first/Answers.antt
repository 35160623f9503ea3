use Rattle.std.proofs.Common.{◌≡◌, ℕ, ◌+◌, ◌<◌, List, Option, None, Some, length, map, ap, arith, refl, subst, sym, ◌∙◌}
use Rattle.etagere_links.specs.Edits.{link_at}
use Rattle.etagere_links.specs.Links.{link_of, no_link}
use Rattle.shelf_records.specs.RecordLists.{Records, shelf_walk}
use Rattle.shelf_records.specs.Records.{shelf_chain}
use Rattle.shelf_search.specs.Private.Searching.{IsLooked, better, limit_of, lowest, offered}
use Rattle.shelf_records.proofs.AllLists.LinkedParts.{shelves-left}
use Rattle.shelf_search.proofs.Searched.FirstLooks.{above, better-high, low-better, low-offered, none-low}
use Rattle.shelf_search.proofs.Searched.OneMore.{lowest-more}
use Rattle.shelf_search.proofs.Searched.SearchSteps.{least-of-all, named, ranks-height}
use Rattle.shelf_search.proofs.Searched.PassedWalks.{Meets, Walks, walk-goes, walk-meets, walk-starts}
use Rattle.shelf_search.proofs.by_place.look_at_first.Goals.{in-Lower+else-candidate-height, in-NotLower}
use Rattle.shelf_search.proofs.by_place.look_at_first.Goals as goal
use Rattle.shelf_records.specs.declared.records.LinkedShelf.{LinkedShelf}
use Rattle.shelf_search.specs.declared.choosing.Candidate.{Candidate}

-- the shelf at hand, of which the link before it is the number
meets : (records : Records) (width height : ℕ) (best : Option Candidate) (shelf : ℕ) (walks : Walks shelf_chain.next records.shelves (shelf_walk records).met (λ shelves. lowest (map (offered records width height) shelves)) best (link_of shelf)) → shelf < no_link
    → Meets records.shelves (shelf_walk records).met (λ shelves. lowest (map (offered records width height) shelves)) best shelf walks.steps
meets records width height best shelf walks small =
    walk-meets shelf_chain.next records.shelves (shelf_walk records).met (λ shelves. lowest (map (offered records width height) shelves)) best (link_of shelf) shelf walks.steps walks.walk (named shelf small)

pub loop-step-init : goal.loop-step-init
loop-step-init c =
    let records = c.args.records.now in
    record {
      best = None;
      walks = record {
        steps = 0;
        walk =
            walk-starts shelf_chain.next records.shelves (shelf_walk records).met (λ shelves. lowest (map (offered records c.args.width c.args.height) shelves)) records.first_shelf (link_of c.from-shelf.result) None
            (shelves-left records c.requires.linked) (ap link_of c.from-shelf.ensures ∙ c.bits.ensures.link ∙ c.first_shelf.ensures) refl;
      };
      high = omega (arith, c.requires.short);
      limit = refl;
      small = omega (arith, c.from-shelf.ensures);
    }

pub look_at-requires-clause-stands : goal.look_at-requires-clause-stands
look_at-requires-clause-stands c =
    (meets c.args.records.now c.args.width c.args.height c.loop-step.invariant.best c.loop-step.shelf c.loop-step.invariant.walks c.if-shelf-ge-NO_NUMBER.false).stands

pub look_at-requires-clause-within : goal.look_at-requires-clause-within
look_at-requires-clause-within c =
    (meets c.args.records.now c.args.width c.args.height c.loop-step.invariant.best c.loop-step.shelf c.loop-step.invariant.walks c.if-shelf-ge-NO_NUMBER.false).here

pub next_link-requires : goal.next_link-requires
next_link-requires c =
    let records = c.args.records.now in
    let at = meets records c.args.width c.args.height c.loop-step.invariant.best c.loop-step.shelf c.loop-step.invariant.walks c.if-shelf-ge-NO_NUMBER.false in
    subst (λ (shelves : List LinkedShelf). c.loop-step.shelf < length shelves) (sym c.shelves.ensures) at.here

pub returns-then-candidate-height : goal.returns-then-candidate-height
returns-then-candidate-height c =
    let records = c.args.records.now in
    let shelf = c.loop-step.shelf in
    let best = c.loop-step.invariant.best in
    let candidate = c.in-Lower.candidate in
    let at = meets records c.args.width c.args.height best shelf c.loop-step.invariant.walks c.if-shelf-ge-NO_NUMBER.false in
    let told : better (Some (above c.args.height)) (offered records c.args.width c.args.height shelf) ≡ Some candidate =
    subst (IsLooked (Some (above c.args.height)) (offered records c.args.width c.args.height shelf)) c.in-Lower.is (c.look_at.ensures.looked (Some (above c.args.height)) refl) in
    let offer = low-offered c.args.height (offered records c.args.width c.args.height shelf) candidate told c.if-candidate-height.true in
    record {
      through = λ found same.
          let equal : Some candidate ≡ found = cc in
          sym equal
          ∙ least-of-all records c.args.width c.args.height c.args.height shelf at.passed at.others candidate (ranks-height records c.args.width c.args.height c.requires.short)
          (sym (low-better c.args.height best candidate c.loop-step.invariant.high c.if-candidate-height.true)
          ∙ ap (better best) (sym offer)
          ∙ ap (λ best. better best (offered records c.args.width c.args.height shelf)) at.holds
          ∙ sym (lowest-more (offered records c.args.width c.args.height) at.passed shelf))
          at.whole c.if-candidate-height.true;
    }

pub loop-step-preserved : goal.loop-step-preserved
loop-step-preserved c =
    let records = c.args.records.now in
    let shelf = c.loop-step.shelf in
    let best = c.loop-step.invariant.best in
    let offer = offered records c.args.width c.args.height shelf in
    let looked = c.look_at.ensures.looked (Some (above c.args.height)) refl in
    let high : c.args.height < limit_of offer =
    elim c.match-look_at.branch [
      | in-Lower+else-candidate-height w ↦ none-low c.args.height offer w.in-Lower.candidate c.requires.short (subst (IsLooked (Some (above c.args.height)) offer) w.in-Lower.is looked) (omega (arith, w.if-candidate-height.false))
      | in-NotLower w ↦ none-low c.args.height offer (above c.args.height) c.requires.short (subst (IsLooked (Some (above c.args.height)) offer) w.in-NotLower.is looked) (omega arith)
    ] in
    record {
      best = better best offer;
      walks = record {
        steps = c.loop-step.invariant.walks.steps + 1;
        walk =
            walk-goes shelf_chain.next records.shelves (shelf_walk records).met (λ shelves. lowest (map (offered records c.args.width c.args.height) shelves)) best (better best offer) (link_of shelf) (link_of c.from-next.result) shelf c.loop-step.invariant.walks.steps c.loop-step.invariant.walks.walk
            (named shelf c.if-shelf-ge-NO_NUMBER.false)
            (ap link_of c.from-next.ensures ∙ c.bits-in-loop-step.ensures.link ∙ c.next_link.ensures
            ∙ ap (λ (shelves : List LinkedShelf). link_at shelf_chain.next shelves shelf) c.shelves.ensures)
            (λ passed holds.
            ap (λ best. better best offer) holds
            ∙ sym (lowest-more (offered records c.args.width c.args.height) passed shelf));
      };
      high = better-high c.args.height best offer c.loop-step.invariant.high high;
      limit = c.loop-step.invariant.limit;
      small = omega (arith, c.from-next.ensures);
    }
