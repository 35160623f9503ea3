use Rattle.std.proofs.Common.{◌≡◌, ℕ, suc, ◌+◌, ◌*◌, ◌<◌, ◌≤◌, List, Option, None, Some, length, map, ap, arith, refl, subst, sym, ◌∙◌}
use Rattle.std.proofs.Math.Nat.{mul-le-mul_right, suc-mul}
use Rattle.etagere_links.specs.Edits.{link_at}
use Rattle.etagere_links.specs.Links.{link_of, no_link}
use Rattle.shelf_records.specs.RecordLists.{Records, shelf_walk}
use Rattle.shelf_records.specs.Records.{shelf_chain}
use Rattle.shelf_search.specs.Private.Searching.{IsLooked, best_candidate, better, lowest, offered}
use Rattle.shelf_records.proofs.AllLists.Following.{count_from}
use Rattle.shelf_records.proofs.AllLists.LinkedParts.{shelves-left, shelves-part}
use Rattle.shelf_search.proofs.Searched.OneMore.{lowest-more}
use Rattle.shelf_search.proofs.Searched.SearchSteps.{least-of-all, named, names-none}
use Rattle.shelf_search.proofs.Searched.PassedWalks.{Meets, Passes, Walks, walk-few, walk-goes, walk-meets, walk-nearer, walk-starts, walk-stops}
use Rattle.shelf_search.proofs.by_place.walk_shelves.Goals.{After-from-next}
use Rattle.shelf_search.proofs.by_place.walk_shelves.Goals as goal
use Rattle.shelf_records.specs.declared.records.LinkedShelf.{LinkedShelf}
use Rattle.shelf_search.specs.declared.by_place.Walked.TheVariants.{Through}
use Rattle.shelf_search.specs.declared.choosing.Candidate.{Candidate}

-- the shelf at hand, of which the link before it is the number
meets : (records : Records) (width height : ℕ) (best : Option Candidate) (shelf : ℕ) (walks : Walks shelf_chain.next records.shelves (shelf_walk records).met (λ shelves. lowest (map (offered records width height) shelves)) best (link_of shelf)) → shelf < no_link
    → Meets records.shelves (shelf_walk records).met (λ shelves. lowest (map (offered records width height) shelves)) best shelf walks.steps
meets records width height best shelf walks small =
    walk-meets shelf_chain.next records.shelves (shelf_walk records).met (λ shelves. lowest (map (offered records width height) shelves)) best (link_of shelf) shelf walks.steps walks.walk (named shelf small)

pub loop-shelf-init : goal.loop-shelf-init
loop-shelf-init c =
    let records = c.args.records.now in
    record {
      walks = record {
        steps = 0;
        walk =
            walk-starts shelf_chain.next records.shelves (shelf_walk records).met (λ shelves. lowest (map (offered records c.args.width c.args.height) shelves)) records.first_shelf (link_of c.from-shelf.result) None
            (shelves-left records c.requires.linked) (ap link_of c.from-shelf.ensures ∙ c.bits.ensures.link ∙ c.first_shelf.ensures) refl;
      };
      limit = refl;
      left = omega arith;
      small = omega (arith, c.from-shelf.ensures);
    }

pub look_at-requires-clause-stands : goal.look_at-requires-clause-stands
look_at-requires-clause-stands c =
    (meets c.args.records.now c.args.width c.args.height c.loop-shelf.best c.loop-shelf.shelf c.loop-shelf.invariant.walks c.loop-shelf-test.true).stands

pub look_at-requires-clause-within : goal.look_at-requires-clause-within
look_at-requires-clause-within c =
    (meets c.args.records.now c.args.width c.args.height c.loop-shelf.best c.loop-shelf.shelf c.loop-shelf.invariant.walks c.loop-shelf-test.true).here

-- what was found is what is known
known : (best found whole : Option Candidate) → best ≡ whole → Through best ≡ Through found → found ≡ whole
known best found whole is same = let equal : best ≡ found = cc in sym equal ∙ is

-- where fewer are left than there are items, they are fewer than so many for each shelf
spent-few : (steps shelves items left most : ℕ) → steps < shelves → most ≤ left + steps * items → left < items → most < shelves * items
spent-few steps shelves items left most below held short = omega (arith, mul-le-mul_right {m = suc steps} {n = shelves} items below, suc-mul steps items, held, short)

pub returns : goal.returns
returns c =
    let records = c.args.records.now in
    record {
      through = λ best same.
          known c.loop-shelf.best best (best_candidate records c.args.width c.args.height)
          (walk-stops shelf_chain.next records.shelves (shelf_walk records).met (λ shelves. lowest (map (offered records c.args.width c.args.height) shelves)) c.loop-shelf.best (link_of c.loop-shelf.shelf) c.loop-shelf.invariant.walks.steps c.loop-shelf.invariant.walks.walk
          (names-none c.loop-shelf.shelf (omega (arith, c.loop-shelf-test.false, c.loop-shelf.invariant.small))))
          same;
      long = λ same. absurd (cc);
    }

pub returns-in-Unknown-clause-long : goal.returns-in-Unknown-clause-long
returns-in-Unknown-clause-long c = λ _.
    let records = c.args.records.now in
    let steps = c.loop-shelf.invariant.walks.steps in
    let at = meets records c.args.width c.args.height c.loop-shelf.best c.loop-shelf.shelf c.loop-shelf.invariant.walks c.loop-shelf-test.true in
    spent-few steps (length records.shelves) (length records.items) c.loop-shelf.left c.args.most
    (walk-few shelf_chain.next records.shelves (shelf_walk records).met (λ shelves. lowest (map (offered records c.args.width c.args.height) shelves)) c.loop-shelf.best (link_of c.loop-shelf.shelf) c.loop-shelf.shelf steps c.loop-shelf.invariant.walks.walk (named c.loop-shelf.shelf c.loop-shelf-test.true))
    c.loop-shelf.invariant.left (c.look_at.ensures.long c.in-Unknown.is)

pub returns-then-candidate-least : goal.returns-then-candidate-least
returns-then-candidate-least c =
    let records = c.args.records.now in
    let shelf = c.loop-shelf.shelf in
    let at = meets records c.args.width c.args.height c.loop-shelf.best shelf c.loop-shelf.invariant.walks c.loop-shelf-test.true in
    record {
      through = λ best same.
          known (Some c.in-Lower.candidate) best (best_candidate records c.args.width c.args.height)
          (least-of-all records c.args.width c.args.height c.args.least shelf at.passed at.others c.in-Lower.candidate c.requires.least
          (sym (subst (IsLooked c.loop-shelf.best (offered records c.args.width c.args.height shelf)) c.in-Lower.is (c.look_at.ensures.looked c.loop-shelf.best c.loop-shelf.invariant.limit))
          ∙ ap (λ best. better best (offered records c.args.width c.args.height shelf)) at.holds
          ∙ sym (lowest-more (offered records c.args.width c.args.height) at.passed shelf))
          at.whole c.if-candidate-least.true)
          same;
      long = λ same. absurd (cc);
    }

pub next_link-requires : goal.next_link-requires
next_link-requires c =
    let records = c.args.records.now in
    let at = meets records c.args.width c.args.height c.loop-shelf.best c.loop-shelf.shelf c.loop-shelf.invariant.walks c.loop-shelf-test.true in
    subst (λ (shelves : List LinkedShelf). c.loop-shelf.shelf < length shelves) (sym c.shelves.ensures) at.here

-- the link to the next shelf is that of the shelf at hand
next-is : (c : After-from-next) → link_of c.from-next.result ≡ link_at shelf_chain.next c.args.records.now.shelves c.loop-shelf.shelf
next-is c =
    ap link_of c.from-next.ensures ∙ c.bits-in-loop-shelf.ensures.link ∙ c.next_link.ensures
    ∙ ap (λ (shelves : List LinkedShelf). link_at shelf_chain.next shelves c.loop-shelf.shelf) c.shelves.ensures

-- and leads nearer to the end
nearer : (c : After-from-next) → count_from (link_of c.from-next.result) (shelf_walk c.args.records.now).met < count_from (link_of c.loop-shelf.shelf) (shelf_walk c.args.records.now).met
nearer c =
    let records = c.args.records.now in
    rw (next-is c)
    (walk-nearer shelf_chain.next records.shelves (shelf_walk records).met (λ shelves. lowest (map (offered records c.args.width c.args.height) shelves)) c.loop-shelf.best (link_of c.loop-shelf.shelf) c.loop-shelf.shelf c.loop-shelf.invariant.walks.steps c.loop-shelf.invariant.walks.walk
    (shelves-part records c.requires.linked).once (named c.loop-shelf.shelf c.loop-shelf-test.true))

pub loop-shelf-smaller : goal.loop-shelf-smaller
loop-shelf-smaller c = nearer (goal.at.loop-shelf-smaller c).After-from-next

pub loop-shelf-smaller-in-NotLower : goal.loop-shelf-smaller-in-NotLower
loop-shelf-smaller-in-NotLower c = nearer (goal.at.loop-shelf-smaller-in-NotLower c).After-from-next

-- with the shelf at hand, of which the new best is known
goes : (c : After-from-next) (new : Option Candidate) → new ≡ better c.loop-shelf.best (offered c.args.records.now c.args.width c.args.height c.loop-shelf.shelf)
    → Passes shelf_chain.next c.args.records.now.shelves (shelf_walk c.args.records.now).met (λ shelves. lowest (map (offered c.args.records.now c.args.width c.args.height) shelves)) new (link_of c.from-next.result) (c.loop-shelf.invariant.walks.steps + 1)
goes c new is =
    let records = c.args.records.now in
    let shelf = c.loop-shelf.shelf in
    walk-goes shelf_chain.next records.shelves (shelf_walk records).met (λ shelves. lowest (map (offered records c.args.width c.args.height) shelves)) c.loop-shelf.best new (link_of shelf) (link_of c.from-next.result) shelf c.loop-shelf.invariant.walks.steps c.loop-shelf.invariant.walks.walk
    (named shelf c.loop-shelf-test.true)
    (next-is c)
    (λ passed holds.
    is
    ∙ ap (λ best. better best (offered records c.args.width c.args.height shelf)) holds
    ∙ sym (lowest-more (offered records c.args.width c.args.height) passed shelf))

pub loop-shelf-preserved : goal.loop-shelf-preserved
loop-shelf-preserved c =
    let records = c.args.records.now in
    let shelf = c.loop-shelf.shelf in
    let looked = c.look_at.ensures.looked c.loop-shelf.best c.loop-shelf.invariant.limit in
    record {
      walks = record {
        steps = c.loop-shelf.invariant.walks.steps + 1;
        walk =
            goes (goal.at.loop-shelf-preserved c).After-from-next (Some c.in-Lower.candidate)
            (sym (subst (IsLooked c.loop-shelf.best (offered records c.args.width c.args.height shelf)) c.in-Lower.is looked));
      };
      limit = refl;
      left = omega (arith, c.loop-shelf.invariant.left, c.look_at.ensures.few, suc-mul c.loop-shelf.invariant.walks.steps (length records.items));
      small = omega (arith, c.from-next.ensures);
    }

pub loop-shelf-preserved-in-NotLower : goal.loop-shelf-preserved-in-NotLower
loop-shelf-preserved-in-NotLower c =
    let records = c.args.records.now in
    let shelf = c.loop-shelf.shelf in
    let looked = c.look_at.ensures.looked c.loop-shelf.best c.loop-shelf.invariant.limit in
    record {
      walks = record {
        steps = c.loop-shelf.invariant.walks.steps + 1;
        walk =
            goes (goal.at.loop-shelf-preserved-in-NotLower c).After-from-next c.loop-shelf.best
            (sym (subst (IsLooked c.loop-shelf.best (offered records c.args.width c.args.height shelf)) c.in-NotLower.is looked));
      };
      limit = c.loop-shelf.invariant.limit;
      left = omega (arith, c.loop-shelf.invariant.left, c.look_at.ensures.few, suc-mul c.loop-shelf.invariant.walks.steps (length records.items));
      small = omega (arith, c.from-next.ensures);
    }
