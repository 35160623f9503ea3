-- Where a walk that draws each record it meets has come to, step by step.
use Rattle.std.proofs.Common.{◌≡◌, ℕ, ◌+◌, ◌≤◌, Option, None, Some, List, length, arith}
use Rattle.std.specs.List.{flat_map}
use Rattle.pictures.specs.Gathering.{GathersMore, SendsBeginning}
use Rattle.etagere_base.specs.Lists.{times}
use Rattle.pictures.proofs.GatheringLemmas.{GathersAlong, along-begins, along-begun, along-ends, along-passed}
use Rattle.etagere_links.specs.Edits.{link_at}
use Rattle.etagere_links.proofs.ListEnds.{times-here}
use Rattle.shelf_records.proofs.AllLists.Following.{IsLeft, IsStep, all-left, none-left, step-left}

-- what is gathered so far and the lines of what is left make the lines of all
pub record DrawsAlong {T : Type 0} (next : T → Option ℕ) (records : List T) (line : ℕ → List ℕ) (all : List ℕ) (old : Option (List ℕ)) (gathered : List ℕ) (now : Option (List ℕ)) (more : List ℕ) (at : Option ℕ) (steps : ℕ) : Type 0 where
  pub rest : List ℕ
  pub left : IsLeft next records at steps rest
  pub members : (k : ℕ) → 1 ≤ times k rest → 1 ≤ times k all
  pub along : GathersAlong line old gathered now more rest all

module _ {T : Type 0} (next : T → Option ℕ) (records : List T) (line : ℕ → List ℕ) (all : List ℕ) (old : Option (List ℕ)) (gathered : List ℕ) where
  -- a walk begins with all
  pub walk-begins : (first at : Option ℕ) → IsLeft next records first 0 all → at ≡ first → DrawsAlong next records line all old gathered old gathered at 0
  walk-begins first at left begins =
      record { rest = all; left = rw begins left; members = λ k stands. stands; along = along-begins line old gathered all }

  -- at the end the lines of all are gathered
  pub walk-ends : (now : Option (List ℕ)) (more : List ℕ) (at : Option ℕ) (steps : ℕ) → DrawsAlong next records line all old gathered now more at steps → at ≡ None → GathersMore old gathered now more (flat_map line all)
  walk-ends now more at steps walk ends =
      along-ends line old gathered now more walk.rest all walk.along (none-left next records at steps walk.rest walk.left ends)

  -- after as many steps as there are records the lines of all are gathered
  pub walk-out : (now : Option (List ℕ)) (more : List ℕ) (at : Option ℕ) (steps : ℕ) → DrawsAlong next records line all old gathered now more at steps → length records ≤ steps → GathersMore old gathered now more (flat_map line all)
  walk-out now more at steps walk out =
      along-ends line old gathered now more walk.rest all walk.along (all-left next records at steps walk.rest walk.left out)

  -- the record at hand is one of all
  pub walk-here : (now : Option (List ℕ)) (more : List ℕ) (at : Option ℕ) (number steps : ℕ) → DrawsAlong next records line all old gathered now more at steps → at ≡ Some number → 1 ≤ times number all
  walk-here now more at number steps walk is =
      let step : IsStep next records number steps walk.rest = step-left next records at number steps walk.rest walk.left is in
      walk.members number (rw (step.whole) (omega (arith, times-here number step.others)))

  -- the record at hand was drawn
  pub walk-passed : (now new : Option (List ℕ)) (more most : List ℕ) (at after : Option ℕ) (number steps : ℕ) → DrawsAlong next records line all old gathered now more at steps → at ≡ Some number → GathersMore now more new most (line number) → after ≡ link_at next records number → DrawsAlong next records line all old gathered new most after (steps + 1)
  walk-passed now new more most at after number steps walk is drawn follows =
      let step : IsStep next records number steps walk.rest = step-left next records at number steps walk.rest walk.left is in
      record {
        rest = step.others;
        left = rw follows step.left;
        members = λ k stands. walk.members k (rw (step.whole) (omega (arith, stands)));
        along = along-passed line old gathered now new more most number walk.rest step.others all walk.along step.whole drawn;
      }

  -- a beginning went out of the line of the record at hand
  pub walk-begun : (now new : Option (List ℕ)) (more : List ℕ) (at : Option ℕ) (number steps : ℕ) → DrawsAlong next records line all old gathered now more at steps → at ≡ Some number → SendsBeginning now more new (line number) → SendsBeginning old gathered new (flat_map line all)
  walk-begun now new more at number steps walk is begins =
      let step : IsStep next records number steps walk.rest = step-left next records at number steps walk.rest walk.left is in
      along-begun line old gathered now new more number walk.rest step.others all walk.along step.whole begins
