-- A walk along links step by step, where what is known now is the value of the numbers that it has passed.
use Rattle.std.proofs.Common.{◌≡◌, ℕ, ◌+◌, ◌<◌, ◌≤◌, Option, None, Some, List, [], ◌∷◌, ◌++◌, append_assoc, append-nil, length, refl, ap, arith, sym, ◌∙◌}
use Rattle.std.proofs.lemmas.List.{length-append}
use Rattle.etagere_base.specs.Lists.{times}
use Rattle.etagere_base.proofs.TimesLemmas.{times-append}
use Rattle.etagere_links.specs.Edits.{link_at}
use Rattle.etagere_links.proofs.ListEnds.{times-here}
use Rattle.shelf_records.proofs.AllLists.Following.{IsLeft, IsStep, all-left, count_from, none-left, step-left, step-nearer}

-- where a walk has come to after so many steps, and what is known now
pub record Passes {T V : Type 0} (next : T → Option ℕ) (records : List T) (all : List ℕ) (value : List ℕ → V) (now : V) (at : Option ℕ) (steps : ℕ) : Type 0 where
  pub passed : List ℕ
  pub rest : List ℕ
  pub left : IsLeft next records at steps rest
  pub whole : passed ++ rest ≡ all
  pub count : length passed ≡ steps
  pub holds : now ≡ value passed

-- where a walk has come to after some steps
pub record Walks {T V : Type 0} (next : T → Option ℕ) (records : List T) (all : List ℕ) (value : List ℕ → V) (now : V) (at : Option ℕ) : Type 0 where
  pub steps : ℕ
  pub walk : Passes next records all value now at steps

-- the record at hand: what was passed before it, and what comes after
pub record Meets {T V : Type 0} (records : List T) (all : List ℕ) (value : List ℕ → V) (now : V) (number steps : ℕ) : Type 0 where
  pub passed : List ℕ
  pub others : List ℕ
  pub whole : passed ++ number ∷ others ≡ all
  pub count : length passed ≡ steps
  pub holds : now ≡ value passed
  pub here : number < length records
  pub stands : 1 ≤ times number all

module _ {T V : Type 0} (next : T → Option ℕ) (records : List T) (all : List ℕ) (value : List ℕ → V) where
  -- a walk begins with nothing passed
  pub walk-starts : (first at : Option ℕ) (now : V) → IsLeft next records first 0 all → at ≡ first → now ≡ value [] → Passes next records all value now at 0
  walk-starts first at now left begins holds =
      record { passed = []; rest = all; left = rw begins left; whole = refl; count = refl; holds = holds }

  -- with nothing left, all was passed
  all-passed : (now : V) (passed rest : List ℕ) → passed ++ rest ≡ all → rest ≡ [] → now ≡ value passed → now ≡ value all
  all-passed now passed rest whole none holds = holds ∙ ap value (sym (append-nil passed) ∙ ap (λ l. passed ++ l) (sym none) ∙ whole)

  -- at the end all was passed
  pub walk-stops : (now : V) (at : Option ℕ) (steps : ℕ) → Passes next records all value now at steps → at ≡ None → now ≡ value all
  walk-stops now at steps walk ends =
      all-passed now walk.passed walk.rest walk.whole (none-left next records at steps walk.rest walk.left ends) walk.holds

  -- and after as many steps as there are records
  pub walk-spent : (now : V) (at : Option ℕ) (steps : ℕ) → Passes next records all value now at steps → length records ≤ steps → now ≡ value all
  walk-spent now at steps walk out =
      all-passed now walk.passed walk.rest walk.whole (all-left next records at steps walk.rest walk.left out) walk.holds

  -- the record at hand
  pub walk-meets : (now : V) (at : Option ℕ) (number steps : ℕ) → Passes next records all value now at steps → at ≡ Some number → Meets records all value now number steps
  walk-meets now at number steps walk is =
      let step : IsStep next records number steps walk.rest = step-left next records at number steps walk.rest walk.left is in
      let whole : walk.passed ++ number ∷ step.others ≡ all = ap (λ l. walk.passed ++ l) (sym step.whole) ∙ walk.whole in
      record {
        passed = walk.passed;
        others = step.others;
        whole = whole;
        count = walk.count;
        holds = walk.holds;
        here = step.here;
        stands = omega (arith, ap (times number) whole, times-append number walk.passed (number ∷ step.others), times-here number step.others);
      }

  -- where one is at hand, fewer steps were made than there are records
  pub walk-few : (now : V) (at : Option ℕ) (number steps : ℕ) → Passes next records all value now at steps → at ≡ Some number → steps < length records
  walk-few now at number steps walk is =
      let step : IsStep next records number steps walk.rest = step-left next records at number steps walk.rest walk.left is in
      omega (arith, walk.left.enough, ap length step.whole)

  -- the record at hand was passed
  pub walk-goes : (now new : V) (at after : Option ℕ) (number steps : ℕ) → Passes next records all value now at steps → at ≡ Some number → after ≡ link_at next records number
      → ((passed : List ℕ) → now ≡ value passed → new ≡ value (passed ++ number ∷ [])) → Passes next records all value new after (steps + 1)
  walk-goes now new at after number steps walk is follows more =
      let step : IsStep next records number steps walk.rest = step-left next records at number steps walk.rest walk.left is in
      record {
        passed = walk.passed ++ number ∷ [];
        rest = step.others;
        left = rw follows step.left;
        whole = append_assoc walk.passed (number ∷ []) step.others ∙ ap (λ l. walk.passed ++ l) (sym step.whole) ∙ walk.whole;
        count = omega (arith, length-append walk.passed (number ∷ []), walk.count);
        holds = more walk.passed walk.holds;
      }

  -- a step leaves fewer, where no number stands twice
  pub walk-nearer : (now : V) (at : Option ℕ) (number steps : ℕ) → Passes next records all value now at steps → ((k : ℕ) → times k all ≤ 1) → at ≡ Some number → count_from (link_at next records number) all < count_from at all
  walk-nearer now at number steps walk once is =
      rw (← walk.whole) (step-nearer next records at number steps walk.passed walk.rest (λ k. rw walk.whole (once k)) walk.left is)
