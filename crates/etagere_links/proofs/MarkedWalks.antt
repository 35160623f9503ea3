-- What a walk is that came so far marking what it met.
use Rattle.std.proofs.Common.{◌≡◌, ◌≢◌, ℕ, ◌-◌, ◌<◌, ◌≤◌, Bool, true, false, ◌||◌, None, Some, List, ◌++◌, length, get_or, ap, arith, refl, subst, sym, ◌∙◌}
use Rattle.std.specs.List.{AllByRecursion}
use Rattle.std.specs.Prelude.{if◌then◌else◌}
use Rattle.etagere_base.proofs.TimesLemmas.{times-append}
use Rattle.etagere_base.specs.Lists.{times}
use Rattle.etagere_links.specs.declared.marking.WalkFault.TheVariants.{Circular, Marked}
use Rattle.etagere_links.specs.Links.{no_link}
use Rattle.etagere_links.specs.Marks.{HasTwice, IsMarkedBy}
use Rattle.etagere_links.specs.Private.Marking.{IsMarkedAlong}
use Rattle.etagere_links.specs.WalkFaults.{first_fault}
use Rattle.etagere_links.specs.Walks.{walk}
use Rattle.etagere_links.proofs.FirstFaults.{first-circular, first-marked, first-none}
use Rattle.etagere_links.proofs.LinkBits.{walk-below}
use Rattle.etagere_links.proofs.Tallies.{length-once}
use Rattle.etagere_links.proofs.WalkChains.{walk-leads}
use Rattle.etagere_links.proofs.WalkPrefixes.{front-each, goes-on, keeps-met, stays-put}
use Rattle.etagere_links.proofs.WalkSteps.{end-past, has, walked-end}

module _ (marks marks_then : List Bool) (links met : List ℕ) (start at : ℕ) (few : length links ≤ no_link) (along : IsMarkedAlong marks marks_then links start met at) where
  -- where it stops at none, it is the whole walk
  pub ends-there : at ≡ no_link → (met ≡ (walk links start).met) × (at ≡ (walk links start).end)
  ends-there none =
      walked-end (length links - length met) links met at (walk links start) along.rest
      (end-past links met at at refl (omega (arith, none, few)))

  -- what it met are records
  pub met-within : AllByRecursion (λ number. number < length links) met
  met-within =
      let first = keeps-met (length links - length met) links met at in
      let is : (walk links start).met ≡ met ++ first.more = ap (λ walked. walked.met) (sym along.rest) ∙ first.is in
      front-each (λ number. number < length links) met first.more (subst (AllByRecursion (λ number. number < length links)) is (walk-below links start few))

  -- each of them once
  pub met-once : (number : ℕ) → times number met ≤ 1
  met-once number =
      let first = keeps-met (length links - length met) links met at in
      let is : (walk links start).met ≡ met ++ first.more = ap (λ walked. walked.met) (sym along.rest) ∙ first.is in
      omega (arith, (walk-leads links start few).once number, ap (times number) is, times-append number met first.more)

  -- where the whole walk meets more, it goes on at a record that was marked
  pub goes-marked : length met < length (walk links start).met → (get_or marks at false ≡ true) × (1 ≤ times at (walk links start).met)
  goes-marked more =
      let goes = goes-on (length links - length met) links met at (omega (arith, more, ap (λ walked. length walked.met) along.rest)) in
      let within : at < length links = grind (arith, goes.onward) in
      let fresh : has at met ≡ false = grind (arith, goes.onward) in
      let was : (get_or marks at false || has at met) ≡ true = along.stops within (omega (arith, goes.left)) in
      (grind (arith, was, fresh), omega (arith, goes.meets, ap (λ walked. times at walked.met) along.rest))

  -- and so it meets with the marked ones some number twice
  pub meets-twice : length met < length (walk links start).met → (numbers : List ℕ) → IsMarkedBy marks numbers → HasTwice (numbers ++ (walk links start).met)
  meets-twice more numbers marked =
      let goes = goes-marked more in
      let once : times at numbers ≡ 1 = marked at ∙ ap (λ (b : Bool). if b then 1 else 0) goes.0 in
      (at, omega (arith, once, goes.1, times-append at numbers (walk links start).met))

  -- its fault, where it stops at no number past the records
  pub fault-marked : length met < length (walk links start).met → ((walk links start).end ≢ no_link → (walk links start).end < length links)
      → first_fault marks (length links) (walk links start) ≡ Some Marked
  fault-marked more within =
      first-marked marks (length links) (walk links start) within (walk-leads links start few).once (meets-twice more)

  -- where the whole walk meets no more, it stops there
  pub stops-there : length (walk links start).met ≤ length met → ((walk links start).met ≡ met) × ((walk links start).end ≡ at)
  stops-there none =
      let stays = stays-put (length links - length met) links met at (omega (arith, none, ap (λ walked. length walked.met) along.rest)) in
      (ap (λ walked. walked.met) (sym along.rest) ∙ stays.0, ap (λ walked. walked.end) (sym along.rest) ∙ stays.1)

  -- its fault, where it stops before a record
  pub fault-circular : length (walk links start).met ≤ length met → at ≢ no_link → (walk links start).end < length links
      → first_fault marks (length links) (walk links start) ≡ Some Circular
  fault-circular none other within =
      let stays = stops-there none in
      first-circular marks marks_then (length links) (walk links start) (λ e. other (sym stays.1 ∙ e)) within
      (λ numbers is. subst (λ (ns : List ℕ). IsMarkedBy marks_then (numbers ++ ns)) (sym stays.0) (along.marked numbers is))

  -- it has none where it stops at none
  pub fault-none : at ≡ no_link → first_fault marks (length links) (walk links start) ≡ None
  fault-none none =
      let ends = ends-there none in
      first-none marks marks_then (length links) (walk links start) (sym ends.1 ∙ none)
      (λ numbers is. subst (λ (ns : List ℕ). IsMarkedBy marks_then (numbers ++ ns)) ends.0 (along.marked numbers is))

  -- the whole walk meets no more than all records
  pub meets-few : length (walk links start).met ≤ length links
  meets-few = length-once (length links) (walk links start).met (walk-leads links start few).once (walk-leads links start few).within
