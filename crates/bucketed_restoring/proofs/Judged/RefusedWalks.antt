-- What a walk that was refused says of a snapshot.
use Rattle.std.proofs.Common.{◌≡◌, ℕ, ◌+◌, Bool, true, false, List, length, arith, refl, ◌==◌}
use Rattle.std.proofs.lemmas.Bool.{eqb-true, ltb-true}
use Rattle.std.specs.Prelude.{IsTrue, ◌||◌, nat_lt}
use Rattle.etagere_links.specs.declared.marking.WalkFault.{WalkFault}
use Rattle.etagere_links.specs.declared.marking.WalkFault.TheVariants.{OutOfRange, Marked, Circular, Memory}
use Rattle.etagere_links.specs.Links.{no_link}
use Rattle.etagere_links.specs.WalkFaults.{BreaksOff, links_by, restore_fault}
use Rattle.etagere_links.specs.Walks.{Walked}
use Rattle.bucketed_restoring.specs.Private.Walking.{BreaksWalk, StopsAfter}

-- the rule that it breaks
pub refused-breaks : (links : List ℕ) (marks : List Bool) (walked : Walked) (fault : WalkFault) → BreaksOff marks (length links) walked fault → BreaksWalk links marks walked (restore_fault fault)
refused-breaks links marks walked OutOfRange h = λ stops. by_end (walked.end == no_link) refl stops
  where
    by_end : (t : Bool) → (walked.end == no_link) ≡ t → IsTrue (t || nat_lt walked.end (length links)) → ⊥
    by_end true e stops = h.0 (eqb-true walked.end no_link e)
    by_end false e stops = omega (arith, h.1, ltb-true walked.end (length links) stops)
refused-breaks links marks walked Marked h = λ end. h
refused-breaks links marks walked Circular h = λ end. absurd (h end)
refused-breaks links marks walked Memory h = tt

-- how many links were read
pub refused-read : (before after : ℕ) (walked : Walked) (fault : WalkFault) → after ≡ before + links_by walked fault → StopsAfter (before + length walked.met) after (restore_fault fault)
refused-read before after walked OutOfRange h = h
refused-read before after walked Marked h = h
refused-read before after walked Circular h = h
refused-read before after walked Memory h = omega (arith, h)
