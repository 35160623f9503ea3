-- A walk that goes on keeps what it has met.
use Rattle.std.proofs.Common.{◌≡◌, ℕ, zero, suc, ◌<◌, ◌≤◌, Bool, true, false, List, [], ◌∷◌, ◌++◌, length, refl, ap, arith, sym, append-nil, append_assoc, ◌∙◌}
use Rattle.std.proofs.lemmas.List.{length-append}
use Rattle.std.specs.List.{AllByRecursion}
use Rattle.std.specs.Prelude.{slice_index}
use Rattle.etagere_base.proofs.TimesLemmas.{times-append}
use Rattle.etagere_base.specs.Lists.{times}
use Rattle.etagere_links.specs.Walks.{is_end, walked_from}
use Rattle.etagere_links.proofs.ListEnds.{times-here}
use Rattle.etagere_links.proofs.WalkSteps.{walked_from-end, walked_from-step}

-- a list goes on from another
pub record GoesOnFrom (met whole : List ℕ) : Type 0 where
  pub more : List ℕ
  pub is : whole ≡ met ++ more

-- what a walk has met stands first in what it meets
pub keeps-met : (steps : ℕ) (links met : List ℕ) (at : ℕ) → GoesOnFrom met (walked_from steps links met at).met
keeps-met zero links met at = record { more = []; is = sym (append-nil met) }
keeps-met (suc steps) links met at = by_test (is_end links met at) refl (keeps-met steps links (met ++ at ∷ []) (slice_index links at))
  where
    by_test : (b : Bool) → is_end links met at ≡ b → GoesOnFrom (met ++ at ∷ []) (walked_from steps links (met ++ at ∷ []) (slice_index links at)).met
        → GoesOnFrom met (walked_from (suc steps) links met at).met
    by_test true stops later = record { more = []; is = ap (λ walked. walked.met) (walked_from-end (suc steps) links met at stops) ∙ sym (append-nil met) }
    by_test false goes later =
        record { more = at ∷ later.more; is = ap (λ walked. walked.met) (walked_from-step (suc steps) steps links met at goes refl) ∙ later.is ∙ append_assoc met (at ∷ []) later.more }

-- a walk that meets no more stops where it is
pub stays-put : (steps : ℕ) (links met : List ℕ) (at : ℕ) → length (walked_from steps links met at).met ≤ length met
    → ((walked_from steps links met at).met ≡ met) × ((walked_from steps links met at).end ≡ at)
stays-put zero links met at none = (refl, refl)
stays-put (suc steps) links met at none = by_test (is_end links met at) refl
  where
    by_test : (b : Bool) → is_end links met at ≡ b → ((walked_from (suc steps) links met at).met ≡ met) × ((walked_from (suc steps) links met at).end ≡ at)
    by_test true stops =
        let same = walked_from-end (suc steps) links met at stops in
        (ap (λ walked. walked.met) same, ap (λ walked. walked.end) same)
    by_test false goes =
        let later = keeps-met steps links (met ++ at ∷ []) (slice_index links at) in
        let whole = ap (λ walked. walked.met) (walked_from-step (suc steps) steps links met at goes refl) ∙ later.is in
        absurd (omega (
          arith,
          none,
          ap length whole,
          length-append (met ++ at ∷ []) later.more,
          length-append met (at ∷ []),
        ))

-- one that meets more goes on at the link where it is
pub record GoesOn (steps : ℕ) (links met : List ℕ) (at : ℕ) : Type 0 where
  pub left : 1 ≤ steps
  pub onward : is_end links met at ≡ false
  pub meets : 1 ≤ times at (walked_from steps links met at).met

pub goes-on : (steps : ℕ) (links met : List ℕ) (at : ℕ) → length met < length (walked_from steps links met at).met → GoesOn steps links met at
goes-on zero links met at more = absurd (omega (arith, more))
goes-on (suc steps) links met at more = by_test (is_end links met at) refl
  where
    by_test : (b : Bool) → is_end links met at ≡ b → GoesOn (suc steps) links met at
    by_test true stops =
        absurd (omega (arith, more, ap (λ walked. length walked.met) (walked_from-end (suc steps) links met at stops)))
    by_test false goes =
        let later = keeps-met steps links (met ++ at ∷ []) (slice_index links at) in
        let whole = ap (λ walked. walked.met) (walked_from-step (suc steps) steps links met at goes refl) ∙ later.is in
        record {
          left = omega arith;
          onward = goes;
          meets = omega (
            arith,
            ap (times at) whole,
            times-append at (met ++ at ∷ []) later.more,
            times-append at met (at ∷ []),
            times-here at [],
          );
        }

-- what all of a list keep, those at its front do
pub front-each : (P : ℕ → Type 0) (met more : List ℕ) → AllByRecursion P (met ++ more) → AllByRecursion P met
front-each P [] more each = tt
front-each P (number ∷ met) more each = (each.0, front-each P met more each.1)
