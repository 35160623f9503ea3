-- A list that links spell is what a walk meets, and what a walk meets is a list that links spell.
use Rattle.std.proofs.Common.{◌≡◌, ◌≢◌, ℕ, zero, suc, ◌<◌, ◌≤◌, Bool, true, false, Option, Some, List, [], ◌∷◌, ◌++◌, length, refl, ap, arith, append_assoc, append-nil, ◌∙◌}
use Rattle.std.specs.Prelude.{◌==◌, slice_index, if◌then◌else◌}
use Rattle.etagere_links.specs.Chains.{Leads, IsList}
use Rattle.etagere_links.specs.Links.{no_link, link_of, bits_of}
use Rattle.etagere_base.specs.Lists.{times}
use Rattle.etagere_links.specs.Walks.{Walked, is_end, walked_from, walk}
use Rattle.etagere_links.proofs.Chains.{Leads-append}
use Rattle.etagere_links.proofs.Tallies.{length-once}
use Rattle.etagere_base.proofs.TimesLemmas.{times-append}
use Rattle.etagere_links.proofs.ListEnds.{times-here, times-other}
use Rattle.etagere_links.proofs.WalkSteps.{has, walked_from-end, walked_from-step}

-- a number that does not stand in a list is not found in it
has-absent : (number : ℕ) (xs : List ℕ) → times number xs ≡ 0 → has number xs ≡ false
has-absent number [] absent = refl
has-absent number (x ∷ xs) absent = grind (arith, has-absent number xs (omega (arith, absent)))

-- a number that is not found in a list does not stand in it
absent-has : (number : ℕ) (xs : List ℕ) → has number xs ≡ false → times number xs ≡ 0
absent-has number [] absent = refl
absent-has number (x ∷ xs) absent =
    let other : x ≢ number = λ e. let here : (x == number) ≡ true = grind arith in cc in
    let rest : times number xs ≡ 0 = absent-has number xs (grind (arith, absent)) in
    times-other number x xs other ∙ rest

-- a walk goes on before a record that it has not met
goes-on : (links met : List ℕ) (at : ℕ) → at < length links → length links ≤ no_link → times at met ≡ 0 → is_end links met at ≡ false
goes-on links met at within few fresh = grind (arith, has-absent at met fresh)

-- the rest of a walk along links that spell a list
walked-list : (links : List ℕ) (next : ℕ → Option ℕ) → ((k : ℕ) → k < length links → slice_index links k ≡ bits_of (next k)) → length links ≤ no_link → (steps : ℕ) (met xs : List ℕ) (start : Option ℕ) → length xs ≤ steps → ((k : ℕ) → times k (met ++ xs) ≤ 1) → ((k : ℕ) → 1 ≤ times k xs → k < length links) → IsList next start xs → walked_from steps links met (bits_of start) ≡ record { met = met ++ xs; end = no_link }
walked-list links next reads few steps met [] start enough once within list =
    let stops : is_end links met no_link ≡ true = grind arith in
    rw (list, append-nil) (walked_from-end steps links met no_link stops)
walked-list links next reads few zero met (x ∷ xs) start enough once within list = absurd (omega arith)
walked-list links next reads few (suc steps) met (x ∷ xs) start enough once within list =
    let here : x < length links = within x (omega (arith, times-here x xs)) in
    let fresh : times x met ≡ 0 = omega (arith, once x, times-here x xs, times-append x met (x ∷ xs)) in
    let moved : (met ++ x ∷ []) ++ xs ≡ met ++ x ∷ xs = append_assoc met (x ∷ []) xs in
    let rest : walked_from steps links (met ++ x ∷ []) (bits_of (next x)) ≡ record { met = (met ++ x ∷ []) ++ xs; end = no_link } =
    walked-list links next reads few steps (met ++ x ∷ []) xs (next x) (omega arith)
    (λ k. rw moved (once k)) (λ k stands. within k (omega (arith, stands))) list.1 in
    rw list.0
    (walked_from-step (suc steps) steps links met x (goes-on links met x here few fresh) refl
    ∙ ap (λ at. walked_from steps links (met ++ x ∷ []) at) (reads x here)
    ∙ rest
    ∙ ap (λ all. record { met = all; end = no_link }) moved)

-- a walk along links that spell a list meets just that list, and ends at none
pub list-walk : (links : List ℕ) (next : ℕ → Option ℕ) (xs : List ℕ) (start : Option ℕ) → ((k : ℕ) → k < length links → slice_index links k ≡ bits_of (next k)) → length links ≤ no_link → ((k : ℕ) → times k xs ≤ 1) → ((k : ℕ) → 1 ≤ times k xs → k < length links) → IsList next start xs → walk links (bits_of start) ≡ record { met = xs; end = no_link }
list-walk links next xs start reads few once within list =
    walked-list links next reads few (length links) [] xs start (length-once (length links) xs once within) once within list

-- where a walk came to: links lead through what it met to the link at which it stopped, and what it met differs
pub record IsWalked (links : List ℕ) (start : ℕ) (walked : Walked) : Type 0 where
  pub leads : Leads (λ k. link_of (slice_index links k)) (link_of start) walked.met (link_of walked.end)
  pub once : (k : ℕ) → times k walked.met ≤ 1
  pub within : (k : ℕ) → 1 ≤ times k walked.met → k < length links

-- one more at the end of what differs, and is below a length
one-more : (length_ : ℕ) (met : List ℕ) (at k : ℕ) → at < length_ → times at met ≡ 0 → times k met ≤ 1 → (1 ≤ times k met → k < length_) → (times k (met ++ at ∷ []) ≤ 1) × (1 ≤ times k (met ++ at ∷ []) → k < length_)
one-more length_ met at k here fresh once within = by_test (at == k) refl
  where
    by_test : (b : Bool) → (at == k) ≡ b → (times k (met ++ at ∷ []) ≤ 1) × (1 ≤ times k (met ++ at ∷ []) → k < length_)
    by_test true e =
        let same : at ≡ k = grind arith in
        let none : times k met ≡ 0 = rw same at fresh in
        let count_one : times k (at ∷ []) ≡ 1 = rw same (times-here k []) in
        (omega (arith, none, times-append k met (at ∷ []), count_one), λ stands. rw (← same) here)
    by_test false e =
        let other : at ≢ k = grind arith in
        let count : times k (met ++ at ∷ []) ≡ times k met = grind (arith, times-append k met (at ∷ []), times-other k at [] other) in
        (omega (arith, count, once), λ stands. within (omega (arith, count, stands)))

-- the rest of a walk goes on from where it came to
walked-on : (links : List ℕ) (start : ℕ) → length links ≤ no_link → (steps : ℕ) (met : List ℕ) (at : ℕ) → IsWalked links start (record { met = met; end = at }) → IsWalked links start (walked_from steps links met at)
walked-on links start few zero met at so_far = so_far
walked-on links start few (suc steps) met at so_far = by_test (is_end links met at) refl (walked-on links start few steps (met ++ at ∷ []) (slice_index links at))
  where
    by_test : (b : Bool) → is_end links met at ≡ b → (IsWalked links start (record { met = met ++ at ∷ []; end = slice_index links at }) → IsWalked links start (walked_from steps links (met ++ at ∷ []) (slice_index links at))) → IsWalked links start (if b then record { met = met; end = at } else walked_from steps links (met ++ at ∷ []) (slice_index links at))
    by_test true e later = so_far
    by_test false e later =
        let here : at < length links = grind (arith, e) in
        let unmet : has at met ≡ false = grind (arith, e) in
        let fresh : times at met ≡ 0 = absent-has at met unmet in
        let names : link_of at ≡ Some at = grind arith in
        later (record {
          leads = Leads-append (λ k. link_of (slice_index links k)) met (at ∷ []) (link_of start) (link_of at) (link_of (slice_index links at)) so_far.leads (names, refl);
          once = λ k. (one-more (length links) met at k here fresh (so_far.once k) (so_far.within k)).0;
          within = λ k. (one-more (length links) met at k here fresh (so_far.once k) (so_far.within k)).1;
        })

-- links lead through what a walk met to the link at which it stopped; what it met differs, and is records
pub walk-leads : (links : List ℕ) (start : ℕ) → length links ≤ no_link → IsWalked links start (walk links start)
walk-leads links start few =
    walked-on links start few (length links) [] start
    (record { leads = refl; once = λ k. omega arith; within = λ k stands. absurd (omega (arith, stands)) })
