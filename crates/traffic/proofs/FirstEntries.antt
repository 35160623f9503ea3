-- Entries of allocations, one by one.
use Rattle.std.proofs.Common.{◌≡◌, ℕ, ◌+◌, ◌<◌, Some, List, [], ◌∷◌, ◌++◌, length, get_or, take, refl, ap, sym, ◌∙◌, arith}
use Rattle.std.proofs.lemmas.List.{length-take-le, take_more}
use Rattle.etagere_base.specs.declared.ids.Allocation.{Allocation}
use Rattle.etagere_run.specs.Answers.Live.{Entry, live_allocations}
use Rattle.etagere_run.specs.Answers.Private.Given.{with_entry}
use Rattle.traffic.specs.Ledgers.{entries_from}

-- the entries of one more allocation
entries-append : (position : ℕ) (front : List Allocation) (allocation : Allocation)
    → entries_from position (front ++ allocation ∷ [])
    ≡ entries_from position front ++ record { position = position + length front; allocation = allocation } ∷ []
entries-append position [] allocation =
    ap (λ n. record { position = n; allocation = allocation } ∷ []) (omega arith)
entries-append position (first ∷ front) allocation =
    let at : (position + 1) + length front ≡ position + length (first ∷ front) = omega arith in
    ap (λ (l : List Entry). record { position = position; allocation = first } ∷ l)
    (entries-append (position + 1) front allocation
    ∙ ap (λ n. entries_from (position + 1) front ++ record { position = n; allocation = allocation } ∷ []) at)

-- the entries with one more in a ledger
pub entries-more : (allocations : List Allocation) (position : ℕ) (allocation : Allocation) → position < length allocations
    → allocation ≡ get_or allocations position allocation
    → with_entry position (Some allocation) (entries_from 0 (take position allocations))
    ≡ entries_from 0 (take (position + 1) allocations)
entries-more allocations position allocation within is =
    let front = take position allocations in
    let here : 0 + length front ≡ position = omega (arith, length-take-le position allocations (omega arith)) in
    let more : take (position + 1) allocations ≡ front ++ allocation ∷ [] =
    take_more allocations position allocation within ∙ ap (λ (a : Allocation). front ++ a ∷ []) (sym is) in
    sym (ap (entries_from 0) more ∙ entries-append 0 front allocation
    ∙ ap (λ n. entries_from 0 front ++ record { position = n; allocation = allocation } ∷ []) here)

-- the allocations of such entries are those that were there
pub live-first : (position : ℕ) (allocations : List Allocation) → live_allocations (entries_from position allocations) ≡ allocations
live-first position [] = refl
live-first position (allocation ∷ allocations) =
    ap (λ (l : List Allocation). allocation ∷ l) (live-first (position + 1) allocations)
