-- Why what a walk meets is no list of records of its own.
use Rattle.std.specs.Prelude.{◌≡◌, ◌≢◌, ℕ, ◌≤◌, Bool, false, ◌&&◌, Option, None, Some, List, ◌++◌, length, nat_le, not, slice_index_or, ◌==◌, if◌then◌else◌}
use Rattle.std.specs.List.{list_any}
use Rattle.etagere_base.specs.declared.faults.RestoreFault.{RestoreFault}
use Rattle.etagere_base.specs.declared.faults.RestoreFault.TheVariants as faults
use Rattle.etagere_links.specs.declared.marking.WalkFault.{WalkFault}
use Rattle.etagere_links.specs.declared.marking.WalkFault.TheVariants.{OutOfRange, Marked, Circular, Memory}
use Rattle.etagere_links.specs.Links.{no_link}
use Rattle.etagere_links.specs.Marks.{HasTwice, IsMarkedBy}
use Rattle.etagere_links.specs.Walks.{Walked}

-- what is wrong first with a walk through so many records, of which these are marked, if anything is: it stops at a
-- number past the records, it meets one that was marked before, or it stops before one that it has met
abbrev pub first_fault : List Bool → ℕ → Walked → Option WalkFault
first_fault marks count walked =
    if not (walked.end == no_link) && nat_le count walked.end then Some OutOfRange
    else if list_any (λ number. slice_index_or marks number false) walked.met then Some Marked
    else if walked.end == no_link then None
    else Some Circular

-- a walk is refused for what is wrong with it first, or where memory ran out
abbrev pub IsFirst : List Bool → ℕ → Walked → WalkFault → Type 0
IsFirst marks count walked Memory = Unit {0}
IsFirst marks count walked fault = first_fault marks count walked ≡ Some fault

-- what each of them says of the lists that were marked
abbrev pub BreaksOff : List Bool → ℕ → Walked → WalkFault → Type 0
BreaksOff marks count walked OutOfRange = (walked.end ≢ no_link) × (count ≤ walked.end)
BreaksOff marks count walked Marked = (numbers : List ℕ) → IsMarkedBy marks numbers → HasTwice (numbers ++ walked.met)
BreaksOff marks count walked Circular = walked.end ≢ no_link
BreaksOff marks count walked Memory = Unit {0}

-- how many links a walk has read that is refused for this: none where there was no memory for it
abbrev pub links_by : Walked → WalkFault → ℕ
links_by walked Memory = 0
links_by walked fault = length walked.met

-- what is wrong with a snapshot where a walk along one of its lists is refused
abbrev pub restore_fault : WalkFault → RestoreFault
restore_fault OutOfRange = faults.Link
restore_fault Marked = faults.Sharing
restore_fault Circular = faults.Sharing
restore_fault Memory = faults.Memory
