-- A walk through a snapshot that is refused says which rule is broken.
use Rattle.std.proofs.Common.{◌≡◌, ◌≢◌, ℕ, zero, suc, ◌+◌, ◌<◌, ◌≤◌, Bool, List, [], ◌∷◌, ◌++◌, length, get_or, map, take, refl, ap, arith, sym, subst}
use Rattle.std.specs.Prelude.{not}
use Rattle.std.specs.List.{AllByRecursion}
use Rattle.etagere_base.specs.Lists.{times}
use Rattle.etagere_base.proofs.TimesLemmas.{times-append}
use Rattle.etagere_links.specs.declared.marking.WalkFault.{WalkFault}
use Rattle.etagere_links.specs.declared.marking.WalkFault.TheVariants.{OutOfRange, Marked, Circular, Memory}
use Rattle.etagere_links.specs.Links.{no_link}
use Rattle.etagere_links.specs.Marks.{HasTwice, IsMarkedBy}
use Rattle.shelf_records.specs.RecordLists.{Records, Entry, free_walk, item_numbers, item_walk, shelf_walk, unused_item_walk, unused_shelf_walk, walked_entry}
use Rattle.etagere_links.specs.Lists.{HasEachOnce}
use Rattle.etagere_links.specs.WalkFaults.{BreaksOff, restore_fault}
use Rattle.etagere_links.specs.Walks.{Walked}
use Rattle.etagere_links.proofs.WalkedLists.{once-part}
use Rattle.shelf_records.specs.AtlasRecords.{AtlasRecords, is_allocated_at, walked_entries}
use Rattle.shelf_records.specs.Private.Restoring.{chain_entry, free_fault, free_numbers}
use Rattle.shelf_records.specs.Snapshots.{IsBroken}
use Rattle.shelf_records.specs.StandsFor.{HasFreeList, HasItemLinks, HasLinks, IsShared, StopsInRange}
use Rattle.shelf_records.proofs.Spelled.StandsLinked.{filter-times}

-- a walk that stops at a number past the records does not stop in range
not-in-range : (count : ℕ) (walked : Walked) → walked.end ≢ no_link → count ≤ walked.end → StopsInRange count walked → ⊥
not-in-range count walked other past stops = grind (arith, stops)

-- what stands twice in a part does not stand once in the whole
not-twice : (count : ℕ) (xs all : List ℕ) → HasTwice xs → ((k : ℕ) → times k xs ≤ times k all) → HasEachOnce count all → ⊥
not-twice count xs all twice part once = omega (arith, twice.1, (once-part count all twice.0 (times twice.0 xs) once (part twice.0)).0)

-- the walk along the shelves in use is refused
pub shelves-broken : (atlas : AtlasRecords) (marks : List Bool) (fault : WalkFault)
    → BreaksOff marks (length atlas.records.shelves) (shelf_walk atlas.records) fault → IsMarkedBy marks [] → IsBroken atlas (restore_fault fault)
shelves-broken atlas marks OutOfRange breaks marked = λ (links : HasLinks atlas).
    not-in-range (length atlas.records.shelves) (shelf_walk atlas.records) breaks.0 breaks.1 links.shelves
shelves-broken atlas marks Marked breaks marked = λ (shared : IsShared atlas).
    not-twice (length atlas.records.shelves) (shelf_walk atlas.records).met ((shelf_walk atlas.records).met ++ (unused_shelf_walk atlas.records).met)
    (breaks [] marked) (λ k. omega (arith, times-append k (shelf_walk atlas.records).met (unused_shelf_walk atlas.records).met)) shared.shelves
shelves-broken atlas marks Circular breaks marked = λ (shared : IsShared atlas). breaks shared.shelf_end
shelves-broken atlas marks Memory breaks marked = tt

-- the walk along the unused shelves is refused
pub unused_shelves-broken : (atlas : AtlasRecords) (marks : List Bool) (fault : WalkFault)
    → BreaksOff marks (length atlas.records.shelves) (unused_shelf_walk atlas.records) fault → IsMarkedBy marks (shelf_walk atlas.records).met
    → IsBroken atlas (restore_fault fault)
unused_shelves-broken atlas marks OutOfRange breaks marked = λ (links : HasLinks atlas).
    not-in-range (length atlas.records.shelves) (unused_shelf_walk atlas.records) breaks.0 breaks.1 links.unused_shelves
unused_shelves-broken atlas marks Marked breaks marked = λ (shared : IsShared atlas).
    not-twice (length atlas.records.shelves) ((shelf_walk atlas.records).met ++ (unused_shelf_walk atlas.records).met) ((shelf_walk atlas.records).met ++ (unused_shelf_walk atlas.records).met)
    (breaks (shelf_walk atlas.records).met marked) (λ k. omega arith) shared.shelves
unused_shelves-broken atlas marks Circular breaks marked = λ (shared : IsShared atlas). breaks shared.unused_shelf_end
unused_shelves-broken atlas marks Memory breaks marked = tt

-- the walk along the unused items is refused
pub unused_items-broken : (atlas : AtlasRecords) (marks : List Bool) (fault : WalkFault)
    → BreaksOff marks (length atlas.records.items) (unused_item_walk atlas.records) fault → IsMarkedBy marks [] → IsBroken atlas (restore_fault fault)
unused_items-broken atlas marks OutOfRange breaks marked = λ (links : HasLinks atlas).
    not-in-range (length atlas.records.items) (unused_item_walk atlas.records) breaks.0 breaks.1 links.unused_items
unused_items-broken atlas marks Marked breaks marked = λ (shared : IsShared atlas).
    not-twice (length atlas.records.items) (unused_item_walk atlas.records).met (item_numbers (walked_entries atlas) ++ (unused_item_walk atlas.records).met)
    (breaks [] marked) (λ k. omega (arith, times-append k (item_numbers (walked_entries atlas)) (unused_item_walk atlas.records).met)) shared.items
unused_items-broken atlas marks Circular breaks marked = λ (shared : IsShared atlas). breaks shared.unused_item_end
unused_items-broken atlas marks Memory breaks marked = tt

-- a fact of each image is a fact of the image of one
Each-image : {Y : Type 0} (P : Y → Type 0) (f : ℕ → Y) (xs : List ℕ) (i n : ℕ) → i < length xs → n ≡ get_or xs i 0 → AllByRecursion P (map f xs) → P (f n)
Each-image P f xs i n within is each =
    subst (λ (m : ℕ). P (f m)) (sym is) (at xs i within each)
  where
    at : (xs : List ℕ) (i : ℕ) → i < length xs → AllByRecursion P (map f xs) → P (f (get_or xs i 0))
    at [] i within each = absurd (omega arith)
    at (x ∷ xs) zero within each = each.0
    at (x ∷ xs) (suc i) within each = at xs i (omega arith) each.1

-- how often a number is an item of shelves, of which only the items matter
pub items-times : (records : Records) (numbers : List ℕ) (k : ℕ)
    → times k (item_numbers (map (chain_entry records) numbers)) ≡ times k (item_numbers (map (walked_entry records) numbers))
items-times records [] k = refl
items-times records (n ∷ ns) k =
    omega (arith, items-times records ns k, times-append k (item_walk records n).met (item_numbers (map (chain_entry records) ns)), times-append k (item_walk records n).met (item_numbers (map (walked_entry records) ns)))

-- how often a number is an item of shelves and of the next one: no more than of all
pub next-times : (records : Records) (numbers : List ℕ) (i n k : ℕ) → i < length numbers → n ≡ get_or numbers i 0
    → times k (item_numbers (map (chain_entry records) (take i numbers))) + times k (item_walk records n).met
    ≤ times k (item_numbers (map (walked_entry records) numbers))
next-times records [] i n k within is = absurd (omega arith)
next-times records (x ∷ xs) zero n k within is =
    let same : times k (item_walk records n).met ≡ times k (item_walk records x).met = ap (λ (m : ℕ). times k (item_walk records m).met) is in
    omega (arith, same, times-append k (item_walk records x).met (item_numbers (map (walked_entry records) xs)))
next-times records (x ∷ xs) (suc i) n k within is =
    omega (arith, next-times records xs i n k (omega arith) is, times-append k (item_walk records x).met (item_numbers (map (walked_entry records) xs)), times-append k (item_walk records x).met (item_numbers (map (chain_entry records) (take i xs))))

-- the walk along the items of the next shelf is refused
pub chain-broken : (atlas : AtlasRecords) (marks : List Bool) (numbers : List ℕ) (i n : ℕ) (fault : WalkFault) → numbers ≡ (shelf_walk atlas.records).met
    → i < length numbers → n ≡ get_or numbers i 0
    → BreaksOff marks (length atlas.records.items) (item_walk atlas.records n) fault
    → IsMarkedBy marks ((unused_item_walk atlas.records).met ++ item_numbers (map (chain_entry atlas.records) (take i numbers)))
    → IsBroken atlas (restore_fault fault)
chain-broken atlas marks numbers i n OutOfRange met within is breaks marked = λ (links : HasLinks atlas).
    let each : AllByRecursion (HasItemLinks atlas) (map (walked_entry atlas.records) numbers) = subst (λ (ns : List ℕ). AllByRecursion (HasItemLinks atlas) (map (walked_entry atlas.records) ns)) (sym met) links.each_shelf in
    not-in-range (length atlas.records.items) (item_walk atlas.records n) breaks.0 breaks.1 (Each-image (HasItemLinks atlas) (walked_entry atlas.records) numbers i n within is each).items
chain-broken atlas marks numbers i n Marked met within is breaks marked = λ (shared : IsShared atlas).
    let unused = (unused_item_walk atlas.records).met in
    let before = item_numbers (map (chain_entry atlas.records) (take i numbers)) in
    let all = item_numbers (map (walked_entry atlas.records) numbers) in
    let once : HasEachOnce (length atlas.records.items) (all ++ unused) = subst (λ (ns : List ℕ). HasEachOnce (length atlas.records.items) (item_numbers (map (walked_entry atlas.records) ns) ++ unused)) (sym met) shared.items in
    not-twice (length atlas.records.items) ((unused ++ before) ++ (item_walk atlas.records n).met) (all ++ unused) (breaks (unused ++ before) marked)
    (λ k. omega (arith, next-times atlas.records numbers i n k within is, times-append k (unused ++ before) (item_walk atlas.records n).met, times-append k unused before, times-append k all unused)) once
chain-broken atlas marks numbers i n Circular met within is breaks marked = λ (shared : IsShared atlas).
    breaks (Each-image (λ (entry : Entry). (item_walk atlas.records entry.number).end ≡ no_link) (walked_entry atlas.records) numbers i n within is
    (subst (λ (ns : List ℕ). AllByRecursion (λ (entry : Entry). (item_walk atlas.records entry.number).end ≡ no_link) (map (walked_entry atlas.records) ns)) (sym met) shared.item_ends))
chain-broken atlas marks numbers i n Memory met within is breaks marked = tt

-- a free item of a shelf is an item of it
free-items : (atlas : AtlasRecords) (n k : ℕ) → HasFreeList atlas (walked_entry atlas.records n) → times k (free_walk atlas.records n).met ≤ times k (item_walk atlas.records n).met
free-items atlas n k free = omega (arith, free.list.items k, filter-times (λ member. not (is_allocated_at atlas.records.items member)) (item_walk atlas.records n).met k)

-- how often a number is a free item of shelves and of the next one, where free items are items: no more than of all items
pub free-times : (atlas : AtlasRecords) (numbers : List ℕ) (i n k : ℕ) → AllByRecursion (HasFreeList atlas) (map (walked_entry atlas.records) numbers)
    → i < length numbers → n ≡ get_or numbers i 0
    → times k (free_numbers (map (walked_entry atlas.records) (take i numbers))) + times k (free_walk atlas.records n).met
    ≤ times k (item_numbers (map (walked_entry atlas.records) numbers))
free-times atlas [] i n k each within is = absurd (omega arith)
free-times atlas (x ∷ xs) zero n k each within is =
    let same : times k (free_walk atlas.records n).met ≡ times k (free_walk atlas.records x).met = ap (λ (m : ℕ). times k (free_walk atlas.records m).met) is in
    omega (arith, same, free-items atlas x k each.0, times-append k (item_walk atlas.records x).met (item_numbers (map (walked_entry atlas.records) xs)))
free-times atlas (x ∷ xs) (suc i) n k each within is =
    omega (arith, free-items atlas x k each.0, free-times atlas xs i n k each.1 (omega arith) is, times-append k (item_walk atlas.records x).met (item_numbers (map (walked_entry atlas.records) xs)), times-append k (free_walk atlas.records x).met (free_numbers (map (walked_entry atlas.records) (take i xs))))

-- the walk along the free list of the next shelf is refused
pub free-broken : (atlas : AtlasRecords) (marks : List Bool) (i n : ℕ) (fault : WalkFault)
    → HasEachOnce (length atlas.records.items) (item_numbers (walked_entries atlas) ++ (unused_item_walk atlas.records).met)
    → i < length (shelf_walk atlas.records).met → n ≡ get_or (shelf_walk atlas.records).met i 0
    → BreaksOff marks (length atlas.records.items) (free_walk atlas.records n) fault
    → IsMarkedBy marks (free_numbers (map (walked_entry atlas.records) (take i (shelf_walk atlas.records).met)))
    → IsBroken atlas (free_fault fault)
free-broken atlas marks i n OutOfRange once within is breaks marked = λ (links : HasLinks atlas).
    not-in-range (length atlas.records.items) (free_walk atlas.records n) breaks.0 breaks.1 (Each-image (HasItemLinks atlas) (walked_entry atlas.records) (shelf_walk atlas.records).met i n within is links.each_shelf).free_list
free-broken atlas marks i n Marked once within is breaks marked = λ (free : AllByRecursion (HasFreeList atlas) (walked_entries atlas)).
    let unused = (unused_item_walk atlas.records).met in
    let before = free_numbers (map (walked_entry atlas.records) (take i (shelf_walk atlas.records).met)) in
    let all = item_numbers (walked_entries atlas) in
    not-twice (length atlas.records.items) (before ++ (free_walk atlas.records n).met) (all ++ unused) (breaks before marked)
    (λ k. omega (arith, free-times atlas (shelf_walk atlas.records).met i n k free within is, times-append k before (free_walk atlas.records n).met, times-append k all unused)) once
free-broken atlas marks i n Circular once within is breaks marked = λ (free : AllByRecursion (HasFreeList atlas) (walked_entries atlas)).
    breaks (Each-image (HasFreeList atlas) (walked_entry atlas.records) (shelf_walk atlas.records).met i n within is free).ends
free-broken atlas marks i n Memory once within is breaks marked = tt
