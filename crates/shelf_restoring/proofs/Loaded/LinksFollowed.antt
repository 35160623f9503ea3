-- How many links walks have followed: all, where each is along a list of its own, and else up to the first that isn't.
use Rattle.std.proofs.Common.{◌≡◌, ◌≢◌, ℕ, suc, ◌+◌, ◌<◌, ◌≤◌, Bool, true, false, Option, List, [], ◌∷◌, ◌++◌, append-nil, drop, get_or, length, map, take, refl, ap, arith, sym, subst, zero-add, ◌∙◌}
use Rattle.std.proofs.Math.Seq.{split_at}
use Rattle.std.proofs.lemmas.List.{length-map, map-append}
use Rattle.std.specs.Prelude.{if◌then◌else◌, nat_lt}
use Rattle.std.specs.List.{AllByRecursion}
use Rattle.etagere_base.specs.Lists.{times}
use Rattle.etagere_base.proofs.TimesLemmas.{times-append}
use Rattle.etagere_links.specs.declared.marking.WalkFault.{WalkFault}
use Rattle.etagere_links.specs.declared.marking.WalkFault.TheVariants.{OutOfRange, Marked, Circular, Memory}
use Rattle.etagere_links.specs.Links.{bits_of, no_link}
use Rattle.etagere_links.specs.LinksRead.{has_each, is_own, links_in, links_until}
use Rattle.etagere_links.specs.Marks.{IsMarkedBy}
use Rattle.shelf_records.specs.RecordLists.{Records, first_free_of, first_item_of, free_walk, item_numbers, item_walk, shelf_walk, unused_item_walk, unused_shelf_walk, walked_entry}
use Rattle.etagere_links.specs.Lists.{HasEachOnce}
use Rattle.etagere_links.specs.Walks.{walk_by, Walked}
use Rattle.shelf_records.specs.Records.{free_list, item_chain, shelf_chain}
use Rattle.etagere_links.specs.WalkFaults.{BreaksOff, links_by, restore_fault}
use Rattle.etagere_links.proofs.ReadLinks.{met_by, met_by-length, marked-once, not-told, once-told, own-once, until-all, until-fault, until-own, until-some}
use Rattle.etagere_links.proofs.WalkChains.{walk-leads}
use Rattle.shelf_records.specs.AtlasRecords.{AtlasRecords}
use Rattle.shelf_records.specs.Private.Restoring.{HasChain, HasFree, HasItemLists, HasShelfLists, chain_entry, free_fault, free_numbers}
use Rattle.shelf_restoring.specs.RestoringSteps.{StopsAfter, free_walks, item_walks, links_followed, links_of_all, shelf_walks}

-- so many links were followed before a walk is refused for this: fewer than all only where memory ran out
pub record IsStopped (all steps : ℕ) (fault : WalkFault) : Type 0 where
  pub exact : fault ≢ Memory → steps ≡ all
  pub bound : fault ≡ Memory → steps ≤ all

-- a walk along a chain is refused
pub chain-stops : (all steps : ℕ) (fault : WalkFault) → IsStopped all steps fault → StopsAfter all steps (restore_fault fault)
chain-stops all steps OutOfRange stopped = stopped.exact (λ e. cc)
chain-stops all steps Marked stopped = stopped.exact (λ e. cc)
chain-stops all steps Circular stopped = stopped.exact (λ e. cc)
chain-stops all steps Memory stopped = stopped.bound refl

-- a walk along a free list is refused
pub free-stops : (all steps : ℕ) (fault : WalkFault) → IsStopped all steps fault → StopsAfter all steps (free_fault fault)
free-stops all steps OutOfRange stopped = stopped.exact (λ e. cc)
free-stops all steps Marked stopped = stopped.exact (λ e. cc)
free-stops all steps Circular stopped = stopped.exact (λ e. cc)
free-stops all steps Memory stopped = stopped.bound refl

-- a walk meets a record once at most
pub walk-once : {T : Type 0} (link : T → Option ℕ) (records : List T) (start : Option ℕ) → length records ≤ no_link → (k : ℕ) → times k (walk_by link records start).met ≤ 1
walk-once {T} link records start few =
    let bits : T → ℕ = λ here. bits_of (link here) in
    let short : length (map bits records) ≤ no_link = rw (length-map records bits) few in
    (walk-leads (map bits records) (bits_of start) short).once

-- a walk is refused after others that were along lists of their own
pub refused-after : (count more from steps : ℕ) (before : List ℕ) (front back : List Walked) (walked : Walked) (marks : List Bool) (records : ℕ) (fault : WalkFault)
    → AllByRecursion (λ (walked : Walked). walked.end ≡ no_link) front → IsMarkedBy marks (before ++ met_by front) → BreaksOff marks records walked fault → ((k : ℕ) → times k walked.met ≤ 1)
    → steps ≡ from + links_in front + links_by walked fault → IsStopped (from + links_until count more before (front ++ walked ∷ back)) steps fault
refused-after count more from steps before front back walked marks records fault ends marked breaks once counted =
    record {
      exact = λ other. omega (arith, until-fault count more before front back walked marks records fault ends marked breaks once other, counted);
      bound = λ is. omega (arith, until-some count more before front back walked marks ends marked, subst (λ (f : WalkFault). steps ≡ from + links_in front + links_by walked f) is counted);
    }

-- walks, of which the first few stand in front of one
walks-split : (walk_of : ℕ → Walked) (numbers : List ℕ) (i : ℕ) → i < length numbers
    → map walk_of numbers ≡ map walk_of (take i numbers) ++ walk_of (get_or numbers i 0) ∷ map walk_of (drop (suc i) numbers)
walks-split walk_of numbers i within =
    ap (map walk_of) (split_at numbers i 0 within) ∙ map-append walk_of (take i numbers) (get_or numbers i 0 ∷ drop (suc i) numbers)

-- the walk of the next number is refused
next-refused : (walk_of : ℕ → Walked) (numbers : List ℕ) (i count more from here steps : ℕ) (before : List ℕ) (marks : List Bool) (records : ℕ) (fault : WalkFault) → i < length numbers
    → AllByRecursion (λ (walked : Walked). walked.end ≡ no_link) (map walk_of (take i numbers)) → IsMarkedBy marks (before ++ met_by (map walk_of (take i numbers)))
    → BreaksOff marks records (walk_of (get_or numbers i 0)) fault → ((k : ℕ) → times k (walk_of (get_or numbers i 0)).met ≤ 1)
    → here ≡ from + length (met_by (map walk_of (take i numbers))) → steps ≡ here + links_by (walk_of (get_or numbers i 0)) fault
    → IsStopped (from + links_until count more before (map walk_of numbers)) steps fault
next-refused walk_of numbers i count more from here steps before marks records fault within ends marked breaks once so_far counted =
    subst (λ (ws : List Walked). IsStopped (from + links_until count more before ws) steps fault) (sym (walks-split walk_of numbers i within))
    (refused-after count more from steps before (map walk_of (take i numbers)) (map walk_of (drop (suc i) numbers)) (walk_of (get_or numbers i 0)) marks records fault ends marked breaks once
    (omega (arith, so_far, counted, met_by-length (map walk_of (take i numbers)))))

-- the links that were followed with those of the next number are no more than all
next-within : (walk_of : ℕ → Walked) (numbers : List ℕ) (i count more from here steps : ℕ) (before : List ℕ) (marks : List Bool) → i < length numbers
    → AllByRecursion (λ (walked : Walked). walked.end ≡ no_link) (map walk_of (take i numbers)) → IsMarkedBy marks (before ++ met_by (map walk_of (take i numbers)))
    → here ≡ from + length (met_by (map walk_of (take i numbers))) → steps ≡ here + length (walk_of (get_or numbers i 0)).met
    → steps ≤ from + links_until count more before (map walk_of numbers)
next-within walk_of numbers i count more from here steps before marks within ends marked so_far counted =
    subst (λ (ws : List Walked). steps ≤ from + links_until count more before ws) (sym (walks-split walk_of numbers i within))
    (omega (
      arith,
      until-some count more before (map walk_of (take i numbers)) (map walk_of (drop (suc i) numbers)) (walk_of (get_or numbers i 0)) marks ends marked,
      met_by-length (map walk_of (take i numbers)),
      so_far,
      counted,
    ))

module _ (records : Records) where
  -- what the walks along chains met
  pub items-met : (numbers : List ℕ) → met_by (map (item_walk records) numbers) ≡ item_numbers (map (chain_entry records) numbers)
  items-met [] = refl
  items-met (n ∷ ns) = ap (λ (ms : List ℕ). (item_walk records n).met ++ ms) (items-met ns)

  -- what the walks along free lists met
  pub frees-met : (numbers : List ℕ) → met_by (map (free_walk records) numbers) ≡ free_numbers (map (walked_entry records) numbers)
  frees-met [] = refl
  frees-met (n ∷ ns) = ap (λ (ms : List ℕ). (free_walk records n).met ++ ms) (frees-met ns)

  -- the chains end
  pub chains-end : (numbers : List ℕ) → AllByRecursion (HasChain records) numbers → AllByRecursion (λ (walked : Walked). walked.end ≡ no_link) (map (item_walk records) numbers)
  chains-end [] each = tt
  chains-end (n ∷ ns) each = (each.0.end, chains-end ns each.1)

  -- the free lists end
  pub frees-end : (numbers : List ℕ) → AllByRecursion (HasFree records) numbers → AllByRecursion (λ (walked : Walked). walked.end ≡ no_link) (map (free_walk records) numbers)
  frees-end [] each = tt
  frees-end (n ∷ ns) each = (each.0.end, frees-end ns each.1)

  -- the walk along the chain of the next shelf is refused
  pub chain-refused : (numbers unused : List ℕ) (i more from here steps : ℕ) (marks : List Bool) (fault : WalkFault) → i < length numbers → length records.items ≤ no_link
      → AllByRecursion (HasChain records) (take i numbers) → IsMarkedBy marks (unused ++ item_numbers (map (chain_entry records) (take i numbers)))
      → BreaksOff marks (length records.items) (item_walk records (get_or numbers i 0)) fault
      → here ≡ from + length (item_numbers (map (chain_entry records) (take i numbers))) → steps ≡ here + links_by (item_walk records (get_or numbers i 0)) fault
      → StopsAfter (from + links_until (length records.items) more unused (map (item_walk records) numbers)) steps (restore_fault fault)
  chain-refused numbers unused i more from here steps marks fault within few chains marked breaks so_far counted =
      chain-stops (from + links_until (length records.items) more unused (map (item_walk records) numbers)) steps fault
      (next-refused (item_walk records) numbers i (length records.items) more from here steps unused marks (length records.items) fault within (chains-end (take i numbers) chains)
      (subst (λ (ns : List ℕ). IsMarkedBy marks (unused ++ ns)) (sym (items-met (take i numbers))) marked) breaks
      (walk-once item_chain.next records.items (first_item_of records.shelves (get_or numbers i 0)) few)
      (so_far ∙ ap (λ (ns : List ℕ). from + length ns) (sym (items-met (take i numbers)))) counted)

  -- memory is wanting once it was walked along
  pub chain-wanting : (numbers unused : List ℕ) (i more from here steps : ℕ) (marks : List Bool) → i < length numbers
      → AllByRecursion (HasChain records) (take i numbers) → IsMarkedBy marks (unused ++ item_numbers (map (chain_entry records) (take i numbers)))
      → here ≡ from + length (item_numbers (map (chain_entry records) (take i numbers))) → steps ≡ here + length (item_walk records (get_or numbers i 0)).met
      → steps ≤ from + links_until (length records.items) more unused (map (item_walk records) numbers)
  chain-wanting numbers unused i more from here steps marks within chains marked so_far counted =
      next-within (item_walk records) numbers i (length records.items) more from here steps unused marks within (chains-end (take i numbers) chains)
      (subst (λ (ns : List ℕ). IsMarkedBy marks (unused ++ ns)) (sym (items-met (take i numbers))) marked)
      (so_far ∙ ap (λ (ns : List ℕ). from + length ns) (sym (items-met (take i numbers)))) counted

  -- the walk along the free list of the next shelf is refused
  pub free-refused : (numbers : List ℕ) (i from here steps : ℕ) (marks : List Bool) (fault : WalkFault) → i < length numbers → length records.items ≤ no_link
      → AllByRecursion (HasFree records) (take i numbers) → IsMarkedBy marks (free_numbers (map (walked_entry records) (take i numbers)))
      → BreaksOff marks (length records.items) (free_walk records (get_or numbers i 0)) fault
      → here ≡ from + length (free_numbers (map (walked_entry records) (take i numbers))) → steps ≡ here + links_by (free_walk records (get_or numbers i 0)) fault
      → StopsAfter (from + links_until 0 0 [] (map (free_walk records) numbers)) steps (free_fault fault)
  free-refused numbers i from here steps marks fault within few frees marked breaks so_far counted =
      free-stops (from + links_until 0 0 [] (map (free_walk records) numbers)) steps fault
      (next-refused (free_walk records) numbers i 0 0 from here steps [] marks (length records.items) fault within (frees-end (take i numbers) frees)
      (subst (λ (ns : List ℕ). IsMarkedBy marks ns) (sym (frees-met (take i numbers))) marked) breaks
      (walk-once free_list.next records.items (first_free_of records.shelves (get_or numbers i 0)) few)
      (so_far ∙ ap (λ (ns : List ℕ). from + length ns) (sym (frees-met (take i numbers)))) counted)

  -- memory is wanting once it was walked along
  pub free-wanting : (numbers : List ℕ) (i from here steps : ℕ) (marks : List Bool) → i < length numbers
      → AllByRecursion (HasFree records) (take i numbers) → IsMarkedBy marks (free_numbers (map (walked_entry records) (take i numbers)))
      → here ≡ from + length (free_numbers (map (walked_entry records) (take i numbers))) → steps ≡ here + length (free_walk records (get_or numbers i 0)).met
      → steps ≤ from + links_until 0 0 [] (map (free_walk records) numbers)
  free-wanting numbers i from here steps marks within frees marked so_far counted =
      next-within (free_walk records) numbers i 0 0 from here steps [] marks within (frees-end (take i numbers) frees)
      (subst (λ (ns : List ℕ). IsMarkedBy marks ns) (sym (frees-met (take i numbers))) marked)
      (so_far ∙ ap (λ (ns : List ℕ). from + length ns) (sym (frees-met (take i numbers)))) counted

  -- the first of the walks is refused
  pub first-refused : (count more from steps : ℕ) (walked : Walked) (back : List Walked) (marks : List Bool) (fault : WalkFault) → IsMarkedBy marks [] → BreaksOff marks count walked fault
      → ((k : ℕ) → times k walked.met ≤ 1) → steps ≡ from + links_by walked fault → StopsAfter (from + links_until count more [] (walked ∷ back)) steps (restore_fault fault)
  first-refused count more from steps walked back marks fault unmarked breaks once counted =
      chain-stops (from + links_until count more [] (walked ∷ back)) steps fault
      (refused-after count more from steps [] [] back walked marks count fault tt unmarked breaks once (omega (arith, counted)))

  -- the walk along the shelves in use is refused
  pub shelves-refused : (more steps : ℕ) (marks : List Bool) (fault : WalkFault) → length records.shelves ≤ no_link → IsMarkedBy marks []
      → BreaksOff marks (length records.shelves) (shelf_walk records) fault → steps ≡ links_by (shelf_walk records) fault
      → StopsAfter (links_until (length records.shelves) more [] (shelf_walks records)) steps (restore_fault fault)
  shelves-refused more steps marks fault few unmarked breaks counted =
      subst (λ (n : ℕ). StopsAfter n steps (restore_fault fault)) (zero-add (links_until (length records.shelves) more [] (shelf_walks records)))
      (first-refused (length records.shelves) more 0 steps (shelf_walk records) (unused_shelf_walk records ∷ []) marks fault unmarked breaks
      (walk-once shelf_chain.next records.shelves records.first_shelf few) (omega (arith, counted)))

  -- the walk along the unused shelves is refused
  pub unused-refused : (more steps : ℕ) (marks : List Bool) (fault : WalkFault) → length records.shelves ≤ no_link → (shelf_walk records).end ≡ no_link → IsMarkedBy marks (shelf_walk records).met
      → BreaksOff marks (length records.shelves) (unused_shelf_walk records) fault → steps ≡ length (shelf_walk records).met + links_by (unused_shelf_walk records) fault
      → StopsAfter (links_until (length records.shelves) more [] (shelf_walks records)) steps (restore_fault fault)
  unused-refused more steps marks fault few end marked breaks counted =
      subst (λ (n : ℕ). StopsAfter n steps (restore_fault fault)) (zero-add (links_until (length records.shelves) more [] (shelf_walks records)))
      (chain-stops (0 + links_until (length records.shelves) more [] (shelf_walks records)) steps fault
      (refused-after (length records.shelves) more 0 steps [] (shelf_walk records ∷ []) [] (unused_shelf_walk records) marks (length records.shelves) fault (end, tt)
      (subst (IsMarkedBy marks) (sym (append-nil (shelf_walk records).met)) marked) breaks
      (walk-once shelf_chain.next records.shelves records.unused_shelves few) (omega (arith, counted))))

  -- the walks along chains go on after that along the unused items
  pub items-on : (more from here : ℕ) (marks : List Bool) → (unused_item_walk records).end ≡ no_link → IsMarkedBy marks (unused_item_walk records).met → here ≡ from + length (unused_item_walk records).met
      → here + links_until (length records.items) more (unused_item_walk records).met (map (item_walk records) (shelf_walk records).met) ≡ from + links_until (length records.items) more [] (item_walks records)
  items-on more from here marks end marked counted =
      let own : is_own [] (unused_item_walk records) ≡ true = own-once [] (unused_item_walk records) end (marked-once marks (unused_item_walk records).met marked) in
      omega (arith, until-own (length records.items) more [] (unused_item_walk records) (map (item_walk records) (shelf_walk records).met) own, counted)

  -- the links of all walks along items
  pub items-counted : (from here steps : ℕ) → here ≡ from + length (unused_item_walk records).met → steps ≡ here + length (item_numbers (map (chain_entry records) (shelf_walk records).met))
      → steps ≡ from + links_in (item_walks records)
  items-counted from here steps first others =
      omega (arith, first, others, met_by-length (map (item_walk records) (shelf_walk records).met), ap (λ (ns : List ℕ). length ns) (items-met (shelf_walk records).met))

  -- where some record was met by no walk, no further links are followed
  pub none-further : (more : ℕ) (walks : List Walked) (marks : List Bool) (count : ℕ) → AllByRecursion (λ (walked : Walked). walked.end ≡ no_link) walks → length marks ≡ count → IsMarkedBy marks (met_by walks)
      → (HasEachOnce (length marks) (met_by walks) → ⊥) → links_in walks ≡ links_until count more [] walks
  none-further more walks marks count ends is marked missing =
      let none : has_each count (met_by walks) ≡ false = rw (← is) (not-told marks (met_by walks) marked missing) in
      let all = until-all count more [] walks (marked-once marks (met_by walks) marked) ends in
      let told : (if has_each count (met_by walks) then more else 0) ≡ 0 = ap (λ (b : Bool). if b then more else 0) none in
      omega (arith, all, told)

  -- the free lists are lists of their own
  pub frees-go : (numbers : List ℕ) (marks : List Bool) → AllByRecursion (HasFree records) numbers → IsMarkedBy marks (free_numbers (map (walked_entry records) numbers))
      → links_until 0 0 [] (map (free_walk records) numbers) ≡ links_in (map (free_walk records) numbers)
  frees-go numbers marks frees marked =
      let all = until-all 0 0 [] (map (free_walk records) numbers)
      (marked-once marks (met_by (map (free_walk records) numbers)) (subst (IsMarkedBy marks) (sym (frees-met numbers)) marked)) (frees-end numbers frees) in
      omega (arith, all)

  -- their links
  pub frees-counted : (numbers : List ℕ) (from steps : ℕ) → steps ≡ from + length (free_numbers (map (walked_entry records) numbers)) → steps ≡ from + links_in (map (free_walk records) numbers)
  frees-counted numbers from steps counted =
      omega (arith, counted, met_by-length (map (free_walk records) numbers), ap (λ (ns : List ℕ). length ns) (frees-met numbers))

  -- where each record was met once, further walks may follow
  pub each-goes : (more count : ℕ) (walks : List Walked) → AllByRecursion (λ (walked : Walked). walked.end ≡ no_link) walks → HasEachOnce count (met_by walks) → links_until count more [] walks ≡ links_in walks + more
  each-goes more count walks ends once =
      let all = until-all count more [] walks (λ k. each-once k (nat_lt k count) (once k)) ends in
      all ∙ ap (λ (b : Bool). links_in walks + (if b then more else 0)) (once-told count (met_by walks) once)
    where
      each-once : (k : ℕ) (b : Bool) → times k (met_by walks) ≡ (if b then 1 else 0) → times k (met_by walks) ≤ 1
      each-once k true e = omega (arith, e)
      each-once k false e = omega (arith, e)

module _ (atlas : AtlasRecords) where
  -- the walks along shelves were along lists of their own
  pub shelves-go : (numbers : List ℕ) (more : ℕ) → HasShelfLists atlas numbers → links_until (length atlas.records.shelves) more [] (shelf_walks atlas.records) ≡ links_in (shelf_walks atlas.records) + more
  shelves-go numbers more has =
      each-goes atlas.records more (length atlas.records.shelves) (shelf_walks atlas.records) (has.end, (has.unused_end, tt))
      (subst (λ (ns : List ℕ). HasEachOnce (length atlas.records.shelves) ((shelf_walk atlas.records).met ++ ns)) (sym (append-nil (unused_shelf_walk atlas.records).met)) has.once)

  -- the walks along items were along lists of their own
  pub items-go : (more : ℕ) → HasItemLists atlas → links_until (length atlas.records.items) more [] (item_walks atlas.records) ≡ links_in (item_walks atlas.records) + more
  items-go more has =
      let unused : List ℕ = (unused_item_walk atlas.records).met in
      let numbers : List ℕ = (shelf_walk atlas.records).met in
      each-goes atlas.records more (length atlas.records.items) (item_walks atlas.records) (has.unused_end, chains-end atlas.records numbers has.chains)
      (λ k. omega (
        arith,
        has.once k,
        times-append k (item_numbers (map (chain_entry atlas.records) numbers)) unused,
        times-append k unused (met_by (map (item_walk atlas.records) numbers)),
        ap (times k) (items-met atlas.records numbers),
      ))

  -- the links followed in the walks along shelves and along items, and then along free lists
  pub all-followed : (numbers : List ℕ) → HasShelfLists atlas numbers → HasItemLists atlas
      → links_followed atlas.records ≡ links_in (shelf_walks atlas.records) + (links_in (item_walks atlas.records) + links_until 0 0 [] (free_walks atlas.records))
  all-followed numbers shelves items =
      shelves-go numbers (links_until (length atlas.records.items) (links_until 0 0 [] (free_walks atlas.records)) [] (item_walks atlas.records)) shelves
      ∙ ap (λ (n : ℕ). links_in (shelf_walks atlas.records) + n) (items-go (links_until 0 0 [] (free_walks atlas.records)) items)

  -- where no walk is refused, the links of all are followed
  pub all-links : (numbers : List ℕ) → HasShelfLists atlas numbers → HasItemLists atlas
      → links_until 0 0 [] (free_walks atlas.records) ≡ links_in (free_walks atlas.records) → links_followed atlas.records ≡ links_of_all atlas.records
  all-links numbers shelves items free =
      omega (arith, all-followed numbers shelves items, free)
