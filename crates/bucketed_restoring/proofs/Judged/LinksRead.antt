-- How many links a restoring has read: those of the shelves that pass, and of the first that does not.
use Rattle.std.proofs.Common.{◌≡◌, ◌≢◌, ℕ, suc, ◌+◌, ◌≤◌, Bool, true, false, Option, Some, List, [], ◌∷◌, ◌++◌, append-nil, append_assoc, drop, length, length-append, map, take, refl, arith, sym, subst, inl, inr}
use Rattle.std.proofs.lemmas.Option.{slice_get_within}
use Rattle.std.specs.Prelude.{slice_get}
use Rattle.etagere_base.specs.declared.faults.RestoreFault.{RestoreFault}
use Rattle.etagere_base.specs.declared.faults.RestoreFault.TheVariants.{Link, Runs, Sharing, Unused, Memory}
use Rattle.etagere_base.specs.declared.frames.Frame.{Frame}
use Rattle.etagere_base.proofs.TimesLemmas.{times-append}
use Rattle.etagere_base.specs.Lists.{times}
use Rattle.etagere_links.specs.declared.marking.WalkFault.TheVariants.{Marked}
use Rattle.etagere_links.specs.Links.{bits_of, no_link}
use Rattle.etagere_links.specs.LinksRead.{is_own, links_in}
use Rattle.etagere_links.specs.Marks.{IsMarkedBy}
use Rattle.etagere_links.specs.Walks.{Walked}
use Rattle.etagere_links.proofs.WalkedLists.{part-of}
use Rattle.etagere_links.proofs.ReadLinks.{marked-once, not-own, own-once}
use Rattle.etagere_links.proofs.WalkChains.{walk-leads}
use Rattle.bucketed_model.specs.State.{most_buckets}
use Rattle.bucketed_records.specs.declared.records.LinkedBucket.{LinkedBucket}
use Rattle.bucketed_records.specs.declared.records.LinkedBucketShelf.{LinkedBucketShelf}
use Rattle.bucketed_records.specs.BucketRecords.{BucketRecords, bucket_walk}
use Rattle.bucketed_records.specs.declared.records.KeptShelf.{KeptShelf}
use Rattle.bucketed_records.specs.StandsFor.{walked_numbers}
use Rattle.bucketed_restoring.specs.Private.Walking.{AreJudged, AreKeptSoFar, AreLists, BreaksShelf, BreaksUnused, IsJudged, StopsAfter, links_of}
use Rattle.bucketed_restoring.specs.RestoringSteps.{AreRead, AreReadFrom, IsRead, Passes, links_of_all, shelf_walk}
use Rattle.bucketed_restoring.proofs.Judged.Breaches.{links-length}
use Rattle.bucketed_restoring.proofs.Judged.JudgedShelves.{length_of_take, split-at}

-- a walk meets each record once
bucket-once : (buckets : List LinkedBucket) (link : Option ℕ) → length buckets ≤ most_buckets → (k : ℕ) → times k (bucket_walk buckets link).met ≤ 1
bucket-once buckets link few = (walk-leads (links_of buckets) (bits_of link) (omega (arith, few, links-length buckets))).once

-- the links of all walks are those of the buckets in use and of the unused ones
pub all-links : (atlas : BucketRecords) → links_of_all atlas ≡ length (walked_numbers atlas.buckets atlas.shelves) + length (bucket_walk atlas.buckets atlas.unused).met
all-links atlas = along atlas.shelves
  where
    along : (xs : List LinkedBucketShelf)
        → links_in (map (shelf_walk atlas) xs ++ bucket_walk atlas.buckets atlas.unused ∷ []) ≡ length (walked_numbers atlas.buckets xs) + length (bucket_walk atlas.buckets atlas.unused).met
    along [] = omega arith
    along (x ∷ xs) = omega (arith, along xs, length-append (shelf_walk atlas x).met (walked_numbers atlas.buckets xs))

-- a shelf that was judged passes, where what its walk and those before it met stands once
passed : (atlas : BucketRecords) (before : List ℕ) (number : ℕ) (x : LinkedBucketShelf) → IsJudged atlas.frame atlas.buckets number x
    → ((k : ℕ) → times k (before ++ (shelf_walk atlas x).met) ≤ 1) → Passes atlas before number x
passed atlas before number x judged once =
    record { own = own-once before (shelf_walk atlas x) judged.ends once; named = judged.owned; has = judged.has }

-- what stands once in lists end to end stands once in the first ones
front-once : (before met numbers : List ℕ) → ((k : ℕ) → times k (before ++ (met ++ numbers)) ≤ 1) → (k : ℕ) → times k (before ++ met) ≤ 1
front-once before met numbers once k =
    omega (arith, once k, times-append k before met, times-append k before (met ++ numbers), times-append k met numbers)

-- the links that are read where the first shelves were judged
pub front-read : (atlas : BucketRecords) (before : List ℕ) (number : ℕ) (xs ys : List LinkedBucketShelf) (links : ℕ) → AreJudged atlas.frame atlas.buckets number xs
    → ((k : ℕ) → times k (before ++ walked_numbers atlas.buckets xs) ≤ 1) → AreReadFrom atlas (before ++ walked_numbers atlas.buckets xs) (number + length xs) ys links
    → AreReadFrom atlas before number (xs ++ ys) (length (walked_numbers atlas.buckets xs) + links)
front-read atlas before number [] ys links judged once read =
    let same : number + 0 ≡ number = omega arith in
    let count : 0 + links ≡ links = omega arith in
    subst (λ (n : ℕ). AreReadFrom atlas before number ys n) (sym count)
    (subst (λ (n : ℕ). AreReadFrom atlas before n ys links) same
    (subst (λ (ns : List ℕ). AreReadFrom atlas ns (number + 0) ys links) (append-nil before) read))
front-read atlas before number (x ∷ xs) ys links judged once read =
    let met : List ℕ = (shelf_walk atlas x).met in
    let numbers : List ℕ = walked_numbers atlas.buckets xs in
    let joined : (before ++ met) ++ numbers ≡ before ++ (met ++ numbers) = append_assoc before met numbers in
    let next : number + suc (length xs) ≡ suc number + length xs = omega arith in
    let later : AreReadFrom atlas ((before ++ met) ++ numbers) (suc number + length xs) ys links =
    subst (λ (n : ℕ). AreReadFrom atlas ((before ++ met) ++ numbers) n ys links) next
    (subst (λ (ns : List ℕ). AreReadFrom atlas ns (number + suc (length xs)) ys links) (sym joined) read) in
    let count : length (met ++ numbers) + links ≡ length met + (length numbers + links) = omega (arith, length-append met numbers) in
    inr (
      passed atlas before number x judged.0 (front-once before met numbers once),
      (length numbers + links, count, front-read atlas (before ++ met) (suc number) xs ys links judged.1 (λ k. rw joined (once k)) later),
    )

-- the links of the walk that is next
abbrev next_links : BucketRecords → List LinkedBucketShelf → ℕ
next_links atlas [] = length (bucket_walk atlas.buckets atlas.unused).met
next_links atlas (x ∷ xs) = length (shelf_walk atlas x).met

-- the links of the next walk are read too
pub next-read : (atlas : BucketRecords) (before : List ℕ) (number : ℕ) (xs ys : List LinkedBucketShelf) (links : ℕ) → AreJudged atlas.frame atlas.buckets number xs
    → ((k : ℕ) → times k (before ++ walked_numbers atlas.buckets xs) ≤ 1) → AreReadFrom atlas before number (xs ++ ys) links
    → length (walked_numbers atlas.buckets xs) + next_links atlas ys ≤ links
next-read atlas before number [] [] links judged once read = omega (arith, read)
next-read atlas before number [] (y ∷ ys) links judged once (inl refused) = omega (arith, refused.1)
next-read atlas before number [] (y ∷ ys) links judged once (inr on) = omega (arith, on.1.1)
next-read atlas before number (x ∷ xs) ys links judged once (inl refused) =
    absurd (refused.0 (passed atlas before number x judged.0 (front-once before (shelf_walk atlas x).met (walked_numbers atlas.buckets xs) once)))
next-read atlas before number (x ∷ xs) ys links judged once (inr on) =
    let met : List ℕ = (shelf_walk atlas x).met in
    let numbers : List ℕ = walked_numbers atlas.buckets xs in
    let joined : (before ++ met) ++ numbers ≡ before ++ (met ++ numbers) = append_assoc before met numbers in
    omega (
      arith,
      on.1.1,
      length-append met numbers,
      next-read atlas (before ++ met) (suc number) xs ys on.1.0 judged.1 (λ k. rw joined (once k)) on.1.2,
    )

-- a walk along a list of its own ends at none
ends-own : (before : List ℕ) (walked : Walked) → is_own before walked ≡ true → walked.end ≡ no_link
ends-own before walked own = grind (arith, own)

-- a shelf that breaks a rule doesn't pass
refused : (atlas : BucketRecords) (marks : List Bool) (before : List ℕ) (number : ℕ) (x : LinkedBucketShelf) (fault : RestoreFault) → length atlas.buckets ≤ most_buckets
    → IsMarkedBy marks before → fault ≢ Memory → BreaksShelf atlas.frame atlas.buckets marks number x fault → Passes atlas before number x → ⊥
refused atlas marks before number x Link few marked other breaks passes =
    let ends : (shelf_walk atlas x).end ≡ no_link = ends-own before (shelf_walk atlas x) passes.own in
    breaks (rw ends refl) passes.named
refused atlas marks before number x Runs few marked other breaks passes = breaks passes.has
refused atlas marks before number x Sharing few marked other breaks passes =
    let ends : (shelf_walk atlas x).end ≡ no_link = ends-own before (shelf_walk atlas x) passes.own in
    let shared : is_own before (shelf_walk atlas x) ≡ false =
    not-own marks 0 before (shelf_walk atlas x) Marked (λ e. absurd (cc)) (breaks ends) marked (bucket-once atlas.buckets x.first_bucket few) in
    absurd (cc)
refused atlas marks before number x Memory few marked other breaks passes = other refl
refused atlas marks before number x _ few marked other breaks passes = breaks

-- a shelf behind others that were judged breaks a rule
pub shelf-read : (atlas : BucketRecords) (n : ℕ) (x : LinkedBucketShelf) (marks : List Bool) (steps : ℕ) (fault : RestoreFault) → length atlas.buckets ≤ most_buckets
    → slice_get atlas.shelves n ≡ Some x → AreJudged atlas.frame atlas.buckets 0 (take n atlas.shelves) → IsMarkedBy marks (walked_numbers atlas.buckets (take n atlas.shelves))
    → BreaksShelf atlas.frame atlas.buckets marks n x fault → StopsAfter (length (walked_numbers atlas.buckets (take n atlas.shelves)) + length (shelf_walk atlas x).met) steps fault
    → IsRead atlas steps fault
shelf-read atlas n x marks steps fault few here judged marked breaks stops = by_fault fault breaks stops
  where
    xs : List LinkedBucketShelf
    xs = take n atlas.shelves

    split : atlas.shelves ≡ xs ++ x ∷ drop (suc n) atlas.shelves
    split = split-at atlas.shelves n x here

    once : (k : ℕ) → times k ([] ++ walked_numbers atlas.buckets xs) ≤ 1
    once = marked-once marks (walked_numbers atlas.buckets xs) marked

    count : 0 + length xs ≡ n
    count = omega (arith, length_of_take atlas.shelves n (slice_get_within atlas.shelves n x here))

    exact : (fault : RestoreFault) → fault ≢ Memory → BreaksShelf atlas.frame atlas.buckets marks n x fault
        → steps ≡ length (walked_numbers atlas.buckets xs) + length (shelf_walk atlas x).met → AreRead atlas steps
    exact fault other breaks stops =
        let none : Passes atlas (walked_numbers atlas.buckets xs) n x → ⊥ = refused atlas marks (walked_numbers atlas.buckets xs) n x fault few marked other breaks in
        let last : AreReadFrom atlas (walked_numbers atlas.buckets xs) (0 + length xs) (x ∷ drop (suc n) atlas.shelves) (length (shelf_walk atlas x).met) =
        subst (λ (m : ℕ). AreReadFrom atlas (walked_numbers atlas.buckets xs) m (x ∷ drop (suc n) atlas.shelves) (length (shelf_walk atlas x).met)) (sym count) (inl (none, refl)) in
        subst (λ (m : ℕ). AreRead atlas m) (sym stops)
        (subst (λ (ss : List LinkedBucketShelf). AreReadFrom atlas [] 0 ss (length (walked_numbers atlas.buckets xs) + length (shelf_walk atlas x).met)) (sym split)
        (front-read atlas [] 0 xs (x ∷ drop (suc n) atlas.shelves) (length (shelf_walk atlas x).met) judged once last))

    by_fault : (fault : RestoreFault) → BreaksShelf atlas.frame atlas.buckets marks n x fault
        → StopsAfter (length (walked_numbers atlas.buckets xs) + length (shelf_walk atlas x).met) steps fault → IsRead atlas steps fault
    by_fault Link breaks stops = exact Link (λ e. absurd (cc)) breaks stops
    by_fault Runs breaks stops = exact Runs (λ e. absurd (cc)) breaks stops
    by_fault Sharing breaks stops = exact Sharing (λ e. absurd (cc)) breaks stops
    by_fault Memory breaks stops = λ links read.
        let least = next-read atlas [] 0 xs (x ∷ drop (suc n) atlas.shelves) links judged once (subst (λ (ss : List LinkedBucketShelf). AreReadFrom atlas [] 0 ss links) split read) in
        omega (arith, stops, least)
    by_fault _ breaks stops = absurd breaks

-- all shelves were judged
pub whole-read : (atlas : BucketRecords) (steps : ℕ) → AreJudged atlas.frame atlas.buckets 0 atlas.shelves → ((k : ℕ) → times k (walked_numbers atlas.buckets atlas.shelves) ≤ 1)
    → steps ≡ length (walked_numbers atlas.buckets atlas.shelves) + length (bucket_walk atlas.buckets atlas.unused).met → AreRead atlas steps
whole-read atlas steps judged once all =
    subst (λ (m : ℕ). AreRead atlas m) (sym all)
    (subst (λ (ss : List LinkedBucketShelf). AreReadFrom atlas [] 0 ss (length (walked_numbers atlas.buckets atlas.shelves) + length (bucket_walk atlas.buckets atlas.unused).met)) (append-nil atlas.shelves)
    (front-read atlas [] 0 atlas.shelves [] (length (bucket_walk atlas.buckets atlas.unused).met) judged once refl))

-- the unused buckets break a rule, behind shelves that were judged
pub unused-read : (atlas : BucketRecords) (marks : List Bool) (steps : ℕ) (fault : RestoreFault) → AreJudged atlas.frame atlas.buckets 0 atlas.shelves
    → IsMarkedBy marks (walked_numbers atlas.buckets atlas.shelves) → BreaksUnused atlas.buckets marks atlas.unused fault
    → StopsAfter (length (walked_numbers atlas.buckets atlas.shelves) + length (bucket_walk atlas.buckets atlas.unused).met) steps fault → IsRead atlas steps fault
unused-read atlas marks steps fault judged marked breaks stops = by_fault fault breaks stops
  where
    once : (k : ℕ) → times k (walked_numbers atlas.buckets atlas.shelves) ≤ 1
    once = marked-once marks (walked_numbers atlas.buckets atlas.shelves) marked

    by_fault : (fault : RestoreFault) → BreaksUnused atlas.buckets marks atlas.unused fault
        → StopsAfter (length (walked_numbers atlas.buckets atlas.shelves) + length (bucket_walk atlas.buckets atlas.unused).met) steps fault → IsRead atlas steps fault
    by_fault Link breaks stops = whole-read atlas steps judged once stops
    by_fault Sharing breaks stops = whole-read atlas steps judged once stops
    by_fault Unused breaks stops = whole-read atlas steps judged once stops
    by_fault Memory breaks stops = λ links read.
        let least = next-read atlas [] 0 atlas.shelves [] links judged once (subst (λ (ss : List LinkedBucketShelf). AreReadFrom atlas [] 0 ss links) (sym (append-nil atlas.shelves)) read) in
        omega (arith, stops, least)
    by_fault _ breaks stops = absurd breaks

-- the same where frame and records are told apart
pub read-at : (frame : Frame) (buckets : List LinkedBucket) (shelves : List LinkedBucketShelf) (atlas : BucketRecords) (n : ℕ) (x : LinkedBucketShelf) (kept : List KeptShelf) (marks : List Bool) (here area steps : ℕ) (fault : RestoreFault)
    → length buckets ≤ most_buckets → slice_get shelves n ≡ Some x → AreKeptSoFar frame buckets (take n shelves) kept marks here area → BreaksShelf frame buckets marks n x fault
    → StopsAfter (here + length (bucket_walk buckets x.first_bucket).met) steps fault
    → atlas.frame ≡ frame → atlas.shelves ≡ shelves → atlas.buckets ≡ buckets → IsRead atlas steps fault
read-at frame buckets shelves atlas n x kept marks here area steps fault few at so_far breaks stops same_frame same_shelves same_buckets =
    let numbers : List ℕ = walked_numbers buckets (take n shelves) in
    let counted : StopsAfter (length numbers + length (bucket_walk buckets x.first_bucket).met) steps fault =
    subst (λ (m : ℕ). StopsAfter (m + length (bucket_walk buckets x.first_bucket).met) steps fault) so_far.counted stops in
    shelf-read atlas n x marks steps fault
    (rw same_buckets few)
    (rw same_shelves at)
    (rw (same_frame, same_buckets, same_shelves) so_far.judged)
    (rw (same_buckets, same_shelves) so_far.marked)
    (rw (same_frame, same_buckets) breaks)
    (rw (same_buckets, same_shelves) counted)

pub end-read : (frame : Frame) (buckets : List LinkedBucket) (shelves : List LinkedBucketShelf) (atlas : BucketRecords) (kept : List KeptShelf) (marks : List Bool) (unused : Option ℕ) (here area steps : ℕ) (fault : RestoreFault)
    → AreKeptSoFar frame buckets shelves kept marks here area → BreaksUnused buckets marks unused fault → StopsAfter (here + length (bucket_walk buckets unused).met) steps fault
    → atlas.frame ≡ frame → atlas.shelves ≡ shelves → atlas.buckets ≡ buckets → atlas.unused ≡ unused → IsRead atlas steps fault
end-read frame buckets shelves atlas kept marks unused here area steps fault so_far breaks stops same_frame same_shelves same_buckets same_unused =
    let numbers : List ℕ = walked_numbers buckets shelves in
    let counted : StopsAfter (length numbers + length (bucket_walk buckets unused).met) steps fault =
    subst (λ (m : ℕ). StopsAfter (m + length (bucket_walk buckets unused).met) steps fault) so_far.counted stops in
    unused-read atlas marks steps fault
    (rw (same_frame, same_buckets, same_shelves) so_far.judged)
    (rw (same_buckets, same_shelves) so_far.marked)
    (rw (same_buckets, same_unused) breaks)
    (rw (same_buckets, same_shelves, same_unused) counted)

-- all walks along records that were judged
pub lists-read : (atlas : BucketRecords) (all : List KeptShelf) (used area steps : ℕ) → AreLists atlas.frame atlas.buckets atlas.shelves atlas.unused all used area
    → steps ≡ length (walked_numbers atlas.buckets atlas.shelves) + length (bucket_walk atlas.buckets atlas.unused).met → AreRead atlas steps
lists-read atlas all used area steps lists counted =
    let met : List ℕ = (bucket_walk atlas.buckets atlas.unused).met in
    let part = part-of (length atlas.buckets) (walked_numbers atlas.buckets atlas.shelves ++ met) (walked_numbers atlas.buckets atlas.shelves) lists.once
    (λ k. omega (arith, times-append k (walked_numbers atlas.buckets atlas.shelves) met)) in
    whole-read atlas steps lists.judged part.once counted
