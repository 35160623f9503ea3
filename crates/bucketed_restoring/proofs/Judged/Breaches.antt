-- A rule that is broken by a walk, or by the buckets that it met, is broken by the shelf.
use Rattle.std.proofs.Common.{◌≡◌, ℕ, ◌≤◌, Bool, Option, List, ◌++◌, length, ap, arith, subst, sym, ◌∙◌, ◌<◌}
use Rattle.std.proofs.lemmas.List.{length-map}
use Rattle.std.specs.List.{AllByRecursion}
use Rattle.etagere_base.specs.declared.faults.RestoreFault.{RestoreFault}
use Rattle.etagere_base.specs.declared.faults.RestoreFault.TheVariants.{Link, Sharing, Unused, Memory}
use Rattle.etagere_base.specs.declared.frames.Frame.{Frame}
use Rattle.etagere_base.proofs.EachLemmas.{Each-weaken}
use Rattle.etagere_links.proofs.WalkedLists.{part-of}
use Rattle.etagere_links.proofs.WalkChains.{walk-leads}
use Rattle.etagere_links.specs.Links.{bits_of, no_link}
use Rattle.etagere_links.specs.Marks.{IsMarkedBy}
use Rattle.etagere_links.specs.Walks.{walk}
use Rattle.bucketed_model.specs.State.{most_buckets}
use Rattle.bucketed_records.specs.declared.records.LinkedBucket.{LinkedBucket}
use Rattle.bucketed_records.specs.declared.records.LinkedBucketShelf.{LinkedBucketShelf}
use Rattle.bucketed_records.specs.BucketRecords.{BucketRecords, bucket_walk}
use Rattle.bucketed_records.specs.Restoring.{Breaks}
use Rattle.bucketed_records.specs.StandsFor.{StopsInRange, walked_numbers}
use Rattle.bucketed_records.proofs.Spelling.StandsKept.{each-within}
use Rattle.bucketed_restoring.specs.Private.Walking.{BreaksShelf, BreaksUnused, BreaksWalk, links_of}

-- so many links as records
pub links-length : (buckets : List LinkedBucket) → length (links_of buckets) ≡ length buckets
links-length buckets = length-map buckets (λ (bucket : LinkedBucket). bits_of bucket.next)

-- the walk through these links
pub walk-same : (buckets : List LinkedBucket) (links : List ℕ) (first : ℕ) (link : Option ℕ) → links ≡ links_of buckets → first ≡ bits_of link
    → walk links first ≡ bucket_walk buckets link
walk-same buckets links first link same_links same_first =
    ap (λ (ls : List ℕ). walk ls first) same_links ∙ ap (walk (links_of buckets)) same_first

-- what it meets are records
pub walk-within : (buckets : List LinkedBucket) (link : Option ℕ) → length buckets ≤ most_buckets
    → AllByRecursion (λ (n : ℕ). n < length buckets) (bucket_walk buckets link).met
walk-within buckets link few =
    let long : length (links_of buckets) ≤ no_link = omega (arith, few, links-length buckets) in
    Each-weaken (λ (n : ℕ). n < length (links_of buckets)) (λ (n : ℕ). n < length buckets) (bucket_walk buckets link).met
    (λ n is. omega (arith, is, links-length buckets))
    (each-within (length (links_of buckets)) (bucket_walk buckets link).met (walk-leads (links_of buckets) (bits_of link) long).within)

pub walk-breaks : (frame : Frame) (buckets : List LinkedBucket) (marks : List Bool) (number : ℕ) (shelf : LinkedBucketShelf) (fault : RestoreFault)
    → BreaksWalk (links_of buckets) marks (bucket_walk buckets shelf.first_bucket) fault → BreaksShelf frame buckets marks number shelf fault
walk-breaks frame buckets marks number shelf Link h =
    λ stops _. h (subst (λ (n : ℕ). StopsInRange n (bucket_walk buckets shelf.first_bucket)) (sym (links-length buckets)) stops)
walk-breaks frame buckets marks number shelf Sharing h = h
walk-breaks frame buckets marks number shelf Memory h = h
walk-breaks frame buckets marks number shelf _ h = absurd h

pub walk-breaks-unused : (buckets : List LinkedBucket) (marks : List Bool) (unused : Option ℕ) (fault : RestoreFault)
    → BreaksWalk (links_of buckets) marks (bucket_walk buckets unused) fault → BreaksUnused buckets marks unused fault
walk-breaks-unused buckets marks unused Link h =
    λ stops. h (subst (λ (n : ℕ). StopsInRange n (bucket_walk buckets unused)) (sym (links-length buckets)) stops)
walk-breaks-unused buckets marks unused Sharing h = λ end numbers marked once.
    let twice = h end numbers marked in
    let part = part-of (length buckets) (numbers ++ (bucket_walk buckets unused).met) (numbers ++ (bucket_walk buckets unused).met) once (λ n. omega arith) in
    omega (arith, part.once twice.0, twice.1)
walk-breaks-unused buckets marks unused Memory h = h
walk-breaks-unused buckets marks unused _ h = absurd h

-- a rule that is broken by the unused records is broken
pub unused-breaks : (frame : Frame) (buckets : List LinkedBucket) (shelves : List LinkedBucketShelf) (atlas : BucketRecords) (marks : List Bool) (unused : Option ℕ) (fault : RestoreFault)
    → IsMarkedBy marks (walked_numbers buckets shelves) → BreaksUnused buckets marks unused fault
    → atlas.frame ≡ frame → atlas.shelves ≡ shelves → atlas.buckets ≡ buckets → atlas.unused ≡ unused → Breaks atlas fault
unused-breaks frame buckets shelves atlas marks unused fault marked h same_frame same_shelves same_buckets same_unused =
    of_atlas fault
    (subst (λ (bs : List LinkedBucket). IsMarkedBy marks (walked_numbers bs atlas.shelves)) (sym same_buckets)
    (subst (λ (ss : List LinkedBucketShelf). IsMarkedBy marks (walked_numbers buckets ss)) (sym same_shelves) marked))
    (subst (λ (bs : List LinkedBucket). BreaksUnused bs marks atlas.unused fault) (sym same_buckets)
    (subst (λ (link : Option ℕ). BreaksUnused buckets marks link fault) (sym same_unused) h))
  where
    of_atlas : (f : RestoreFault) → IsMarkedBy marks (walked_numbers atlas.buckets atlas.shelves) → BreaksUnused atlas.buckets marks atlas.unused f → Breaks atlas f
    of_atlas Link all h = λ links. h links.unused
    of_atlas Sharing all h = λ shared. h shared.unused_end (walked_numbers atlas.buckets atlas.shelves) all shared.once
    of_atlas Unused all h = h
    of_atlas Memory all h = h
    of_atlas _ all h = absurd h
