-- Records whose rules were all judged stand for the state that they spell, and what is kept of them is an atlas.
use Rattle.std.proofs.Common.{◌≡◌, pos, ℕ, suc, ◌-◌, ◌/◌, ◌%◌, ◌<◌, false, Option, List, [], ◌∷◌, ◌++◌, length, map, refl, ap, arith, sym, ◌∙◌, subst, ⊎_elim}
use Rattle.std.proofs.lemmas.List.{map-append}
use Rattle.std.proofs.lemmas.Nat.{div-add-mod'}
use Rattle.std.proofs.lemmas.Option.{slice_get_cases}
use Rattle.std.specs.Option.{option_map_or}
use Rattle.std.specs.Prelude.{option_and_then, slice_get}
use Rattle.std.specs.List.{AllByRecursion}
use Rattle.etagere_base.specs.declared.frames.Frame.{Frame}
use Rattle.etagere_base.proofs.EachLemmas.{Each-get}
use Rattle.etagere_base.specs.declared.faults.RestoreFault.TheVariants as faults
use Rattle.etagere_links.specs.Links.{no_link}
use Rattle.etagere_links.specs.Walks.{Walked}
use Rattle.etagere_links.proofs.WalkedLists.{walk_by-leads}
use Rattle.bucketed_model.specs.State.{BucketShelf, column_height, column_place}
use Rattle.bucketed_model.specs.Valid.{ends_idle}
use Rattle.bucketed_model.proofs.Shelving.Shelves.{in-use-length}
use Rattle.bucketed_records.specs.declared.records.LinkedBucket.{LinkedBucket}
use Rattle.bucketed_records.specs.declared.records.LinkedBucketShelf.{LinkedBucketShelf}
use Rattle.bucketed_records.specs.BucketRecords.{BucketRecords, bucket_at, bucket_walk, next_of, spelled_shelf, state_of}
use Rattle.bucketed_records.specs.Private.Store.{is_kept_idle, first_link, kept_shelf, kept_shelves}
use Rattle.bucketed_records.specs.Private.Restored.{LinkFits, LinksFit}
use Rattle.bucketed_records.specs.declared.records.KeptShelf.{KeptShelf}
use Rattle.bucketed_records.specs.Private.Witnessed.{HasTotals, Witnessed}
use Rattle.bucketed_records.specs.StandsFor.{AreLinked, AreStacked, HasBuckets, HasGenerations, StandsFor, StopsInRange, used_area, Keeps}
use Rattle.bucketed_records.proofs.Spelling.KeptShelves.{live-idle}
use Rattle.bucketed_records.proofs.Spelling.StandsKept.{all-numbers, first-spelled, stands-witnessed}
use Rattle.bucketed_records.proofs.Spelling.UsedAreas.{area-used}
use Rattle.bucketed_restoring.specs.Private.Judging as idle
use Rattle.bucketed_restoring.specs.Private.Walking.{AreJudged, AreLists, kept_of}
use Rattle.bucketed_restoring.proofs.Judged.StackTests.{height-spelled}

-- a walk that ends at none stops in range
stops : (count : ℕ) (walked : Walked) → walked.end ≡ no_link → StopsInRange count walked
stops count walked ends = rw ends refl

-- what was judged of each shelf
links-judged : (frame : Frame) (buckets : List LinkedBucket) (number : ℕ) (shelves : List LinkedBucketShelf) → AreJudged frame buckets number shelves → AreLinked buckets number shelves
links-judged frame buckets number [] judged = tt
links-judged frame buckets number (s ∷ ss) judged =
    (stops (length buckets) (bucket_walk buckets s.first_bucket) judged.0.ends, judged.0.owned, links-judged frame buckets (suc number) ss judged.1)

buckets-judged : (atlas : BucketRecords) (number : ℕ) (shelves : List LinkedBucketShelf) → AreJudged atlas.frame atlas.buckets number shelves → AllByRecursion (HasBuckets atlas) shelves
buckets-judged atlas number [] judged = tt
buckets-judged atlas number (s ∷ ss) judged = (judged.0.has, buckets-judged atlas (suc number) ss judged.1)

ages-judged : (atlas : BucketRecords) (number : ℕ) (shelves : List LinkedBucketShelf) → AreJudged atlas.frame atlas.buckets number shelves → AllByRecursion (HasGenerations atlas) shelves
ages-judged atlas number [] judged = tt
ages-judged atlas number (s ∷ ss) judged = (judged.0.generations, ages-judged atlas (suc number) ss judged.1)

ends-judged : (frame : Frame) (buckets : List LinkedBucket) (number : ℕ) (shelves : List LinkedBucketShelf) → AreJudged frame buckets number shelves
    → AllByRecursion (λ (shelf : LinkedBucketShelf). (bucket_walk buckets shelf.first_bucket).end ≡ no_link) shelves
ends-judged frame buckets number [] judged = tt
ends-judged frame buckets number (s ∷ ss) judged = (judged.0.ends, ends-judged frame buckets (suc number) ss judged.1)

fits-judged : (frame : Frame) (buckets : List LinkedBucket) (number : ℕ) (shelves : List LinkedBucketShelf) → AreJudged frame buckets number shelves
    → AllByRecursion (λ (shelf : LinkedBucketShelf). LinkFits shelf.first_bucket) shelves
fits-judged frame buckets number [] judged = tt
fits-judged frame buckets number (s ∷ ss) judged = (judged.0.fits, fits-judged frame buckets (suc number) ss judged.1)

-- the link of each record fits its bits
next-fits : (buckets : List LinkedBucket) → AllByRecursion (λ (bucket : LinkedBucket). LinkFits bucket.next) buckets → (n : ℕ) → LinkFits (next_of buckets n)
next-fits buckets fits n =
    ⊎_elim
    (λ found. subst (λ (o : Option LinkedBucket). LinkFits (option_and_then (λ (b : LinkedBucket). b.next) o)) (sym found.2)
    (Each-get (λ (bucket : LinkedBucket). LinkFits bucket.next) buckets n found.0 found.2 fits))
    (λ none. subst (λ (o : Option LinkedBucket). LinkFits (option_and_then (λ (b : LinkedBucket). b.next) o)) (sym none.1) refl)
    (slice_get_cases buckets n).1

-- the area that lists have used is that of rule 10
pub area-judged : (atlas : BucketRecords) (all : List KeptShelf) (used area : ℕ) → AreLists atlas.frame atlas.buckets atlas.shelves atlas.unused all used area
    → pos area ≡ used_area atlas.buckets atlas.shelves
area-judged atlas all used area lists =
    ap (λ (n : ℕ). pos n) lists.space ∙ sym (area-used atlas atlas.shelves (buckets-judged atlas 0 atlas.shelves lists.judged))

module _ (atlas : BucketRecords) (all : List KeptShelf) (used area : ℕ) (lists : AreLists atlas.frame atlas.buckets atlas.shelves atlas.unused all used area)
    (frame : Keeps atlas faults.Frame) (counts : Keeps atlas faults.Counts) (shelves : Keeps atlas faults.Shelves) (neighbours : Keeps atlas faults.Neighbours)
    (space : atlas.allocated_space ≡ pos area) where
  -- each rule holds
  pub assembled : StandsFor atlas (state_of atlas)
  assembled =
      record {
        spelled = refl;
        keeps = elim [
          | faults.Frame ↦ frame
          | faults.Counts ↦ counts
          | faults.Link ↦ record {
            shelves = links-judged atlas.frame atlas.buckets 0 atlas.shelves lists.judged;
            unused = stops (length atlas.buckets) (bucket_walk atlas.buckets atlas.unused) lists.ends;
          }
          | faults.Shelves ↦ shelves
          | faults.Runs ↦ buckets-judged atlas 0 atlas.shelves lists.judged
          | faults.Neighbours ↦ neighbours
          | faults.FreeList ↦ tt
          | faults.Sharing ↦ record { once = lists.once; ends = ends-judged atlas.frame atlas.buckets 0 atlas.shelves lists.judged; unused_end = lists.ends }
          | faults.Unused ↦ lists.idle
          | faults.Space ↦ space ∙ area-judged atlas all used area lists
          | faults.Memory ↦ tt
        ];
        generations = ages-judged atlas 0 atlas.shelves lists.judged;
      }

  -- the links fit
  fit : LinksFit atlas
  fit = record { next = next-fits atlas.buckets lists.next; first = fits-judged atlas.frame atlas.buckets 0 atlas.shelves lists.judged; unused = lists.first }

  -- the totals are those of the state
  pub totals : HasTotals atlas.current_column atlas.available_height used area (state_of atlas)
  totals =
      record {
        column = shelves.current_column;
        height = shelves.available_height;
        in_use = lists.count ∙ sym (ap (λ (ns : List ℕ). length ns) (all-numbers atlas.frame atlas.buckets atlas.shelves))
            ∙ in-use-length (map (spelled_shelf atlas.frame atlas.buckets) atlas.shelves);
        space = lists.space;
      }

  -- what is kept of shelves is kept of the shelves that they spell
  kept-judged : (number : ℕ) (before ss : List LinkedBucketShelf) → AreJudged atlas.frame atlas.buckets number ss
      → AllByRecursion (λ (s : LinkedBucketShelf). s.x % atlas.frame.column_width ≡ 0) ss → AreStacked atlas.frame.column_width before ss
      → map (kept_of atlas.buckets) ss ≡ kept_shelves atlas.frame (map (spelled_shelf atlas.frame atlas.buckets) before) (map (spelled_shelf atlas.frame atlas.buckets) ss)
  kept-judged number before [] judged along across = refl
  kept-judged number before (s ∷ ss) judged along across =
      let spelled = spelled_shelf atlas.frame atlas.buckets in
      let x : s.x ≡ column_place atlas.frame (s.x / atlas.frame.column_width) = omega (arith, div-add-mod' s.x atlas.frame.column_width, along.0) in
      let y : s.y ≡ column_height (s.x / atlas.frame.column_width) (map spelled before) = across.0 ∙ sym (height-spelled atlas.frame atlas.buckets (s.x / atlas.frame.column_width) before) in
      let link : first_link (map (bucket_at atlas.buckets s.bucket_width) (bucket_walk atlas.buckets s.first_bucket).met) ≡ s.first_bucket =
      first-spelled atlas.buckets s.bucket_width s.first_bucket (bucket_walk atlas.buckets s.first_bucket).met
      (walk_by-leads (λ (bucket : LinkedBucket). bucket.next) atlas.buckets s.first_bucket (λ k stands. fit.next k) judged.0.fits (omega (arith, counts.buckets)) judged.0.ends) in
      let one : kept_of atlas.buckets s ≡ kept_shelf atlas.frame (map spelled before) (spelled s) =
      ap (λ (n : ℕ). let kept : KeptShelf = record (kept_of atlas.buckets s) { shelf = record s { x = n } } in kept) x
      ∙ ap (λ (n : ℕ). let kept : KeptShelf = record (kept_of atlas.buckets s) { shelf = record s { x = column_place atlas.frame (s.x / atlas.frame.column_width); y = n } } in kept) y
      ∙ ap (λ (l : Option ℕ). let kept : KeptShelf = record (kept_of atlas.buckets s) {
        shelf = record s { x = column_place atlas.frame (s.x / atlas.frame.column_width); y = column_height (s.x / atlas.frame.column_width) (map spelled before); first_bucket = l };
      } in kept) (sym link) in
      let longer : map spelled (before ++ s ∷ []) ≡ map spelled before ++ spelled s ∷ [] = map-append spelled before (s ∷ []) in
      ap (λ (k : KeptShelf). k ∷ map (kept_of atlas.buckets) ss) one
      ∙ ap (λ (ks : List KeptShelf). kept_shelf atlas.frame (map spelled before) (spelled s) ∷ ks)
      (kept-judged (suc number) (before ++ s ∷ []) ss judged.1 along.1 across.1 ∙ ap (λ (bs : List BucketShelf). kept_shelves atlas.frame bs (map spelled ss)) longer)

  -- so it is an atlas
  pub restored : Witnessed (record { shelves = all; buckets = atlas.buckets; unused = atlas.unused }) (bucket_walk atlas.buckets atlas.unused).met (state_of atlas)
  restored =
      let kept : all ≡ kept_shelves atlas.frame [] (state_of atlas).shelves = lists.kept ∙ kept-judged 0 [] atlas.shelves lists.judged shelves.along shelves.across in
      subst (λ (ks : List KeptShelf). Witnessed (record { shelves = ks; buckets = atlas.buckets; unused = atlas.unused }) (bucket_walk atlas.buckets atlas.unused).met (state_of atlas))
      (sym kept) (stands-witnessed atlas (state_of atlas) fit assembled)

-- lists of the same frame and records
pub same-lists : (atlas : BucketRecords) (frame : Frame) (buckets : List LinkedBucket) (shelves : List LinkedBucketShelf) (all : List KeptShelf) (used area : ℕ)
    → frame ≡ atlas.frame → buckets ≡ atlas.buckets → shelves ≡ atlas.shelves → AreLists frame buckets shelves atlas.unused all used area
    → AreLists atlas.frame atlas.buckets atlas.shelves atlas.unused all used area
same-lists atlas frame buckets shelves all used area same_frame same_buckets same_shelves lists =
    subst (λ (ss : List LinkedBucketShelf). AreLists atlas.frame atlas.buckets ss atlas.unused all used area) same_shelves
    (subst (λ (bs : List LinkedBucket). AreLists atlas.frame bs shelves atlas.unused all used area) same_buckets
    (subst (λ (f : Frame). AreLists f buckets shelves atlas.unused all used area) same_frame lists))

-- the columns of shelves by their records
pub columns-said : (frame : Frame) (buckets : List LinkedBucket) (shelves : List LinkedBucketShelf)
    → AllByRecursion (λ (shelf : BucketShelf). shelf.column < frame.columns) (map (spelled_shelf frame buckets) shelves)
    → AllByRecursion (λ (shelf : LinkedBucketShelf). shelf.x / frame.column_width < frame.columns) shelves
columns-said frame buckets [] each = tt
columns-said frame buckets (s ∷ ss) each = (each.0, columns-said frame buckets ss each.1)

-- what is kept of the last shelf tells whether it holds nothing live
pub idle-kept : (frame : Frame) (buckets : List LinkedBucket) (shelves : List LinkedBucketShelf)
    → idle.ends_idle (map (kept_of buckets) shelves) ≡ ends_idle (map (spelled_shelf frame buckets) shelves)
idle-kept frame buckets [] = refl
idle-kept frame buckets (s ∷ []) = live-idle (map (bucket_at buckets s.bucket_width) (bucket_walk buckets s.first_bucket).met)
idle-kept frame buckets (s ∷ t ∷ ts) =
    let less : suc (suc (length (map (kept_of buckets) ts))) - 1 ≡ suc (suc (length (map (kept_of buckets) ts)) - 1) = omega arith in
    ap (λ (n : ℕ). option_map_or is_kept_idle (slice_get (kept_of buckets s ∷ kept_of buckets t ∷ map (kept_of buckets) ts) n) false) less
    ∙ idle-kept frame buckets (t ∷ ts)
