-- Records spell the shelves after each got what it gets for a width that is added.
use Rattle.std.proofs.Common.{◌≡◌, ℕ, suc, ◌+◌, ◌-◌, ◌≤◌, max, Option, List, [], ◌∷◌, ◌++◌, length, take, drop, refl, ap, arith, subst, sym, ◌∙◌, append_assoc, length-append}
use Rattle.std.proofs.Math.Seq.{drop-append_seam, take-append_seam}
use Rattle.std.proofs.lemmas.List.{map-append}
use Rattle.std.specs.Option.{option_map_or}
use Rattle.std.specs.List.{AllByRecursion}
use Rattle.etagere_base.proofs.EachLemmas.{Each-append}
use Rattle.etagere_base.proofs.ReplacedLists.{slice_get-append}
use Rattle.etagere_base.proofs.TimesLemmas.{times-append}
use Rattle.etagere_base.specs.declared.frames.Frame.{Frame}
use Rattle.etagere_base.specs.Lists.{times}
use Rattle.bucketed_model.specs.Adding.{IsTag}
use Rattle.bucketed_model.specs.Growing.{grown_counts, total, widened}
use Rattle.bucketed_model.specs.State.{BucketShelf, Tag, bucket_numbers, buckets_in_use, most_buckets, tag_numbers}
use Rattle.bucketed_model.proofs.Shelving.Shelves.{in-use-length}
use Rattle.bucketed_records.specs.declared.records.KeptShelf.{KeptShelf}
use Rattle.bucketed_records.specs.Private.Store.{Spells, Stored, kept_shelf, kept_shelves}
use Rattle.bucketed_records.proofs.Spelling.KeptShelves.{kept-append, length-kept}
use Rattle.bucketed_store.specs.Private.Grows.{share, shelf_widened, shelves_widened}
use Rattle.bucketed_store.specs.Private.Returns.{width_of}
use Rattle.bucketed_store.proofs.Widening.Shares.{widened-next}
use Rattle.bucketed_store.proofs.Widening.WidenedShelf.{widens-shelf, WidensShelf, wider}

-- how wide the buckets of a kept shelf between others are
width-between : (frame : Frame) (stored : Stored) (unused : List ℕ) (front : List BucketShelf) (x : BucketShelf) (back : List BucketShelf)
    → Spells frame stored unused (front ++ x ∷ back) → width_of stored.shelves (length front) ≡ x.bucket_width
width-between frame stored unused front x back spells =
    ap (λ (ks : List KeptShelf). width_of ks (length front)) (spells.shelves ∙ kept-append frame [] front (x ∷ back))
    ∙ ap (λ (r : Option KeptShelf). option_map_or (λ (k : KeptShelf). k.shelf.bucket_width) r 0)
    (slice_get-append (kept_shelves frame [] front) (kept_shelf frame front x) (kept_shelves frame (front ++ x ∷ []) back) (length front) (length-kept frame [] front))

-- shelves behind others got their buckets: the tags, and what is unused now
pub record WidensShelves (frame : Frame) (before after : Stored) (front back : List BucketShelf) (place added left : ℕ) : Type 0 where
  pub tags : List Tag
  pub unused : List ℕ
  pub count_is : length tags ≡ total (grown_counts added left back)
  pub each : AllByRecursion IsTag tags
  pub numbers : (k : ℕ) → times k (tag_numbers tags) + times k (bucket_numbers (front ++ back)) ≤ 1
  pub in_use : buckets_in_use (front ++ widened place (grown_counts added left back) tags back) ≡ total (grown_counts added left back) + buckets_in_use (front ++ back)
  pub spells : Spells frame after unused (front ++ widened place (grown_counts added left back) tags back)
  pub grows : length after.buckets ≡ max (length before.buckets) (buckets_in_use (front ++ back) + total (grown_counts added left back))

pub widens-shelves : (frame : Frame) (stored : Stored) (unused : List ℕ) (front back : List BucketShelf) (place added left : ℕ)
    → ((k : ℕ) → times k (bucket_numbers (front ++ back)) ≤ 1) → Spells frame stored unused (front ++ back) → buckets_in_use (front ++ back) + left ≤ most_buckets
    → WidensShelves frame stored (shelves_widened (length back) (length front) place added left stored) front back place added left
widens-shelves frame stored unused front [] place added left once spells few =
    record { tags = []; unused = unused; count_is = refl; each = tt; numbers = λ k. omega (arith, once k); in_use = omega arith; spells = spells; grows = omega (arith, spells.has_unused.count, in-use-length (front ++ [])) }
widens-shelves frame stored unused front (x ∷ back) place added left once spells few =
    let i = length front in
    let count = share added x.bucket_width left in
    let width : width_of stored.shelves i ≡ x.bucket_width = width-between frame stored unused front x back spells in
    let one : WidensShelf frame stored front x back place count = widens-shelf frame stored unused front x back place count spells (omega (arith, few)) in
    let y = wider place one.tags x in
    let middle = shelf_widened i place count stored in
    let order : (front ++ y ∷ []) ++ back ≡ front ++ y ∷ back = append_assoc front (y ∷ []) back in
    let before : Spells frame middle one.unused ((front ++ y ∷ []) ++ back) = subst (Spells frame middle one.unused) (sym order) one.spells in
    let rest : WidensShelves frame middle (shelves_widened (length back) (length (front ++ y ∷ [])) place added (left - count) middle) (front ++ y ∷ []) back place added (left - count) =
    widens-shelves frame middle one.unused (front ++ y ∷ []) back place added (left - count)
    (λ k. rw order (omega (arith, one.members k, one.numbers k))) before (rw order (omega (arith, one.in_use, few))) in
    let tags = one.tags ++ rest.tags in
    let counts = grown_counts added (left - count) back in
    let taken : take count tags ≡ one.tags = subst (λ (n : ℕ). take n tags ≡ one.tags) one.count_is (take-append_seam one.tags rest.tags) in
    let dropped : drop count tags ≡ rest.tags = subst (λ (n : ℕ). drop n tags ≡ rest.tags) one.count_is (drop-append_seam one.tags rest.tags) in
    let all : widened place (count ∷ counts) tags (x ∷ back) ≡ y ∷ widened place counts rest.tags back =
    ap (λ (ts : List Tag). wider place ts x ∷ widened place counts (drop count tags) back) taken
    ∙ ap (λ (ts : List Tag). y ∷ widened place counts ts back) dropped in
    let whole : front ++ widened place (count ∷ counts) tags (x ∷ back) ≡ (front ++ y ∷ []) ++ widened place counts rest.tags back =
    ap (λ (xs : List BucketShelf). front ++ xs) all ∙ sym (append_assoc front (y ∷ []) (widened place counts rest.tags back)) in
    let long : length (front ++ y ∷ []) ≡ suc i = omega (arith, length-append front (y ∷ [])) in
    let step : shelves_widened (suc (length back)) i place added left stored ≡ shelves_widened (length back) (length (front ++ y ∷ [])) place added (left - count) middle =
    widened-next (suc (length back)) (length back) i (length (front ++ y ∷ [])) place added left count stored refl long (ap (λ (w : ℕ). share added w left) (sym width)) in
    let numbers : (k : ℕ) → times k (tag_numbers tags) ≡ times k (tag_numbers one.tags) + times k (tag_numbers rest.tags) =
    λ k. ap (times k) (map-append (λ (t : Tag). t.number) one.tags rest.tags) ∙ times-append k (tag_numbers one.tags) (tag_numbers rest.tags) in
    let moved : (k : ℕ) → times k (bucket_numbers ((front ++ y ∷ []) ++ back)) ≡ times k (bucket_numbers (front ++ y ∷ back)) = λ k. ap (λ (xs : List BucketShelf). times k (bucket_numbers xs)) order in
    record {
      tags = tags;
      unused = rest.unused;
      count_is = omega (arith, length-append one.tags rest.tags, one.count_is, rest.count_is);
      each = Each-append IsTag one.tags rest.tags one.each rest.each;
      numbers = λ k. omega (arith, numbers k, rest.numbers k, moved k, one.members k);
      in_use = omega (arith, ap buckets_in_use whole, rest.in_use, ap buckets_in_use order, one.in_use);
      spells = rw (step, whole) rest.spells;
      grows = rw step (omega (arith, one.grows, rest.grows, ap buckets_in_use order, one.in_use));
    }
