-- The destination of a size among records is that of the size in the state that they spell, and records made ready for it spell
-- the shelves that are.
use Rattle.std.proofs.Common.{◌≡◌, ℕ, ◌+◌, ◌-◌, ◌*◌, ◌<◌, ◌≤◌, Bool, true, false, cond, Option, None, Some, List, [], ◌∷◌, ◌++◌, length, take, drop, refl, ap, arith, sym, ◌∙◌, subst, ◌⊎◌, ⊎_elim, inl, inr}
use Rattle.std.proofs.lemmas.List.{length-take-le, length-drop}
use Rattle.std.specs.Option.{option_map_or}
use Rattle.std.specs.Prelude.{option_and_then, option_map, slice_get, ◌^◌}
use Rattle.std.specs.List.{AllByRecursion}
use Rattle.etagere_base.proofs.AskedSides.{IsAsked}
use Rattle.etagere_base.proofs.FrameSides.{sides_low}
use Rattle.etagere_base.specs.declared.frames.Frame.{Frame}
use Rattle.etagere_base.specs.declared.sides.Sides.{Sides}
use Rattle.bucketed_model.specs.Adding.{AreNewTags, NewShelf, can_add, left_to, made_shelves, new_shelves, total_count, width_of_share}
use Rattle.bucketed_model.specs.Frames.{IsBucketedFrame}
use Rattle.bucketed_model.specs.Merging.{Group, merged_shelves, mergeable_shelves}
use Rattle.bucketed_model.specs.Picking.{Spot, or_else, pick}
use Rattle.bucketed_model.specs.Placing.{Destination, destination_of}
use Rattle.bucketed_model.specs.Placing as placing
use Rattle.bucketed_model.specs.State.{Bucket, BucketShelf, Tag, buckets_in_use, most_buckets}
use Rattle.bucketed_model.specs.Taking.{first_bucket, needed_buckets, prepared, spot_of}
use Rattle.bucketed_model.specs.Valid.{AreShelves}
use Rattle.bucketed_model.proofs.Shelving.Added.{added-fits, FitsBehind, FitsNews}
use Rattle.bucketed_model.proofs.Shelving.Made.{length-new}
use Rattle.bucketed_model.proofs.Shelving.Shelves.{buckets_in_use-append, in-use-length, few-shelves}
use Rattle.bucketed_model.proofs.Validity.Picked.{map-parts, or_else-parts}
use Rattle.bucketed_records.specs.declared.records.KeptShelf.{KeptShelf}
use Rattle.bucketed_records.specs.Private.Store.{Spells, Stored, first_link, kept_shelf, kept_shelves}
use Rattle.bucketed_records.proofs.Spelling.KeptShelves.{length-kept}
use Rattle.bucket_index.specs.declared.searching.FoundBucket.{FoundBucket}
use Rattle.bucketed_store.specs.Private.Placing.{InAdded, InBucket, InMerged, Placement, kept_mergeable, kept_placement}
use Rattle.bucketed_store.specs.Private.StoreEdits.{CanStore, IsGroupIn, IsNewShelf, across_of, found_first, found_of, group_height, needed_for, stored_ready, stored_shelves}
use Rattle.bucketed_store.proofs.Spelling.FoundBucket.{found_seen, kept-at, picked-is}
use Rattle.bucketed_store.proofs.Spelling.MadeShelves.{AreStored, stored_shelves-are}
use Rattle.bucketed_store.proofs.Spelling.MergedShelves.{AreMergeable, IsRow, mergeable-kept, mergeable-row, numbers-merged, row-short, row-within, spells-merged}

-- a destination by the numbers of records
abbrev pub placement_by : Destination → Placement
placement_by (placing.InBucket spot) = InBucket (found_seen spot)
placement_by (placing.InAdded news) = InAdded news
placement_by (placing.InMerged group) = InMerged group

-- the destination that is found among records is that among the shelves that they spell
pub destination-is : (frame : Frame) (sides : Sides) (stored : Stored) (unused : List ℕ) (ss : List BucketShelf) → 1 ≤ frame.column_width → 1 ≤ sides.along → buckets_in_use ss ≤ most_buckets
    → Spells frame stored unused ss → kept_placement frame (left_to frame ss) sides stored.shelves stored.buckets ≡ option_map placement_by (destination_of frame ss sides)
destination-is frame sides stored unused ss wide some few spells =
    ap (λ (ks : List KeptShelf). kept_placement frame (left_to frame ss) sides ks stored.buckets) spells.shelves
    ∙ ap (λ (f : Option FoundBucket). or_else (option_map InBucket f) (later (kept_mergeable sides 0 (kept_shelves frame [] ss)))) (picked-is adds sides stored.buckets frame ss some few spells.buckets)
    ∙ ap (λ (g : Option Group). or_else (option_map InBucket (option_map found_seen (pick adds sides ss))) (later g)) (mergeable-kept sides 0 frame [] ss wide)
    ∙ by_parts (pick adds sides ss) adds (mergeable_shelves sides 0 ss)
  where
    adds : Bool
    adds = can_add frame (left_to frame ss) sides.across

    later : Option Group → Option Placement
    later g = cond adds (Some (InAdded (new_shelves frame (left_to frame ss) sides))) (option_map InMerged g)

    by_parts : (found : Option Spot) (a : Bool) (g : Option Group)
        → or_else (option_map InBucket (option_map found_seen found)) (cond a (Some (InAdded (new_shelves frame (left_to frame ss) sides))) (option_map InMerged g))
        ≡ option_map placement_by (or_else (option_map placing.InBucket found) (cond a (Some (placing.InAdded (new_shelves frame (left_to frame ss) sides))) (option_map placing.InMerged g)))
    by_parts (Some spot) a g = refl
    by_parts None true g = refl
    by_parts None false None = refl
    by_parts None false (Some g) = refl

-- the first bucket of a kept shelf is that of the shelf
first-kept : (frame : Frame) (ss : List BucketShelf) (n : ℕ) → found_first n (kept_shelves frame [] ss) ≡ option_map found_seen (first_bucket n ss)
first-kept frame ss n =
    ap (λ (k : Option KeptShelf). option_map (found n) (option_map_or (λ (kept : KeptShelf). kept.shelf.first_bucket) k None)) (kept-at frame [] ss n)
    ∙ by_shelf (slice_get ss n)
  where
    found : ℕ → ℕ → FoundBucket
    found shelf bucket = record { shelf = shelf; bucket = bucket }

    by_buckets : (s : BucketShelf) (bs : List Bucket)
        → option_map (found n) (first_link bs) ≡ option_map found_seen (option_map (λ (bucket : Bucket). let spot : Spot = record { number = n; shelf = s; bucket = bucket } in spot) (slice_get bs 0))
    by_buckets s [] = refl
    by_buckets s (b ∷ bs) = refl

    by_shelf : (o : Option BucketShelf)
        → option_map (found n) (option_map_or (λ (kept : KeptShelf). kept.shelf.first_bucket) (option_map (kept_shelf frame (take n ss)) o) None)
        ≡ option_map found_seen (option_and_then (λ (shelf : BucketShelf). option_map (λ (bucket : Bucket). let spot : Spot = record { number = n; shelf = shelf; bucket = bucket } in spot) (slice_get shelf.buckets 0)) o)
    by_shelf None = refl
    by_shelf (Some s) = by_buckets s s.buckets

-- the bucket of a destination among records that were made ready is that of the destination in the shelves that they spell
pub found-is : (frame : Frame) (destination : Destination) (stored : Stored) (unused : List ℕ) (ss : List BucketShelf) → Spells frame stored unused ss
    → found_of (placement_by destination) stored ≡ option_map found_seen (spot_of ss destination)
found-is frame (placing.InBucket spot) stored unused ss spells = refl
found-is frame (placing.InAdded news) stored unused ss spells =
    ap (λ (ks : List KeptShelf). found_first (length ks - 1) ks) spells.shelves
    ∙ ap (λ (n : ℕ). found_first (n - 1) (kept_shelves frame [] ss)) (length-kept frame [] ss)
    ∙ first-kept frame ss (length ss - 1)
found-is frame (placing.InMerged group) stored unused ss spells =
    ap (λ (ks : List KeptShelf). found_first group.first ks) spells.shelves ∙ first-kept frame ss group.first

-- records can be made ready for a destination, but for its first bucket
abbrev pub CanReady : Frame → Placement → ℕ → Stored → Type 0
CanReady frame (InBucket found) in_use stored = Unit {0}
CanReady frame (InAdded news) in_use stored = CanStore frame news in_use stored
CanReady frame (InMerged group) in_use stored = IsGroupIn group stored.shelves

-- records were made ready for a destination: the tags of new buckets, and what is unused now
pub record AreReady (frame : Frame) (destination : Destination) (stored : Stored) (ss : List BucketShelf) : Type 0 where
  pub tags : List Tag
  pub unused : List ℕ
  pub new_tags : AreNewTags ss (needed_buckets destination) tags
  pub spells : Spells frame (stored_ready frame (placement_by destination) stored) unused (prepared frame ss tags destination)
  pub in_use : buckets_in_use (prepared frame ss tags destination) ≡ buckets_in_use ss + needed_for (placement_by destination)
  pub can : CanReady frame (placement_by destination) (buckets_in_use ss) stored

-- new shelves have as many buckets as they get
in-use-made : (frame : Frame) (news : List NewShelf) (tags : List Tag) → length tags ≡ total_count news → buckets_in_use (made_shelves frame news tags) ≡ total_count news
in-use-made frame [] tags h = refl
in-use-made frame (new ∷ news) tags h =
    omega (
      arith,
      length-new (new.column * frame.column_width) (width_of_share frame new.count) (take new.count tags),
      length-take-le new.count tags (omega (arith, h)),
      in-use-made frame news (drop new.count tags) (omega (arith, h, length-drop new.count tags)),
    )

-- no tags for no new buckets
no-tags : (frame : Frame) (ss : List BucketShelf) → AreShelves frame ss → AreNewTags ss 0 []
no-tags frame ss valid = record { count = refl; each = tt; numbers = λ n. omega (arith, valid.numbers n) }

-- new shelves that fit can be made
news-new : (frame : Frame) (ss : List BucketShelf) (sides : Sides) (news : List NewShelf) (tags : List Tag) → FitsNews frame ss sides news → length tags ≡ total_count news → AllByRecursion (IsNewShelf frame) news
news-new frame ss sides [] tags fits h = absurd fits
news-new frame ss sides (new ∷ []) tags fits h = (one ss new fits.0, tt)
  where
    one : (xs : List BucketShelf) (n : NewShelf) → FitsBehind frame xs n → IsNewShelf frame n
    one xs n f = record { column = f.column; height = omega (arith, f.least); count = f.some }
news-new frame ss sides (filling ∷ new ∷ []) tags fits h =
    (one ss filling fits.0, (one _ new (fits.1 (take filling.count tags) (length-take-le filling.count tags (omega (arith, h)))), tt))
  where
    one : (xs : List BucketShelf) (n : NewShelf) → FitsBehind frame xs n → IsNewShelf frame n
    one xs n f = record { column = f.column; height = omega (arith, f.least); count = f.some }
news-new frame ss sides (filling ∷ new ∷ other ∷ news) tags fits h = absurd fits

-- shelves that are found to be merged are a group among those that are kept
group-kept : (frame : Frame) (stored : Stored) (ss : List BucketShelf) (group : Group) → IsBucketedFrame frame → AreShelves frame ss → stored.shelves ≡ kept_shelves frame [] ss
    → (group.others ≡ 1) ⊎ (group.others ≡ 2) → IsRow group.first group.others ss → IsGroupIn group stored.shelves
group-kept frame stored ss group is_frame valid kept few row =
    let short = row-short frame group.first group.others [] ss row in
    record {
      some = ⊎_elim (λ (h : group.others ≡ 1). omega (arith, h)) (λ (h : group.others ≡ 2). omega (arith, h)) few;
      few = ⊎_elim (λ (h : group.others ≡ 1). omega (arith, h)) (λ (h : group.others ≡ 2). omega (arith, h)) few;
      within = omega (arith, row-within group.first group.others ss row, ap (λ (ks : List KeptShelf). length ks) kept, length-kept frame [] ss);
      short = subst (λ (ks : List KeptShelf). across_of ks group.first + group_height group ks < 2 ^ 16) (sym kept)
          (omega (arith, short.1, valid.heights short.0, (sides_low 65534 frame is_frame).1));
    }

-- records are made ready for a destination
pub destination-ready : (frame : Frame) (sides : Sides) (stored : Stored) (unused : List ℕ) (ss : List BucketShelf) (destination : Destination) → IsBucketedFrame frame → IsAsked frame sides → AreShelves frame ss
    → Spells frame stored unused ss → destination_of frame ss sides ≡ Some destination → AreReady frame destination stored ss
destination-ready frame sides stored unused ss destination is_frame asks valid spells h =
    by_pick (or_else-parts _ _ destination h)
  where
    adds : Bool
    adds = can_add frame (left_to frame ss) sides.across

    none : (p : Destination) → CanReady frame (placement_by p) (buckets_in_use ss) stored → needed_buckets p ≡ 0 → needed_for (placement_by p) ≡ 0 → Spells frame (stored_ready frame (placement_by p) stored) unused (prepared frame ss [] p)
        → buckets_in_use (prepared frame ss [] p) ≡ buckets_in_use ss → AreReady frame p stored ss
    none p can zero_ none_ spelled same = record {
      tags = [];
      unused = unused;
      new_tags = subst (λ (n : ℕ). AreNewTags ss n []) (sym zero_) (no-tags frame ss valid);
      spells = spelled;
      in_use = omega (arith, same, none_);
      can = can;
    }

    picked_ : (spot : Spot) → AreReady frame (placing.InBucket spot) stored ss
    picked_ spot = none (placing.InBucket spot) tt refl refl spells refl

    merged : (group : Group) → mergeable_shelves sides 0 ss ≡ Some group → AreReady frame (placing.InMerged group) stored ss
    merged group found =
        let row : AreMergeable 0 ss group = mergeable-row sides 0 ss group found in
        let first : row.first ≡ group.first = omega (arith, row.number_is) in
        let stands : IsRow group.first group.others ss = subst (λ (n : ℕ). IsRow n group.others ss) first row.row in
        none (placing.InMerged group) (group-kept frame stored ss group is_frame valid spells.shelves row.others stands) refl refl
        (spells-merged frame stored unused ss group row.others stands spells)
        (sym (in-use-length (merged_shelves group.first group.others ss)) ∙ ap (λ (ns : List ℕ). length ns) (numbers-merged group.first group.others ss) ∙ in-use-length ss)

    added : adds ≡ true → AreReady frame (placing.InAdded (new_shelves frame (left_to frame ss) sides)) stored ss
    added can =
        let news = new_shelves frame (left_to frame ss) sides in
        let fits = added-fits frame ss sides is_frame asks valid can in
        let made : AreStored frame news stored (stored_shelves frame news stored) ss = stored_shelves-are frame sides news stored unused ss is_frame valid fits spells in
        let used = buckets_in_use-append ss (made_shelves frame news made.tags) ∙ ap (λ (n : ℕ). buckets_in_use ss + n) (in-use-made frame news made.tags made.new_tags.count) in
        record {
          tags = made.tags;
          unused = made.unused;
          new_tags = made.new_tags;
          spells = made.spells;
          in_use = used;
          can = record {
            each = news-new frame ss sides news made.tags fits made.new_tags.count;
            shelves = omega (arith, few-shelves frame ss is_frame.column_width valid.each, valid.few, ap (λ (ks : List KeptShelf). length ks) spells.shelves, length-kept frame [] ss);
            buckets = omega (arith, used, in-use-length (ss ++ made_shelves frame news made.tags), made.spells.has_unused.count, made.spells.has_unused.few, spells.has_unused.few);
            short = made.short;
            used = omega (arith, in-use-length ss, spells.has_unused.count);
            records = made.grows;
          };
        }

    by_add : (b : Bool) → adds ≡ b → cond b (Some (placing.InAdded (new_shelves frame (left_to frame ss) sides))) (option_map placing.InMerged (mergeable_shelves sides 0 ss)) ≡ Some destination → AreReady frame destination stored ss
    by_add true e k = subst (λ (p : Destination). AreReady frame p stored ss) (some-same k) (added e)
      where
        some-same : {p q : Destination} → Some p ≡ Some q → p ≡ q
        some-same {p} {q} h = cc
    by_add false e k =
        let parts = map-parts placing.InMerged (mergeable_shelves sides 0 ss) destination k in
        subst (λ (p : Destination). AreReady frame p stored ss) parts.2 (merged parts.0 parts.1)

    by_pick : (option_map placing.InBucket (pick adds sides ss) ≡ Some destination)
        ⊎ ((option_map placing.InBucket (pick adds sides ss) ≡ None)
        × (cond adds (Some (placing.InAdded (new_shelves frame (left_to frame ss) sides))) (option_map placing.InMerged (mergeable_shelves sides 0 ss)) ≡ Some destination))
        → AreReady frame destination stored ss
    by_pick (inl k) =
        let parts = map-parts placing.InBucket (pick adds sides ss) destination k in
        subst (λ (p : Destination). AreReady frame p stored ss) parts.2 (picked_ parts.0)
    by_pick (inr k) = by_add adds refl k.1
