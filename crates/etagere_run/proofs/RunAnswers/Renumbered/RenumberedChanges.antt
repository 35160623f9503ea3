-- What a taking, a return and a grow change, under other numbers of buckets.
use Rattle.std.proofs.Common.{◌≡◌, ℕ, zero, suc, ◌+◌, ◌-◌, ◌*◌, ◌/◌, min, Bool, true, false, cond, List, [], ◌∷◌, ◌++◌, length, map, take, drop, refl, ap, sym, ◌∙◌}
use Rattle.std.proofs.lemmas.Bool.{eq-eqb, eqb-true}
use Rattle.std.proofs.lemmas.List.{drop-map, length-map, map-append, take-map}
use Rattle.std.proofs.lemmas.Option.{slice_get-map}
use Rattle.std.specs.List.{flat_map}
use Rattle.std.specs.Prelude.{nat_le, option_map, slice_get, ◌==◌}
use Rattle.etagere_base.specs.Drawing.{background, document}
use Rattle.etagere_base.specs.Places.{rectangle_at}
use Rattle.etagere_base.specs.declared.drawing.Drawn.{Drawn}
use Rattle.etagere_base.specs.declared.frames.Frame.{Frame}
use Rattle.etagere_base.specs.declared.geometry.Size.{Size}
use Rattle.bucketed_model.specs.Adding.{NewShelf, made_shelf, made_shelves, new_buckets}
use Rattle.bucketed_model.specs.Growing.{grow_counts, grown, grown_counts, grown_frame, widened}
use Rattle.bucketed_model.specs.Merging.{merged_shelves, total_height}
use Rattle.bucketed_model.specs.Picking.{Spot}
use Rattle.bucketed_model.specs.Placing.{Destination, InAdded, InBucket, InMerged}
use Rattle.bucketed_model.specs.Returning.{emptied_bucket, kept_before, lessened_bucket, returned_bucket, without_idle_end}
use Rattle.bucketed_model.specs.State.{Bucket, BucketShelf, BucketedState, Tag, buckets_left, changed_at, changed_bucket, changed_in, column_height, is_idle, most_buckets, with_height}
use Rattle.bucketed_model.specs.Svg.{drawn_after, drawn_along, drawn_bucket, svg}
use Rattle.bucketed_model.specs.Taking.{allocation_in, first_bucket, prepared, spot_of}
use Rattle.etagere_run.specs.Answers.Private.Renumbered.{renumbered, renumbered_bucket, renumbered_destination, renumbered_shelf, renumbered_spot, renumbered_tag}
use Rattle.etagere_run.proofs.RunAnswers.Renumbered.RenumberedDestinations.{height-renumbered, idle-renumbered, in_use-renumbered, spot-renumbered, total-renumbered}

-- a bucket without its generation
abbrev pub plain_bucket : Bucket → Bucket
plain_bucket = renumbered_bucket (λ n. n)

-- a shelf without its generations
abbrev pub plain_shelf : BucketShelf → BucketShelf
plain_shelf = renumbered_shelf (λ n. n)

-- a map after a map
map-twice : {X Y Z : Type 0} (f : X → Y) (g : Y → Z) (h : X → Z) → ((x : X) → g (f x) ≡ h x) → (xs : List X) → map g (map f xs) ≡ map h xs
map-twice f g h same [] = refl
map-twice f g h same (x ∷ xs) = ap (λ z. z ∷ map g (map f xs)) (same x) ∙ ap (λ zs. h x ∷ zs) (map-twice f g h same xs)

module _ (name : ℕ → ℕ) where
  -- new buckets
  buckets-renumbered : (place width : ℕ) (tags : List Tag) → map (renumbered_bucket name) (new_buckets place width tags) ≡ new_buckets place width (map (renumbered_tag name) tags)
  buckets-renumbered place width [] = refl
  buckets-renumbered place width (tag ∷ tags) =
      ap (λ (n : ℕ). record { place = place + n * width; used = 0; live = 0; given = 0; tag = renumbered_tag name tag } ∷ map (renumbered_bucket name) (new_buckets place width tags)) (sym (length-map tags (renumbered_tag name)))
      ∙ ap (λ (bs : List Bucket). record { place = place + length (map (renumbered_tag name) tags) * width; used = 0; live = 0; given = 0; tag = renumbered_tag name tag } ∷ bs) (buckets-renumbered place width tags)

  -- new shelves
  made-renumbered : (frame : Frame) (news : List NewShelf) (tags : List Tag) → map (renumbered_shelf name) (made_shelves frame news tags) ≡ made_shelves frame news (map (renumbered_tag name) tags)
  made-renumbered frame [] tags = refl
  made-renumbered frame (new ∷ news) tags =
      ap (λ (bs : List Bucket). record { column = new.column; height = new.height; bucket_width = (made_shelf frame new []).bucket_width; buckets = bs } ∷ map (renumbered_shelf name) (made_shelves frame news (drop new.count tags)))
      (buckets-renumbered (new.column * frame.column_width) (made_shelf frame new []).bucket_width (take new.count tags) ∙ ap (new_buckets (new.column * frame.column_width) (made_shelf frame new []).bucket_width) (sym (take-map (renumbered_tag name) new.count tags)))
      ∙ ap (λ (ss : List BucketShelf). made_shelf frame new (take new.count (map (renumbered_tag name) tags)) ∷ ss)
      (made-renumbered frame news (drop new.count tags) ∙ ap (made_shelves frame news) (sym (drop-map (renumbered_tag name) new.count tags)))

  -- merged shelves
  merged-renumbered : (first others : ℕ) (shelves : List BucketShelf) → map (renumbered_shelf name) (merged_shelves first others shelves) ≡ merged_shelves first others (map (renumbered_shelf name) shelves)
  merged-renumbered first others [] = refl
  merged-renumbered zero others (shelf ∷ shelves) =
      ap (λ (n : ℕ). renumbered_shelf name (with_height (shelf.height + n) shelf) ∷ map (renumbered_shelf name) (map (with_height 0) (take others shelves) ++ drop others shelves)) (sym (total-renumbered name (take others shelves)) ∙ ap total_height (sym (take-map (renumbered_shelf name) others shelves)))
      ∙ ap (λ (ss : List BucketShelf). with_height (shelf.height + total_height (take others (map (renumbered_shelf name) shelves))) (renumbered_shelf name shelf) ∷ ss)
      (map-append (renumbered_shelf name) (map (with_height 0) (take others shelves)) (drop others shelves)
      ∙ ap (λ (ss : List BucketShelf). ss ++ map (renumbered_shelf name) (drop others shelves))
      (map-twice (with_height 0) (renumbered_shelf name) (λ s. with_height 0 (renumbered_shelf name s)) (λ s. refl) (take others shelves)
      ∙ sym (map-twice (renumbered_shelf name) (with_height 0) (λ s. with_height 0 (renumbered_shelf name s)) (λ s. refl) (take others shelves))
      ∙ ap (map (with_height 0)) (sym (take-map (renumbered_shelf name) others shelves)))
      ∙ ap (λ (ss : List BucketShelf). map (with_height 0) (take others (map (renumbered_shelf name) shelves)) ++ ss) (sym (drop-map (renumbered_shelf name) others shelves)))
  merged-renumbered (suc first) others (shelf ∷ shelves) = ap (λ (ss : List BucketShelf). renumbered_shelf name shelf ∷ ss) (merged-renumbered first others shelves)

  -- shelves that were made ready for a destination
  pub prepared-renumbered : (frame : Frame) (shelves : List BucketShelf) (tags : List Tag) (destination : Destination)
      → prepared frame (map (renumbered_shelf name) shelves) (map (renumbered_tag name) tags) (renumbered_destination name destination) ≡ map (renumbered_shelf name) (prepared frame shelves tags destination)
  prepared-renumbered frame shelves tags (InBucket spot) = refl
  prepared-renumbered frame shelves tags (InAdded news) =
      ap (λ (ss : List BucketShelf). map (renumbered_shelf name) shelves ++ ss) (sym (made-renumbered frame news tags)) ∙ sym (map-append (renumbered_shelf name) shelves (made_shelves frame news tags))
  prepared-renumbered frame shelves tags (InMerged group) = sym (merged-renumbered group.first group.others shelves)

  -- the first bucket of a shelf
  first-spot : (number : ℕ) (shelves : List BucketShelf) → first_bucket number (map (renumbered_shelf name) shelves) ≡ option_map (renumbered_spot name) (first_bucket number shelves)
  first-spot number shelves = spot-renumbered name (λ (shelf : BucketShelf). slice_get shelf.buckets 0) (λ (shelf : BucketShelf). slice_get-map (renumbered_bucket name) shelf.buckets 0) number shelves

  -- the bucket of a destination
  pub spot_of-renumbered : (shelves : List BucketShelf) (destination : Destination) → spot_of (map (renumbered_shelf name) shelves) (renumbered_destination name destination) ≡ option_map (renumbered_spot name) (spot_of shelves destination)
  spot_of-renumbered shelves (InBucket spot) = refl
  spot_of-renumbered shelves (InAdded news) =
      ap (λ n. first_bucket (n - 1) (map (renumbered_shelf name) shelves)) (length-map shelves (renumbered_shelf name)) ∙ first-spot (length shelves - 1) shelves
  spot_of-renumbered shelves (InMerged group) = first-spot group.first shelves

  -- shelves at the end that hold nothing live
  pub ends-renumbered : (shelves : List BucketShelf) → map (renumbered_shelf name) (without_idle_end shelves) ≡ without_idle_end (map (renumbered_shelf name) shelves)
  ends-renumbered [] = refl
  ends-renumbered (shelf ∷ shelves) = before (without_idle_end shelves) ∙ ap (kept_before (renumbered_shelf name shelf)) (ends-renumbered shelves)
    where
      here : (b : Bool) → map (renumbered_shelf name) (cond b [] (shelf ∷ [])) ≡ cond b [] (renumbered_shelf name shelf ∷ [])
      here true = refl
      here false = refl

      before : (xs : List BucketShelf) → map (renumbered_shelf name) (kept_before shelf xs) ≡ kept_before (renumbered_shelf name shelf) (map (renumbered_shelf name) xs)
      before [] = here (is_idle shelf) ∙ ap (λ b. cond b [] (renumbered_shelf name shelf ∷ [])) (sym (idle-renumbered name shelf))
      before (next ∷ xs) = refl

  module _ (apart : (n m : ℕ) → name n ≡ name m → n ≡ m) where
    -- numbers are equal alike
    tests-renumbered : (n m : ℕ) → (name n == name m) ≡ (n == m)
    tests-renumbered n m = by_test (n == m) refl
      where
        by_test : (b : Bool) → (n == m) ≡ b → (name n == name m) ≡ (n == m)
        by_test true e = eq-eqb (name n) (name m) (ap name (eqb-true n m e)) ∙ sym e
        by_test false e = by_other (name n == name m) refl
          where
            by_other : (b : Bool) → (name n == name m) ≡ b → (name n == name m) ≡ (n == m)
            by_other true h = h ∙ sym (eq-eqb n m (apart n m (eqb-true (name n) (name m) h)))
            by_other false h = h ∙ sym e

    -- a bucket changes alike, its generation aside
    pub changed-renumbered : (number : ℕ) (change : Bucket → Bucket) → ((b : Bucket) → plain_bucket (change (renumbered_bucket name b)) ≡ renumbered_bucket name (change b))
        → (shelves : List BucketShelf) → map plain_shelf (changed_bucket (name number) change (map (renumbered_shelf name) shelves)) ≡ map (renumbered_shelf name) (changed_bucket number change shelves)
    changed-renumbered number change same [] = refl
    changed-renumbered number change same (shelf ∷ shelves) =
        ap (λ (bs : List Bucket). record { column = shelf.column; height = shelf.height; bucket_width = shelf.bucket_width; buckets = bs } ∷ map plain_shelf (changed_bucket (name number) change (map (renumbered_shelf name) shelves))) (buckets shelf.buckets)
        ∙ ap (λ (ss : List BucketShelf). renumbered_shelf name (changed_in number change shelf) ∷ ss) (changed-renumbered number change same shelves)
      where
        here : (c : Bool) (b : Bucket) → plain_bucket (cond c (change (renumbered_bucket name b)) (renumbered_bucket name b)) ≡ renumbered_bucket name (cond c (change b) b)
        here true b = same b
        here false b = refl

        buckets : (bs : List Bucket) → map plain_bucket (map (changed_at (name number) change) (map (renumbered_bucket name) bs)) ≡ map (renumbered_bucket name) (map (changed_at number change) bs)
        buckets [] = refl
        buckets (b ∷ bs) =
            ap (λ (x : Bucket). x ∷ map plain_bucket (map (changed_at (name number) change) (map (renumbered_bucket name) bs)))
            (ap (λ c. plain_bucket (cond c (change (renumbered_bucket name b)) (renumbered_bucket name b))) (tests-renumbered b.tag.number number) ∙ here (b.tag.number == number) b)
            ∙ ap (λ (xs : List Bucket). renumbered_bucket name (changed_at number change b) ∷ xs) (buckets bs)

  -- a grow
  counts-renumbered : (width left : ℕ) (shelves : List BucketShelf) → grown_counts width left (map (renumbered_shelf name) shelves) ≡ grown_counts width left shelves
  counts-renumbered width left [] = refl
  counts-renumbered width left (shelf ∷ shelves) =
      ap (λ (ns : List ℕ). min (width / shelf.bucket_width) left ∷ ns) (counts-renumbered width (left - min (width / shelf.bucket_width) left) shelves)

  -- each shelf gets as many buckets
  pub grow_counts-renumbered : (frame : Frame) (size : Size) (shelves : List BucketShelf) → grow_counts frame size (map (renumbered_shelf name) shelves) ≡ grow_counts frame size shelves
  grow_counts-renumbered frame size shelves =
      ap (λ n. grown_counts ((grown_frame frame size).column_width - frame.column_width) (most_buckets - n) (map (renumbered_shelf name) shelves)) (in_use-renumbered name shelves)
      ∙ counts-renumbered ((grown_frame frame size).column_width - frame.column_width) (buckets_left shelves) shelves

  -- shelves with new buckets
  widened-renumbered : (place : ℕ) (counts : List ℕ) (tags : List Tag) (shelves : List BucketShelf)
      → map (renumbered_shelf name) (widened place counts tags shelves) ≡ widened place counts (map (renumbered_tag name) tags) (map (renumbered_shelf name) shelves)
  widened-renumbered place [] tags shelves = refl
  widened-renumbered place (count ∷ counts) tags [] = refl
  widened-renumbered place (count ∷ counts) tags (shelf ∷ shelves) =
      ap (λ (bs : List Bucket). record { column = shelf.column; height = shelf.height; bucket_width = shelf.bucket_width; buckets = bs } ∷ map (renumbered_shelf name) (widened place counts (drop count tags) shelves))
      (map-append (renumbered_bucket name) (new_buckets place shelf.bucket_width (take count tags)) shelf.buckets
      ∙ ap (λ (bs : List Bucket). bs ++ map (renumbered_bucket name) shelf.buckets)
      (buckets-renumbered place shelf.bucket_width (take count tags) ∙ ap (new_buckets place shelf.bucket_width) (sym (take-map (renumbered_tag name) count tags))))
      ∙ ap (λ (ss : List BucketShelf). record { column = shelf.column; height = shelf.height; bucket_width = shelf.bucket_width; buckets = new_buckets place shelf.bucket_width (take count (map (renumbered_tag name) tags)) ++ map (renumbered_bucket name) shelf.buckets } ∷ ss)
      (widened-renumbered place counts (drop count tags) shelves ∙ ap (λ (ts : List Tag). widened place counts ts (map (renumbered_shelf name) shelves)) (sym (drop-map (renumbered_tag name) count tags)))

  -- a grow
  pub grown-renumbered : (state : BucketedState) (size : Size) (tags : List Tag) → renumbered name (grown state size tags) ≡ grown (renumbered name state) size (map (renumbered_tag name) tags)
  grown-renumbered state size tags =
      ap (λ (ss : List BucketShelf). record { frame = grown_frame state.frame size; shelves = ss })
      (widened-renumbered state.frame.column_width (grow_counts state.frame size state.shelves) tags state.shelves
      ∙ ap (λ (counts : List ℕ). widened state.frame.column_width counts (map (renumbered_tag name) tags) (map (renumbered_shelf name) state.shelves)) (sym (grow_counts-renumbered state.frame size state.shelves)))

  -- a picture sees no number
  along-renumbered : (frame : Frame) (across : ℕ) (shelf : BucketShelf) → drawn_along frame across (renumbered_shelf name shelf) ≡ drawn_along frame across shelf
  along-renumbered frame across shelf = each shelf.buckets
    where
      each : (bs : List Bucket) → flat_map (drawn_bucket frame across shelf.height shelf.bucket_width) (map (renumbered_bucket name) bs) ≡ flat_map (drawn_bucket frame across shelf.height shelf.bucket_width) bs
      each [] = refl
      each (b ∷ bs) = ap (λ (ds : List Drawn). drawn_bucket frame across shelf.height shelf.bucket_width b ++ ds) (each bs)

  -- shelves are drawn alike
  after-renumbered : (frame : Frame) (before shelves : List BucketShelf) → drawn_after frame (map (renumbered_shelf name) before) (map (renumbered_shelf name) shelves) ≡ drawn_after frame before shelves
  after-renumbered frame before [] = refl
  after-renumbered frame before (shelf ∷ shelves) =
      ap (λ (ds : List Drawn). ds ++ drawn_after frame (map (renumbered_shelf name) before ++ renumbered_shelf name shelf ∷ []) (map (renumbered_shelf name) shelves))
      (ap (λ n. drawn_along frame n (renumbered_shelf name shelf)) (height-renumbered name shelf.column before) ∙ along-renumbered frame (column_height shelf.column before) shelf)
      ∙ ap (λ (ds : List Drawn). drawn_along frame (column_height shelf.column before) shelf ++ ds)
      (ap (λ (ss : List BucketShelf). drawn_after frame ss (map (renumbered_shelf name) shelves)) (sym (map-append (renumbered_shelf name) before (shelf ∷ [])))
      ∙ after-renumbered frame (before ++ shelf ∷ []) shelves)

  -- the text is the same
  pub svg-renumbered : (state : BucketedState) → svg (renumbered name state) ≡ svg state
  svg-renumbered state =
      ap (λ (ds : List Drawn). document state.frame.width state.frame.height (background state.frame ∷ ds)) (after-renumbered state.frame [] state.shelves)

  -- what is given lies where it lies
  pub rectangle-renumbered : (frame : Frame) (width : ℕ) (shelves : List BucketShelf) (spot : Spot)
      → (allocation_in frame width (map (renumbered_shelf name) shelves) (renumbered_spot name spot)).rectangle ≡ (allocation_in frame width shelves spot).rectangle
  rectangle-renumbered frame width shelves spot =
      ap (λ n. rectangle_at frame (spot.bucket.place + spot.bucket.used) n width spot.shelf.height)
      (ap (column_height spot.shelf.column) (take-map (renumbered_shelf name) spot.number shelves) ∙ height-renumbered name spot.shelf.column (take spot.number shelves))

-- a return changes a bucket alike
pub returned-plain : (name : ℕ → ℕ) (b : Bucket) → plain_bucket (returned_bucket (renumbered_bucket name b)) ≡ renumbered_bucket name (returned_bucket b)
returned-plain name b = here (nat_le b.live 1)
  where
    here : (c : Bool) → plain_bucket (cond c (emptied_bucket (renumbered_bucket name b)) (lessened_bucket (renumbered_bucket name b))) ≡ renumbered_bucket name (cond c (emptied_bucket b) (lessened_bucket b))
    here true = refl
    here false = refl
