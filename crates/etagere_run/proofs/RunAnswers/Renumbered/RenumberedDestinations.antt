-- The choice of a bucket sees neither numbers nor generations.
use Rattle.std.proofs.Common.{◌≡◌, ℕ, suc, ◌+◌, ◌-◌, Bool, true, false, ◌&&◌, cond, not, Option, None, Some, List, [], ◌∷◌, length, map, take, drop, refl, ap, ◌∙◌}
use Rattle.std.proofs.lemmas.List.{drop-map, length-map, take-map}
use Rattle.std.proofs.lemmas.Option.{slice_get-map}
use Rattle.std.specs.List.{list_all}
use Rattle.std.specs.Prelude.{find, option_and_then, option_map, slice_get, unwrap_or, ◌==◌, if◌then◌else◌}
use Rattle.etagere_base.specs.Frames.{asked}
use Rattle.etagere_base.specs.Least.{Found, first_least}
use Rattle.etagere_base.specs.declared.frames.Frame.{Frame}
use Rattle.etagere_base.specs.declared.geometry.Size.{Size}
use Rattle.etagere_base.specs.declared.sides.Sides.{Sides}
use Rattle.bucketed_model.specs.Adding.{Remaining, can_add, left_to, new_shelves}
use Rattle.bucketed_model.specs.Merging.{Group, is_idle_in, mergeable_shelves, serves, total_height}
use Rattle.bucketed_model.specs.Picking.{Spot, exact_bucket, exact_or, first_spot, free_width, has_room, is_eligible, is_exact, least_spot, or_else, pick, roomy_bucket, spot_in, waste}
use Rattle.bucketed_model.specs.Placing.{Destination, InAdded, InBucket, InMerged, destination_of, placement_of}
use Rattle.bucketed_model.specs.State.{Bucket, BucketShelf, BucketedState, buckets_in_use, column_height, is_idle, is_idle_bucket, last_column}
use Rattle.etagere_run.specs.Answers.Private.Renumbered.{renumbered, renumbered_bucket, renumbered_destination, renumbered_placement, renumbered_shelf, renumbered_spot}

-- what is found among changed elements is what was found, changed
find-changed : {X : Type 0} (change : X → X) (test other : X → Bool) → ((x : X) → test (change x) ≡ other x) → (xs : List X)
    → find test (map change xs) ≡ option_map change (find other xs)
find-changed change test other same [] = refl
find-changed change test other same (x ∷ xs) =
    ap (λ b. cond b (Some (change x)) (find test (map change xs))) (same x) ∙ here (other x) (find-changed change test other same xs)
  where
    here : (b : Bool) → find test (map change xs) ≡ option_map change (find other xs)
        → cond b (Some (change x)) (find test (map change xs)) ≡ option_map change (cond b (Some x) (find other xs))
    here true later = refl
    here false later = later

-- a test that passes all changed elements
all-changed : {X : Type 0} (change : X → X) (test other : X → Bool) → ((x : X) → test (change x) ≡ other x) → (xs : List X)
    → list_all test (map change xs) ≡ list_all other xs
all-changed change test other same [] = refl
all-changed change test other same (x ∷ xs) =
    ap (λ b. b && list_all test (map change xs)) (same x) ∙ ap (λ b. other x && b) (all-changed change test other same xs)

-- maps over what may be there
map-none : {X Y Z : Type 0} (f : X → Y) (g : Y → Z) (h : X → Z) → ((x : X) → g (f x) ≡ h x) → (o : Option X) → option_map g (option_map f o) ≡ option_map h o
map-none f g h same None = refl
map-none f g h same (Some x) = ap Some (same x)

-- changed elements rank alike
ranks-changed : {X : Type 0} (change : X → X) (rank : X → Option ℕ) → ((x : X) → rank (change x) ≡ rank x) → (xs : List X) → map rank (map change xs) ≡ map rank xs
ranks-changed change rank same [] = refl
ranks-changed change rank same (x ∷ xs) = ap (λ r. r ∷ map rank (map change xs)) (same x) ∙ ap (λ rs. rank x ∷ rs) (ranks-changed change rank same xs)

module _ (name : ℕ → ℕ) where
  -- a shelf holds nothing live alike
  pub idle-renumbered : (shelf : BucketShelf) → is_idle (renumbered_shelf name shelf) ≡ is_idle shelf
  idle-renumbered shelf = all-changed (renumbered_bucket name) is_idle_bucket is_idle_bucket (λ (b : Bucket). refl) shelf.buckets

  -- columns are as tall
  pub height-renumbered : (column : ℕ) (shelves : List BucketShelf) → column_height column (map (renumbered_shelf name) shelves) ≡ column_height column shelves
  height-renumbered column [] = refl
  height-renumbered column (shelf ∷ shelves) = ap (λ n. (if shelf.column == column then shelf.height else 0) + n) (height-renumbered column shelves)

  -- the last column is the same
  last-renumbered : (column : ℕ) (shelves : List BucketShelf) → last_column column (map (renumbered_shelf name) shelves) ≡ last_column column shelves
  last-renumbered column [] = refl
  last-renumbered column (shelf ∷ shelves) = last-renumbered shelf.column shelves

  -- as many buckets are in use
  pub in_use-renumbered : (shelves : List BucketShelf) → buckets_in_use (map (renumbered_shelf name) shelves) ≡ buckets_in_use shelves
  in_use-renumbered [] = refl
  in_use-renumbered (shelf ∷ shelves) =
      ap (λ n. n + buckets_in_use (map (renumbered_shelf name) shelves)) (length-map shelf.buckets (renumbered_bucket name))
      ∙ ap (λ n. length shelf.buckets + n) (in_use-renumbered shelves)

  -- as much is left
  pub left-renumbered : (frame : Frame) (shelves : List BucketShelf) → left_to frame (map (renumbered_shelf name) shelves) ≡ left_to frame shelves
  left-renumbered frame shelves =
      rw (last-renumbered 0 shelves, height-renumbered (last_column 0 shelves) shelves, in_use-renumbered shelves) refl

  -- the same bucket has room
  roomy-renumbered : (width : ℕ) (shelf : BucketShelf) → roomy_bucket width (renumbered_shelf name shelf) ≡ option_map (renumbered_bucket name) (roomy_bucket width shelf)
  roomy-renumbered width shelf = find-changed (renumbered_bucket name) (has_room width (renumbered_shelf name shelf)) (has_room width shelf) (λ (b : Bucket). refl) shelf.buckets

  -- a shelf wastes as much
  waste-renumbered : (adds : Bool) (sides : Sides) (shelf : BucketShelf) → waste adds sides (renumbered_shelf name shelf) ≡ waste adds sides shelf
  waste-renumbered adds sides shelf =
      rw (roomy-renumbered sides.along shelf)
      (ap (λ o. if is_eligible adds sides shelf then o else None) (map-none (renumbered_bucket name) (λ _. shelf.height - sides.across) (λ _. shelf.height - sides.across) (λ b. refl) (roomy_bucket sides.along shelf)))

  -- a choice that finds the same bucket finds the same spot
  pub spot-renumbered : (choose : BucketShelf → Option Bucket) → ((shelf : BucketShelf) → choose (renumbered_shelf name shelf) ≡ option_map (renumbered_bucket name) (choose shelf))
      → (number : ℕ) (shelves : List BucketShelf) → spot_in choose number (map (renumbered_shelf name) shelves) ≡ option_map (renumbered_spot name) (spot_in choose number shelves)
  spot-renumbered choose same number shelves = rw (slice_get-map (renumbered_shelf name) shelves number) (of_shelf (slice_get shelves number))
    where
      of_bucket : (shelf : BucketShelf) (o : Option Bucket)
          → option_map (λ (bucket : Bucket). record { number = number; shelf = renumbered_shelf name shelf; bucket = bucket }) (option_map (renumbered_bucket name) o)
          ≡ option_map (renumbered_spot name) (option_map (λ (bucket : Bucket). record { number = number; shelf = shelf; bucket = bucket }) o)
      of_bucket shelf None = refl
      of_bucket shelf (Some bucket) = refl

      of_shelf : (o : Option BucketShelf)
          → option_and_then (λ shelf. option_map (λ (bucket : Bucket). record { number = number; shelf = shelf; bucket = bucket }) (choose shelf)) (option_map (renumbered_shelf name) o)
          ≡ option_map (renumbered_spot name) (option_and_then (λ shelf. option_map (λ (bucket : Bucket). record { number = number; shelf = shelf; bucket = bucket }) (choose shelf)) o)
      of_shelf None = refl
      of_shelf (Some shelf) = rw (same shelf) (of_bucket shelf (choose shelf))

  -- the bucket of least waste
  least-renumbered : (adds : Bool) (sides : Sides) (shelves : List BucketShelf) → least_spot adds sides (map (renumbered_shelf name) shelves) ≡ option_map (renumbered_spot name) (least_spot adds sides shelves)
  least-renumbered adds sides shelves =
      rw (ranks-changed (renumbered_shelf name) (waste adds sides) (waste-renumbered adds sides) shelves) (of_found (first_least (map (waste adds sides) shelves)))
    where
      of_found : (o : Option Found)
          → option_and_then (λ found. spot_in (roomy_bucket sides.along) found.number (map (renumbered_shelf name) shelves)) o
          ≡ option_map (renumbered_spot name) (option_and_then (λ found. spot_in (roomy_bucket sides.along) found.number shelves) o)
      of_found None = refl
      of_found (Some found) = spot-renumbered (roomy_bucket sides.along) (roomy-renumbered sides.along) found.number shelves

  -- an exact bucket
  exact-renumbered : (sides : Sides) (shelf : BucketShelf) → exact_bucket sides (renumbered_shelf name shelf) ≡ option_map (renumbered_bucket name) (exact_bucket sides shelf)
  exact-renumbered sides shelf =
      ap (λ o. if shelf.height == sides.across then o else None) (find-changed (renumbered_bucket name) (is_exact sides.along (renumbered_shelf name shelf)) (is_exact sides.along shelf) (λ (b : Bucket). refl) shelf.buckets)
      ∙ here (shelf.height == sides.across)
    where
      here : (b : Bool) → cond b (option_map (renumbered_bucket name) (find (is_exact sides.along shelf) shelf.buckets)) None ≡ option_map (renumbered_bucket name) (cond b (find (is_exact sides.along shelf) shelf.buckets) None)
      here true = refl
      here false = refl

  -- the first exact one
  first-renumbered : (sides : Sides) (number : ℕ) (shelves : List BucketShelf) → first_spot (exact_bucket sides) number (map (renumbered_shelf name) shelves) ≡ option_map (renumbered_spot name) (first_spot (exact_bucket sides) number shelves)
  first-renumbered sides number [] = refl
  first-renumbered sides number (shelf ∷ shelves) =
      rw (exact-renumbered sides shelf, first-renumbered sides (suc number) shelves) (of_bucket (exact_bucket sides shelf))
    where
      of_bucket : (o : Option Bucket)
          → or_else (option_map (λ (bucket : Bucket). record { number = number; shelf = renumbered_shelf name shelf; bucket = bucket }) (option_map (renumbered_bucket name) o)) (option_map (renumbered_spot name) (first_spot (exact_bucket sides) (suc number) shelves))
          ≡ option_map (renumbered_spot name) (or_else (option_map (λ (bucket : Bucket). record { number = number; shelf = shelf; bucket = bucket }) o) (first_spot (exact_bucket sides) (suc number) shelves))
      of_bucket None = refl
      of_bucket (Some bucket) = refl

  -- an exact one instead
  exact_or-renumbered : (sides : Sides) (shelves : List BucketShelf) (spot : Spot) → exact_or sides (map (renumbered_shelf name) shelves) (renumbered_spot name spot) ≡ renumbered_spot name (exact_or sides shelves spot)
  exact_or-renumbered sides shelves spot =
      rw (drop-map (renumbered_shelf name) (suc spot.number) shelves, first-renumbered sides (suc spot.number) (drop (suc spot.number) shelves))
      (here (spot.shelf.height == sides.across && not (free_width spot.shelf spot.bucket == sides.along)) (first_spot (exact_bucket sides) (suc spot.number) (drop (suc spot.number) shelves)))
    where
      here : (b : Bool) (o : Option Spot) → cond b (unwrap_or (option_map (renumbered_spot name) o) (renumbered_spot name spot)) (renumbered_spot name spot) ≡ renumbered_spot name (cond b (unwrap_or o spot) spot)
      here true None = refl
      here true (Some found) = refl
      here false o = refl

  -- the same bucket is picked
  pick-renumbered : (adds : Bool) (sides : Sides) (shelves : List BucketShelf) → pick adds sides (map (renumbered_shelf name) shelves) ≡ option_map (renumbered_spot name) (pick adds sides shelves)
  pick-renumbered adds sides shelves = rw (least-renumbered adds sides shelves) (of_spot (least_spot adds sides shelves))
    where
      of_spot : (o : Option Spot) → option_map (exact_or sides (map (renumbered_shelf name) shelves)) (option_map (renumbered_spot name) o) ≡ option_map (renumbered_spot name) (option_map (exact_or sides shelves) o)
      of_spot None = refl
      of_spot (Some spot) = ap Some (exact_or-renumbered sides shelves spot)

  -- shelves are as tall together
  pub total-renumbered : (shelves : List BucketShelf) → total_height (map (renumbered_shelf name) shelves) ≡ total_height shelves
  total-renumbered [] = refl
  total-renumbered (shelf ∷ shelves) = ap (λ n. shelf.height + n) (total-renumbered shelves)

  -- shelves serve alike
  serves-renumbered : (sides : Sides) (others : ℕ) (shelf : BucketShelf) (shelves : List BucketShelf) → serves sides others (renumbered_shelf name shelf) (map (renumbered_shelf name) shelves) ≡ serves sides others shelf shelves
  serves-renumbered sides others shelf shelves =
      rw (
        take-map (renumbered_shelf name) others shelves,
        length-map (take others shelves) (renumbered_shelf name),
        idle-renumbered shelf,
        all-changed (renumbered_shelf name) (is_idle_in shelf.column) (is_idle_in shelf.column) (λ (s : BucketShelf). ap (λ b. s.column == shelf.column && b) (idle-renumbered s)) (take others shelves),
        total-renumbered (take others shelves),
      ) refl

  -- the same shelves can be merged
  mergeable-renumbered : (sides : Sides) (number : ℕ) (shelves : List BucketShelf) → mergeable_shelves sides number (map (renumbered_shelf name) shelves) ≡ mergeable_shelves sides number shelves
  mergeable-renumbered sides number [] = refl
  mergeable-renumbered sides number (shelf ∷ shelves) =
      rw (serves-renumbered sides 1 shelf shelves, serves-renumbered sides 2 shelf shelves, mergeable-renumbered sides (suc number) shelves) refl

  -- sides have the same place
  destination-renumbered : (frame : Frame) (shelves : List BucketShelf) (sides : Sides) → destination_of frame (map (renumbered_shelf name) shelves) sides ≡ option_map (renumbered_destination name) (destination_of frame shelves sides)
  destination-renumbered frame shelves sides =
      ap (λ left. placed left (map (renumbered_shelf name) shelves)) (left-renumbered frame shelves) ∙ of_left (left_to frame shelves)
    where
      placed : Remaining → List BucketShelf → Option Destination
      placed left shelves =
          or_else (option_map InBucket (pick (can_add frame left sides.across) sides shelves))
          (if can_add frame left sides.across then Some (InAdded (new_shelves frame left sides)) else option_map InMerged (mergeable_shelves sides 0 shelves))

      of_spot : (left : Remaining) (o : Option Spot) (b : Bool) (g : Option Group)
          → or_else (option_map InBucket (option_map (renumbered_spot name) o)) (cond b (Some (InAdded (new_shelves frame left sides))) (option_map InMerged g))
          ≡ option_map (renumbered_destination name) (or_else (option_map InBucket o) (cond b (Some (InAdded (new_shelves frame left sides))) (option_map InMerged g)))
      of_spot left (Some spot) b g = refl
      of_spot left None true g = refl
      of_spot left None false None = refl
      of_spot left None false (Some group) = refl

      of_left : (left : Remaining) → placed left (map (renumbered_shelf name) shelves) ≡ option_map (renumbered_destination name) (placed left shelves)
      of_left left =
          ap (λ o. or_else (option_map InBucket o) (if can_add frame left sides.across then Some (InAdded (new_shelves frame left sides)) else option_map InMerged (mergeable_shelves sides 0 (map (renumbered_shelf name) shelves)))) (pick-renumbered (can_add frame left sides.across) sides shelves)
          ∙ ap (λ g. or_else (option_map InBucket (option_map (renumbered_spot name) (pick (can_add frame left sides.across) sides shelves))) (if can_add frame left sides.across then Some (InAdded (new_shelves frame left sides)) else option_map InMerged g)) (mergeable-renumbered sides 0 shelves)
          ∙ of_spot left (pick (can_add frame left sides.across) sides shelves) (can_add frame left sides.across) (mergeable_shelves sides 0 shelves)

  -- a size has the same place
  pub placement-renumbered : (state : BucketedState) (size : Size) → placement_of (renumbered name state) size ≡ option_map (renumbered_placement name) (placement_of state size)
  placement-renumbered state size = of_sides (asked state.frame size)
    where
      of_place : (sides : Sides) (o : Option Destination)
          → option_map (λ (destination : Destination). record { width = sides.along; destination = destination }) (option_map (renumbered_destination name) o)
          ≡ option_map (renumbered_placement name) (option_map (λ (destination : Destination). record { width = sides.along; destination = destination }) o)
      of_place sides None = refl
      of_place sides (Some place) = refl

      of_sides : (o : Option Sides)
          → option_and_then (λ sides. option_map (λ (destination : Destination). record { width = sides.along; destination = destination }) (destination_of state.frame (map (renumbered_shelf name) state.shelves) sides)) o
          ≡ option_map (renumbered_placement name) (option_and_then (λ sides. option_map (λ (destination : Destination). record { width = sides.along; destination = destination }) (destination_of state.frame state.shelves sides)) o)
      of_sides None = refl
      of_sides (Some sides) = rw (destination-renumbered state.frame state.shelves sides) (of_place sides (destination_of state.frame state.shelves sides))
