-- A bucket that is picked stands in a shelf that is tall enough, and has room.
use Rattle.std.proofs.Common.{◌≡◌, ℕ, zero, suc, ◌+◌, ◌-◌, ◌<◌, ◌≤◌, Bool, true, false, cond, Option, Some, None, List, [], ◌∷◌, map, drop, refl, ap, arith, sym, ◌∙◌, subst, ◌&&◌, ◌⊎◌, inl, inr, ⊎_elim, suc-add, zero-add}
use Rattle.std.proofs.lemmas.Bool.{and_parts, eqb-true, leb-true, ltb-true}
use Rattle.std.proofs.lemmas.Option.{slice_get-map}
use Rattle.std.specs.Prelude.{find, not, nat_le, nat_lt, option_and_then, option_map, slice_get, unwrap_or, ◌==◌}
use Rattle.etagere_base.proofs.Least.{first_least-is}
use Rattle.etagere_base.proofs.ReplacedLists.{split-at}
use Rattle.etagere_base.specs.declared.sides.Sides.{Sides}
use Rattle.etagere_base.specs.Least.{Found, first_least}
use Rattle.bucketed_model.specs.Picking.{Spot, exact_bucket, exact_or, first_spot, free_width, has_room, is_eligible, is_exact, least_spot, or_else, pick, roomy_bucket, spot_in, waste}
use Rattle.bucketed_model.specs.State.{Bucket, BucketShelf, most_given}
use Rattle.bucketed_model.proofs.Validity.Spots.{IsSpot, find-found}

-- a spot stands in shelves, and its bucket has room for these sides
pub record IsRoomy (sides : Sides) (shelves : List BucketShelf) (spot : Spot) : Type 0 where
  pub at : IsSpot shelves spot
  pub tall : sides.across ≤ spot.shelf.height
  pub wide : sides.along ≤ spot.shelf.bucket_width - spot.bucket.used
  pub given : spot.bucket.given < most_given

-- what an option gives through a function that may give none
pub and_then-parts : {A B : Type 0} (f : A → Option B) (o : Option A) (y : B) → option_and_then f o ≡ Some y → (x : A) × (o ≡ Some x) × (f x ≡ Some y)
and_then-parts f None y h = cc
and_then-parts f (Some x) y h = (x, refl, h)

-- what an option gives through a function
pub map-parts : {A B : Type 0} (f : A → B) (o : Option A) (y : B) → option_map f o ≡ Some y → (x : A) × (o ≡ Some x) × (f x ≡ y)
map-parts f None y h = cc
map-parts f (Some x) y h = (x, refl, cc)

-- what is found first of two
pub or_else-parts : {A : Type 0} (one other : Option A) (x : A) → or_else one other ≡ Some x → (one ≡ Some x) ⊎ ((one ≡ None) × (other ≡ Some x))
or_else-parts None other x h = inr (refl, h)
or_else-parts (Some y) other x h = inl h

-- a spot that a choice finds in the shelf of a number: that shelf, and what the choice found in it
pub record IsChosen (choose : BucketShelf → Option Bucket) (number : ℕ) (shelves : List BucketShelf) (spot : Spot) : Type 0 where
  pub number_is : spot.number ≡ number
  pub shelf_is : slice_get shelves number ≡ Some spot.shelf
  pub bucket_is : choose spot.shelf ≡ Some spot.bucket

-- a spot in the shelf of a number
pub spot_in-chosen : (choose : BucketShelf → Option Bucket) (number : ℕ) (shelves : List BucketShelf) (spot : Spot)
    → spot_in choose number shelves ≡ Some spot → IsChosen choose number shelves spot
spot_in-chosen choose number shelves spot h =
    let outer = and_then-parts _ (slice_get shelves number) spot h in
    let inner = map-parts (λ (bucket : Bucket). let made : Spot = record { number = number; shelf = outer.0; bucket = bucket } in made) (choose outer.0) spot outer.2 in
    let made : Spot = record { number = number; shelf = outer.0; bucket = inner.0 } in
    let same : made ≡ spot = inner.2 in
    record {
      number_is = sym (ap (λ (s : Spot). s.number) same);
      shelf_is = outer.1 ∙ ap (λ (s : Spot). Some s.shelf) same;
      bucket_is = subst (λ (s : Spot). choose s.shelf ≡ Some s.bucket) same inner.1;
    }

-- a chosen spot stands in the shelves
pub chosen-spot : (shelves : List BucketShelf) (spot : Spot)
    → slice_get shelves spot.number ≡ Some spot.shelf → (test : Bucket → Bool) → find test spot.shelf.buckets ≡ Some spot.bucket
    → IsSpot shelves spot
chosen-spot shelves spot at test h =
    let shelf = split-at shelves spot.number spot.shelf at in
    let bucket = find-found test spot.shelf.buckets spot.bucket h in
    record { front = shelf.front; back = shelf.back; left = bucket.front; right = bucket.back; before = shelf.before; whole = shelf.whole; buckets = bucket.whole }

-- what a shelf with a waste has: it is tall enough
waste-tall : (adds : Bool) (sides : Sides) (shelf : BucketShelf) (r : ℕ) → waste adds sides shelf ≡ Some r → sides.across ≤ shelf.height
waste-tall adds sides shelf r h = by_test (is_eligible adds sides shelf) refl h
  where
    by_test : (b : Bool) → is_eligible adds sides shelf ≡ b → cond b (option_map (λ (_ : Bucket). shelf.height - sides.across) (roomy_bucket sides.along shelf)) None ≡ Some r → sides.across ≤ shelf.height
    by_test true e k =
        let inner = nat_le sides.along shelf.bucket_width && not (adds && nat_lt sides.across (shelf.height - sides.across)) in
        leb-true sides.across shelf.height (and_parts (nat_le sides.across shelf.height) inner e).0
    by_test false e k = cc

-- what is roomy has room
roomy-room : (sides : Sides) (shelves : List BucketShelf) (spot : Spot) → slice_get shelves spot.number ≡ Some spot.shelf
    → roomy_bucket sides.along spot.shelf ≡ Some spot.bucket → sides.across ≤ spot.shelf.height → IsRoomy sides shelves spot
roomy-room sides shelves spot at h tall =
    let found = find-found (has_room sides.along spot.shelf) spot.shelf.buckets spot.bucket h in
    let parts = and_parts (nat_le sides.along (free_width spot.shelf spot.bucket)) (nat_lt spot.bucket.given most_given) found.passes in
    record {
      at = chosen-spot shelves spot at (has_room sides.along spot.shelf) h;
      tall = tall;
      wide = leb-true sides.along (free_width spot.shelf spot.bucket) parts.0;
      given = ltb-true spot.bucket.given most_given parts.1;
    }

-- the spot of least waste has room
least-roomy : (adds : Bool) (sides : Sides) (shelves : List BucketShelf) (spot : Spot) → least_spot adds sides shelves ≡ Some spot → IsRoomy sides shelves spot
least-roomy adds sides shelves spot h =
    let outer = and_then-parts (λ (found : Found). spot_in (roomy_bucket sides.along) found.number shelves) (first_least (map (waste adds sides) shelves)) spot h in
    let found = outer.0 in
    let chosen = spot_in-chosen (roomy_bucket sides.along) found.number shelves spot outer.2 in
    let ranked = (first_least-is (map (waste adds sides) shelves) found outer.1).at in
    let mapped = slice_get-map (waste adds sides) shelves found.number in
    let there = ap (option_map (waste adds sides)) chosen.shelf_is in
    let rank : waste adds sides spot.shelf ≡ Some found.rank = cc in
    let at : slice_get shelves spot.number ≡ Some spot.shelf = subst (λ (n : ℕ). slice_get shelves n ≡ Some spot.shelf) (sym chosen.number_is) chosen.shelf_is in
    roomy-room sides shelves spot at chosen.bucket_is (waste-tall adds sides spot.shelf found.rank rank)

-- a spot that is found first from a number on stands there
record IsBehind (choose : BucketShelf → Option Bucket) (number : ℕ) (shelves : List BucketShelf) (spot : Spot) : Type 0 where
  pub steps : ℕ
  pub number_is : spot.number ≡ number + steps
  pub shelf_is : slice_get shelves steps ≡ Some spot.shelf
  pub bucket_is : choose spot.shelf ≡ Some spot.bucket

-- the first spot that a choice finds
first-behind : (choose : BucketShelf → Option Bucket) (number : ℕ) (shelves : List BucketShelf) (spot : Spot)
    → first_spot choose number shelves ≡ Some spot → IsBehind choose number shelves spot
first-behind choose number [] spot h = absurd (cc)
first-behind choose number (x ∷ xs) spot h =
    ⊎_elim
    (λ (here : option_map (λ (bucket : Bucket). let made : Spot = record { number = number; shelf = x; bucket = bucket } in made) (choose x) ≡ Some spot).
    let inner = map-parts (λ (bucket : Bucket). let made : Spot = record { number = number; shelf = x; bucket = bucket } in made) (choose x) spot here in
    subst (IsBehind choose number (x ∷ xs)) inner.2 (let first : IsBehind choose number (x ∷ xs) (record { number = number; shelf = x; bucket = inner.0 }) = record { steps = 0; number_is = omega arith; shelf_is = refl; bucket_is = inner.1 } in first))
    (λ (later : (option_map (λ (bucket : Bucket). let made : Spot = record { number = number; shelf = x; bucket = bucket } in made) (choose x) ≡ None) × (first_spot choose (suc number) xs ≡ Some spot)).
    let rest = first-behind choose (suc number) xs spot later.1 in
    let next : IsBehind choose number (x ∷ xs) spot = record { steps = suc rest.steps; number_is = omega (arith, rest.number_is); shelf_is = rest.shelf_is; bucket_is = rest.bucket_is } in next)
    (or_else-parts _ _ spot h)

-- an element behind so many others
slice_get-drop : (n k : ℕ) (xs : List BucketShelf) → slice_get (drop n xs) k ≡ slice_get xs (n + k)
slice_get-drop zero k xs = ap (slice_get xs) (sym (zero-add k))
slice_get-drop (suc n) k [] = refl
slice_get-drop (suc n) k (x ∷ xs) = rw suc-add (slice_get-drop n k xs)

-- an exact bucket has room, in a shelf that wastes no height
exact-roomy : (sides : Sides) (shelves : List BucketShelf) (spot : Spot) → slice_get shelves spot.number ≡ Some spot.shelf
    → exact_bucket sides spot.shelf ≡ Some spot.bucket → IsRoomy sides shelves spot
exact-roomy sides shelves spot at h = by_test (spot.shelf.height == sides.across) refl h
  where
    by_test : (b : Bool) → (spot.shelf.height == sides.across) ≡ b → cond b (find (is_exact sides.along spot.shelf) spot.shelf.buckets) None ≡ Some spot.bucket → IsRoomy sides shelves spot
    by_test true e k =
        let found = find-found (is_exact sides.along spot.shelf) spot.shelf.buckets spot.bucket k in
        let parts = and_parts (has_room sides.along spot.shelf spot.bucket) (free_width spot.shelf spot.bucket == sides.along) found.passes in
        let room = and_parts (nat_le sides.along (free_width spot.shelf spot.bucket)) (nat_lt spot.bucket.given most_given) parts.0 in
        record {
          at = chosen-spot shelves spot at (is_exact sides.along spot.shelf) k;
          tall = omega (arith, eqb-true spot.shelf.height sides.across e);
          wide = leb-true sides.along (free_width spot.shelf spot.bucket) room.0;
          given = ltb-true spot.bucket.given most_given room.1;
        }
    by_test false e k = cc

-- what is picked has room
pub pick-roomy : (adds : Bool) (sides : Sides) (shelves : List BucketShelf) (spot : Spot) → pick adds sides shelves ≡ Some spot → IsRoomy sides shelves spot
pick-roomy adds sides shelves spot h =
    let outer = map-parts (exact_or sides shelves) (least_spot adds sides shelves) spot h in
    let least = least-roomy adds sides shelves outer.0 outer.1 in
    subst (IsRoomy sides shelves) outer.2
    (by_test outer.0 least (outer.0.shelf.height == sides.across && not (free_width outer.0.shelf outer.0.bucket == sides.along))
    (first_spot (exact_bucket sides) (suc outer.0.number) (drop (suc outer.0.number) shelves)) refl)
  where
    by_test : (spot : Spot) → IsRoomy sides shelves spot → (b : Bool) (o : Option Spot) → first_spot (exact_bucket sides) (suc spot.number) (drop (suc spot.number) shelves) ≡ o
        → IsRoomy sides shelves (cond b (unwrap_or o spot) spot)
    by_test spot roomy false o e = roomy
    by_test spot roomy true None e = roomy
    by_test spot roomy true (Some other) e =
        let behind = first-behind (exact_bucket sides) (suc spot.number) (drop (suc spot.number) shelves) other e in
        exact-roomy sides shelves other
        (subst (λ (n : ℕ). slice_get shelves n ≡ Some other.shelf) (sym behind.number_is)
        (sym (slice_get-drop (suc spot.number) behind.steps shelves) ∙ behind.shelf_is)) behind.bucket_is
