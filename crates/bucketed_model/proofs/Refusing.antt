-- A size is refused exactly where it does not fit, and what each reason says.
use Rattle.std.proofs.Common.{◌≡◌, ℕ, zero, suc, ◌-◌, ◌<◌, ◌≤◌, Bool, true, false, cond, Option, None, Some, List, [], ◌∷◌, ◌++◌, map, max, refl, ap, arith, sym, ◌∙◌, subst, ◌&&◌}
use Rattle.std.proofs.lemmas.Bool.{and_parts, leb-true, ltb-true}
use Rattle.std.proofs.lemmas.Bool.Decides.{nat_tests}
use Rattle.std.proofs.lemmas.Option.{slice_get-map}
use Rattle.std.specs.List.{list_any}
use Rattle.std.specs.Prelude.{◌↔◌, ◌||◌, ◌==◌, find, flat_map, not, nat_le, nat_lt, is_some, IsSome, option_and_then, option_map, slice_get, if◌then◌else◌}
use Rattle.etagere_base.proofs.Least.{first_least-is}
use Rattle.etagere_base.specs.Least.{Found, first_least, one_later}
use Rattle.etagere_base.specs.declared.frames.Frame.{Frame}
use Rattle.etagere_base.specs.declared.geometry.Size.{Size}
use Rattle.etagere_base.specs.declared.faults.SizeRefusal.TheVariants as sizes
use Rattle.etagere_base.specs.declared.sides.Sides.{Sides}
use Rattle.etagere_base.specs.Frames.{across_side, asked, rounded}
use Rattle.etagere_base.specs.Sides.{side}
use Rattle.bucketed_model.specs.declared.refusals.BucketedRefusal.{BucketedRefusal}
use Rattle.bucketed_model.specs.declared.refusals.BucketedRefusal.TheVariants.{NoRoom, NoBuckets, ItemsUsedUp}
use Rattle.bucketed_model.specs.Adding.{Remaining, can_add, left_to, needs_filler, new_shelves}
use Rattle.bucketed_model.specs.Merging.{mergeable_shelves}
use Rattle.bucketed_model.specs.Picking.{Spot, exact_or, free_width, has_room, is_eligible, or_else, pick, roomy_bucket, spot_in, waste}
use Rattle.bucketed_model.specs.Placing.{Destination, BucketPlacement, InAdded, InBucket, InMerged, destination_of, placement_of}
use Rattle.bucketed_model.specs.Refusal.{greatest, has_space, has_width, is_wide, of_size, sides_refusal, refusal, room, rooms_in, shelves_refusal, size_refusal, widest}
use Rattle.bucketed_model.specs.RefusalLaws.{IsUsedUp}
use Rattle.bucketed_model.specs.State.{Bucket, BucketShelf, BucketedState, buckets_left, most_given}

-- the reasons of a size, by the tests of its sides
abbrev reason_by : (empty long wide tall : Bool) → Option BucketedRefusal
reason_by empty long wide tall =
    option_map of_size
    (if empty then Some sizes.NotPositive
    else (if long then Some sizes.TooLong else (if wide then Some sizes.WiderThanColumn else (if tall then Some sizes.TallerThanAtlas else None))))

-- the sides asked for, by the same tests
abbrev asked_by : (no_width no_height wide_side tall_side wide tall : Bool) → Sides → Option Sides
asked_by no_width no_height wide_side tall_side wide tall sides =
    cond ((not no_width && not wide_side) && (not no_height && not tall_side)) (cond (not wide && not tall) (Some sides) None) None

-- one is there exactly where the other isn't
record AreOpposite (reason : Option BucketedRefusal) (asks : Option Sides) (sides : Sides) : Type 0 where
  none : reason ≡ None → asks ≡ Some sides
  some : is_some reason ≡ true → asks ≡ None

opposite-by : (no_width no_height wide_side tall_side wide tall : Bool) (sides : Sides)
    → AreOpposite (reason_by (no_width || no_height) (wide_side || tall_side) wide tall) (asked_by no_width no_height wide_side tall_side wide tall sides) sides
opposite-by true h w t c a sides = record { none = λ e. absurd (cc); some = λ e. refl }
opposite-by false true w t c a sides = record { none = λ e. absurd (cc); some = λ e. past w }
  where
    past : (w : Bool) → asked_by false true w t c a sides ≡ None
    past true = refl
    past false = refl
opposite-by false false true t c a sides = record { none = λ e. absurd (cc); some = λ e. refl }
opposite-by false false false true c a sides = record { none = λ e. absurd (cc); some = λ e. refl }
opposite-by false false false false true a sides = record { none = λ e. absurd (cc); some = λ e. refl }
opposite-by false false false false false true sides = record { none = λ e. absurd (cc); some = λ e. refl }
opposite-by false false false false false false sides = record { none = λ e. refl; some = λ e. absurd (cc) }

-- tests and their opposites
above-not : (m n : ℕ) → nat_le m n ≡ not (nat_lt n m)
above-not m n = grind (arith, nat_tests)

some-not : (m : ℕ) → nat_lt 0 m ≡ not (m == 0)
some-not m = grind (arith, nat_tests)

asked-is_by : (frame : Frame) (size : Size)
    → asked frame size
    ≡ asked_by (side size.width == 0) (side size.height == 0) (nat_lt 65535 (side size.width)) (nat_lt 65535 (side size.height))
    (nat_lt frame.column_width (rounded frame size).along) (nat_lt (across_side frame) (rounded frame size).across) (rounded frame size)
asked-is_by frame size =
    let sides = rounded frame size in
    let fits = cond (nat_le sides.along frame.column_width && nat_le sides.across (across_side frame)) (Some sides) None in
    ap (λ (t : Bool). cond ((t && nat_le (side size.width) 65535) && (nat_lt 0 (side size.height) && nat_le (side size.height) 65535)) fits None) (some-not (side size.width))
    ∙ ap (λ (t : Bool). cond ((not (side size.width == 0) && t) && (nat_lt 0 (side size.height) && nat_le (side size.height) 65535)) fits None) (above-not (side size.width) 65535)
    ∙ ap (λ (t : Bool). cond ((not (side size.width == 0) && not (nat_lt 65535 (side size.width))) && (t && nat_le (side size.height) 65535)) fits None) (some-not (side size.height))
    ∙ ap (λ (t : Bool). cond ((not (side size.width == 0) && not (nat_lt 65535 (side size.width))) && (not (side size.height == 0) && t)) fits None) (above-not (side size.height) 65535)
    ∙ ap (λ (t : Bool). cond ((not (side size.width == 0) && not (nat_lt 65535 (side size.width))) && (not (side size.height == 0) && not (nat_lt 65535 (side size.height)))) (cond (t && nat_le sides.across (across_side frame)) (Some sides) None) None)
    (above-not sides.along frame.column_width)
    ∙ ap (λ (t : Bool). cond ((not (side size.width == 0) && not (nat_lt 65535 (side size.width))) && (not (side size.height == 0) && not (nat_lt 65535 (side size.height)))) (cond (not (nat_lt frame.column_width sides.along) && t) (Some sides) None) None)
    (above-not sides.across (across_side frame))

-- a size is asked for where it has no reason of its own, and else it isn't
size-opposite : (frame : Frame) (size : Size) → AreOpposite (size_refusal frame size) (asked frame size) (rounded frame size)
size-opposite frame size =
    subst (λ (asks : Option Sides). AreOpposite (size_refusal frame size) asks (rounded frame size)) (sym (asked-is_by frame size))
    (opposite-by (side size.width == 0) (side size.height == 0) (nat_lt 65535 (side size.width)) (nat_lt 65535 (side size.height))
    (nat_lt frame.column_width (rounded frame size).along) (nat_lt (across_side frame) (rounded frame size).across) (rounded frame size))

-- a size that is asked for has no reason of its own
pub asked-unrefused : (frame : Frame) (size : Size) (sides : Sides) → asked frame size ≡ Some sides → size_refusal frame size ≡ None
asked-unrefused frame size sides h = by_reason (size_refusal frame size) (size-opposite frame size)
  where
    by_reason : (reason : Option BucketedRefusal) → AreOpposite reason (asked frame size) (rounded frame size) → reason ≡ None
    by_reason None o = refl
    by_reason (Some r) o = let none = o.some refl in absurd (cc)

-- where these sides go, and their reason
abbrev placed_at : BucketedState → Sides → Option BucketPlacement
placed_at state sides = option_map (λ (destination : Destination). record { width = sides.along; destination = destination }) (destination_of state.frame state.shelves sides)

-- there is no reason exactly where a size has a destination
pub refuses-exactly : (state : BucketedState) (size : Size) → (refusal state size ≡ None) ↔ IsSome (placement_of state size)
refuses-exactly state size = by_reason (size_refusal state.frame size) (asked state.frame size) (size-opposite state.frame size)
  where
    by_place : (sides : Sides) (destination : Option Destination)
        → (cond (is_some destination) None (Some (shelves_refusal state.frame state.shelves sides)) ≡ None)
        ↔ (is_some (option_map (λ (p : Destination). let made : BucketPlacement = record { width = sides.along; destination = p } in made) destination) ≡ true)
    by_place sides None = (λ e. absurd (cc), λ e. absurd (cc))
    by_place sides (Some destination) = (λ e. refl, λ e. refl)

    by_reason : (reason : Option BucketedRefusal) (asks : Option Sides) → AreOpposite reason asks (rounded state.frame size)
        → (or_else reason (option_and_then (sides_refusal state.frame state.shelves) asks) ≡ None) ↔ (is_some (option_and_then (placed_at state) asks) ≡ true)
    by_reason None None o = let asks = o.none refl in absurd (cc)
    by_reason None (Some sides) o = by_place sides (destination_of state.frame state.shelves sides)
    by_reason (Some r) None o = (λ e. absurd (cc), λ e. absurd (cc))
    by_reason (Some r) (Some sides) o = let asks = o.some refl in absurd (cc)

-- what is refused by its shelves: it has no reason of its own, it goes nowhere, and this reason
record IsRefused (state : BucketedState) (sides : Sides) (reason : BucketedRefusal) : Type 0 where
  nowhere : destination_of state.frame state.shelves sides ≡ None
  told : shelves_refusal state.frame state.shelves sides ≡ reason

refused-by : (state : BucketedState) (size : Size) (sides : Sides) (reason : BucketedRefusal) → refusal state size ≡ Some reason → asked state.frame size ≡ Some sides
    → IsRefused state sides reason
refused-by state size sides reason h asks =
    by_place (destination_of state.frame state.shelves sides) refl
    (sym (ap (λ (o : Option BucketedRefusal). or_else o (option_and_then (sides_refusal state.frame state.shelves) (asked state.frame size))) (asked-unrefused state.frame size sides asks)
    ∙ ap (option_and_then (sides_refusal state.frame state.shelves)) asks) ∙ h)
  where
    by_place : (destination : Option Destination) → destination_of state.frame state.shelves sides ≡ destination
        → cond (is_some destination) None (Some (shelves_refusal state.frame state.shelves sides)) ≡ Some reason → IsRefused state sides reason
    by_place None e k = record { nowhere = e; told = cc }
    by_place (Some destination) e k = absurd (cc)

-- nothing is picked, added or merged for sides that go nowhere
record HasNone (state : BucketedState) (sides : Sides) : Type 0 where
  picks : pick (can_add state.frame (left_to state.frame state.shelves) sides.across) sides state.shelves ≡ None
  adds : can_add state.frame (left_to state.frame state.shelves) sides.across ≡ false

nowhere-none : (state : BucketedState) (sides : Sides) → destination_of state.frame state.shelves sides ≡ None → HasNone state sides
nowhere-none state sides h =
    by_parts (pick (can_add state.frame (left_to state.frame state.shelves) sides.across) sides state.shelves) (can_add state.frame (left_to state.frame state.shelves) sides.across) refl refl h
  where
    adds : Bool
    adds = can_add state.frame (left_to state.frame state.shelves) sides.across

    by_parts : (found : Option Spot) (a : Bool) → pick adds sides state.shelves ≡ found → adds ≡ a
        → or_else (option_map InBucket found) (cond a (Some (InAdded (new_shelves state.frame (left_to state.frame state.shelves) sides))) (option_map InMerged (mergeable_shelves sides 0 state.shelves))) ≡ None
        → HasNone state sides
    by_parts (Some spot) a e f k = absurd (cc)
    by_parts None true e f k = absurd (cc)
    by_parts None false e f k = record { picks = e; adds = f }

-- where buckets are lacking
pub few-are-left : (state : BucketedState) (size : Size) (sides : Sides) → refusal state size ≡ Some NoBuckets → asked state.frame size ≡ Some sides
    → (has_space state.frame (left_to state.frame state.shelves) sides.across ≡ true) × (buckets_left state.shelves ≤ 1)
few-are-left state size sides h asks =
    let refused = refused-by state size sides NoBuckets h asks in
    let none = nowhere-none state sides refused.nowhere in
    by_tests (has_space state.frame left sides.across) (list_any (has_width sides) state.shelves) (needs_filler state.frame left sides.across) refl refused.told none.adds
  where
    left : Remaining
    left = left_to state.frame state.shelves

    by_tests : (spacious wide filler : Bool) → has_space state.frame left sides.across ≡ spacious
        → cond (not (spacious || wide)) (NoRoom (widest sides.across state.shelves)) (cond spacious NoBuckets ItemsUsedUp) ≡ NoBuckets
        → (spacious && nat_le (cond filler 2 1) (buckets_left state.shelves)) ≡ false
        → (spacious ≡ true) × (buckets_left state.shelves ≤ 1)
    by_tests true wide true e k a = (refl, grind (arith, nat_tests))
    by_tests true wide false e k a = (refl, grind (arith, nat_tests))
    by_tests false true filler e k a = absurd (cc)
    by_tests false false filler e k a = absurd (cc)

-- an element for which the test holds, and where it stands
record IsAmong {X : Type 0} (test : X → Bool) (xs : List X) : Type 0 where
  number : ℕ
  element : X
  here : slice_get xs number ≡ Some element
  passes : test element ≡ true

among-later : {X : Type 0} (test : X → Bool) (x : X) (xs : List X) → IsAmong test xs → IsAmong test (x ∷ xs)
among-later test x xs later = record { number = suc later.number; element = later.element; here = later.here; passes = later.passes }

among-any : {X : Type 0} (test : X → Bool) (xs : List X) → list_any test xs ≡ true → IsAmong test xs
among-any test [] h = absurd (cc)
among-any {X} test (x ∷ xs) h = by_test (λ k. among-any test xs k) (test x) refl h
  where
    by_test : (list_any test xs ≡ true → IsAmong test xs) → (t : Bool) → test x ≡ t → (t || list_any test xs) ≡ true → IsAmong test (x ∷ xs)
    by_test later true e k = record { number = 0; element = x; here = refl; passes = e }
    by_test later false e k = among-later test x xs (later k)

among-found : {X : Type 0} (test : X → Bool) (xs : List X) → is_some (find test xs) ≡ true → IsAmong test xs
among-found test [] h = absurd (cc)
among-found {X} test (x ∷ xs) h = by_test (λ k. among-found test xs k) (test x) refl h
  where
    by_test : (is_some (find test xs) ≡ true → IsAmong test xs) → (t : Bool) → test x ≡ t → is_some (cond t (Some x) (find test xs)) ≡ true → IsAmong test (x ∷ xs)
    by_test later true e k = record { number = 0; element = x; here = refl; passes = e }
    by_test later false e k = among-later test x xs (later k)

-- where one is there, one is found
found-among : {X : Type 0} (test : X → Bool) (xs : List X) (n : ℕ) (x : X) → slice_get xs n ≡ Some x → test x ≡ true → is_some (find test xs) ≡ true
found-among test [] n x at passes = absurd (cc)
found-among {X} test (y ∷ xs) zero x at passes =
    let same : y ≡ x = cc in
    by_test (test y) (ap test same ∙ passes)
  where
    by_test : (t : Bool) → t ≡ true → is_some (cond t (Some y) (find test xs)) ≡ true
    by_test true e = refl
    by_test false e = absurd (cc)
found-among {X} test (y ∷ xs) (suc n) x at passes = by_test (test y) (found-among test xs n x at passes)
  where
    by_test : (t : Bool) → is_some (find test xs) ≡ true → is_some (cond t (Some y) (find test xs)) ≡ true
    by_test true e = refl
    by_test false e = e

-- where no rank is the least, none is there
first-none : (ranks : List (Option ℕ)) (n r : ℕ) → first_least ranks ≡ None → slice_get ranks n ≡ Some (Some r) → ⊥
first-none [] n r h at = cc
first-none (None ∷ ranks) zero r h at = cc
first-none (None ∷ ranks) (suc n) r h at = first-none ranks n r (unmapped (first_least ranks) h) at
  where
    unmapped : (o : Option Found) → option_map one_later o ≡ None → o ≡ None
    unmapped None e = refl
    unmapped (Some found) e = absurd (cc)
first-none (Some rank ∷ ranks) n r h at = cc

-- a bucket that can give these sides, in a shelf that is tall enough
record IsRoom (sides : Sides) (ss : List BucketShelf) : Type 0 where
  number : ℕ
  shelf : BucketShelf
  index : ℕ
  bucket : Bucket
  shelf_is : slice_get ss number ≡ Some shelf
  bucket_is : slice_get shelf.buckets index ≡ Some bucket
  tall : sides.across ≤ shelf.height
  wide : sides.along ≤ free_width shelf bucket
  given : bucket.given < most_given

-- the spot in the shelf that was found
abbrev spot_by : Sides → List BucketShelf → Option Found → Option Spot
spot_by sides ss o = option_and_then (λ (found : Found). spot_in (roomy_bucket sides.along) found.number ss) o

-- where there is one, some bucket is picked
picked-room : (sides : Sides) (ss : List BucketShelf) → IsRoom sides ss → pick false sides ss ≡ None → ⊥
picked-room sides ss room h = by_least (first_least (map (waste false sides) ss)) refl h
  where
    roomy : is_some (roomy_bucket sides.along room.shelf) ≡ true
    roomy = found-among (has_room sides.along room.shelf) room.shelf.buckets room.index room.bucket room.bucket_is (both (nat_le sides.along (free_width room.shelf room.bucket)) (nat_lt room.bucket.given most_given) (le-leb room.wide) (lt-ltb room.given))
      where
        both : (s t : Bool) → s ≡ true → t ≡ true → (s && t) ≡ true
        both true true e f = refl
        both true false e f = absurd (cc)
        both false t e f = absurd (cc)

        le-leb : {m n : ℕ} → m ≤ n → nat_le m n ≡ true
        le-leb {m} {n} e = grind (arith, nat_tests)

        lt-ltb : {m n : ℕ} → m < n → nat_lt m n ≡ true
        lt-ltb {m} {n} e = grind (arith, nat_tests)

    wasted : waste false sides room.shelf ≡ Some (room.shelf.height - sides.across)
    wasted = by_tests (nat_le sides.across room.shelf.height) (nat_le sides.along room.shelf.bucket_width) (roomy_bucket sides.along room.shelf) tall wide roomy
      where
        tall : nat_le sides.across room.shelf.height ≡ true
        tall = let h = room.tall in grind (arith, nat_tests)

        wide : nat_le sides.along room.shelf.bucket_width ≡ true
        wide = let h = room.wide in grind (arith, nat_tests)

        by_tests : (s t : Bool) (o : Option Bucket) → s ≡ true → t ≡ true → is_some o ≡ true
            → cond (s && (t && true)) (option_map (λ (_ : Bucket). room.shelf.height - sides.across) o) None ≡ Some (room.shelf.height - sides.across)
        by_tests true true (Some b) e f g = refl
        by_tests true true None e f g = absurd (cc)
        by_tests true false o e f g = absurd (cc)
        by_tests false t o e f g = absurd (cc)

    ranked : slice_get (map (waste false sides) ss) room.number ≡ Some (Some (room.shelf.height - sides.across))
    ranked = slice_get-map (waste false sides) ss room.number ∙ ap (option_map (waste false sides)) room.shelf_is ∙ ap (λ (r : Option ℕ). Some r) wasted

    by_bucket : (number : ℕ) (s : BucketShelf) (e : Bool) (o : Option Bucket) (r : ℕ) → cond e (option_map (λ (_ : Bucket). s.height - sides.across) o) None ≡ Some r
        → option_map (exact_or sides ss) (option_map (λ (bucket : Bucket). let spot : Spot = record { number = number; shelf = s; bucket = bucket } in spot) o) ≡ None → ⊥
    by_bucket number s true (Some b) r w k = cc
    by_bucket number s true None r w k = cc
    by_bucket number s false o r w k = cc

    by_shelf : (found : Found) (o : Option BucketShelf) → option_map (waste false sides) o ≡ Some (Some found.rank)
        → option_map (exact_or sides ss)
        (option_and_then (λ (shelf : BucketShelf). option_map (λ (bucket : Bucket). let spot : Spot = record { number = found.number; shelf = shelf; bucket = bucket } in spot) (roomy_bucket sides.along shelf)) o) ≡ None → ⊥
    by_shelf found None w k = cc
    by_shelf found (Some s) w k =
        let rank : waste false sides s ≡ Some found.rank = cc in
        by_bucket found.number s (is_eligible false sides s) (roomy_bucket sides.along s) found.rank rank k

    by_least : (o : Option Found) → first_least (map (waste false sides) ss) ≡ o → option_map (exact_or sides ss) (spot_by sides ss o) ≡ None → ⊥
    by_least None e k = first-none (map (waste false sides) ss) room.number (room.shelf.height - sides.across) e ranked
    by_least (Some found) e k =
        by_shelf found (slice_get ss found.number)
        (sym (slice_get-map (waste false sides) ss found.number) ∙ (first_least-is (map (waste false sides) ss) found e).at) k

-- where items are used up, a bucket that has the width has given the most
pub one-is-used_up : (state : BucketedState) (size : Size) (sides : Sides) → refusal state size ≡ Some ItemsUsedUp → asked state.frame size ≡ Some sides → IsUsedUp state sides
one-is-used_up state size sides h asks =
    let refused = refused-by state size sides ItemsUsedUp h asks in
    let none = nowhere-none state sides refused.nowhere in
    let wide = by_tests (has_space state.frame (left_to state.frame state.shelves) sides.across) (list_any (has_width sides) state.shelves) refused.told in
    let among = among-any (has_width sides) state.shelves wide in
    let shelf = among.element in
    let parts = and_parts (nat_le sides.across shelf.height) (is_some (find (is_wide sides.along shelf) shelf.buckets)) among.passes in
    let found = among-found (is_wide sides.along shelf) shelf.buckets parts.1 in
    let tall = leb-true sides.across shelf.height parts.0 in
    let free = leb-true sides.along (free_width shelf found.element) found.passes in
    let picks : pick false sides state.shelves ≡ None = subst (λ (a : Bool). pick a sides state.shelves ≡ None) none.adds none.picks in
    record {
      number = among.number;
      shelf = shelf;
      index = found.number;
      bucket = found.element;
      shelf_is = among.here;
      bucket_is = found.here;
      tall = tall;
      wide = free;
      given = given found.element (λ few. picked-room sides state.shelves
          (record { number = among.number; shelf = shelf; index = found.number; bucket = found.element; shelf_is = among.here; bucket_is = found.here; tall = tall; wide = free; given = few }) picks);
    }
  where
    by_tests : (spacious wide : Bool) → cond (not (spacious || wide)) (NoRoom (widest sides.across state.shelves)) (cond spacious NoBuckets ItemsUsedUp) ≡ ItemsUsedUp → wide ≡ true
    by_tests true wide k = absurd (cc)
    by_tests false false k = absurd (cc)
    by_tests false true k = refl

    given : (b : Bucket) → (b.given < most_given → ⊥) → most_given ≤ b.given
    given b few = by_test (nat_lt b.given most_given) refl
      where
        by_test : (t : Bool) → nat_lt b.given most_given ≡ t → most_given ≤ b.given
        by_test true e = absurd (few (ltb-true b.given most_given e))
        by_test false e = grind (arith, nat_tests)

-- the greatest of two lists of numbers
greatest-append : (xs ys : List ℕ) → greatest (xs ++ ys) ≡ max (greatest xs) (greatest ys)
greatest-append [] ys = omega arith
greatest-append (x ∷ xs) ys = ap (max x) (greatest-append xs ys) ∙ omega arith

-- a bucket that has so much room
record IsRoomy (width : ℕ) (s : BucketShelf) (bs : List Bucket) : Type 0 where
  index : ℕ
  bucket : Bucket
  here : slice_get bs index ≡ Some bucket
  wide : width ≤ free_width s bucket
  given : bucket.given < most_given

widest-roomy : (width : ℕ) (s : BucketShelf) (bs : List Bucket) → 1 ≤ width → width ≤ greatest (map (room s) bs) → IsRoomy width s bs
widest-roomy width s [] some h = absurd (omega (arith, some, h))
widest-roomy width s (b ∷ bs) some h =
    by_test (λ k. let later = widest-roomy width s bs some k in record { index = suc later.index; bucket = later.bucket; here = later.here; wide = later.wide; given = later.given })
    (nat_le width (room s b)) refl
  where
    own : (t : Bool) → nat_lt b.given most_given ≡ t → width ≤ cond t (free_width s b) 0 → IsRoomy width s (b ∷ bs)
    own true e k = record { index = 0; bucket = b; here = refl; wide = k; given = ltb-true b.given most_given e }
    own false e k = absurd (omega (arith, some, k))

    by_test : (width ≤ greatest (map (room s) bs) → IsRoomy width s (b ∷ bs)) → (t : Bool) → nat_le width (room s b) ≡ t → IsRoomy width s (b ∷ bs)
    by_test later true e = own (nat_lt b.given most_given) refl (leb-true width (room s b) e)
    by_test later false e = later (grind (arith, nat_tests))

-- the widest room is that of a bucket
room-among : (sides : Sides) (ss : List BucketShelf) → 1 ≤ sides.along → sides.along ≤ widest sides.across ss → IsRoom sides ss
room-among sides [] some h = absurd (omega (arith, some, h))
room-among sides (s ∷ ss) some h =
    let whole = greatest-append (rooms_in sides.across s) (flat_map (rooms_in sides.across) ss) in
    by_test (λ k. let later = room-among sides ss some k in
    record { number = suc later.number; shelf = later.shelf; index = later.index; bucket = later.bucket; shelf_is = later.shelf_is; bucket_is = later.bucket_is; tall = later.tall; wide = later.wide; given = later.given })
    (omega (arith, whole, h)) (nat_le sides.across s.height) refl (nat_le sides.along (greatest (rooms_in sides.across s))) refl
  where
    own : (t : Bool) → nat_le sides.across s.height ≡ t → sides.along ≤ greatest (cond t (map (room s) s.buckets) []) → IsRoom sides (s ∷ ss)
    own true e k =
        let roomy = widest-roomy sides.along s s.buckets some k in
        record { number = 0; shelf = s; index = roomy.index; bucket = roomy.bucket; shelf_is = refl; bucket_is = roomy.here; tall = leb-true sides.across s.height e; wide = roomy.wide; given = roomy.given }
    own false e k = absurd (omega (arith, some, k))

    by_test : (sides.along ≤ widest sides.across ss → IsRoom sides (s ∷ ss)) → sides.along ≤ max (greatest (rooms_in sides.across s)) (widest sides.across ss)
        → (t : Bool) → nat_le sides.across s.height ≡ t → (u : Bool) → nat_le sides.along (greatest (rooms_in sides.across s)) ≡ u → IsRoom sides (s ∷ ss)
    by_test later k t e true f = own (nat_le sides.across s.height) refl (leb-true sides.along (greatest (rooms_in sides.across s)) f)
    by_test later k t e false f = later (grind (arith, nat_tests))

-- where a size finds no room, sides as tall and no wider than the widest room fit, and the size is wider
pub widest-fits : (state : BucketedState) (size : Size) (sides : Sides) (told : ℕ) → refusal state size ≡ Some (NoRoom told) → asked state.frame size ≡ Some sides
    → (1 ≤ sides.along → told < sides.along)
    × ((width : ℕ) → 1 ≤ width → width ≤ told → IsSome (destination_of state.frame state.shelves (record { along = width; across = sides.across })))
widest-fits state size sides told h asks =
    let refused = refused-by state size sides (NoRoom told) h asks in
    let none = nowhere-none state sides refused.nowhere in
    let picks : pick false sides state.shelves ≡ None = subst (λ (a : Bool). pick a sides state.shelves ≡ None) none.adds none.picks in
    let same = by_tests (has_space state.frame (left_to state.frame state.shelves) sides.across) (list_any (has_width sides) state.shelves) refused.told in (
      λ some. by_test (nat_lt told sides.along) refl (λ wide. picked-room sides state.shelves (room-among sides state.shelves some (omega (arith, same, wide))) picks),
      λ width some narrow.
          let other : Sides = record { along = width; across = sides.across } in
          placed other (can_add state.frame (left_to state.frame state.shelves) sides.across) none.adds (pick false other state.shelves) refl
          (picked-room other state.shelves (room-among other state.shelves some (omega (arith, same, narrow)))),
    )
  where
    by_tests : (spacious wide : Bool) → cond (not (spacious || wide)) (NoRoom (widest sides.across state.shelves)) (cond spacious NoBuckets ItemsUsedUp) ≡ NoRoom told → told ≡ widest sides.across state.shelves
    by_tests true wide k = absurd (cc)
    by_tests false true k = absurd (cc)
    by_tests false false k = cc

    by_test : (t : Bool) → nat_lt told sides.along ≡ t → (sides.along ≤ told → ⊥) → told < sides.along
    by_test true e k = ltb-true told sides.along e
    by_test false e k = absurd (k (grind (arith, nat_tests)))

    placed : (other : Sides) (a : Bool) → a ≡ false → (o : Option Spot) → pick false other state.shelves ≡ o → (pick false other state.shelves ≡ None → ⊥)
        → is_some
        (or_else (option_map InBucket (pick a other state.shelves))
        (cond a (Some (InAdded (new_shelves state.frame (left_to state.frame state.shelves) other))) (option_map InMerged (mergeable_shelves other 0 state.shelves)))) ≡ true
    placed other true e o f k = absurd (cc)
    placed other false e None f k = absurd (k f)
    placed other false e (Some spot) f k = rw f refl
