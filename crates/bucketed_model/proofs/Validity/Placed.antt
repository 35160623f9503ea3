-- What it says that a size has a placement: the shelves are made ready, and a bucket of them takes the item.
use Rattle.std.proofs.Common.{◌≡◌, ℕ, ◌+◌, ◌-◌, ◌*◌, ◌≤◌, Bool, true, false, cond, Some, None, List, [], ◌∷◌, ◌++◌, length, map, refl, ap, arith, sym, ◌∙◌, subst, append_assoc, length-append, ⊎_elim}
use Rattle.std.proofs.lemmas.Bool.{and_parts, eqb-true}
use Rattle.std.specs.List.{list_all}
use Rattle.std.specs.Prelude.{option_map, slice_get}
use Rattle.etagere_base.proofs.AskedSides.{IsAsked, asked-sides}
use Rattle.etagere_base.proofs.EachLemmas.{Each-middle}
use Rattle.etagere_base.proofs.ReplacedLists.{split-at, slice_get-append}
use Rattle.etagere_base.specs.declared.frames.Frame.{Frame}
use Rattle.etagere_base.specs.declared.geometry.Size.{Size}
use Rattle.etagere_base.specs.declared.sides.Sides.{Sides}
use Rattle.etagere_base.specs.Frames.{alignment_along, asked}
use Rattle.bucketed_model.specs.Adding.{AreNewTags, NewShelf, can_add, made_shelf, made_shelves, new_bucket, new_buckets, new_shelves, total_count, width_of_share, left_to}
use Rattle.bucketed_model.specs.Frames.{IsBucketedFrame}
use Rattle.bucketed_model.specs.Merging.{Group, merged_shelves, mergeable_shelves, total_height}
use Rattle.bucketed_model.specs.Picking.{Spot, pick}
use Rattle.bucketed_model.specs.Placing.{Destination, BucketPlacement, InAdded, InBucket, InMerged, destination_of, placement_of}
use Rattle.bucketed_model.specs.State.{Bucket, BucketShelf, BucketedState, Tag, changed_bucket, column_place, is_idle, is_idle_bucket, with_height}
use Rattle.bucketed_model.specs.Taking.{first_bucket, needed_buckets, prepared, spot_of, taken_bucket}
use Rattle.bucketed_model.specs.Tied.{busy_buckets}
use Rattle.bucketed_model.specs.Valid.{AreShelves, IsShelf, IsValid, StandBetween, ends_idle}
use Rattle.bucketed_model.proofs.Shelving.Added.{Adds, added-adds, idle-new}
use Rattle.bucketed_model.proofs.Ledger.Busy.{busy-idle_end, busy-merged}
use Rattle.bucketed_model.proofs.Shelving.Groups.{Merges, mergeable-merges, merged-behind}
use Rattle.bucketed_model.proofs.Shelving.Merged.{ends-merged, shelves-merged}
use Rattle.bucketed_model.proofs.Validity.Picked.{IsRoomy, and_then-parts, map-parts, or_else-parts, pick-roomy}
use Rattle.bucketed_model.proofs.Validity.Spots.{IsSpot}
use Rattle.bucketed_model.proofs.Validity.Taken.{CanTake, IsWidth, ends-given, ends-taken, spot-valid}

-- shelves that were made ready for a destination: they are as shelves must be, hold what was in_buckets, and the destination's bucket takes
-- the item
pub record IsReady (frame : Frame) (old : List BucketShelf) (sides : Sides) (destination : Destination) (shelves : List BucketShelf) : Type 0 where
  pub spot : Spot
  pub found : spot_of shelves destination ≡ Some spot
  pub valid : AreShelves frame shelves
  pub can : CanTake frame shelves sides.along spot
  pub tall : sides.across ≤ spot.shelf.height
  pub ends : ends_idle (changed_bucket spot.bucket.tag.number (taken_bucket sides.along) shelves) ≡ false
  pub busy : busy_buckets shelves ≡ busy_buckets old

-- what is asked is a width
asked-width : (frame : Frame) (sides : Sides) → IsAsked frame sides → IsWidth (alignment_along frame) sides.along
asked-width frame sides asks = record { some = asks.along; aligned = asks.aligned }

-- a bucket that is picked is ready
ready-picked : (frame : Frame) (shelves : List BucketShelf) (sides : Sides) (spot : Spot) → IsAsked frame sides → AreShelves frame shelves → ends_idle shelves ≡ false
    → IsRoomy sides shelves spot → IsReady frame shelves sides (InBucket spot) shelves
ready-picked frame shelves sides spot asks valid ends roomy = record {
  spot = spot;
  found = refl;
  valid = valid;
  can = record { at = roomy.at; width = asked-width frame sides asks; room = omega (arith, roomy.wide, asks.along); few = roomy.given; tall = omega (arith, roomy.tall, asks.across) };
  tall = roomy.tall;
  ends = ends-taken spot.bucket.tag.number sides.along shelves ends;
  busy = refl;
}

-- the first bucket of a shelf that is there
first_bucket-at : (shelves : List BucketShelf) (n : ℕ) (shelf : BucketShelf) (bucket : Bucket) → slice_get shelves n ≡ Some shelf → slice_get shelf.buckets 0 ≡ Some bucket
    → first_bucket n shelves ≡ Some (record { number = n; shelf = shelf; bucket = bucket })
first_bucket-at shelves n shelf bucket h k = rw h (rw k refl)

-- the first bucket of a shelf stands there
first-spot : (shelves : List BucketShelf) (n : ℕ) (shelf : BucketShelf) (bucket : Bucket) (right : List Bucket) → slice_get shelves n ≡ Some shelf → shelf.buckets ≡ bucket ∷ right
    → IsSpot shelves (record { number = n; shelf = shelf; bucket = bucket })
first-spot shelves n shelf bucket right h k =
    let at = split-at shelves n shelf h in
    record { front = at.front; back = at.back; left = []; right = right; before = at.before; whole = at.whole; buckets = k }

-- the last one of shelves
last-at : (front : List BucketShelf) (x : BucketShelf) → slice_get (front ++ x ∷ []) (length (front ++ x ∷ []) - 1) ≡ Some x
last-at front x = slice_get-append front x [] (length (front ++ x ∷ []) - 1) (omega (arith, length-append front (x ∷ [])))

-- the shelf that was added last is ready
ready-last : (frame : Frame) (old front : List BucketShelf) (sides : Sides) (news : List NewShelf) (new : NewShelf) (tag : Tag) (tags : List Tag) → IsAsked frame sides
    → AreShelves frame (front ++ made_shelf frame new (tag ∷ tags) ∷ []) → sides.along ≤ width_of_share frame new.count → sides.across ≤ new.height
    → busy_buckets (front ++ made_shelf frame new (tag ∷ tags) ∷ []) ≡ busy_buckets old
    → IsReady frame old sides (InAdded news) (front ++ made_shelf frame new (tag ∷ tags) ∷ [])
ready-last frame old front sides news new tag tags asks valid wide tall busy =
    let place = new.column * frame.column_width in
    let width = width_of_share frame new.count in
    let bucket = new_bucket (place + length tags * width) tag in
    let right = new_buckets place width tags in
    let shelf = made_shelf frame new (tag ∷ tags) in
    let shelves = front ++ shelf ∷ [] in
    record {
      spot = record { number = length shelves - 1; shelf = shelf; bucket = bucket };
      found = first_bucket-at shelves (length shelves - 1) shelf bucket (last-at front shelf) refl;
      valid = valid;
      can = record {
        at = first-spot shelves (length shelves - 1) shelf bucket right (last-at front shelf) refl;
        width = asked-width frame sides asks;
        room = omega (arith, wide);
        few = omega arith;
        tall = omega (arith, tall, asks.across);
      };
      tall = tall;
      ends = ends-given front shelf [] bucket right sides.along refl;
      busy = busy;
    }

-- a shelf that was made holds nothing
made-idle : (frame : Frame) (new : NewShelf) (tags : List Tag) → is_idle (made_shelf frame new tags) ≡ true
made-idle frame new tags = idle-new (new.column * frame.column_width) (width_of_share frame new.count) tags

-- shelves that hold nothing, and one more
all-idle-append : (xs : List BucketShelf) (x : BucketShelf) → list_all is_idle xs ≡ true → is_idle x ≡ true → list_all is_idle (xs ++ x ∷ []) ≡ true
all-idle-append [] x h k = rw k refl
all-idle-append (y ∷ ys) x h k =
    let parts = and_parts (is_idle y) (list_all is_idle ys) h in rw (parts.0, all-idle-append ys x parts.1 k) refl

-- shelves that were added are ready
ready-added : (frame : Frame) (shelves : List BucketShelf) (sides : Sides) (news : List NewShelf) (tags : List Tag) → IsAsked frame sides
    → Adds frame shelves sides news tags → IsReady frame shelves sides (InAdded news) (shelves ++ made_shelves frame news tags)
ready-added frame shelves sides news tags asks adds = of_tags adds.own adds.made adds.enough adds.valid
  where
    of_tags : (own : List Tag) → made_shelves frame news tags ≡ adds.more ++ made_shelf frame adds.new own ∷ [] → length own ≡ adds.new.count
        → AreShelves frame (shelves ++ (adds.more ++ made_shelf frame adds.new own ∷ [])) → IsReady frame shelves sides (InAdded news) (shelves ++ made_shelves frame news tags)
    of_tags [] made enough valid = absurd (omega (arith, adds.some, enough))
    of_tags (tag ∷ own) made enough valid =
        let shelf = made_shelf frame adds.new (tag ∷ own) in
        let assoc = append_assoc shelves adds.more (shelf ∷ []) in
        subst (λ (more : List BucketShelf). IsReady frame shelves sides (InAdded news) (shelves ++ more)) (sym made)
        (subst (IsReady frame shelves sides (InAdded news)) assoc
        (ready-last frame shelves (shelves ++ adds.more) sides news adds.new tag own asks
        (subst (AreShelves frame) (sym assoc) valid) adds.wide adds.tall
        (ap busy_buckets assoc ∙ busy-idle_end shelves (adds.more ++ shelf ∷ []) (all-idle-append adds.more shelf adds.idle (made-idle frame adds.new (tag ∷ own))))))

-- a first bucket of an idle shelf has all its width, in a shelf that has one
ready-first : (frame : Frame) (old front : List BucketShelf) (sides : Sides) (group : Group) (x : BucketShelf) (next back : List BucketShelf) (height : ℕ) → IsAsked frame sides
    → group.first ≡ length front → is_idle x ≡ true → 1 ≤ frame.column_width → AreShelves frame (front ++ with_height height x ∷ (map (with_height 0) next ++ back))
    → sides.along ≤ x.bucket_width → sides.across ≤ height
    → ends_idle (front ++ with_height height x ∷ (map (with_height 0) next ++ back)) ≡ false
    → busy_buckets (front ++ with_height height x ∷ (map (with_height 0) next ++ back)) ≡ busy_buckets old
    → IsReady frame old sides (InMerged group) (front ++ with_height height x ∷ (map (with_height 0) next ++ back))
ready-first frame old front sides group x next back height asks first idle some valid wide tall ends busy =
    of_buckets x.buckets refl
  where
    of_buckets : (bs : List Bucket) → x.buckets ≡ bs → IsReady frame old sides (InMerged group) (front ++ with_height height x ∷ (map (with_height 0) next ++ back))
    of_buckets [] e =
        let shelf = Each-middle (IsShelf frame) front (with_height height x) (map (with_height 0) next ++ back) valid.each in
        let none = subst (StandBetween (alignment_along frame) x.bucket_width (column_place frame x.column) (column_place frame x.column + frame.column_width)) e shelf.stand in
        absurd (omega (arith, none, some))
    of_buckets (bucket ∷ right) e =
        let shelf = with_height height x in
        let shelves = front ++ shelf ∷ (map (with_height 0) next ++ back) in
        let spot : Spot = record { number = group.first; shelf = shelf; bucket = bucket } in
        let there : slice_get shelves group.first ≡ Some shelf = slice_get-append front shelf (map (with_height 0) next ++ back) group.first (sym first) in
        let at = first-spot shelves group.first shelf bucket right there e in
        let is_bucket = (spot-valid frame shelves spot at valid).1 in
        let still = and_parts (is_idle_bucket bucket) (list_all is_idle_bucket right) (ap (list_all is_idle_bucket) (sym e) ∙ idle) in
        let none = is_bucket.idle (eqb-true bucket.live 0 still.0) in
        record {
          spot = spot;
          found = first_bucket-at shelves group.first shelf bucket there (ap (λ (bs : List Bucket). slice_get bs 0) e);
          valid = valid;
          can = record {
            at = at;
            width = asked-width frame sides asks;
            room = omega (arith, none.1, wide);
            few = omega (arith, none.0);
            tall = omega (arith, tall, asks.across);
          };
          tall = tall;
          ends = ends-taken bucket.tag.number sides.along shelves ends;
          busy = busy;
        }

-- shelves that were merged are ready
ready-merged : (frame : Frame) (shelves : List BucketShelf) (sides : Sides) (group : Group) → IsAsked frame sides → 1 ≤ frame.column_width → AreShelves frame shelves → ends_idle shelves ≡ false
    → Merges sides 0 shelves group → IsReady frame shelves sides (InMerged group) (merged_shelves group.first group.others shelves)
ready-merged frame shelves sides group asks some valid ends m =
    let old = m.front ++ m.shelf ∷ (m.next ++ m.back) in
    let first : group.first ≡ length m.front = omega (arith, m.first) in
    let after : merged_shelves group.first group.others shelves ≡ m.front ++ with_height (m.shelf.height + total_height m.next) m.shelf ∷ (map (with_height 0) m.next ++ m.back)
    = ap (λ (n : ℕ). merged_shelves n group.others shelves) first ∙ ap (merged_shelves (length m.front) group.others) m.whole
    ∙ merged-behind group.others m.front m.shelf (m.next ++ m.back) ∙ ap (λ (xs : List BucketShelf). m.front ++ xs) m.after in
    subst (IsReady frame shelves sides (InMerged group)) (sym after)
    (ready-first frame shelves m.front sides group m.shelf m.next m.back (m.shelf.height + total_height m.next) asks first m.idle some
    (shelves-merged frame m.front m.shelf m.next m.back m.idle m.others (subst (AreShelves frame) m.whole valid))
    m.wide m.tall
    (ends-merged (m.shelf.height + total_height m.next) m.front m.shelf m.next m.back ∙ ap ends_idle (sym m.whole) ∙ ends)
    (busy-merged m.front m.shelf m.next m.back m.idle m.others ∙ ap busy_buckets (sym m.whole)))

-- the destination for what is asked, where there is one, is ready
pub destination-ready : (frame : Frame) (shelves : List BucketShelf) (sides : Sides) (tags : List Tag) (destination : Destination) → IsBucketedFrame frame → IsAsked frame sides → AreShelves frame shelves → ends_idle shelves ≡ false
    → destination_of frame shelves sides ≡ Some destination → AreNewTags shelves (needed_buckets destination) tags
    → IsReady frame shelves sides destination (prepared frame shelves tags destination)
destination-ready frame shelves sides tags destination is_frame asks valid ends h =
    ⊎_elim
    (λ (picked : option_map InBucket (pick (can_add frame (left_to frame shelves) sides.across) sides shelves) ≡ Some destination).
    let spot = map-parts InBucket (pick (can_add frame (left_to frame shelves) sides.across) sides shelves) destination picked in
    subst (λ (p : Destination). AreNewTags shelves (needed_buckets p) tags → IsReady frame shelves sides p (prepared frame shelves tags p)) spot.2
    (λ _. ready-picked frame shelves sides spot.0 asks valid ends (pick-roomy (can_add frame (left_to frame shelves) sides.across) sides shelves spot.0 spot.1)))
    (λ (other : (option_map InBucket (pick (can_add frame (left_to frame shelves) sides.across) sides shelves) ≡ None)
    × (cond (can_add frame (left_to frame shelves) sides.across) (Some (InAdded (new_shelves frame (left_to frame shelves) sides))) (option_map InMerged (mergeable_shelves sides 0 shelves)) ≡ Some destination)).
    by_test (can_add frame (left_to frame shelves) sides.across) refl other.1)
    (or_else-parts _ _ destination h)
  where
    by_test : (b : Bool) → can_add frame (left_to frame shelves) sides.across ≡ b
        → cond b (Some (InAdded (new_shelves frame (left_to frame shelves) sides))) (option_map InMerged (mergeable_shelves sides 0 shelves)) ≡ Some destination
        → AreNewTags shelves (needed_buckets destination) tags → IsReady frame shelves sides destination (prepared frame shelves tags destination)
    by_test true e k =
        let same : InAdded (new_shelves frame (left_to frame shelves) sides) ≡ destination = cc in
        subst (λ (p : Destination). AreNewTags shelves (needed_buckets p) tags → IsReady frame shelves sides p (prepared frame shelves tags p)) same
        (λ (are_new : AreNewTags shelves (total_count (new_shelves frame (left_to frame shelves) sides)) tags).
        ready-added frame shelves sides (new_shelves frame (left_to frame shelves) sides) tags asks (added-adds frame shelves sides tags is_frame asks valid e are_new))
    by_test false e k =
        let group = map-parts InMerged (mergeable_shelves sides 0 shelves) destination k in
        subst (λ (p : Destination). AreNewTags shelves (needed_buckets p) tags → IsReady frame shelves sides p (prepared frame shelves tags p)) group.2
        (λ _. ready-merged frame shelves sides group.0 asks is_frame.column_width valid ends (mergeable-merges sides 0 shelves group.0 group.1))

-- a size that has a placement: what it asks, and that its place is ready
pub record IsPlaced (state : BucketedState) (size : Size) (placement : BucketPlacement) (tags : List Tag) : Type 0 where
  pub sides : Sides
  pub asked_is : asked state.frame size ≡ Some sides
  pub asks : IsAsked state.frame sides
  pub width : placement.width ≡ sides.along
  pub ready : IsReady state.frame state.shelves sides placement.destination (prepared state.frame state.shelves tags placement.destination)

-- a placement's place is ready
pub placement-placed : (state : BucketedState) (size : Size) (placement : BucketPlacement) (tags : List Tag) → IsValid state
    → placement_of state size ≡ Some placement → AreNewTags state.shelves (needed_buckets placement.destination) tags → IsPlaced state size placement tags
placement-placed state size placement tags valid h are_new =
    let made = λ (sides : Sides) (destination : Destination). let made : BucketPlacement = record { width = sides.along; destination = destination } in made in
    let outer = and_then-parts (λ (sides : Sides). option_map (made sides) (destination_of state.frame state.shelves sides)) (asked state.frame size) placement h in
    let sides = outer.0 in
    let inner = map-parts (made sides) (destination_of state.frame state.shelves sides) placement outer.2 in
    let asks = asked-sides 65534 state.frame size sides valid.frame outer.1 in
    let same : made sides inner.0 ≡ placement = inner.2 in
    subst (λ (p : BucketPlacement). AreNewTags state.shelves (needed_buckets p.destination) tags → IsPlaced state size p tags) same
    (λ (are_new : AreNewTags state.shelves (needed_buckets inner.0) tags).
    let placed : IsPlaced state size (made sides inner.0) tags = record {
      sides = sides;
      asked_is = outer.1;
      asks = asks;
      width = refl;
      ready = destination-ready state.frame state.shelves sides tags inner.0 valid.frame asks valid.shelves valid.ends inner.1 are_new;
    } in placed) are_new
