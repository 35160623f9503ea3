-- Where rectangles asked an empty atlas for places: it has allocated what moved and nothing else, each as large as
-- before, and what moved and what was refused are together what asked.
use Rattle.std.proofs.Common.{◌≡◌, ℕ, ◌+◌, ◌≤◌, ℤ, pos, negsuc, ◌-ℤ◌, ◌+ℤ◌, ◌≤ℤ◌, List, [], ◌∷◌, ◌++◌, map, refl, ap, sym, ◌∙◌, subst, arith}
use Rattle.std.proofs.lemmas.Int.{ints}
use Rattle.std.proofs.lemmas.List.{append-nil, append_assoc, map-append}
use Rattle.std.specs.List.{AllByRecursion}
use Rattle.etagere_base.proofs.AskedSides.{rounded-up}
use Rattle.etagere_base.proofs.EachLemmas.{Each-append, Each-back, Each-front}
use Rattle.etagere_base.proofs.TimesLemmas.{times-append}
use Rattle.etagere_base.specs.Frames.{IsFrame, longest_side}
use Rattle.etagere_base.specs.Lists.{times}
use Rattle.etagere_base.specs.Rectangles.{IsLarge}
use Rattle.etagere_base.specs.Sides.{side, up}
use Rattle.etagere_base.specs.declared.frames.Frame.{Frame}
use Rattle.etagere_base.specs.declared.geometry.Rectangle.{Rectangle}
use Rattle.etagere_base.specs.declared.ids.Allocation.{Allocation}
use Rattle.shelf_model.proofs.Callers.{allocates-adds, not_allocated-any, tied-added, tied-none}
use Rattle.shelf_model.proofs.Chosen.PlacedLarge.{given-is_large}
use Rattle.shelf_model.specs.Atlas.{Adds}
use Rattle.shelf_model.specs.Callers.{AreTied, IsFound}
use Rattle.shelf_model.specs.Places.{allocations}
use Rattle.shelf_model.specs.State.{AtlasState}
use Rattle.shelf_model.specs.Valid.{IsValid}
use Rattle.moves.specs.Atlases.Arranging.{Arranges, nothing, moved, refused, HasRoom, IsAsLarge, moved_from, moved_to}
use Rattle.moves.specs.Atlases.Order.{size_of}
use Rattle.moves.specs.declared.atlases.rearrangement.Move.{Move}

-- the ids of allocations
abbrev ids_of : List Allocation → List ℕ
ids_of all = map (λ (allocation : Allocation). allocation.id) all

-- the new atlas stays valid
pub arranges-valid : {start end : AtlasState} {asked unplaced : List Allocation} {moves : List Move}
    → Arranges start asked moves unplaced end → IsValid start → IsValid end
arranges-valid nothing valid = valid
arranges-valid (moved before so_far allocates after_valid) valid = after_valid
arranges-valid (refused before so_far refuses) valid = arranges-valid so_far valid

-- it keeps its frame
pub arranges-frame : {start end : AtlasState} {asked unplaced : List Allocation} {moves : List Move}
    → Arranges start asked moves unplaced end → end.frame ≡ start.frame
arranges-frame nothing = refl
arranges-frame (moved before so_far allocates after_valid) =
    ap (λ (state : AtlasState). state.frame) allocates.after ∙ arranges-frame so_far
arranges-frame (refused before so_far refuses) = arranges-frame so_far

-- one at the end is one more
last-added : (all : List Allocation) (one : Allocation) → Adds all one (all ++ one ∷ [])
last-added all one = record { front = all; back = []; before = sym (append-nil all); after = refl }

-- it has allocated what moved, and nothing else
pub arranges-tied : {start end : AtlasState} {asked unplaced : List Allocation} {moves : List Move}
    → Arranges start asked moves unplaced end → IsValid start → allocations start ≡ []
    → AreTied (moved_to moves) (allocations end)
arranges-tied nothing valid none = tied-none _ none
arranges-tied (moved {moves = moves} {state = state} {next = next} {after = after} before so_far allocates after_valid) valid none =
    let longer = map-append (λ (move : Move). move.after) moves (record { before = before; after = after } ∷ []) in
    subst (λ (all : List Allocation). AreTied all (allocations next)) (sym longer)
    (tied-added (moved_to moves) (moved_to moves ++ after ∷ []) (allocations state) (allocations next) after
    (arranges-tied so_far valid none) (last-added (moved_to moves) after)
    (allocates-adds state (size_of before.rectangle) after next (arranges-valid so_far valid) allocates)
    (not_allocated-any state after.id allocates.fresh_id))
arranges-tied (refused before so_far refuses) valid none = arranges-tied so_far valid none

-- what is at least as large as rounded sides is as large as the sides
side-room : (low high length : ℤ) (alignment : ℕ) → 1 ≤ alignment
    → (low +ℤ pos (up (side length) alignment)) ≤ℤ high → length ≤ℤ (high -ℤ low)
side-room low high length alignment aligned large =
    let enough : side length ≤ up (side length) alignment = (rounded-up (side length) alignment aligned).enough in
    covers length (up (side length) alignment) enough large
  where
    covers : (length : ℤ) (rounded : ℕ) → side length ≤ rounded → (low +ℤ pos rounded) ≤ℤ high → length ≤ℤ (high -ℤ low)
    covers (pos n) rounded enough large = omega (arith, ints)
    covers (negsuc n) rounded enough large = omega (arith, ints)

pub large-room : (frame : Frame) (one other : Rectangle) → IsFrame longest_side frame → IsLarge frame (size_of other) one → IsAsLarge one other
large-room frame one other is_frame large =
    record {
      width = side-room one.min.x one.max.x (size_of other).width frame.alignment_width is_frame.alignment_width.0 large.width;
      height = side-room one.min.y one.max.y (size_of other).height frame.alignment_height is_frame.alignment_height.0 large.height;
    }

-- nothing was cut
pub arranges-room : {start end : AtlasState} {asked unplaced : List Allocation} {moves : List Move}
    → Arranges start asked moves unplaced end → IsValid start → AllByRecursion HasRoom moves
arranges-room nothing valid = tt
arranges-room (moved {moves = moves} {state = state} {after = after} before so_far allocates after_valid) valid =
    let size = size_of before.rectangle in
    let large = subst (IsLarge state.frame size) allocates.rectangle (given-is_large state size allocates.placement allocates.placed) in
    Each-append HasRoom moves (record { before = before; after = after } ∷ []) (arranges-room so_far valid)
    (large-room state.frame after.rectangle before.rectangle (arranges-valid so_far valid).frame large, tt)
arranges-room (refused before so_far refuses) valid = arranges-room so_far valid

-- what asked is what moved and what was refused
pub arranges-each : {start end : AtlasState} {asked unplaced : List Allocation} {moves : List Move} (P : Allocation → Type 0)
    → Arranges start asked moves unplaced end → AllByRecursion P asked → AllByRecursion P (moved_from moves ++ unplaced)
arranges-each P nothing each = tt
arranges-each P (moved {asked = asked} {moves = moves} {unplaced = unplaced} {after = after} before so_far allocates after_valid) each =
    let rest = arranges-each P so_far (Each-front P asked (before ∷ []) each) in
    let here = (Each-back P asked (before ∷ []) each).0 in
    subst (λ (l : List Allocation). AllByRecursion P (l ++ unplaced))
    (sym (map-append (λ (move : Move). move.before) moves (record { before = before; after = after } ∷ [])))
    (Each-append P (moved_from moves ++ before ∷ []) unplaced
    (Each-append P (moved_from moves) (before ∷ []) (Each-front P (moved_from moves) unplaced rest) (here, tt))
    (Each-back P (moved_from moves) unplaced rest))
arranges-each P (refused {asked = asked} {moves = moves} {unplaced = unplaced} before so_far refuses) each =
    let rest = arranges-each P so_far (Each-front P asked (before ∷ []) each) in
    let here = (Each-back P asked (before ∷ []) each).0 in
    subst (AllByRecursion P) (append_assoc (moved_from moves) unplaced (before ∷ []))
    (Each-append P (moved_from moves ++ unplaced) (before ∷ []) rest (here, tt))

-- how often an id is among lists end to end
times-ids : (id : ℕ) (front back : List Allocation)
    → times id (ids_of (front ++ back)) ≡ times id (ids_of front) + times id (ids_of back)
times-ids id front back =
    ap (times id) (map-append (λ (a : Allocation). a.id) front back) ∙ times-append id (ids_of front) (ids_of back)

pub arranges-counted : {start end : AtlasState} {asked unplaced : List Allocation} {moves : List Move} (id : ℕ)
    → Arranges start asked moves unplaced end → times id (ids_of asked) ≡ times id (ids_of (moved_from moves ++ unplaced))
arranges-counted id nothing = refl
arranges-counted id (moved {asked = asked} {moves = moves} {unplaced = unplaced} {after = after} before so_far allocates after_valid) =
    let longer = map-append (λ (move : Move). move.before) moves (record { before = before; after = after } ∷ []) in
    omega (
      arith,
      arranges-counted id so_far,
      times-ids id asked (before ∷ []),
      times-ids id (moved_from moves) unplaced,
      times-ids id (moved_from moves ++ before ∷ []) unplaced,
      times-ids id (moved_from moves) (before ∷ []),
      ap (λ l. times id (ids_of (l ++ unplaced))) longer,
    )
arranges-counted id (refused {asked = asked} {moves = moves} {unplaced = unplaced} before so_far refuses) =
    omega (
      arith,
      arranges-counted id so_far,
      times-ids id asked (before ∷ []),
      times-ids id (moved_from moves ++ unplaced) (before ∷ []),
      ap (λ l. times id (ids_of l)) (append_assoc (moved_from moves) unplaced (before ∷ [])),
    )

-- so where what asked is all that an atlas has allocated, what moved and what was refused are that too
pub arranges-once : {start end : AtlasState} {asked unplaced : List Allocation} {moves : List Move} (all : List Allocation)
    → Arranges start asked moves unplaced end → AreTied asked all → AreTied (moved_from moves ++ unplaced) all
arranges-once all arranges tied =
    record {
      found = arranges-each (IsFound all) arranges tied.found;
      counted = λ id. tied.counted id ∙ arranges-counted id arranges;
    }
