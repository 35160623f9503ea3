-- What a placement says of kept records in which it was located: its shelf and item, and that it takes that item.
use Rattle.std.proofs.Common.{◌≡◌, ◌≢◌, ℕ, ◌+◌, ◌≤◌, Bool, true, false, None, Some, List, [], ◌∷◌, ◌++◌, length, map, take, refl, ap, arith, ◌∙◌, sym, subst}
use Rattle.std.proofs.lemmas.Option.{slice_get-map}
use Rattle.std.specs.Prelude.{is_none, not, option_map, slice_get}
use Rattle.etagere_base.proofs.EachLemmas.{Each-get}
use Rattle.etagere_base.proofs.ReplacedLists.{IsAt, split-at}
use Rattle.etagere_base.proofs.TimesLemmas.{times-append}
use Rattle.std.specs.List.{AllByRecursion}
use Rattle.etagere_base.specs.Lists.{times}
use Rattle.etagere_base.specs.declared.frames.Frame.{Frame}
use Rattle.etagere_base.specs.declared.geometry.Size.{Size}
use Rattle.shelf_records.proofs.AllLists.LinkedItems.{entry_of}
use Rattle.shelf_records.proofs.AllLists.LinkedEdits.{linked-apart, around_of}
use Rattle.shelf_records.specs.declared.records.LinkedItem.{LinkedItem}
use Rattle.shelf_records.specs.RecordLists.{Records, Entry, Lists, IsEntry, IsLinkedExcept, walked_lists}
use Rattle.shelf_records.proofs.AllLists.LinkedUnused.{lists_of}
use Rattle.etagere_links.proofs.ListEnds.{times-here}
use Rattle.shelf_records.specs.AtlasRecords.{AtlasRecords, is_allocated_at, along_of, item_at, spelled_shelf}
use Rattle.shelf_model.specs.Choice.{Placement, placement_of}
use Rattle.shelf_model.specs.Places.{column_place}
use Rattle.shelf_records.specs.Private.Kept.{AreKept, Locates, atlas_of, state_of}
use Rattle.shelf_records.proofs.Spelled.Witnessed.{IsPlaced}
use Rattle.shelf_records.specs.StandsFor.{LieFrom}
use Rattle.shelf_model.specs.State.{Item, Shelf, AtlasState, is_free, total_width}
use Rattle.shelf_model.specs.Valid.{IsItem}
use Rattle.shelf_model.proofs.Chosen.Placed.{IsPlaced as IsChosenFor, placement_of-placed}
use Rattle.shelf_records.proofs.Spelled.EntryValues.{widths, LieFrom-back, free_count, free_count-append, free_count-free}
use Rattle.shelf_store.proofs.Spelled.ItemsAround.{free-item, widths-total, place-apart}
use Rattle.shelf_store.proofs.Spelled.TakenItemSpelled.{IsPlacedAt, free_spot}
use Rattle.shelf_model.proofs.Taken.TakenShelves.{IsTaking, taking}
use Rattle.shelf_records.proofs.Recorded.Members.{Each-member, IsAmong, among}
use Rattle.etagere_base.proofs.AlignedPlaces.{multiple}
use Rattle.shelf_records.proofs.Spelled.StandsKept.{witnesses}

-- the shelf and the item of a placement in records
pub record IsLocated (frame : Frame) (records : Records) (placement : Placement) (shelf number : ℕ) : Type 0 where
  pub before : List Entry
  pub after : List Entry
  pub front : List ℕ
  pub back : List ℕ
  pub free_front : List ℕ
  pub free_back : List ℕ
  pub entries : (walked_lists records).entries ≡ before ++ entry_of shelf (front ++ number ∷ back) (free_front ++ number ∷ free_back) ∷ after
  pub at : length before ≡ placement.shelf
  pub item : IsPlacedAt records.items placement (free_spot shelf number front back free_front free_back)
  pub takes : IsTaking frame placement (spelled_shelf (atlas_of frame records) (entry_of shelf (front ++ number ∷ back) (free_front ++ number ∷ free_back)))

-- the first so many
take-mapped : {X Y : Type 0} (f : X → Y) (front back : List X) → take (length front) (map f (front ++ back)) ≡ map f front
take-mapped f [] back = refl
take-mapped f (x ∷ front) back = ap (λ ys. f x ∷ ys) (take-mapped f front back)

-- how often a number stands in a list, said of another that is the same
times-same : (k : ℕ) (xs ys : List ℕ) → xs ≡ ys → times k xs ≡ times k ys
times-same k xs ys same = ap (times k) same

-- a shelf's lists, said by others that are the same
entry-split : (entry : Entry) (items free : List ℕ) → entry.items ≡ items → entry.free_list ≡ free → entry ≡ entry_of entry.number items free
entry-split entry items free same same_free =
    ap (λ is. entry_of entry.number is entry.free_list) same ∙ ap (λ fs. entry_of entry.number items fs) same_free

-- shelves among which one is said by others that are the same
entries-split : (entries before after : List Entry) (entry split : Entry) → entries ≡ before ++ entry ∷ after → entry ≡ split → entries ≡ before ++ split ∷ after
entries-split entries before after entry split whole same = whole ∙ ap (λ (e : Entry). before ++ e ∷ after) same

-- a placement takes an item of a shelf whose lists are said by others that are the same
takes-split : (atlas : AtlasRecords) (placement : Placement) (entry split : Entry) → entry ≡ split → IsTaking atlas.frame placement (spelled_shelf atlas entry) → IsTaking atlas.frame placement (spelled_shelf atlas split)
takes-split atlas placement entry split same takes = subst (λ (e : Entry). IsTaking atlas.frame placement (spelled_shelf atlas e)) same takes

-- items of which each is wide
items-wide : (frame : Frame) (items : List LinkedItem) (xs : List ℕ) → AllByRecursion (IsItem frame) (map (item_at items) xs) → AllByRecursion (λ k. 1 ≤ (item_at items k).width) xs
items-wide frame items [] each = tt
items-wide frame items (x ∷ xs) each = (each.0.width, items-wide frame items xs each.1)

-- an item without an id is not marked
free-unmarked : (items : List LinkedItem) (k : ℕ) → (item_at items k).id ≡ None → is_allocated_at items k ≡ false
free-unmarked items k none = by_mark (is_allocated_at items k) (free-item items k (is_allocated_at items k) refl)
  where
    by_mark : (b : Bool) → is_free (item_at items k) ≡ not b → b ≡ false
    by_mark true e = let free : is_free (item_at items k) ≡ true = ap is_none none in cc
    by_mark false e = refl

-- the shelf and the item of a placement of a size
pub located : (frame : Frame) (records : Records) (size : Size) (placement found : Placement) → AreKept frame records → placement_of (state_of frame records) size ≡ Some placement → (locates : Locates records found placement) → IsLocated frame records placement locates.entry.number found.item
located frame records size placement found kept h locates =
    let atlas : AtlasRecords = atlas_of frame records in
    let lists : Lists = walked_lists records in
    let state : AtlasState = state_of frame records in
    let items : List LinkedItem = records.items in
    let number : ℕ = found.item in
    let entry : Entry = locates.entry in
    let shelf : Shelf = spelled_shelf atlas entry in
    let at : IsAt lists.entries placement.shelf entry = split-at lists.entries placement.shelf entry locates.at in
    let member : IsAt entry.items placement.item number = split-at entry.items placement.item number locates.item in
    let placed : IsPlaced atlas entry = Each-get (IsPlaced atlas) lists.entries placement.shelf entry locates.at (witnesses kept).placed in
    let chosen : IsChosenFor state size placement = placement_of-placed state size placement h in
    let read : slice_get state.shelves placement.shelf ≡ Some shelf =
    slice_get-map (spelled_shelf atlas) lists.entries placement.shelf ∙ ap (option_map (spelled_shelf atlas)) locates.at in
    let both : Some chosen.chosen.shelf ≡ Some shelf = sym chosen.chosen.at ∙ read in
    let same : chosen.chosen.shelf ≡ shelf = cc in
    let takes : IsTaking frame placement shelf = subst (IsTaking frame placement) same (taking state size placement (witnesses kept).valid chosen) in
    let read_item : slice_get shelf.items placement.item ≡ Some (item_at items number) =
    slice_get-map (item_at items) entry.items placement.item ∙ ap (option_map (item_at items)) locates.item in
    let both_items : Some takes.found.item ≡ Some (item_at items number) =
    sym takes.found.at.get ∙ ap (slice_get shelf.items) (sym takes.item) ∙ read_item in
    let item : takes.found.item ≡ item_at items number = cc in
    let front : List ℕ = member.front in
    let back : List ℕ = member.back in
    let whole : entry.items ≡ front ++ number ∷ back = member.whole in
    let free : is_allocated_at items number ≡ false = free-unmarked items number (ap (λ (i : Item). i.id) (sym item) ∙ takes.room.free) in
    let stands : 1 ≤ times number entry.free_list =
    omega (
      arith,
      placed.free_list number,
      ap (free_count items number) whole,
      free_count-append items number front (number ∷ back),
      free_count-free items number number back free,
      times-here number [],
    ) in
    let free_member : IsAmong number entry.free_list = among number entry.free_list stands in
    let numbers : List ℕ = front ++ number ∷ back in
    let places : List ℕ = free_member.front ++ number ∷ free_member.back in
    let here : ℕ = along_of records.shelves entry.number in
    let lies : LieFrom items here (front ++ number ∷ back) = subst (LieFrom items here) whole placed.places in
    let fronts : total_width takes.found.at.front ≡ widths items front =
    ap total_width (sym takes.found.at.before ∙ ap (λ n. take n shelf.items) (sym takes.item ∙ sym member.number) ∙ ap (λ xs. take (length front) (map (item_at items) xs)) whole ∙ take-mapped (item_at items) front (number ∷ back))
    ∙ widths-total items front in
    let column : column_place frame shelf ≡ here = sym (multiple here frame.column_width placed.along) in
    let split : entry ≡ entry_of entry.number numbers places = entry-split entry numbers places whole free_member.whole in
    let apart = linked-apart (around_of at.front at.back lists.unused_items lists.unused_shelves) entry
    (subst (λ (es : List Entry). IsLinkedExcept records (lists_of es lists.unused_items lists.unused_shelves) [] []) at.whole (witnesses kept).linked) in
    let is_entry : IsEntry records entry = Each-get (IsEntry records) lists.entries placement.shelf entry locates.at (witnesses kept).linked.entries in
    let once : (k : ℕ) → times k (free_member.front ++ number ∷ free_member.back) ≤ 1 = λ k. omega (arith, apart.free_once k, times-same k entry.free_list places free_member.whole) in
    let wide : AllByRecursion (λ k. 1 ≤ (item_at items k).width) (front ++ number ∷ back) = subst (AllByRecursion (λ k. 1 ≤ (item_at items k).width)) whole (items-wide frame items entry.items takes.valid.items) in
    record {
      before = at.front;
      after = at.back;
      front = front;
      back = back;
      free_front = free_member.front;
      free_back = free_member.back;
      entries = entries-split lists.entries at.front at.back entry (entry_of entry.number numbers places) at.whole split;
      at = at.number;
      item =
          record {
            at = sym member.number;
            along = omega (arith, takes.found.begins, column, fronts, (LieFrom-back items here front (number ∷ back) lies).0);
            free = free;
            split = λ e. omega (arith, takes.room.split e, ap (λ (i : Item). i.width) item);
            whole = λ e. takes.room.whole e ∙ ap (λ (i : Item). i.width) item;
            apart = λ k among. place-apart items here front back number k (λ n in_items. Each-member (λ k. 1 ≤ (item_at items k).width) (front ++ number ∷ back) n wide in_items) lies
                (omega (arith, among, times-same k entry.items numbers whole, times-same k entry.free_list places free_member.whole, is_entry.members k, times-append k free_member.front free_member.back, times-append k free_member.front (number ∷ free_member.back)))
                (other-free free_member.front free_member.back number k (once k) among);
          };
      takes = takes-split atlas placement entry (entry_of entry.number numbers places) split takes;
    }
  where
    other-free : (front back : List ℕ) (number k : ℕ) → times k (front ++ number ∷ back) ≤ 1 → 1 ≤ times k (front ++ back) → number ≢ k
    other-free front back number k once among e =
        let here : times k (number ∷ back) ≡ 1 + times k back = rw e (times-here k back) in
        omega (arith, once, among, here, times-append k front back, times-append k front (number ∷ back))
