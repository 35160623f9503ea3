-- Records that links spell as lists, and that say what they must beside their links, keep the rules of a snapshot.
use Rattle.std.proofs.Common.{pos, ◌≡◌, ℕ, ◌≤◌, false, None, List, [], ◌∷◌, ◌++◌, length, map, refl, ap, subst, arith, sym, ◌∙◌}
use Rattle.std.specs.Prelude.{◌<◌, ◌%◌}
use Rattle.etagere_base.specs.declared.frames.Frame as frames
use Rattle.etagere_base.specs.declared.faults.RestoreFault.TheVariants.{Frame, Counts, Link, Shelves, Runs, Neighbours, FreeList, Sharing, Unused, Space, Memory}
use Rattle.shelf_records.specs.Chains.{IsListIn, LeadsBack}
use Rattle.etagere_links.specs.Edits.{link_at}
use Rattle.etagere_links.proofs.WalkedLists.{walk_by-fits}
use Rattle.shelf_records.specs.Records.{free_list, item_chain, shelf_chain}
use Rattle.etagere_base.proofs.EachLemmas.{Each-weaken}
use Rattle.etagere_base.proofs.TimesLemmas.{times-append}
use Rattle.std.specs.List.{AllByRecursion}
use Rattle.etagere_base.specs.Lists.{NoNeighbours}
use Rattle.etagere_links.specs.Links.{no_link}
use Rattle.shelf_records.specs.RecordLists.{Entry, Lists, first_free_of, first_item_of, shelf_walk, item_walk, free_walk, walked_entry, unused_item_walk, unused_shelf_walk, walked_lists, shelf_numbers, item_numbers, IsEntry, IsLinked, Records}
use Rattle.etagere_links.specs.Lists.{HasEachOnce}
use Rattle.etagere_links.specs.Walks.{Walked}
use Rattle.shelf_records.proofs.AllLists.LinkedUnused.{three-count}
use Rattle.shelf_records.proofs.AllLists.LinkedWalks.{AreWalks, HasWalks, linked-walks, linked-lists, walked-numbers}
use Rattle.shelf_records.specs.AtlasRecords.{AtlasRecords, is_allocated_at, along_of, spelled_shelf, spelled_state, state_spelled, walked_entries}
use Rattle.shelf_model.specs.Merging.{both_free}
use Rattle.shelf_records.specs.Private.Kept.{AreFit, AreKept, FollowsFit, atlas_of, bare, state_of}
use Rattle.shelf_records.proofs.Spelled.Witnessed.{HasFlag, IsPlaced, Witnessed}
use Rattle.shelf_model.specs.Space.{space_in}
use Rattle.shelf_records.specs.StandsFor.{StopsInRange, HasItemLinks, AreStacked, HasItems, HasFreeList, StandsFor}
use Rattle.shelf_model.specs.State.{Shelf, AtlasState}
use Rattle.shelf_model.specs.Valid.{IsShelf, IsValid}

-- a fact of each element's image is a fact of each element
pub Each-unmap : {X Y : Type 0} (P : Y → Type 0) (f : X → Y) (xs : List X) → AllByRecursion P (map f xs) → AllByRecursion (λ (x : X). P (f x)) xs
Each-unmap P f [] each = tt
Each-unmap P f (x ∷ xs) each = (each.0, Each-unmap P f xs each.1)

-- three facts of each element are one
Each-three : {X : Type 0} (P Q R S : X → Type 0) → ((x : X) → P x → Q x → R x → S x) → (xs : List X) → AllByRecursion P xs → AllByRecursion Q xs → AllByRecursion R xs → AllByRecursion S xs
Each-three P Q R S makes [] ps qs rs = tt
Each-three P Q R S makes (x ∷ xs) ps qs rs = (makes x ps.0 qs.0 rs.0, Each-three P Q R S makes xs ps.1 qs.1 rs.1)

-- a walk that ends at none stops in range
stops-none : (count : ℕ) (walked : Walked) → walked.end ≡ no_link → StopsInRange count walked
stops-none count walked ends = rw ends refl

-- the links of a shelf's lists, from what spells them and what walks meet
item-links : (atlas : AtlasRecords) (entry : Entry) → IsEntry atlas.records entry → IsPlaced atlas entry → HasWalks atlas.records entry → HasItemLinks atlas entry
item-links atlas entry is placed walks =
    record {
      items = stops-none (length atlas.records.items) (item_walk atlas.records entry.number) (ap (λ (w : Walked). w.end) walks.items);
      free_list = stops-none (length atlas.records.items) (free_walk atlas.records entry.number) (ap (λ (w : Walked). w.end) walks.free_list);
      links = record { back = is.items.backward; owners = placed.owners };
    }

-- the free list of a shelf, from the same
free-list : (atlas : AtlasRecords) (entry : Entry) → IsEntry atlas.records entry → IsPlaced atlas entry → HasWalks atlas.records entry → HasFreeList atlas entry
free-list atlas entry is placed walks =
    record { list = record { items = placed.free_list; back = is.free_list.backward }; ends = ap (λ (w : Walked). w.end) walks.free_list }

-- the items of a shelf, from what its records say and its being a shelf
has-items : (atlas : AtlasRecords) (entry : Entry) → IsPlaced atlas entry → IsShelf atlas.frame (spelled_shelf atlas entry) → HasFlag atlas entry
    → HasItems atlas.frame atlas.records.shelves atlas.records.items entry
has-items atlas entry placed shelf flag =
    record { places = placed.places; items = shelf.items; width = shelf.width; is_empty = flag }

-- what stands once in three lists of which the last is empty stands once in the two
two-of : (count : ℕ) (used unused : List ℕ) → HasEachOnce count (used ++ unused ++ []) → HasEachOnce count (used ++ unused)
two-of count used unused once k = omega (arith, once k, three-count used unused [] k, times-append k used unused)

-- records that spell lists stand for the state
witnessed-stands : (atlas : AtlasRecords) (lists : Lists) (state : AtlasState) → Witnessed atlas lists state → StandsFor atlas state
witnessed-stands atlas lists state witnessed =
    let linked : IsLinked atlas.records lists = witnessed.linked in
    let walks : AreWalks atlas.records lists = linked-walks atlas.records lists witnessed.counts.shelves.1 witnessed.counts.items.1 linked in
    let same : lists ≡ walked_lists atlas.records = sym (linked-lists atlas.records lists walks) in
    let entries : lists.entries ≡ walked_entries atlas = ap (λ (l : Lists). l.entries) same in
    let numbers : shelf_numbers lists.entries ≡ (shelf_walk atlas.records).met = sym (ap (λ (w : Walked). w.met) walks.shelves) in
    let unused_items : lists.unused_items ≡ (unused_item_walk atlas.records).met = ap (λ (l : Lists). l.unused_items) same in
    let unused_shelves : lists.unused_shelves ≡ (unused_shelf_walk atlas.records).met = ap (λ (l : Lists). l.unused_shelves) same in
    let shelf_end : (shelf_walk atlas.records).end ≡ no_link = ap (λ (w : Walked). w.end) walks.shelves in
    let unused_shelf_end : (unused_shelf_walk atlas.records).end ≡ no_link = ap (λ (w : Walked). w.end) walks.unused_shelves in
    let unused_item_end : (unused_item_walk atlas.records).end ≡ no_link = ap (λ (w : Walked). w.end) walks.unused_items in
    let frame : state.frame ≡ atlas.frame = ap (λ (s : AtlasState). s.frame) witnessed.spelled in
    let shelves : state.shelves ≡ map (spelled_shelf atlas) lists.entries = ap (λ (s : AtlasState). s.shelves) witnessed.spelled in
    let are_shelves : AllByRecursion (λ (entry : Entry). IsShelf atlas.frame (spelled_shelf atlas entry)) lists.entries =
    Each-unmap (IsShelf atlas.frame) (spelled_shelf atlas) lists.entries
    (subst (λ (ss : List Shelf). AllByRecursion (IsShelf atlas.frame) ss) shelves (subst (λ (f : frames.Frame). AllByRecursion (IsShelf f) state.shelves) frame witnessed.valid.shelves)) in
    let each : (P : Entry → Type 0) → AllByRecursion P lists.entries → AllByRecursion P (walked_entries atlas) = λ P ps. subst (λ (es : List Entry). AllByRecursion P es) entries ps in
    let spelled : state ≡ state_spelled atlas = subst (λ (es : List Entry). state ≡ spelled_state atlas es) entries witnessed.spelled in
    let valid : IsValid (state_spelled atlas) = subst IsValid spelled witnessed.valid in
    record {
      spelled = spelled;
      columns = valid.columns;
      keeps = elim [
        | Frame ↦ valid.frame
        | Counts ↦ witnessed.counts
        | Link ↦ record {
          shelves = stops-none (length atlas.records.shelves) (shelf_walk atlas.records) shelf_end;
          unused_shelves = stops-none (length atlas.records.shelves) (unused_shelf_walk atlas.records) unused_shelf_end;
          unused_items = stops-none (length atlas.records.items) (unused_item_walk atlas.records) unused_item_end;
          back = subst (λ (ns : List ℕ). LeadsBack (link_at shelf_chain.previous atlas.records.shelves) None ns) numbers linked.shelves.backward;
          each_shelf = each (HasItemLinks atlas) (Each-three (IsEntry atlas.records) (IsPlaced atlas) (HasWalks atlas.records) (HasItemLinks atlas) (item-links atlas) lists.entries linked.entries witnessed.placed walks.entries);
        }
        | Shelves ↦ record {
          columns = Each-weaken (IsShelf atlas.frame) (λ (shelf : Shelf). shelf.column < atlas.frame.columns) (state_spelled atlas).shelves (λ shelf is. is.column) valid.shelves;
          ordered = valid.ordered;
          along = each (λ (entry : Entry). along_of atlas.records.shelves entry.number % atlas.frame.column_width ≡ 0)
              (Each-weaken (IsPlaced atlas) (λ (entry : Entry). along_of atlas.records.shelves entry.number % atlas.frame.column_width ≡ 0) lists.entries (λ entry placed. placed.along) witnessed.placed);
          across = subst (λ (es : List Entry). AreStacked atlas.records.shelves atlas.frame.column_width [] (shelf_numbers es)) entries witnessed.stacked;
          heights = Each-weaken (IsShelf atlas.frame) (λ (shelf : Shelf). 1 ≤ shelf.height) (state_spelled atlas).shelves (λ shelf is. is.height) valid.shelves;
          filled = valid.heights;
        }
        | Runs ↦ each (HasItems atlas.frame atlas.records.shelves atlas.records.items)
            (Each-three (IsPlaced atlas) (λ (entry : Entry). IsShelf atlas.frame (spelled_shelf atlas entry)) (HasFlag atlas) (HasItems atlas.frame atlas.records.shelves atlas.records.items)
            (has-items atlas) lists.entries witnessed.placed are_shelves witnessed.flags)
        | Neighbours ↦ record {
          items = Each-weaken (IsShelf atlas.frame) (λ (shelf : Shelf). NoNeighbours both_free shelf.items) (state_spelled atlas).shelves (λ shelf is. is.apart) valid.shelves;
          shelves = valid.apart;
        }
        | FreeList ↦ each (HasFreeList atlas) (Each-three (IsEntry atlas.records) (IsPlaced atlas) (HasWalks atlas.records) (HasFreeList atlas) (free-list atlas) lists.entries linked.entries witnessed.placed walks.entries)
        | Sharing ↦ record {
          shelves = subst (λ (ns : List ℕ). HasEachOnce (length atlas.records.shelves) (ns ++ (unused_shelf_walk atlas.records).met)) numbers
              (subst (λ (us : List ℕ). HasEachOnce (length atlas.records.shelves) (shelf_numbers lists.entries ++ us)) unused_shelves
              (two-of (length atlas.records.shelves) (shelf_numbers lists.entries) lists.unused_shelves linked.shelves_once));
          items = subst (λ (es : List Entry). HasEachOnce (length atlas.records.items) (item_numbers es ++ (unused_item_walk atlas.records).met)) entries
              (subst (λ (us : List ℕ). HasEachOnce (length atlas.records.items) (item_numbers lists.entries ++ us)) unused_items
              (two-of (length atlas.records.items) (item_numbers lists.entries) lists.unused_items linked.items_once));
          shelf_end = shelf_end;
          unused_shelf_end = unused_shelf_end;
          item_ends = each (λ (entry : Entry). (item_walk atlas.records entry.number).end ≡ no_link)
              (Each-weaken (HasWalks atlas.records) (λ (entry : Entry). (item_walk atlas.records entry.number).end ≡ no_link) lists.entries (λ entry walked. ap (λ (w : Walked). w.end) walked.items) walks.entries);
          unused_item_end = unused_item_end;
        }
        | Unused ↦ subst (λ (us : List ℕ). AllByRecursion (λ item. is_allocated_at atlas.records.items item ≡ false) us) unused_items witnessed.unused
        | Space ↦ subst (λ (s : AtlasState). atlas.allocated_space ≡ pos (space_in s.shelves)) spelled witnessed.space
        | Memory ↦ tt
      ];
    }

-- the links of a shelf's lists fit their bits
entries-fit : (records : Records) → length records.items ≤ no_link → (numbers : List ℕ)
    → AllByRecursion (IsEntry records) (map (walked_entry records) numbers)
    → AllByRecursion (λ number. FollowsFit item_chain.next records.items (first_item_of records.shelves number)) numbers
    × AllByRecursion (λ number. FollowsFit free_list.next records.items (first_free_of records.shelves number)) numbers
entries-fit records few [] are = (tt, tt)
entries-fit records few (n ∷ ns) are =
    let rest = entries-fit records few ns are.1 in (
      (walk_by-fits item_chain.next records.items (first_item_of records.shelves n) few are.0.items.forward, rest.0),
      (walk_by-fits free_list.next records.items (first_free_of records.shelves n) few are.0.free_list.forward, rest.1),
    )

-- and so do all links of records that spell the lists that walks meet
linked-fit : (records : Records) → length records.shelves ≤ no_link → length records.items ≤ no_link
    → IsLinked records (walked_lists records) → AreFit records
linked-fit records few_shelves few_items linked =
    let each = entries-fit records few_items (shelf_walk records).met linked.entries in
    record {
      shelves = walk_by-fits shelf_chain.next records.shelves records.first_shelf few_shelves
          (subst (λ (ns : List ℕ). IsListIn shelf_chain records.shelves records.first_shelf ns)
          (walked-numbers records (shelf_walk records).met) linked.shelves.forward);
      unused_shelves = walk_by-fits shelf_chain.next records.shelves records.unused_shelves few_shelves linked.unused_shelves;
      unused_items = walk_by-fits item_chain.next records.items records.unused_items few_items linked.unused_items;
      items = each.0;
      free_lists = each.1;
    }

-- records that spell lists keep every rule
pub witnessed-kept : (frame : frames.Frame) (records : Records) (lists : Lists) → Witnessed (atlas_of frame records) lists (state_of frame records) → AreKept frame records
witnessed-kept frame records lists witnessed =
    let same : lists ≡ walked_lists records =
    sym (linked-lists records lists (linked-walks records lists witnessed.counts.shelves.1 witnessed.counts.items.1 witnessed.linked)) in
    record {
      stands = witnessed-stands (atlas_of frame records) lists (state_of frame records) witnessed;
      fit = linked-fit records witnessed.counts.shelves.1 witnessed.counts.items.1 (subst (λ (l : Lists). IsLinked records l) same witnessed.linked);
    }

-- records that spell the lists of a state keep every rule, and spell that state
pub kept-of : (frame : frames.Frame) (records : Records) (lists : Lists) (state : AtlasState) → Witnessed (record { frame = frame; records = records; allocated_space = pos (space_in state.shelves) }) lists state → (state_of frame records ≡ state) × AreKept frame records
kept-of frame records lists state witnessed =
    let met : walked_lists records ≡ lists =
    linked-lists records lists (linked-walks records lists witnessed.counts.shelves.1 witnessed.counts.items.1 witnessed.linked) in
    let same : state_of frame records ≡ state =
    ap (λ (l : Lists). spelled_state (bare frame records) l.entries) met ∙ sym witnessed.spelled in
    let spells : (s : AtlasState) → s ≡ state → Witnessed (record { frame = frame; records = records; allocated_space = pos (space_in s.shelves) }) lists s =
    λ s is. subst (λ (t : AtlasState). Witnessed (record { frame = frame; records = records; allocated_space = pos (space_in t.shelves) }) lists t) (sym is) witnessed in
    (same, witnessed-kept frame records lists (spells (state_of frame records) same))
