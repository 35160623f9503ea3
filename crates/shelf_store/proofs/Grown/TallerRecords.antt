-- Records half way through a grow stay what they are when the last shelf of a column becomes taller.
use Rattle.std.proofs.Common.{◌≡◌, ◌≢◌, ℕ, ◌+◌, ◌<◌, ◌≤◌, ◌/◌, false, Some, List, [], ◌∷◌, ◌++◌, length, refl, ap, sym, ◌∙◌, arith, subst}
use Rattle.etagere_base.specs.declared.frames.Frame.{Frame}
use Rattle.std.specs.List.{AllByRecursion}
use Rattle.etagere_base.specs.Lists.{times}
use Rattle.etagere_base.proofs.EachLemmas.{Each-append, Each-back, Each-front}
use Rattle.shelf_records.proofs.AllLists.LinkedEdits.{linked-apart, around_of}
use Rattle.shelf_records.specs.declared.records.LinkedShelf.{LinkedShelf}
use Rattle.shelf_records.specs.RecordEdits.{shelf_changed}
use Rattle.shelf_records.specs.RecordLists.{Entry, IsEntry, Records, shelf_numbers}
use Rattle.shelf_records.proofs.AllLists.LinkedFields.{shelf_changed-linked}
use Rattle.shelf_records.proofs.AllLists.LinkedFrames.{shelf_numbers-append}
use Rattle.etagere_links.proofs.FieldChanges.{field_at-changed, field_at-kept}
use Rattle.etagere_links.proofs.RecordChanges.{length-changed_by}
use Rattle.shelf_records.specs.AtlasRecords.{AtlasRecords, across_of, along_of, height_of, spelled_shelf}
use Rattle.shelf_model.specs.Merging.{combined_shelves}
use Rattle.shelf_records.specs.Private.Kept.{bare}
use Rattle.shelf_records.proofs.Spelled.Witnessed.{HasFlag}
use Rattle.shelf_store.specs.Private.RecordsGrown.{Growing}
use Rattle.shelf_records.specs.StandsFor.{AreStacked, height_before}
use Rattle.shelf_model.proofs.Grown.GrownShelves.{end_shelf}
use Rattle.shelf_store.proofs.Grown.HalfGrown.{IsGrowing, shelves_spelled}
use Rattle.shelf_store.proofs.Spelled.EmptinessSaid.{shelf-is}
use Rattle.shelf_records.proofs.Spelled.RecordValues.{SameShelf, item-same, shelf-other}
use Rattle.shelf_store.proofs.Spelled.SpelledShelves.{IsTaller, still-placed}
use Rattle.shelf_store.proofs.Spelled.SpelledUses.{SameEntries, same-entries}
use Rattle.shelf_store.proofs.Spelled.StackedEdits.{Each-numbers, height-other, stacked-edited}
use Rattle.shelf_store.proofs.Spelled.ReturnedLengths.{counts-same}

-- shelves stand where they stood after the last one of a column became taller
stacked-taller : (shelves new : List LinkedShelf) (column_width : ℕ) (before after : List ℕ) (number : ℕ) → along_of new number ≡ along_of shelves number
    → across_of new number ≡ across_of shelves number
    → ((k : ℕ) → 1 ≤ times k before → SameShelf shelves new k) → ((k : ℕ) → 1 ≤ times k after → SameShelf shelves new k)
    → AllByRecursion (λ (n : ℕ). along_of shelves n / column_width ≢ along_of shelves number / column_width) after
    → AreStacked shelves column_width [] (before ++ number ∷ after) → AreStacked new column_width [] (before ++ number ∷ after)
stacked-taller shelves new column_width before after number along across same_before same_after =
    let column : ℕ = along_of shelves number / column_width in
    stacked-edited shelves new column_width (λ c. c ≢ column) before (number ∷ []) (number ∷ []) after same_before same_after
    (λ below stacked. (across ∙ stacked.0 ∙ sym (ap (λ a. height_before new column_width (a / column_width) before) along ∙ below column), tt))
    (λ c other. height-other new column_width c number (λ e. other (sym e ∙ ap (λ a. a / column_width) along)) ∙ sym (height-other shelves column_width c number (λ e. other (sym e))))

-- records with one shelf as tall as this
abbrev pub with_tall : ℕ → ℕ → Records → Records
with_tall number height records = shelf_changed number (λ (here : LinkedShelf). record here { height = height }) records

-- what records say once one shelf is taller
tall-values : (records : Records) (number height : ℕ) → number < length records.shelves → IsTaller records (with_tall number height records) number height
tall-values records number height within =
    let old : List LinkedShelf = records.shelves in
    let change : LinkedShelf → LinkedShelf = λ x. record x { height = height } in
    record {
      along = λ k. field_at-kept (λ (x : LinkedShelf). x.x) 0 change old number k (λ x. refl);
      across = λ k. field_at-kept (λ (x : LinkedShelf). x.y) 0 change old number k (λ x. refl);
      is_empty = λ k. field_at-kept (λ (x : LinkedShelf). x.is_empty) false change old number k (λ x. refl);
      own = field_at-changed (λ (x : LinkedShelf). x.height) 0 change old number height within (λ x. refl);
      others = λ k other. shelf-other old old change number k other (record { along = refl; across = refl; height = refl; is_empty = refl });
      items = λ k. item-same records.items records.items k refl;
      as_many = length-changed_by change old (Some number);
    }

-- what a grow comes to where the last shelf of a column became taller
pub record IsTallerEnd (frame : Frame) (old : ℕ) (growing new : Growing) (before after : List Entry) (entry : Entry) (unused_items unused_shelves : List ℕ) (items shelves height : ℕ) : Type 0 where
  pub is : IsGrowing frame old new (before ++ entry ∷ after) unused_items unused_shelves items shelves
  pub before_spelled : shelves_spelled frame new.records before ≡ shelves_spelled frame growing.records before
  pub own : spelled_shelf (bare frame new.records) entry
      ≡ combined_shelves (spelled_shelf (bare frame growing.records) entry) (end_shelf frame height (spelled_shelf (bare frame growing.records) entry))
  pub after_spelled : shelves_spelled frame new.records after ≡ shelves_spelled frame growing.records after

-- the last shelf of a column becomes taller
pub end-taller : (frame : Frame) (old : ℕ) (growing : Growing) (before after : List Entry) (entry : Entry) (unused_items unused_shelves : List ℕ) (items shelves height : ℕ)
    → IsGrowing frame old growing (before ++ entry ∷ after) unused_items unused_shelves items shelves
    → AllByRecursion (λ (other : Entry). along_of growing.records.shelves other.number / frame.column_width ≢ along_of growing.records.shelves entry.number / frame.column_width) after
    → IsTallerEnd frame old growing
    (record { records = with_tall entry.number (height_of growing.records.shelves entry.number + height) growing.records; made = growing.made })
    before after entry unused_items unused_shelves items shelves height
end-taller frame old growing before after entry unused_items unused_shelves items shelves height is others =
    let records : Records = growing.records in
    let column_width : ℕ = frame.column_width in
    let tall : ℕ = height_of records.shelves entry.number + height in
    let new : Records = with_tall entry.number tall records in
    let atlas : AtlasRecords = bare frame records in
    let entries : List Entry = before ++ entry ∷ after in
    let apart = linked-apart (around_of before after unused_items unused_shelves) entry is.spelled.linked in
    let taller : IsTaller records new entry.number tall = tall-values records entry.number tall apart.number in
    let same_before : (k : ℕ) → 1 ≤ times k (shelf_numbers before) → SameShelf records.shelves new.shelves k =
    λ k stands. taller.others k (apart.numbers k (omega (arith, stands))) in
    let same_after : (k : ℕ) → 1 ≤ times k (shelf_numbers after) → SameShelf records.shelves new.shelves k =
    λ k stands. taller.others k (apart.numbers k (omega (arith, stands))) in
    let front : SameEntries atlas new before =
    same-entries atlas new before same_before (λ k stands. taller.items k) (Each-front (IsEntry records) before (entry ∷ after) is.spelled.linked.entries) in
    let back : SameEntries atlas new after =
    same-entries atlas new after same_after (λ k stands. taller.items k) (Each-back (IsEntry records) before (entry ∷ after) is.spelled.linked.entries).1 in
    let numbers : shelf_numbers entries ≡ shelf_numbers before ++ entry.number ∷ shelf_numbers after = shelf_numbers-append before (entry ∷ after) in
    let flags = Each-back (HasFlag atlas) before (entry ∷ after) is.flags in
    let as_many : length new.shelves ≡ length records.shelves = taller.as_many in
    record {
      is =
          record {
            spelled =
                record {
                  linked = shelf_changed-linked entry.number (λ (here : LinkedShelf). record here { height = tall })
                      (record { next = λ x. refl; prev = λ x. refl; first_item = λ x. refl; first_unallocated = λ x. refl }) is.spelled.linked;
                  placed = still-placed atlas new entries taller.along taller.items is.spelled.placed;
                  stacked = rw numbers
                      (stacked-taller records.shelves new.shelves column_width (shelf_numbers before) (shelf_numbers after) entry.number
                      (taller.along entry.number) (taller.across entry.number) same_before same_after
                      (Each-numbers (λ (n : ℕ). along_of records.shelves n / column_width ≢ along_of records.shelves entry.number / column_width) after others)
                      (subst (λ (l : List ℕ). AreStacked records.shelves column_width [] l) numbers is.spelled.stacked));
                  unused = is.spelled.unused;
                };
            flags = Each-append (HasFlag (bare frame new)) before (entry ∷ after) (front.flags (Each-front (HasFlag atlas) before (entry ∷ after) is.flags))
                (taller.is_empty entry.number ∙ flags.0, back.flags flags.1);
            counts = counts-same atlas (bare frame new) (record { items = refl; shelves = as_many }) is.counts;
            more = is.more;
            used_up = is.used_up;
          };
      before_spelled = front.spelled;
      own = shelf-is atlas new entry tall (taller.along entry.number) taller.own taller.items;
      after_spelled = back.spelled;
    }
