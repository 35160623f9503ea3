-- The list of shelves by height holds but for those that have changed where an item became free and was merged with its free
-- neighbours, once the bound of its shelf was raised to the width of what became free.
use Rattle.shelf_records.proofs.AllLists.LinkedEdits.{Around, linked-apart, with_entry}
use Rattle.std.proofs.Common.{◌≡◌, ℕ, ◌≤◌, Bool, false, Some, List, ◌∷◌, ◌++◌, ap, map, refl, set, subst, arith, sym, ◌∙◌}
use Rattle.std.proofs.lemmas.List.{map-append}
use Rattle.etagere_base.proofs.EachLemmas.{Each-append, Each-back, Each-front, Each-middle}
use Rattle.std.specs.List.{AllByRecursion}
use Rattle.shelf_records.proofs.AllLists.LinkedItems.{entry_of}
use Rattle.shelf_records.specs.declared.records.LinkedShelf.{LinkedShelf}
use Rattle.shelf_records.specs.RecordLists.{Records, Entry, IsEntry, first_item_of}
use Rattle.etagere_links.proofs.FieldChanges.{field_at-kept}
use Rattle.shelf_records.specs.AtlasRecords.{AtlasRecords, across_of, along_of, height_of, spelled_shelf}
use Rattle.shelf_heights.specs.Private.ByHeight.{IsBound, chain_order}
use Rattle.shelf_notes.specs.Private.SecondWidths.{second_at}
use Rattle.shelf_store.specs.Private.Settling.{HoldsExceptNoted}
use Rattle.shelf_notes.specs.Private.Pending.{Notes, is_noted, is_parked}
use Rattle.shelf_store.specs.Private.ItemReturned.{emptiness_said, item_merged, names_one_free}
use Rattle.shelf_store.specs.Private.ReturnedNotes.{freed_width, raised_unless}
use Rattle.shelf_store.specs.Private.SecondWidths.{AreSecondsOf, IsSecondOf, second_after, wider_count}
use Rattle.shelf_model.specs.State.{Shelf}
use Rattle.shelf_model.specs.Valid.{IsShelf}
use Rattle.shelf_heights.specs.declared.by_height.BoundedShelf.{BoundedShelf}
use Rattle.shelf_store.proofs.ByHeight.FreedBounds.{IsWithin, freed-within}
use Rattle.shelf_store.proofs.ByHeight.KeptSeconds.{freed-second, seconds-others}
use Rattle.shelf_store.proofs.ByHeight.MergedByHeight.{raised-holds}
use Rattle.shelf_store.proofs.Spelled.ItemMerged.{MergesItem}
use Rattle.shelf_store.proofs.Spelled.ItemsAround.{map-parts}
use Rattle.shelf_store.proofs.Spelled.ReturnedLengths.{SameLengths, emptied-lengths}
use Rattle.shelf_store.proofs.Spelled.SpelledLists.{with_records, IsSpelled}

-- what an item that became free leaves by height, once its shelf says whether it is empty
abbrev pub FreesByHeight : AtlasRecords → AtlasRecords → List Entry → List Entry → ℕ → ℕ → Type 0
FreesByHeight atlas new entries edited shelf width =
    (notes : Notes) (by_height : List BoundedShelf) → is_parked notes shelf ≡ false → HoldsExceptNoted atlas entries notes by_height
    → HoldsExceptNoted new edited notes (raised_unless (is_noted notes shelf) shelf width by_height)

-- an item became free, and its shelf says whether it is empty
pub frees-by_height : (atlas : AtlasRecords) (around : Around) (shelf number : ℕ) (front back free : List ℕ) → IsShelf atlas.frame (spelled_shelf atlas (entry_of shelf (front ++ number ∷ back) free)) → IsSpelled atlas (with_entry around (entry_of shelf (front ++ number ∷ back) free)) → (merges : MergesItem atlas (item_merged shelf number atlas.records) around shelf number front back free) → map (spelled_shelf (with_records atlas (emptiness_said shelf (item_merged shelf number atlas.records).records))) (around.before ++ entry_of shelf merges.numbers merges.free_list ∷ around.after) ≡ map (spelled_shelf (with_records atlas (item_merged shelf number atlas.records).records)) (around.before ++ entry_of shelf merges.numbers merges.free_list ∷ around.after) → FreesByHeight atlas (with_records atlas (emptiness_said shelf (item_merged shelf number atlas.records).records)) (around.before ++ entry_of shelf (front ++ number ∷ back) free ∷ around.after) (around.before ++ entry_of shelf merges.numbers merges.free_list ∷ around.after) shelf (freed_width atlas.records.items number)
frees-by_height atlas around shelf number front back free valid spelled merges said =
    let old : List LinkedShelf = atlas.records.shelves in
    let entry : Entry = entry_of shelf (front ++ number ∷ back) free in
    let edited : Entry = entry_of shelf merges.numbers merges.free_list in
    let one : Records = (item_merged shelf number atlas.records).records in
    let two : Records = emptiness_said shelf one in
    let middle : AtlasRecords = with_records atlas one in
    let new : AtlasRecords = with_records atlas two in
    let change : LinkedShelf → LinkedShelf = λ x. record x { is_empty = names_one_free one.items (first_item_of one.shelves shelf) } in
    let along : (k : ℕ) → along_of two.shelves k ≡ along_of old k = λ k. field_at-kept (λ (x : LinkedShelf). x.x) 0 change one.shelves shelf k (λ x. refl) ∙ (merges.same k).along in
    let across : (k : ℕ) → across_of two.shelves k ≡ across_of old k = λ k. field_at-kept (λ (x : LinkedShelf). x.y) 0 change one.shelves shelf k (λ x. refl) ∙ (merges.same k).across in
    let height : (k : ℕ) → height_of two.shelves k ≡ height_of old k = λ k. field_at-kept (λ (x : LinkedShelf). x.height) 0 change one.shelves shelf k (λ x. refl) ∙ (merges.same k).height in
    let in_chain : (k : ℕ) → chain_order two.shelves k ≡ chain_order old k = λ k. omega (arith, along k, across k) in
    let lengths : SameLengths atlas.records two = emptied-lengths shelf number atlas.records in
    let is : IsEntry atlas.records entry = Each-middle (IsEntry atlas.records) around.before entry around.after spelled.linked.entries in
    let others = map-parts (spelled_shelf new) (spelled_shelf middle) around.before edited (spelled_shelf middle edited) around.after (said ∙ map-append (spelled_shelf middle) around.before (edited ∷ around.after)) in
    λ notes by_height unparked holds. raised-holds atlas new around.before around.after entry edited (freed_width atlas.records.items number) notes by_height refl lengths.shelves in_chain height
    (others.0 ∙ merges.before_same) (others.1 ∙ merges.after_same)
    (λ widest bound wide. subst (λ (s : Shelf). AllByRecursion (IsWithin widest) s.items) (sym merges.returned) (freed-within atlas shelf number front back free widest is valid.apart bound wide))
    unparked holds

-- what an item that became free leaves of the widths that are kept: that of its shelf is kept anew
abbrev pub FreesSeconds : AtlasRecords → AtlasRecords → List Entry → List Entry → Entry → ℕ → Type 0
FreesSeconds atlas new entries edited entry width =
    (seconds : List ℕ) (changed : Bool) (bound : ℕ) → (changed ≡ false → IsBound bound (spelled_shelf atlas entry)) → width ≤ 65535 → AreSecondsOf atlas.records.items entries seconds
    → AreSecondsOf new.records.items edited (set seconds entry.number (second_after changed width bound (second_at seconds entry.number)))

-- an item became free, and its shelf says whether it is empty
pub frees-seconds : (atlas : AtlasRecords) (around : Around) (shelf number : ℕ) (front back free : List ℕ) → IsShelf atlas.frame (spelled_shelf atlas (entry_of shelf (front ++ number ∷ back) free)) → IsSpelled atlas (with_entry around (entry_of shelf (front ++ number ∷ back) free)) → (merges : MergesItem atlas (item_merged shelf number atlas.records) around shelf number front back free) → map (spelled_shelf (with_records atlas (emptiness_said shelf (item_merged shelf number atlas.records).records))) (around.before ++ entry_of shelf merges.numbers merges.free_list ∷ around.after) ≡ map (spelled_shelf (with_records atlas (item_merged shelf number atlas.records).records)) (around.before ++ entry_of shelf merges.numbers merges.free_list ∷ around.after) → FreesSeconds atlas (with_records atlas (emptiness_said shelf (item_merged shelf number atlas.records).records)) (around.before ++ entry_of shelf (front ++ number ∷ back) free ∷ around.after) (around.before ++ entry_of shelf merges.numbers merges.free_list ∷ around.after) (entry_of shelf (front ++ number ∷ back) free) (freed_width atlas.records.items number)
frees-seconds atlas around shelf number front back free valid spelled merges said =
    let entry : Entry = entry_of shelf (front ++ number ∷ back) free in
    let edited : Entry = entry_of shelf merges.numbers merges.free_list in
    let middle : AtlasRecords = with_records atlas (item_merged shelf number atlas.records).records in
    let new : AtlasRecords = with_records atlas (emptiness_said shelf (item_merged shelf number atlas.records).records) in
    let is : IsEntry atlas.records entry = Each-middle (IsEntry atlas.records) around.before entry around.after spelled.linked.entries in
    let others = map-parts (spelled_shelf new) (spelled_shelf middle) around.before edited (spelled_shelf middle edited) around.after (said ∙ map-append (spelled_shelf middle) around.before (edited ∷ around.after)) in
    let apart = linked-apart around entry spelled.linked in
    λ seconds changed bound bounds narrow are.
    let second : ℕ = second_after changed (freed_width atlas.records.items number) bound (second_at seconds shelf) in
    let tail = Each-back (IsSecondOf atlas.records.items seconds) around.before (entry ∷ around.after) are in
    Each-append (IsSecondOf new.records.items (set seconds shelf second)) around.before (edited ∷ around.after)
    (seconds-others atlas new around.before seconds shelf second (others.0 ∙ merges.before_same) (λ k stands same. apart.numbers k (omega (arith, stands)) (ap Some same))
    (Each-front (IsSecondOf atlas.records.items seconds) around.before (entry ∷ around.after) are)) (
      subst (λ (s : Shelf). wider_count (second_at (set seconds shelf second) shelf) s.items ≤ 1) (sym merges.returned)
          (freed-second atlas shelf number front back free is valid.apart seconds changed bound bounds narrow tail.0),
      seconds-others atlas new around.after seconds shelf second (others.1 ∙ merges.after_same) (λ k stands same. apart.numbers k (omega (arith, stands)) (ap Some same)) tail.1,
    )
