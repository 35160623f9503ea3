-- The rules that passes find kept or broken are those of the atlas whose parts they are handed.
use Rattle.std.proofs.Common.{◌≡◌, ◌≤◌, ◌∙◌, ℕ, Bool, true, false, List, ap, length, not, pos, refl, rules, subst, sym}
use Rattle.std.specs.List.{AllByRecursion}
use Rattle.std.specs.Prelude.{Decides}
use Rattle.etagere_base.proofs.DecidingLemmas.{denied, granted}
use Rattle.etagere_base.proofs.EachLemmas.{Each-weaken}
use Rattle.etagere_base.specs.declared.faults.RestoreFault.TheVariants.{Frame, Counts, Link, Shelves, Runs, Neighbours, FreeList, Sharing, Unused, Space, Memory}
use Rattle.etagere_links.specs.Links.{no_link}
use Rattle.shelf_records.specs.declared.records.LinkedItem.{LinkedItem}
use Rattle.shelf_records.specs.declared.records.LinkedShelf.{LinkedShelf}
use Rattle.shelf_records.specs.RecordLists.{Entry, unused_item_walk}
use Rattle.shelf_model.specs.Space.{space_in}
use Rattle.shelf_records.specs.AtlasRecords.{AtlasRecords, is_allocated_at, spelled_state, state_spelled, walked_entries}
use Rattle.shelf_records.specs.Private.Judging.{AreOwn, AreUsed, atlas_of_records}
use Rattle.shelf_records.specs.Private.Restoring.{IsWalked}
use Rattle.shelf_records.specs.StandsFor.{FreeBack, HasFreeList, HasItemLinks, HasItems, HasLinks, HasNeighbours, HasShelves, LinkBack}
use Rattle.shelf_restoring.specs.Private.Rules.{FreeOwn}
use Rattle.shelf_restoring.proofs.Judged.OwnLists.{back-own, own-back, own-marked}
use Rattle.shelf_restoring.proofs.Loaded.WalksFit.{walked-few, walked-frees, walked-items, walked-once, walked-short}
use Rattle.shelf_restoring.proofs.Loaded.WalksStand.{walked-free, walked-links, walked-shared}
use Rattle.shelf_restoring.proofs.rules.judge_rules.Goals as goal

-- what is not denied
was-true : (b : Bool) → not b ≡ false → b ≡ true
was-true true e = refl
was-true false e = absurd (cc)

-- what is
was-false : (b : Bool) → not b ≡ true → b ≡ false
was-false false e = refl
was-false true e = absurd (cc)

-- what is said of the parts of an atlas is said of the atlas
said : (P : AtlasRecords → List Entry → Type 0) (parts atlas : AtlasRecords) (shelves : List LinkedShelf) (items : List LinkedItem) (entries : List Entry)
    → parts ≡ atlas → shelves ≡ parts.records.shelves → items ≡ parts.records.items → entries ≡ walked_entries atlas
    → P (atlas_of_records parts.frame shelves items) entries → P (atlas_of_records atlas.frame atlas.records.shelves atlas.records.items) (walked_entries atlas)
said P parts atlas shelves items entries same shelves_are items_are met p =
    subst (λ (a : AtlasRecords). P (atlas_of_records a.frame a.records.shelves a.records.items) (walked_entries atlas)) same
    (subst (λ (is : List LinkedItem). P (atlas_of_records parts.frame parts.records.shelves is) (walked_entries atlas)) items_are
    (subst (λ (ss : List LinkedShelf). P (atlas_of_records parts.frame ss items) (walked_entries atlas)) shelves_are
    (subst (P (atlas_of_records parts.frame shelves items)) met p)))

-- so is what is said of unused items
said-free : (told : Bool) (items own : List LinkedItem) (unused met : List ℕ) → items ≡ own → unused ≡ met
    → Decides told (AllByRecursion (λ item. is_allocated_at items item ≡ false) unused) → Decides told (AllByRecursion (λ item. is_allocated_at own item ≡ false) met)
said-free told items own unused met same met_is decides =
    subst (λ (is : List LinkedItem). Decides told (AllByRecursion (λ item. is_allocated_at is item ≡ false) met)) same
    (subst (λ (us : List ℕ). Decides told (AllByRecursion (λ item. is_allocated_at items item ≡ false) us)) met_is decides)

-- where the items of shelves link back, marked are the items of each that name it
marked-own : (atlas : AtlasRecords) (marks : List Bool) → IsWalked atlas → AreUsed (length atlas.records.items) (unused_item_walk atlas.records).met marks
    → AllByRecursion (LinkBack atlas.records.items) (walked_entries atlas) → AllByRecursion (AreOwn atlas.records.items marks) (walked_entries atlas)
marked-own atlas marks walked used linked =
    own-marked atlas.records.items marks (length atlas.records.items) (unused_item_walk atlas.records).met (walked_entries atlas)
    (walked-once atlas walked) (walked-items atlas walked) used linked

pub judge_shelves-judged-requires-clause-few : goal.judge_shelves-judged-requires-clause-few
judge_shelves-judged-requires-clause-few c =
    subst (λ (es : List Entry). length es ≤ no_link) (sym c.requires.entries) (walked-few c.args.atlas.now c.requires.walked c.requires.counts.shelves.1)

pub judge_shelves-judged-requires-clause-short : goal.judge_shelves-judged-requires-clause-short
judge_shelves-judged-requires-clause-short c =
    subst (AllByRecursion (λ (entry : Entry). length entry.items ≤ no_link)) (sym c.requires.entries)
    (walked-short c.args.atlas.now c.requires.walked c.requires.counts.items.1)

pub returns-then-not-judged-clause-fault : goal.returns-then-not-judged-clause-fault
returns-then-not-judged-clause-fault c = λ (links : HasLinks c.args.atlas.now).
    let atlas = c.args.atlas.now in
    let judged = c.judge_shelves-judged in
    let decides : Decides judged.result.are_linked (AllByRecursion (LinkBack atlas.records.items) (walked_entries atlas)) = search rules in
    denied judged.result.are_linked (AllByRecursion (LinkBack atlas.records.items) (walked_entries atlas)) decides
    (was-false judged.result.are_linked c.if-not-judged.true)
    (Each-weaken (HasItemLinks atlas) (LinkBack atlas.records.items) (walked_entries atlas) (λ entry has. has.links) links.each_shelf)

pub returns-then-not-judged-2-clause-fault : goal.returns-then-not-judged-2-clause-fault
returns-then-not-judged-2-clause-fault c = λ lists.
    let atlas = c.args.atlas.now in
    let marks = c.deref.result.now in
    let items = atlas.records.items in
    let entries = walked_entries atlas in
    let judged = c.judge_shelves-judged in
    let linked : AllByRecursion (LinkBack items) entries = search rules in
    let used : AreUsed (length items) (unused_item_walk atlas.records).met marks = search rules in
    let decides : Decides judged.result.have_free_lists (AllByRecursion (FreeOwn items marks) entries) = search rules in
    denied judged.result.have_free_lists (AllByRecursion (FreeOwn items marks) entries) decides
    (was-false judged.result.have_free_lists c.if-not-judged-2.true)
    (back-own items marks entries (marked-own atlas marks c.requires.walked used linked)
    (Each-weaken (HasFreeList atlas) (FreeBack items) entries (λ entry has. has.list) lists))

pub returns-then-not-none_allocated-clause-fault : goal.returns-then-not-none_allocated-clause-fault
returns-then-not-none_allocated-clause-fault c = λ each.
    let atlas = c.args.atlas.now in
    let items : c.items-items.result.now ≡ atlas.records.items = c.items-items.ensures ∙ ap (λ (a : AtlasRecords). a.records.items) c.atlas.view_is in
    denied c.none_allocated.result (AllByRecursion (λ item. is_allocated_at atlas.records.items item ≡ false) (unused_item_walk atlas.records).met)
    (said-free c.none_allocated.result c.items-items.result.now atlas.records.items c.args.unused.now (unused_item_walk atlas.records).met items c.requires.unused c.none_allocated.ensures)
    c.if-not-none_allocated.true each

pub returns-clause-ok : goal.returns-clause-ok
returns-clause-ok c =
    let atlas = c.args.atlas.now in
    let marks = c.deref.result.now in
    let items = atlas.records.items in
    let entries = walked_entries atlas in
    let judged = c.judge_shelves-judged in
    let linked : AllByRecursion (LinkBack items) entries = search rules in
    let used : AreUsed (length items) (unused_item_walk atlas.records).met marks = search rules in
    let free : AllByRecursion (FreeOwn items marks) entries = search rules in
    let parts : AtlasRecords = record { frame = c.atlas.inside.frame; records = c.atlas.inside.records; allocated_space = c.atlas.inside.allocated_space } in
    let here : (P : AtlasRecords → List Entry → Type 0) → P (atlas_of_records parts.frame c.shelves-shelves.result.now c.items-items.result.now) c.args.entries.now
    → P (atlas_of_records atlas.frame atlas.records.shelves items) entries =
    λ P. said P parts atlas c.shelves-shelves.result.now c.items-items.result.now c.args.entries.now c.atlas.view_is c.shelves-shelves.ensures c.items-items.ensures c.requires.entries in
    let stacked : judged.result.are_stacked ≡ true = was-true judged.result.are_stacked c.if-not-judged-3.false in
    let shelves : HasShelves atlas.records.shelves entries (state_spelled atlas) =
    granted judged.result.are_stacked (HasShelves atlas.records.shelves entries (state_spelled atlas))
    (here (λ (a : AtlasRecords) (es : List Entry). Decides judged.result.are_stacked (HasShelves a.records.shelves es (spelled_state a es))) judged.ensures.stacked) stacked in
    let rows : AllByRecursion (HasItems atlas.frame atlas.records.shelves items) entries = search rules in
    let neighbours : HasNeighbours (state_spelled atlas) =
    granted judged.result.are_apart (HasNeighbours (state_spelled atlas))
    (here (λ (a : AtlasRecords) (es : List Entry). Decides judged.result.are_apart (HasNeighbours (spelled_state a es))) (judged.ensures.apart stacked))
    (was-true judged.result.are_apart c.if-not-judged-5.false) in
    let same_items : c.items-items.result.now ≡ items = c.items-items.ensures ∙ ap (λ (a : AtlasRecords). a.records.items) c.atlas.view_is in
    let unused : AllByRecursion (λ item. is_allocated_at items item ≡ false) (unused_item_walk atlas.records).met =
    granted c.none_allocated.result (AllByRecursion (λ item. is_allocated_at items item ≡ false) (unused_item_walk atlas.records).met)
    (said-free c.none_allocated.result c.items-items.result.now items c.args.unused.now (unused_item_walk atlas.records).met same_items c.requires.unused c.none_allocated.ensures)
    c.if-not-none_allocated.false in
    let space : atlas.allocated_space ≡ pos (space_in (state_spelled atlas).shelves) = search rules in
    let walked : IsWalked atlas = c.requires.walked in
    let lists : AllByRecursion (FreeBack items) entries =
    own-back items marks entries (marked-own atlas marks walked used linked) (walked-frees atlas walked c.requires.counts.items.1) free in
    elim [
      | Frame ↦ c.requires.frame
      | Counts ↦ c.requires.counts
      | Link ↦ walked-links atlas walked linked
      | Shelves ↦ shelves
      | Runs ↦ rows
      | Neighbours ↦ neighbours
      | FreeList ↦ walked-free atlas walked lists
      | Sharing ↦ walked-shared atlas walked
      | Unused ↦ unused
      | Space ↦ space
      | Memory ↦ tt
    ]
