-- The lists of one more shelf are cut off.
use Rattle.std.proofs.Common.{◌≡◌, ℕ, ◌+◌, ◌<◌, ◌≤◌, List, length, get_or, subst, sym, ap, refl, arith, ◌∙◌, [], ◌∷◌, ◌++◌, drop, map, take}
use Rattle.std.proofs.lemmas.List.{drop-drop, drop_at, drop_more, get_or-map, length-append, length-drop}
use Rattle.std.proofs.Math.Seq.{take-append_seam}
use Rattle.shelf_records.specs.AtlasRecords.{AtlasRecords}
use Rattle.shelf_records.specs.RecordLists.{Entry, Records, free_walk, item_numbers, item_walk, unused_item_walk, walked_entry}
use Rattle.shelf_records.specs.Private.Restoring.{HasLists, chain_entry, free_numbers, frees_met, items_met}
use Rattle.shelf_restoring.proofs.Loaded.ChainsWalked.{images-next}
use Rattle.shelf_restoring.proofs.walked_lists.walked_shelves.Goals as goal

-- of a list whose rest begins with a part, that part, what is behind it, and where it ends
cut : (all part rest : List ℕ) (start count : ℕ) → drop start all ≡ part ++ rest → count ≡ length part
    → (take count (drop start all) ≡ part) × (drop (start + count) all ≡ rest)
cut all part rest start count is counted = (
  ap (take count) is ∙ ap (λ (n : ℕ). take n (part ++ rest)) counted ∙ take-append_seam part rest,
  sym (drop-drop count start all) ∙ ap (drop count) is ∙ drop_at part rest count (sym counted),
)

-- and that it ends within the list
cut-within : (all part rest : List ℕ) (start count : ℕ) → start ≤ length all → drop start all ≡ part ++ rest → count ≡ length part → start + count ≤ length all
cut-within all part rest start count within is counted =
    omega (arith, length-drop start all, ap (λ (l : List ℕ). length l) is, length-append part rest, counted)

-- how many a list has, as it was noted
noted : (f : ℕ → ℕ) (numbers counts : List ℕ) (i d : ℕ) → i < length numbers → counts ≡ map f numbers → get_or counts i d ≡ f (get_or numbers i 0)
noted f numbers counts i d within are = ap (λ (ns : List ℕ). get_or ns i d) are ∙ get_or-map f numbers i 0 d within

-- the lists of the shelves that are left begin with that of the next one
items-left : (records : Records) (numbers : List ℕ) (i : ℕ) → i < length numbers
    → item_numbers (map (chain_entry records) (drop i numbers)) ≡ (item_walk records (get_or numbers i 0)).met ++ item_numbers (map (chain_entry records) (drop (i + 1) numbers))
items-left records numbers i within = ap (λ (ns : List ℕ). item_numbers (map (chain_entry records) ns)) (drop_more numbers i 0 within)

frees-left : (records : Records) (numbers : List ℕ) (i : ℕ) → i < length numbers
    → free_numbers (map (walked_entry records) (drop i numbers)) ≡ (free_walk records (get_or numbers i 0)).met ++ free_numbers (map (walked_entry records) (drop (i + 1) numbers))
frees-left records numbers i within = ap (λ (ns : List ℕ). free_numbers (map (walked_entry records) ns)) (drop_more numbers i 0 within)

pub part-requires : goal.part-requires
part-requires c =
    let atlas = c.requires.atlas in
    let has = c.requires.has in
    let records : Records = atlas.records in
    let numbers = c.args.numbers.now in
    let i = c.loop-at.at in
    let within = c.loop-at-test.true in
    let kept = c.loop-at.invariant in
    let count : c.from-count.result ≡ items_met records (get_or numbers i 0) =
    c.from-count.ensures ∙ c.index.ensures ∙ noted (items_met records) numbers c.args.items.now.counts.items i c.index.result.now within (has.chain_counts ∙ ap (map (items_met records)) (sym has.in_use)) in
    let items = kept.items atlas has ∙ items-left records numbers i within in
    let own : List ℕ = (item_walk records (get_or numbers i 0)).met in
    let later : List ℕ = item_numbers (map (chain_entry records) (drop (i + 1) numbers)) in
    subst (λ (l : List ℕ). c.loop-at.start + c.from-count.result ≤ length l) (sym c.deref.ensures.value)
    (cut-within c.args.items.now.met.items own later c.loop-at.start c.from-count.result kept.start items count)

pub part-requires-in-loop-at : goal.part-requires-in-loop-at
part-requires-in-loop-at c =
    let atlas = c.requires.atlas in
    let has = c.requires.has in
    let records : Records = atlas.records in
    let numbers = c.args.numbers.now in
    let i = c.loop-at.at in
    let within = c.loop-at-test.true in
    let kept = c.loop-at.invariant in
    let free_count : c.from-free_count.result ≡ frees_met records (get_or numbers i 0) =
    c.from-free_count.ensures ∙ c.index-in-loop-at.ensures ∙ noted (frees_met records) numbers c.args.free_lists.now.counts.items i c.index-in-loop-at.result.now within (has.list_counts ∙ ap (map (frees_met records)) (sym has.in_use)) in
    let free = kept.free atlas has ∙ frees-left records numbers i within in
    let own_free : List ℕ = (free_walk records (get_or numbers i 0)).met in
    let later_free : List ℕ = free_numbers (map (walked_entry records) (drop (i + 1) numbers)) in
    subst (λ (l : List ℕ). c.loop-at.free_start + c.from-free_count.result ≤ length l) (sym c.deref-in-loop-at.ensures.value)
    (cut-within c.args.free_lists.now.met.items own_free later_free c.loop-at.free_start c.from-free_count.result kept.free_start free free_count)

pub loop-at-preserved : goal.loop-at-preserved
loop-at-preserved c =
    let numbers = c.args.numbers.now in
    let i = c.loop-at.at in
    let within = c.loop-at-test.true in
    let kept = c.loop-at.invariant in
    let met : List ℕ = c.args.items.now.met.items in
    let frees : List ℕ = c.args.free_lists.now.met.items in
    let Has : AtlasRecords → Type 0 =
    λ atlas. HasLists atlas numbers met c.args.items.now.counts.items frees c.args.free_lists.now.counts.items (unused_item_walk atlas.records).met in
    let own : Records → List ℕ = λ records. (item_walk records (get_or numbers i 0)).met in
    let later : Records → List ℕ = λ records. item_numbers (map (chain_entry records) (drop (i + 1) numbers)) in
    let own_free : Records → List ℕ = λ records. (free_walk records (get_or numbers i 0)).met in
    let later_free : Records → List ℕ = λ records. free_numbers (map (walked_entry records) (drop (i + 1) numbers)) in
    let count : (atlas : AtlasRecords) → Has atlas → c.from-count.result ≡ items_met atlas.records (get_or numbers i 0) =
    λ atlas has. c.from-count.ensures ∙ c.index.ensures ∙ noted (items_met atlas.records) numbers c.args.items.now.counts.items i c.index.result.now within (has.chain_counts ∙ ap (map (items_met atlas.records)) (sym has.in_use)) in
    let free_count : (atlas : AtlasRecords) → Has atlas → c.from-free_count.result ≡ frees_met atlas.records (get_or numbers i 0) =
    λ atlas has. c.from-free_count.ensures ∙ c.index-in-loop-at.ensures ∙ noted (frees_met atlas.records) numbers c.args.free_lists.now.counts.items i c.index-in-loop-at.result.now within (has.list_counts ∙ ap (map (frees_met atlas.records)) (sym has.in_use)) in
    let items : (atlas : AtlasRecords) → Has atlas → drop c.loop-at.start met ≡ own atlas.records ++ later atlas.records =
    λ atlas has. kept.items atlas has ∙ items-left atlas.records numbers i within in
    let free : (atlas : AtlasRecords) → Has atlas → drop c.loop-at.free_start frees ≡ own_free atlas.records ++ later_free atlas.records =
    λ atlas has. kept.free atlas has ∙ frees-left atlas.records numbers i within in
    let is : (atlas : AtlasRecords) → Has atlas → c.part.result.now ≡ own atlas.records =
    λ atlas has. c.part.ensures ∙ ap (λ (l : List ℕ). take c.from-count.result (drop c.loop-at.start l)) c.deref.ensures.value
    ∙ (cut met (own atlas.records) (later atlas.records) c.loop-at.start c.from-count.result (items atlas has) (count atlas has)).0 in
    let is_free : (atlas : AtlasRecords) → Has atlas → c.part-in-loop-at.result.now ≡ own_free atlas.records =
    λ atlas has. c.part-in-loop-at.ensures ∙ ap (λ (l : List ℕ). take c.from-free_count.result (drop c.loop-at.free_start l)) c.deref-in-loop-at.ensures.value
    ∙ (cut frees (own_free atlas.records) (later_free atlas.records) c.loop-at.free_start c.from-free_count.result (free atlas has) (free_count atlas has)).0 in
    let entry_of : List ℕ → List ℕ → Entry = λ mine free_list. record { number = get_or numbers i 0; items = mine; free_list = free_list } in
    let one = c.requires.atlas in
    let its = c.requires.has in
    record {
      start = cut-within met (own one.records) (later one.records) c.loop-at.start c.from-count.result kept.start (items one its) (count one its);
      free_start = cut-within frees (own_free one.records) (later_free one.records) c.loop-at.free_start c.from-free_count.result kept.free_start (free one its) (free_count one its);
      long = omega (arith, c.push_reserved.ensures.len, kept.long, c.push_reserved.new.self.ok, c.loop-at.shelves.ok);
      capacity = c.push_reserved.ensures.capacity ∙ kept.capacity;
      made = λ atlas has.
          c.push_reserved.ensures.items
          ∙ ap (λ (es : List Entry). es ++ entry_of c.part.result.now c.part-in-loop-at.result.now ∷ []) (kept.made atlas has)
          ∙ ap (λ (mine : List ℕ). map (walked_entry atlas.records) (take i numbers) ++ entry_of mine c.part-in-loop-at.result.now ∷ []) (is atlas has)
          ∙ ap (λ (free_list : List ℕ). map (walked_entry atlas.records) (take i numbers) ++ entry_of (own atlas.records) free_list ∷ []) (is_free atlas has)
          ∙ images-next (walked_entry atlas.records) numbers i (get_or numbers i 0) within refl;
      items = λ atlas has. (cut met (own atlas.records) (later atlas.records) c.loop-at.start c.from-count.result (items atlas has) (count atlas has)).1;
      free = λ atlas has. (cut frees (own_free atlas.records) (later_free atlas.records) c.loop-at.free_start c.from-free_count.result (free atlas has) (free_count atlas has)).1;
    }
