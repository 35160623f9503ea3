-- The items of the first few shelves, and of one more.
use Rattle.std.proofs.Common.{◌≡◌, ℕ, ◌+◌, ◌<◌, ◌≤◌, Bool, List, [], ◌∷◌, ◌++◌, length, get_or, map, take, refl, ap, arith, sym, subst, append_assoc, append-nil, ◌∙◌}
use Rattle.std.proofs.lemmas.List.{length-append, take_more}
use Rattle.std.specs.List.{AllByRecursion}
use Rattle.etagere_base.proofs.EachLemmas.{Each-append}
use Rattle.etagere_base.proofs.TimesLemmas.{times-append}
use Rattle.etagere_links.specs.Marks.{IsMarkedBy}
use Rattle.shelf_records.specs.RecordLists.{Records, Entry, free_walk, item_numbers, item_walk, shelf_walk, unused_item_walk, walked_entry}
use Rattle.etagere_links.specs.Lists.{HasEachOnce}
use Rattle.etagere_links.proofs.MarkLemmas.{marked-length}
use Rattle.shelf_records.specs.AtlasRecords.{AtlasRecords, walked_entries}
use Rattle.shelf_records.specs.Private.Restoring.{HasItemLists, chain_entry, free_numbers}
use Rattle.shelf_restoring.proofs.Loaded.WalksBroken.{items-times}

-- the first few of a list and the next one
pub take-next : (numbers : List ℕ) (i n : ℕ) → i < length numbers → n ≡ get_or numbers i 0 → take (i + 1) numbers ≡ take i numbers ++ n ∷ []
take-next numbers i n within is = take_more numbers i 0 within ∙ ap (λ (m : ℕ). take i numbers ++ m ∷ []) (sym is)

-- a list of images with one more
map-next : {Y : Type 0} (f : ℕ → Y) (xs : List ℕ) (n : ℕ) → map f (xs ++ n ∷ []) ≡ map f xs ++ f n ∷ []
map-next f [] n = refl
map-next f (x ∷ xs) n = ap (λ ys. f x ∷ ys) (map-next f xs n)

-- the images of the first few and the next one
pub images-next : {Y : Type 0} (f : ℕ → Y) (numbers : List ℕ) (i n : ℕ) → i < length numbers → n ≡ get_or numbers i 0
    → map f (take i numbers) ++ f n ∷ [] ≡ map f (take (i + 1) numbers)
images-next {Y} f numbers i n within is = sym (ap (map f) (take-next numbers i n within is) ∙ map-next f (take i numbers) n)

-- the items of shelves and of one more
items-last : (entries : List Entry) (entry : Entry) → item_numbers (entries ++ entry ∷ []) ≡ item_numbers entries ++ entry.items
items-last [] entry = append-nil entry.items
items-last (e ∷ es) entry = ap (λ (ns : List ℕ). e.items ++ ns) (items-last es entry) ∙ sym (append_assoc e.items (item_numbers es) entry.items)

-- the items of the first few shelves and of the next one
pub items-next : (records : Records) (numbers : List ℕ) (i n : ℕ) → i < length numbers → n ≡ get_or numbers i 0
    → item_numbers (map (chain_entry records) (take (i + 1) numbers)) ≡ item_numbers (map (chain_entry records) (take i numbers)) ++ (item_walk records n).met
items-next records numbers i n within is =
    ap item_numbers (sym (images-next (chain_entry records) numbers i n within is)) ∙ items-last (map (chain_entry records) (take i numbers)) (chain_entry records n)

-- a fact of each of the first few and of the next one
pub each-next : (P : ℕ → Type 0) (numbers : List ℕ) (i n : ℕ) → i < length numbers → n ≡ get_or numbers i 0
    → AllByRecursion P (take i numbers) → P n → AllByRecursion P (take (i + 1) numbers)
each-next P numbers i n within is each here =
    subst (AllByRecursion P) (sym (take-next numbers i n within is)) (Each-append P (take i numbers) (n ∷ []) each (here, tt))

-- the marks once the items of the next shelf are marked
pub marks-next : (records : Records) (unused numbers : List ℕ) (i n : ℕ) (marks : List Bool) → i < length numbers → n ≡ get_or numbers i 0
    → IsMarkedBy marks ((unused ++ item_numbers (map (chain_entry records) (take i numbers))) ++ (item_walk records n).met)
    → IsMarkedBy marks (unused ++ item_numbers (map (chain_entry records) (take (i + 1) numbers)))
marks-next records unused numbers i n marks within is marked =
    subst (IsMarkedBy marks)
    (append_assoc unused (item_numbers (map (chain_entry records) (take i numbers))) (item_walk records n).met
    ∙ ap (λ (ns : List ℕ). unused ++ ns) (sym (items-next records numbers i n within is)))
    marked

-- what is marked of two lists is no more than all
pub both-length : (marks : List Bool) (unused items : List ℕ) → IsMarkedBy marks (unused ++ items) → length unused + length items ≤ length marks
both-length marks unused items marked = omega (arith, marked-length marks (unused ++ items) marked, length-append unused items)

-- each stands once in two lists, whichever comes first and by whichever walk
pub once-swapped : (records : Records) (numbers unused : List ℕ) (count : ℕ)
    → HasEachOnce count (item_numbers (map (walked_entry records) numbers) ++ unused) → HasEachOnce count (unused ++ item_numbers (map (chain_entry records) numbers))
once-swapped records numbers unused count once k =
    omega (arith, once k, items-times records numbers k, times-append k (item_numbers (map (walked_entry records) numbers)) unused, times-append k unused (item_numbers (map (chain_entry records) numbers)))

-- the same, with the first list first
pub once-back : (unused items : List ℕ) (count : ℕ) → HasEachOnce count (unused ++ items) → HasEachOnce count (items ++ unused)
once-back unused items count once k = omega (arith, once k, times-append k items unused, times-append k unused items)

-- the free items of shelves and of one more
free-last : (entries : List Entry) (entry : Entry) → free_numbers (entries ++ entry ∷ []) ≡ free_numbers entries ++ entry.free_list
free-last [] entry = append-nil entry.free_list
free-last (e ∷ es) entry = ap (λ (ns : List ℕ). e.free_list ++ ns) (free-last es entry) ∙ sym (append_assoc e.free_list (free_numbers es) entry.free_list)

-- the free items of the first few shelves and of the next one
pub free-next : (records : Records) (numbers : List ℕ) (i n : ℕ) → i < length numbers → n ≡ get_or numbers i 0
    → free_numbers (map (walked_entry records) (take (i + 1) numbers)) ≡ free_numbers (map (walked_entry records) (take i numbers)) ++ (free_walk records n).met
free-next records numbers i n within is =
    ap free_numbers (sym (images-next (walked_entry records) numbers i n within is)) ∙ free-last (map (walked_entry records) (take i numbers)) (walked_entry records n)

-- each item stands once in the lists that walks meet
pub once-walked : (atlas : AtlasRecords) → HasItemLists atlas
    → HasEachOnce (length atlas.records.items) (item_numbers (walked_entries atlas) ++ (unused_item_walk atlas.records).met)
once-walked atlas has k =
    let numbers : List ℕ = (shelf_walk atlas.records).met in
    let unused : List ℕ = (unused_item_walk atlas.records).met in
    omega (
      arith,
      has.once k,
      times-append k (item_numbers (map (chain_entry atlas.records) numbers)) unused,
      items-times atlas.records numbers k,
      times-append k (item_numbers (walked_entries atlas)) unused,
    )

-- as many items, of which only the items matter
pub items-length : (records : Records) (numbers : List ℕ)
    → length (item_numbers (map (chain_entry records) numbers)) ≡ length (item_numbers (map (walked_entry records) numbers))
items-length records [] = refl
items-length records (n ∷ ns) =
    omega (arith, items-length records ns, length-append (item_walk records n).met (item_numbers (map (chain_entry records) ns)), length-append (item_walk records n).met (item_numbers (map (walked_entry records) ns)))
