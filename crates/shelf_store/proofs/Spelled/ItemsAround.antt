-- Lists of records around one of them, and the items that they spell there.
use Rattle.std.proofs.Common.{◌≡◌, ◌≢◌, ℕ, zero, suc, ◌+◌, ◌≤◌, Bool, true, false, Option, None, Some, List, [], ◌∷◌, ◌++◌, length, map, take, refl, ap, subst, arith, ◌∙◌}
use Rattle.std.proofs.lemmas.List.{length-append, length-map}
use Rattle.std.specs.Prelude.{not}
use Rattle.etagere_base.proofs.TimesLemmas.{times-append}
use Rattle.etagere_base.specs.Lists.{times}
use Rattle.etagere_base.specs.MergingAt.{merged_at, merged_before}
use Rattle.shelf_records.specs.declared.records.LinkedItem.{LinkedItem}
use Rattle.etagere_links.specs.Edits.{field_at}
use Rattle.etagere_links.proofs.ListEnds.{times-other}
use Rattle.shelf_records.specs.AtlasRecords.{is_allocated_at, item_place_of, item_at, spelled_item}
use Rattle.shelf_model.specs.Merging.{both_free, combined_items}
use Rattle.shelf_model.specs.Returning.{freed, is_free_at, is_free_before, place_at}
use Rattle.shelf_records.specs.StandsFor.{LieFrom}
use Rattle.shelf_model.specs.State.{Item, is_free, total_width}
use Rattle.shelf_records.proofs.Spelled.EntryValues.{widths, place-before, place-after}
use Rattle.shelf_store.proofs.Spelled.MergedAround.{free_item, is_first_free, freed-after, merged-next, merged-next-none, merged-previous, merged-previous-none}

-- a fact of lists holds of each where it holds of the empty one, and of each with a last element
pub by_end : {X : Type 0} (P : List X → Type 0) → P [] → ((front : List X) (x : X) → P (front ++ x ∷ [])) → (xs : List X) → P xs
by_end P none some [] = none
by_end {X} P none some (x ∷ xs) = by_end (λ (ys : List X). P (x ∷ ys)) (some [] x) (λ front y. some (x ∷ front) y) xs

-- two images of a list that are the same around one element are the same before and after it
pub map-parts : {X Y : Type 0} (f g : X → Y) (xs : List X) (x : X) (y : Y) (ys : List X) → map f (xs ++ x ∷ ys) ≡ map g xs ++ y ∷ map g ys → (map f xs ≡ map g xs) × (map f ys ≡ map g ys)
map-parts f g [] x y ys same = (refl, cc)
map-parts f g (z ∷ zs) x y ys same =
    let rest = map-parts f g zs x y ys (cc) in
    let first : f z ≡ g z = cc in
    (cc (first, rest.0), rest.1)

-- an item is free where its record is not allocated
free-label : (items : List LinkedItem) (label k : ℕ) → is_free (field_at (spelled_item label) (record { width = 0; id = None }) items k) ≡ not (is_allocated_at items k)
free-label [] label k = refl
free-label (x ∷ xs) label zero = by_mark x.allocated refl
  where
    by_mark : (b : Bool) → x.allocated ≡ b → is_free (spelled_item label x) ≡ not x.allocated
    by_mark true e = simp e refl
    by_mark false e = simp e refl
free-label (x ∷ xs) label (suc k) = free-label xs label k

pub free-item : (items : List LinkedItem) (k : ℕ) (allocated : Bool) → is_allocated_at items k ≡ allocated → is_free (item_at items k) ≡ not allocated
free-item items k allocated e = free-label items k k ∙ ap not e

-- a free item is one without an id
pub free-none : (item : Item) → is_free item ≡ true → item ≡ free_item item.width
free-none item e = by_id item.id e
  where
    by_id : (id : Option ℕ) → is_free (record { width = item.width; id = id }) ≡ true → record { width = item.width; id = id } ≡ free_item item.width
    by_id None e = refl
    by_id (Some id) e = absurd (cc)

-- the widths of items, added up
pub widths-total : (items : List LinkedItem) (xs : List ℕ) → total_width (map (item_at items) xs) ≡ widths items xs
widths-total items [] = refl
widths-total items (x ∷ xs) = ap (λ w. (item_at items x).width + w) (widths-total items xs)

pub widths-append : (items : List LinkedItem) (xs ys : List ℕ) → widths items (xs ++ ys) ≡ widths items xs + widths items ys
widths-append items [] ys = omega arith
widths-append items (x ∷ xs) ys = omega (arith, widths-append items xs ys)

-- where the item after a front begins
pub place-here : (items : List LinkedItem) (here : ℕ) (front : List ℕ) (others : List Item) → place_at here (map (item_at items) front ++ others) (length front) ≡ here + widths items front
place-here items here [] others = refl
place-here items here (x ∷ front) others =
    let rest : here + (item_at items x).width + total_width (take (length front) (map (item_at items) front ++ others)) ≡ here + (item_at items x).width + widths items front =
    place-here items (here + (item_at items x).width) front others in
    omega (arith, rest)

-- where the next one begins
pub place-next : (items : List LinkedItem) (here : ℕ) (front : List ℕ) (item : Item) (others : List Item) → place_at here (map (item_at items) front ++ item ∷ others) (suc (length front)) ≡ here + (widths items front + item.width)
place-next items here [] item others = omega arith
place-next items here (x ∷ front) item others =
    let rest : here + (item_at items x).width + total_width (take (suc (length front)) (map (item_at items) front ++ item ∷ others)) ≡ here + (item_at items x).width + (widths items front + item.width) =
    place-next items (here + (item_at items x).width) front item others in
    omega (arith, rest)

module _ (f : ℕ → Item) where
  -- whether the item after one is free
  pub free-next : (front : List ℕ) (item : Item) (others : List Item) → is_free_at (suc (length front)) (map f front ++ item ∷ others) ≡ is_first_free others
  free-next [] item [] = refl
  free-next [] item (next ∷ others) = refl
  free-next (x ∷ front) item others = free-next front item others

  -- whether the last item of a front is free
  pub free-last : (front : List ℕ) (last : ℕ) (others : List Item) → is_free_at (length front) (map f (front ++ last ∷ []) ++ others) ≡ is_free (f last)
  free-last [] last others = refl
  free-last (x ∷ front) last others = free-last front last others

  pub free-before : (front : List ℕ) (last : ℕ) (others : List Item) → is_free_before (length (front ++ last ∷ [])) (map f (front ++ last ∷ []) ++ others) ≡ is_free (f last)
  free-before front last others =
      let one_more : length (front ++ last ∷ []) ≡ suc (length front) = omega (arith, length-append front (last ∷ [])) in
      rw one_more (free-last front last others)

  -- the item after a front became free
  pub freed-here : (front : List ℕ) (item : Item) (others : List Item) → freed (length front) (map f front ++ item ∷ others) ≡ map f front ++ free_item item.width ∷ others
  freed-here front item others =
      subst (λ n. freed n (map f front ++ item ∷ others) ≡ map f front ++ free_item item.width ∷ others) (length-map front f) (freed-after (map f front) others item)

  -- and merged with the free one after it
  pub next-merged : (front : List ℕ) (width : ℕ) (next : Item) (others : List Item) → is_free next ≡ true → merged_at both_free combined_items (length front) (map f front ++ free_item width ∷ next ∷ others) ≡ map f front ++ free_item (width + next.width) ∷ others
  next-merged front width next others e =
      subst (λ n. merged_at both_free combined_items n (map f front ++ free_item width ∷ next ∷ others) ≡ map f front ++ free_item (width + next.width) ∷ others) (length-map front f) (merged-next (map f front) others width next e)

  -- or not, where that is not free
  pub next-stays : (front : List ℕ) (width : ℕ) (others : List Item) → is_first_free others ≡ false → merged_at both_free combined_items (length front) (map f front ++ free_item width ∷ others) ≡ map f front ++ free_item width ∷ others
  next-stays front width others e =
      subst (λ n. merged_at both_free combined_items n (map f front ++ free_item width ∷ others) ≡ map f front ++ free_item width ∷ others) (length-map front f) (merged-next-none (map f front) others width e)

  -- an item after a front of which the last is some
  before-is : (front : List ℕ) (last : ℕ) (others result : List Item) → merged_at both_free combined_items (length front) (map f front ++ f last ∷ others) ≡ result → merged_before both_free combined_items (length (front ++ last ∷ [])) (map f (front ++ last ∷ []) ++ others) ≡ result
  before-is front last others result e =
      let one_more : length (front ++ last ∷ []) ≡ suc (length front) = omega (arith, length-append front (last ∷ [])) in
      rw (one_more, parts front) e
    where
      parts : (front : List ℕ) → map f (front ++ last ∷ []) ++ others ≡ map f front ++ f last ∷ others
      parts [] = refl
      parts (x ∷ front) = ap (λ (is : List Item). f x ∷ is) (parts front)

  -- a free item merged with the free one before it
  pub previous-merged : (front : List ℕ) (last width : ℕ) (others : List Item) → is_free (f last) ≡ true → merged_before both_free combined_items (length (front ++ last ∷ [])) (map f (front ++ last ∷ []) ++ free_item width ∷ others) ≡ map f front ++ free_item ((f last).width + width) ∷ others
  previous-merged front last width others e =
      before-is front last (free_item width ∷ others) (map f front ++ free_item ((f last).width + width) ∷ others)
      (subst (λ n. merged_at both_free combined_items n (map f front ++ f last ∷ free_item width ∷ others) ≡ map f front ++ free_item ((f last).width + width) ∷ others) (length-map front f) (merged-previous (map f front) others (f last) width e))

  -- or not, where that is not free
  pub previous-stays : (front : List ℕ) (last width : ℕ) (others : List Item) → is_free (f last) ≡ false → merged_before both_free combined_items (length (front ++ last ∷ [])) (map f (front ++ last ∷ []) ++ free_item width ∷ others) ≡ map f front ++ f last ∷ free_item width ∷ others
  previous-stays front last width others e =
      before-is front last (free_item width ∷ others) (map f front ++ f last ∷ free_item width ∷ others)
      (subst (λ n. merged_at both_free combined_items n (map f front ++ f last ∷ free_item width ∷ others) ≡ map f front ++ f last ∷ free_item width ∷ others) (length-map front f) (merged-previous-none (map f front) others (f last) width e))

-- the items of a shelf begin at places that differ
pub place-apart : (items : List LinkedItem) (here : ℕ) (front back : List ℕ) (number k : ℕ) → ((n : ℕ) → 1 ≤ times n (front ++ number ∷ back) → 1 ≤ (item_at items n).width) → LieFrom items here (front ++ number ∷ back) → 1 ≤ times k (front ++ number ∷ back) → number ≢ k → item_place_of items k ≢ item_place_of items number
place-apart items here front back number k wide lies stands other same = by_count (times k front) refl
  where
    by_count : (m : ℕ) → times k front ≡ m → ⊥
    by_count zero e =
        let later : 1 ≤ times k back = omega (arith, stands, e, times-append k front (number ∷ back), times-other k number back other) in
        omega (arith, same, place-after items here front back number k wide lies later)
    by_count (suc m) e = omega (arith, same, place-before items here front back number k wide lies (omega (arith, e)))
