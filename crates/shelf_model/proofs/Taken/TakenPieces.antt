-- A free item among others, and the pieces that stand in its place when it is taken.
use Rattle.std.proofs.Common.{◌≡◌, ℕ, ◌+◌, ◌-◌, ◌*◌, ◌/◌, ◌%◌, ◌<◌, ◌≤◌, Bool, true, false, cond, None, Some, List, [], ◌∷◌, ◌++◌, length, refl, ap, arith, subst, sym}
use Rattle.std.proofs.Math.Nat.{mul-mod_left, mul-sub}
use Rattle.std.proofs.lemmas.Bool.{and_right}
use Rattle.std.proofs.lemmas.List.{length-append}
use Rattle.std.proofs.lemmas.Nat.{div-add-mod'}
use Rattle.std.specs.Prelude.{is_none}
use Rattle.etagere_base.specs.Frames.{alignment_along}
use Rattle.etagere_base.specs.declared.frames.Frame.{Frame}
use Rattle.shelf_model.specs.Choice.{Placement}
use Rattle.shelf_model.specs.Merging.{both_free}
use Rattle.std.specs.List.{AllByRecursion}
use Rattle.etagere_base.specs.Lists.{NoNeighbours}
use Rattle.shelf_model.specs.State.{Item, is_free, is_one_free, total_width}
use Rattle.shelf_model.specs.Taking.{item_pieces}
use Rattle.shelf_model.specs.Valid.{IsItem}
use Rattle.etagere_base.proofs.EachLemmas.{Each-append, Each-back, Each-front}
use Rattle.etagere_base.proofs.NoNeighboursLemmas.{NoNeighbours-changed, NoNeighbours-split}
use Rattle.shelf_model.proofs.Places.ItemLemmas.{total_width-append}

-- a free item of which a placement gives the front or all
pub record IsRoom (frame : Frame) (item : Item) (placement : Placement) : Type 0 where
  pub free : item.id ≡ None
  pub wide : 1 ≤ placement.width
  pub aligned : placement.width % alignment_along frame ≡ 0
  pub split : placement.splits_item ≡ true → placement.width < item.width
  pub whole : placement.splits_item ≡ false → placement.width ≡ item.width

-- what is given of an item is no wider than it
pub room-fits : (frame : Frame) (item : Item) (placement : Placement) → IsRoom frame item placement → placement.width ≤ item.width
room-fits frame item placement room = by_test placement.splits_item refl
  where
    by_test : (b : Bool) → placement.splits_item ≡ b → placement.width ≤ item.width
    by_test true e = omega (arith, room.split e)
    by_test false e = omega (arith, room.whole e)

-- an item that an id holds
abbrev pub allocated_item : ℕ → ℕ → Item
allocated_item width id = record { width = width; id = Some id }

-- an item that nothing holds
abbrev pub free_item : ℕ → Item
free_item width = record { width = width; id = None }

-- a fact of the pieces, from that of a split item and that of a whole one
pub pieces-cases : (P : Bool → List Item → Type 0) (frame : Frame) (placement : Placement) (id : ℕ) (item : Item) → IsRoom frame item placement
    → (placement.width < item.width → P true (allocated_item placement.width id ∷ free_item (item.width - placement.width) ∷ []))
    → (placement.width ≡ item.width → P false (allocated_item item.width id ∷ [])) → P placement.splits_item (item_pieces placement id item)
pieces-cases P frame placement id item room split whole = by_test placement.splits_item refl
  where
    by_test : (b : Bool) → placement.splits_item ≡ b
        → P b (allocated_item placement.width id ∷ cond b (free_item (item.width - placement.width) ∷ []) [])
    by_test true e = split (room.split e)
    by_test false e =
        let same = room.whole e in subst (λ (width : ℕ). P false (allocated_item width id ∷ [])) (sym same) (whole same)

-- what is left of an aligned length after an aligned one is aligned
rest-aligned : (n m k : ℕ) → n % k ≡ 0 → m % k ≡ 0 → m ≤ n → (n - m) % k ≡ 0
rest-aligned n m k h g l =
    let wide : n ≡ n / k * k = omega (arith, div-add-mod' n k) in
    let split : m ≡ m / k * k = omega (arith, div-add-mod' m k) in
    let rest : n - m ≡ (n / k - m / k) * k = omega (arith, mul-sub k (n / k) (m / k)) in
    rw rest (mul-mod_left (n / k - m / k) k)

-- the items are wide and aligned after one was taken
pub pieces-each : (frame : Frame) (front : List Item) (item : Item) (back : List Item) (placement : Placement) (id : ℕ)
    → IsRoom frame item placement → AllByRecursion (IsItem frame) (front ++ item ∷ back) → AllByRecursion (IsItem frame) (front ++ (item_pieces placement id item ++ back))
pieces-each frame front item back placement id room each =
    let old = Each-back (IsItem frame) front (item ∷ back) each in
    Each-append (IsItem frame) front _ (Each-front (IsItem frame) front (item ∷ back) each)
    (pieces-cases (λ _ pieces. AllByRecursion (IsItem frame) (pieces ++ back)) frame placement id item room
    (λ split. (record { width = room.wide; aligned = room.aligned }, (record { width = omega arith; aligned = rest-aligned item.width placement.width (alignment_along frame) old.0.aligned room.aligned (omega arith) }, old.1)))
    (λ _. (record { width = old.0.width; aligned = old.0.aligned }, old.1)))

-- the items are as wide together after one was taken
pub pieces-width : (frame : Frame) (front : List Item) (item : Item) (back : List Item) (placement : Placement) (id : ℕ)
    → IsRoom frame item placement → total_width (front ++ (item_pieces placement id item ++ back)) ≡ total_width (front ++ item ∷ back)
pieces-width frame front item back placement id room =
    pieces-cases (λ _ pieces. total_width (front ++ (pieces ++ back)) ≡ total_width (front ++ item ∷ back)) frame placement id item room
    (λ split. omega (arith, total_width-append front (item ∷ back), total_width-append front (allocated_item placement.width id ∷ free_item (item.width - placement.width) ∷ back)))
    (λ _. omega (arith, total_width-append front (item ∷ back), total_width-append front (allocated_item item.width id ∷ back)))

-- there is one item more where the item that was taken is split
pub pieces-length : (frame : Frame) (front : List Item) (item : Item) (back : List Item) (placement : Placement) (id : ℕ)
    → IsRoom frame item placement → length (front ++ (item_pieces placement id item ++ back)) ≡ length (front ++ item ∷ back) + cond placement.splits_item 1 0
pieces-length frame front item back placement id room =
    pieces-cases (λ b pieces. length (front ++ (pieces ++ back)) ≡ length (front ++ item ∷ back) + cond b 1 0) frame placement id item room
    (λ split. omega (arith, length-append {A = Item}))
    (λ _. omega (arith, length-append {A = Item}))

-- an allocated item is next to no free one
allocated_item-apart : (width id : ℕ) (item : Item) → both_free item (allocated_item width id) ≡ false
allocated_item-apart width id item = and_right _ _ refl

-- a free item has the free neighbours of another
free_item-apart : (width : ℕ) (item next : Item) → item.id ≡ None → both_free item next ≡ false → both_free (free_item width) next ≡ false
free_item-apart width item next free h =
    let free_item_is_free : is_free item ≡ true = ap is_none free in
    rw free_item_is_free at h

-- no two free items stand side by side after one was taken
pub pieces-apart : (frame : Frame) (front : List Item) (item : Item) (back : List Item) (placement : Placement) (id : ℕ)
    → IsRoom frame item placement → NoNeighbours both_free (front ++ item ∷ back) → NoNeighbours both_free (front ++ (item_pieces placement id item ++ back))
pieces-apart frame front item back placement id room apart =
    pieces-cases (λ _ pieces. NoNeighbours both_free (front ++ (pieces ++ back))) frame placement id item room
    (λ split. NoNeighbours-split both_free front item (allocated_item placement.width id) (free_item (item.width - placement.width)) back (λ y h. allocated_item-apart placement.width id y) refl (λ y h. free_item-apart (item.width - placement.width) item y room.free h) apart)
    (λ _. NoNeighbours-changed both_free front item (allocated_item item.width id) back (λ y h. allocated_item-apart item.width id y) (λ y h. refl) apart)

-- items of which one is allocated are not one free item
pub allocated-not_empty : (front back : List Item) (item : Item) → is_free item ≡ false → is_one_free (front ++ item ∷ back) ≡ false
allocated-not_empty [] [] item e = e
allocated-not_empty [] (next ∷ back) item e = refl
allocated-not_empty (one ∷ []) back item e = refl
allocated-not_empty (one ∷ next ∷ front) back item e = refl

-- items of which one was taken are not one free item
pub pieces-not_empty : (front : List Item) (item : Item) (back : List Item) (placement : Placement) (id : ℕ) → is_one_free (front ++ (item_pieces placement id item ++ back)) ≡ false
pieces-not_empty front item back placement id =
    allocated-not_empty front (cond placement.splits_item (free_item (item.width - placement.width) ∷ []) [] ++ back) (allocated_item placement.width id) refl
