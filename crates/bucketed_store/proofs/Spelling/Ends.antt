-- The current column and the height that it leaves, by what is kept of the last shelf.
use Rattle.std.proofs.Common.{◌≡◌, ℕ, zero, suc, ◌+◌, ◌-◌, ◌*◌, ◌/◌, ◌≤◌, Option, Some, List, [], ◌∷◌, ◌++◌, length, refl, ap, arith, sym, ◌∙◌, subst}
use Rattle.std.proofs.lemmas.Nat.{div-mul-add}
use Rattle.std.specs.Option.{option_map_or}
use Rattle.std.specs.Prelude.{slice_get}
use Rattle.etagere_base.specs.declared.frames.Frame.{Frame}
use Rattle.etagere_base.specs.declared.sides.Sides.{Sides}
use Rattle.etagere_base.specs.Frames.{across_side}
use Rattle.etagere_links.specs.Edits.{changed_by}
use Rattle.etagere_links.proofs.RecordChanges.{length-changed_by}
use Rattle.bucketed_model.specs.State.{BucketShelf, available_height, column_height, current_column, last_column}
use Rattle.bucketed_model.specs.Valid.{AreShelves}
use Rattle.bucketed_model.proofs.Shelving.Shelves.{own-height}
use Rattle.bucketed_records.specs.declared.records.KeptShelf.{KeptShelf}
use Rattle.bucketed_records.specs.declared.records.LinkedBucketShelf.{LinkedBucketShelf}
use Rattle.bucketed_records.specs.Private.Store.{kept_shelf, kept_shelves}
use Rattle.bucketed_records.proofs.Spelling.KeptShelves.{Ends, ends-of, last, last-kept, nothing}
use Rattle.bucketed_store.specs.Private.StoreEdits.{IsShort, end_of}

-- the current column is that of the last shelf
current-last : (column : ℕ) (front : List BucketShelf) (x : BucketShelf) → last_column column (front ++ x ∷ []) ≡ x.column
current-last column [] x = refl
current-last column (y ∷ ys) x = current-last y.column ys x

-- what the last shelf tells
abbrev end_by : Frame → Option KeptShelf → Sides
end_by frame kept =
    option_map_or
    (λ (one : KeptShelf). record { along = one.shelf.x / frame.column_width; across = across_side frame - (one.shelf.y + one.shelf.height) })
    kept (record { along = 0; across = across_side frame })

-- the current column, and the height that it leaves
abbrev end_is : Frame → List BucketShelf → Sides
end_is frame ss = record { along = current_column ss; across = available_height frame ss }

-- the end of kept shelves is that of the shelves
pub end-kept : (frame : Frame) (ss : List BucketShelf) → 1 ≤ frame.column_width → end_of frame (kept_shelves frame [] ss) ≡ end_is frame ss
end-kept frame ss wide = by_end (ends-of ss)
  where
    by_end : Ends ss → end_of frame (kept_shelves frame [] ss) ≡ end_is frame ss
    by_end (nothing e) = subst (λ (xs : List BucketShelf). end_of frame (kept_shelves frame [] xs) ≡ end_is frame xs) (sym e) (ap (λ (n : ℕ). let sides : Sides = record { along = 0; across = n } in sides) none)
      where
        none : across_side frame ≡ across_side frame - 0
        none = omega arith
    by_end (last front x e) =
        let column : current_column (front ++ x ∷ []) ≡ x.column = current-last 0 front x in
        let place : x.column * frame.column_width / frame.column_width ≡ x.column = ap (λ (n : ℕ). n / frame.column_width) (omega arith) ∙ div-mul-add x.column frame.column_width 0 wide in
        let height : column_height (current_column (front ++ x ∷ [])) (front ++ x ∷ []) ≡ column_height x.column front + x.height = ap (λ (c : ℕ). column_height c (front ++ x ∷ [])) column ∙ own-height front x in
        subst (λ (xs : List BucketShelf). end_of frame (kept_shelves frame [] xs) ≡ end_is frame xs) (sym e)
        (ap (end_by frame) (last-kept frame front x)
        ∙ ap (λ (c : ℕ). let sides : Sides = record { along = c; across = across_side frame - (column_height x.column front + x.height) } in sides) (place ∙ sym column)
        ∙ ap (λ (h : ℕ). let sides : Sides = record { along = current_column (front ++ x ∷ []); across = across_side frame - h } in sides) (sym height))

-- the last of kept shelves ends within the atlas
pub short-kept : (frame : Frame) (ss : List BucketShelf) → AreShelves frame ss → IsShort frame (kept_shelves frame [] ss)
short-kept frame ss valid = by_end (ends-of ss)
  where
    by_end : Ends ss → IsShort frame (kept_shelves frame [] ss)
    by_end (nothing e) = subst (λ (xs : List BucketShelf). IsShort frame (kept_shelves frame [] xs)) (sym e) (λ kept h. absurd (cc))
    by_end (last front x e) =
        let sum : column_height x.column ss ≡ column_height x.column front + x.height = ap (column_height x.column) e ∙ own-height front x in
        subst (λ (xs : List BucketShelf). IsShort frame (kept_shelves frame [] xs)) (sym e)
        (λ kept h. let same : kept_shelf frame front x ≡ kept = some-same (sym (last-kept frame front x) ∙ h) in
        subst (λ (k : KeptShelf). k.shelf.y + k.shelf.height ≤ across_side frame) same (omega (arith, sum, valid.heights x.column)))
      where
        some-same : {k l : KeptShelf} → Some k ≡ Some l → k ≡ l
        some-same {k} {l} h = cc

-- a change of one shelf that leaves its place and its height leaves the end
pub end-changed : (frame : Frame) (k : ℕ) (change : KeptShelf → KeptShelf) (shelves : List KeptShelf) → ((kept : KeptShelf) → (change kept).shelf ≡ kept.shelf)
    → end_of frame (changed_by (Some k) change shelves) ≡ end_of frame shelves
end-changed frame k change shelves keeps =
    ap (λ (count : ℕ). end_by frame (slice_get (changed_by (Some k) change shelves) (count - 1))) (length-changed_by change shelves (Some k)) ∙ at shelves k (length shelves - 1)
  where
    at : (xs : List KeptShelf) (i j : ℕ) → end_by frame (slice_get (changed_by (Some i) change xs) j) ≡ end_by frame (slice_get xs j)
    at [] i j = refl
    at (x ∷ xs) zero zero =
        ap (λ (one : LinkedBucketShelf). let sides : Sides = record { along = one.x / frame.column_width; across = across_side frame - (one.y + one.height) } in sides) (keeps x)
    at (x ∷ xs) zero (suc j) = refl
    at (x ∷ xs) (suc i) zero = refl
    at (x ∷ xs) (suc i) (suc j) = at xs i j
