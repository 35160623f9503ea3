-- Loops of a grow, step by step: what is left to be done does what all does from the start.
use Rattle.std.proofs.Common.{◌≡◌, ℕ, zero, suc, ◌+◌, ◌*◌, ◌≤◌, Bool, true, false, cond, Option, None, Some, List, refl, arith}
use Rattle.etagere_base.specs.declared.frames.Frame.{Frame}
use Rattle.etagere_base.specs.Frames.{across_side}
use Rattle.shelf_records.specs.declared.records.LinkedShelf.{LinkedShelf}
use Rattle.shelf_records.specs.declared.records.LinkedItem.{LinkedItem}
use Rattle.etagere_links.specs.Edits.{link_at}
use Rattle.shelf_records.specs.RecordEdits.{item_changed}
use Rattle.shelf_records.specs.RecordLists.{Records}
use Rattle.shelf_records.specs.Records.{shelf_chain}
use Rattle.shelf_records.specs.AtlasRecords.{is_allocated_at, width_of}
use Rattle.shelf_store.specs.declared.growing.Made.{Made}
use Rattle.shelf_store.specs.Private.RecordsGrown.{CanAppend, CanHeighten, CanHeightenAll, CanWiden, CanWidenAll, Growing, after_item, columns_appended, columns_heightened, counted_from, end_heightened, ends_column_at, last_from, last_item, next_shelf, shelf_inserted, shelf_widened, shelves_widened}

-- one step towards the last one
pub last-next : {T : Type 0} (next : T → Option ℕ) (records : List T) (n m number other : ℕ) → n ≡ suc m → link_at next records number ≡ Some other
    → last_from next records m other ≡ last_from next records n number
last-next next records n m number other h is = rw (h, is) refl

-- where no other comes after it, this is the last one
pub last-none : {T : Type 0} (next : T → Option ℕ) (records : List T) (n number : ℕ) → link_at next records number ≡ None
    → last_from next records n number ≡ number
last-none next records zero number is = refl
last-none next records (suc n) number is = rw is refl

-- one shelf is counted
pub counted-next : (counts : ℕ → Option ℕ → Bool) (shelves : List LinkedShelf) (n m shelf : ℕ) (at next : Option ℕ) → n ≡ suc m → at ≡ Some shelf
    → next ≡ link_at shelf_chain.next shelves shelf
    → counted_from counts shelves n at ≡ cond (counts shelf next) 1 0 + counted_from counts shelves m next
counted-next counts shelves n m shelf at next h is follows = rw (h, is, follows) refl

-- no shelf is left to be counted
pub counted-none : (counts : ℕ → Option ℕ → Bool) (shelves : List LinkedShelf) (n : ℕ) (at : Option ℕ) → at ≡ None → counted_from counts shelves n at ≡ 0
counted-none counts shelves zero at is = refl
counted-none counts shelves (suc n) at is = rw is refl

-- a test counts for one at most
pub bit-le : (b : Bool) → cond b 1 0 ≤ 1
bit-le true = omega arith
bit-le false = omega arith

-- records and numbers that are those of a grow are it
pub growing-is : (records : Records) (made : Made) (growing : Growing) → records ≡ growing.records → made ≡ growing.made
    → record { records = records; made = made } ≡ growing
growing-is records made growing h k = rw (h, k) refl

-- a free last item becomes wider
pub widened-free : (shelf place width last wide : ℕ) (growing : Growing) (new : Records) → last_item growing.records shelf ≡ Some last
    → is_allocated_at growing.records.items last ≡ false → wide ≡ width_of growing.records.items last + width
    → new ≡ item_changed last (λ (item : LinkedItem). record item { width = wide }) growing.records
    → new ≡ (shelf_widened shelf place width growing).records
widened-free shelf place width last wide growing new is free wide_is changed = rw (is, free, ← wide_is) changed

module _ (place width : ℕ) where
  -- one shelf is widened
  pub widened-next : (n m shelf : ℕ) (at next : Option ℕ) (growing widened : Growing) → n ≡ suc m → at ≡ Some shelf
      → widened ≡ shelf_widened shelf place width growing → next ≡ link_at shelf_chain.next widened.records.shelves shelf
      → shelves_widened place width m next widened ≡ shelves_widened place width n at growing
  widened-next n m shelf at next growing widened h is made follows = rw (h, is, follows, made) refl

  -- none is left to be widened
  pub widened-none : (n : ℕ) (at : Option ℕ) (growing : Growing) → at ≡ None → shelves_widened place width n at growing ≡ growing
  widened-none zero at growing is = refl
  widened-none (suc n) at growing is = rw is refl

  -- the shelf at hand can be widened
  pub can-widen : (n m shelf : ℕ) (at : Option ℕ) (growing : Growing) → n ≡ suc m → at ≡ Some shelf → CanWidenAll place width n at growing
      → CanWiden shelf width growing
  can-widen n m shelf at growing h is can = (rw (h, is) at can).0

  -- and so can those after it
  pub can-widen-next : (n m shelf : ℕ) (at next : Option ℕ) (growing widened : Growing) → n ≡ suc m → at ≡ Some shelf
      → widened ≡ shelf_widened shelf place width growing → next ≡ link_at shelf_chain.next widened.records.shelves shelf
      → CanWidenAll place width n at growing → CanWidenAll place width m next widened
  can-widen-next n m shelf at next growing widened h is made follows can = rw (follows, made) (rw (h, is) at can).1

module _ (width height : ℕ) where
  -- one shelf got its height
  pub heightened-next : (n m shelf : ℕ) (at next : Option ℕ) (growing heightened : Growing) → n ≡ suc m → at ≡ Some shelf
      → next ≡ link_at shelf_chain.next growing.records.shelves shelf → heightened ≡ end_heightened width shelf height next growing
      → columns_heightened width height m next heightened ≡ columns_heightened width height n at growing
  heightened-next n m shelf at next growing heightened h is follows made = rw (made, follows, h, is) refl

  -- none is left
  pub heightened-none : (n : ℕ) (at : Option ℕ) (growing : Growing) → at ≡ None → columns_heightened width height n at growing ≡ growing
  heightened-none zero at growing is = refl
  heightened-none (suc n) at growing is = rw is refl

  -- the shelf at hand can get it, where it is the last of its column
  pub can-heighten : (n m shelf : ℕ) (at next : Option ℕ) (growing : Growing) → n ≡ suc m → at ≡ Some shelf
      → next ≡ link_at shelf_chain.next growing.records.shelves shelf → CanHeightenAll width height n at growing
      → ends_column_at growing.records.shelves shelf next ≡ true → CanHeighten shelf height growing
  can-heighten n m shelf at next growing h is follows can ends = (rw (h, is) at can).0 (rw (← follows) ends)

  -- and so can those after it
  pub can-heighten-next : (n m shelf : ℕ) (at next : Option ℕ) (growing heightened : Growing) → n ≡ suc m → at ≡ Some shelf
      → next ≡ link_at shelf_chain.next growing.records.shelves shelf → heightened ≡ end_heightened width shelf height next growing
      → CanHeightenAll width height n at growing → CanHeightenAll width height m next heightened
  can-heighten-next n m shelf at next growing heightened h is follows made can = rw (made, follows) (rw (h, is) at can).1

module _ (frame : Frame) where
  -- one column is appended
  pub appended-next : (n m previous column : ℕ) (growing inserted : Growing) (shelf : ℕ) → n ≡ suc m
      → inserted ≡ shelf_inserted frame.column_width previous (column * frame.column_width) 0 (across_side frame) growing
      → shelf ≡ next_shelf (after_item growing)
      → columns_appended frame m shelf (column + 1) inserted ≡ columns_appended frame n previous column growing
  appended-next n m previous column growing inserted shelf h made is = rw (h, made, is) refl

  -- where the column at hand can be appended, so can those after it
  pub can-append-next : (n m previous column : ℕ) (growing inserted : Growing) (shelf : ℕ) → n ≡ suc m
      → inserted ≡ shelf_inserted frame.column_width previous (column * frame.column_width) 0 (across_side frame) growing
      → shelf ≡ next_shelf (after_item growing) → CanAppend frame n previous column growing → CanAppend frame m shelf (column + 1) inserted
  can-append-next n m previous column growing inserted shelf h made is can = rw (made, is) (rw h at can).1
