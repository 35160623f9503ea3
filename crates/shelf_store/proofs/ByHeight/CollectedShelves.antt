-- The shelves in use, collected along their chain.
use Rattle.std.proofs.Common.{◌≡◌, ℕ, ◌+◌, ◌<◌, Option, None, Some, List, [], ◌∷◌, ◌++◌, length, map, refl, ap, append_assoc, append-nil, sym, ◌∙◌, arith}
use Rattle.std.proofs.lemmas.List.{length-append, length-map}
use Rattle.etagere_base.specs.declared.frames.Frame.{Frame}
use Rattle.etagere_links.specs.Edits.{link_at}
use Rattle.shelf_records.specs.RecordLists.{Records, shelf_walk}
use Rattle.shelf_records.specs.Records.{shelf_chain}
use Rattle.shelf_heights.specs.Private.ByHeight.{newly_bounded}
use Rattle.shelf_records.specs.Private.Kept.{AreKept}
use Rattle.shelf_heights.specs.declared.by_height.BoundedShelf.{BoundedShelf}
use Rattle.shelf_records.proofs.AllLists.Following.{IsLeft, IsStep, none-left, step-left}
use Rattle.shelf_records.proofs.AllLists.LinkedParts.{shelves-left}
use Rattle.shelf_records.proofs.Spelled.StandsKept.{witnesses}

-- the shelves in use, new by height
abbrev pub in_use : Frame → Records → List BoundedShelf
in_use frame records = map (newly_bounded frame) (shelf_walk records).met

-- where the chain was followed to: the shelves so far and those that are left are all
pub record Collects (frame : Frame) (records : Records) (by_height : List BoundedShelf) (at : Option ℕ) (steps : ℕ) : Type 0 where
  pub rest : List ℕ
  pub left : IsLeft shelf_chain.next records.shelves at steps rest
  pub whole : by_height ++ map (newly_bounded frame) rest ≡ in_use frame records

-- at first all are left
pub collects-begin : (frame : Frame) (records : Records) (by_height : List BoundedShelf) (at : Option ℕ) → AreKept frame records → by_height ≡ [] → at ≡ records.first_shelf → Collects frame records by_height at 0
collects-begin frame records by_height at kept none begins =
    record { rest = (shelf_walk records).met; left = rw begins (shelves-left records (witnesses kept).linked); whole = rw none refl }

-- where none is left all were collected
none-rest : (frame : Frame) (records : Records) (by_height : List BoundedShelf) (rest : List ℕ) → rest ≡ [] → by_height ++ map (newly_bounded frame) rest ≡ in_use frame records → by_height ≡ in_use frame records
none-rest frame records by_height rest none whole =
    sym (append-nil by_height) ∙ ap (λ (ns : List ℕ). by_height ++ map (newly_bounded frame) ns) (sym none) ∙ whole

-- none is left at the end of the chain
pub collects-end : (frame : Frame) (records : Records) (by_height : List BoundedShelf) (at : Option ℕ) (steps : ℕ) → Collects frame records by_height at steps → at ≡ None → by_height ≡ in_use frame records
collects-end frame records by_height at steps so_far ends =
    none-rest frame records by_height so_far.rest (none-left shelf_chain.next records.shelves at steps so_far.rest so_far.left ends) so_far.whole

-- the shelf at hand is a record
pub collects-here : (frame : Frame) (records : Records) (by_height : List BoundedShelf) (at : Option ℕ) (shelf steps : ℕ) → Collects frame records by_height at steps → at ≡ Some shelf → shelf < length records.shelves
collects-here frame records by_height at shelf steps so_far is = (step-left shelf_chain.next records.shelves at shelf steps so_far.rest so_far.left is).here

-- there is one shelf at least that isn't collected yet
pub collects-fewer : (frame : Frame) (records : Records) (by_height : List BoundedShelf) (at : Option ℕ) (shelf steps : ℕ) → Collects frame records by_height at steps → at ≡ Some shelf → length by_height < length (shelf_walk records).met
collects-fewer frame records by_height at shelf steps so_far is =
    let step : IsStep shelf_chain.next records.shelves shelf steps so_far.rest = step-left shelf_chain.next records.shelves at shelf steps so_far.rest so_far.left is in
    omega (
      arith,
      ap (λ (l : List BoundedShelf). length l) so_far.whole,
      ap (λ (ns : List ℕ). length ns) step.whole,
      length-append by_height (map (newly_bounded frame) so_far.rest),
      length-map so_far.rest (newly_bounded frame),
      length-map (shelf_walk records).met (newly_bounded frame),
    )

-- the shelf at hand was collected
pub collects-more : (frame : Frame) (records : Records) (by_height new : List BoundedShelf) (at next : Option ℕ) (shelf steps : ℕ) → Collects frame records by_height at steps → at ≡ Some shelf → new ≡ by_height ++ newly_bounded frame shelf ∷ [] → next ≡ link_at shelf_chain.next records.shelves shelf → Collects frame records new next (steps + 1)
collects-more frame records by_height new at next shelf steps so_far is grown follows =
    let step : IsStep shelf_chain.next records.shelves shelf steps so_far.rest = step-left shelf_chain.next records.shelves at shelf steps so_far.rest so_far.left is in
    record {
      rest = step.others;
      left = rw follows step.left;
      whole =
          ap (λ (l : List BoundedShelf). l ++ map (newly_bounded frame) step.others) grown
          ∙ append_assoc by_height (newly_bounded frame shelf ∷ []) (map (newly_bounded frame) step.others)
          ∙ ap (λ (ns : List ℕ). by_height ++ map (newly_bounded frame) ns) (sym step.whole)
          ∙ so_far.whole;
    }
