-- The shelves in use, by height one after another as walks have met them.
use Rattle.std.proofs.Common.{◌≡◌, ℕ, zero, suc, ◌<◌, ◌≤◌, List, [], ◌∷◌, ◌++◌, append_assoc, append-nil, drop, get_or, length, map, ap, arith, subst, sym, ◌∙◌}
use Rattle.std.proofs.Math.Seq.{drop-cons}
use Rattle.std.proofs.lemmas.List.{length-append, length-drop, length-map}
use Rattle.etagere_base.specs.Lists.{times}
use Rattle.etagere_base.specs.declared.frames.Frame.{Frame}
use Rattle.shelf_records.specs.RecordLists.{Records, shelf_walk}
use Rattle.shelf_heights.specs.Private.ByHeight.{newly_bounded}
use Rattle.shelf_records.specs.Private.Kept.{AreKept}
use Rattle.shelf_heights.specs.declared.by_height.BoundedShelf.{BoundedShelf}
use Rattle.shelf_records.proofs.AllLists.LinkedParts.{shelf-within, shelves-left}
use Rattle.shelf_records.proofs.Spelled.StandsKept.{witnesses}

-- the shelves of these numbers, new by height
abbrev pub met_by_height : Frame → List ℕ → List BoundedShelf
met_by_height frame numbers = map (newly_bounded frame) numbers

-- no more were met than there are shelf records
pub met-few : (frame : Frame) (records : Records) (numbers : List ℕ) → AreKept frame records → numbers ≡ (shelf_walk records).met → length numbers ≤ length records.shelves
met-few frame records numbers kept met =
    omega (arith, ap (λ (ns : List ℕ). length ns) met, (shelves-left records (witnesses kept).linked).enough)

-- each that was met stands among them
met-stands : (numbers : List ℕ) (i : ℕ) → i < length numbers → 1 ≤ times (get_or numbers i 0) numbers
met-stands [] i within = absurd (omega arith)
met-stands (n ∷ ns) zero within = grind arith
met-stands (n ∷ ns) (suc i) within = omega (arith, met-stands ns i (omega arith))

-- each that was met is a record
pub met-within : (frame : Frame) (records : Records) (numbers : List ℕ) (i : ℕ) → AreKept frame records → numbers ≡ (shelf_walk records).met
    → i < length numbers → get_or numbers i 0 < length records.shelves
met-within frame records numbers i kept met within =
    shelf-within records (get_or numbers i 0) (witnesses kept).linked (subst (λ (ns : List ℕ). 1 ≤ times (get_or numbers i 0) ns) met (met-stands numbers i within))

-- where those so far and those that are left are all, there are fewer so far if one is left
pub met-fewer : (frame : Frame) (numbers : List ℕ) (i : ℕ) (by_height : List BoundedShelf) → i < length numbers → by_height ++ met_by_height frame (drop i numbers) ≡ met_by_height frame numbers → length by_height < length numbers
met-fewer frame numbers i by_height within whole =
    omega (
      arith,
      ap (λ (l : List BoundedShelf). length l) whole,
      length-append by_height (met_by_height frame (drop i numbers)),
      length-map (drop i numbers) (newly_bounded frame),
      length-map numbers (newly_bounded frame),
      length-drop i numbers,
    )

-- one more was put in by height
pub met-more : (frame : Frame) (numbers : List ℕ) (i : ℕ) (by_height new : List BoundedShelf) → i < length numbers
    → new ≡ by_height ++ newly_bounded frame (get_or numbers i 0) ∷ [] → by_height ++ met_by_height frame (drop i numbers) ≡ met_by_height frame numbers
    → new ++ met_by_height frame (drop (suc i) numbers) ≡ met_by_height frame numbers
met-more frame numbers i by_height new within grown whole =
    ap (λ (l : List BoundedShelf). l ++ met_by_height frame (drop (suc i) numbers)) grown
    ∙ append_assoc by_height (newly_bounded frame (get_or numbers i 0) ∷ []) (met_by_height frame (drop (suc i) numbers))
    ∙ ap (λ (ns : List ℕ). by_height ++ met_by_height frame ns) (sym (drop-cons numbers i 0 within))
    ∙ whole

-- none is left
pub met-done : (frame : Frame) (numbers : List ℕ) (by_height : List BoundedShelf) → by_height ++ met_by_height frame [] ≡ met_by_height frame numbers → by_height ≡ met_by_height frame numbers
met-done frame numbers by_height whole = sym (append-nil by_height) ∙ whole
