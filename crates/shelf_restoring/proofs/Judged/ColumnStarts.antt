-- Where columns start along: at multiples of their width.
use Rattle.std.proofs.Common.{◌≡◌, ◌≢◌, ℕ, ◌+◌, ◌*◌, ◌/◌, ◌%◌, ◌≤◌, Bool, true, false, List, ap, arith, refl, sym, ◌∙◌}
use Rattle.std.proofs.lemmas.Nat.{div-add-mod'}
use Rattle.std.proofs.Math.Nat.{add-div_right, add-mod_right}
use Rattle.std.specs.Prelude.{◌==◌, Decides, nat_le}
use Rattle.etagere_base.proofs.DecidingLemmas.{decides-no, decides-yes}
use Rattle.etagere_base.specs.declared.frames.Frame.{Frame}
use Rattle.etagere_base.specs.Frames.{across_side}
use Rattle.shelf_records.specs.declared.records.LinkedShelf.{LinkedShelf}
use Rattle.shelf_records.specs.RecordLists.{Entry}
use Rattle.shelf_records.specs.AtlasRecords.{across_of, along_of, height_of}
use Rattle.shelf_records.specs.Private.Judging.{column_at, height_below}
use Rattle.shelf_restoring.specs.Private.Rules.{IsNext}

-- a multiple is the quotient times the width
is-product : (a width : ℕ) → a % width ≡ 0 → a ≡ a / width * width
is-product a width e = omega (arith, e, div-add-mod' a width)

-- two in one column start at the same place
pub same-start : (a start width : ℕ) → a % width ≡ 0 → start % width ≡ 0 → a / width ≡ start / width → a ≡ start
same-start a start width e f same = is-product a width e ∙ ap (λ (n : ℕ). n * width) same ∙ sym (is-product start width f)

-- where a column ends the next one starts
pub starts-next : (start width : ℕ) → 1 ≤ width → start % width ≡ 0 → ((start + width) / width ≡ start / width + 1) × ((start + width) % width ≡ 0)
starts-next start width wide e = (add-div_right start wide, add-mod_right start width ∙ e)

-- two start at the same place just where they do in one column
pub same-column : (a start width : ℕ) → a % width ≡ 0 → start % width ≡ 0 → (a == start) ≡ (start / width == a / width)
same-column a start width e f = by_test (start / width == a / width) refl
  where
    by_test : (b : Bool) → (start / width == a / width) ≡ b → (a == start) ≡ b
    by_test true t =
        let same : a ≡ start = same-start a start width e f (grind arith) in grind (arith, same)
    by_test false t = by_place (a == start) refl
      where
        by_place : (b : Bool) → (a == start) ≡ b → b ≡ false
        by_place true p =
            let same : a ≡ start = grind arith in
            let one : start / width ≡ a / width = ap (λ (n : ℕ). n / width) (sym same) in
            absurd (grind (arith, one, t))
        by_place false p = refl

-- a test of a height decides what holds just where it is a pixel at least
pub decides-tall : (here height : ℕ) (P : Type 0) → here ≡ height → (1 ≤ height → P) → (P → 1 ≤ height) → Decides (nat_le 1 here) P
decides-tall here height P is to from = by_test (nat_le 1 here) refl
  where
    by_test : (b : Bool) → nat_le 1 here ≡ b → Decides b P
    by_test true e = decides-yes (to (grind (arith, e, is)))
    by_test false e = decides-no (λ p. absurd (grind (arith, e, is, from p)))

module _ (frame : Frame) (shelves : List LinkedShelf) (entry : Entry) (start height : ℕ) (wide : 1 ≤ frame.column_width) (at_column : start % frame.column_width ≡ 0) where
  -- a shelf of the column that starts here
  pub next-here : along_of shelves entry.number ≡ start → across_of shelves entry.number ≡ height → 1 ≤ height_of shelves entry.number
      → IsNext frame shelves (start / frame.column_width) height entry
  next-here along across tall =
      let same : column_at frame shelves entry ≡ start / frame.column_width = ap (λ (n : ℕ). n / frame.column_width) along in
      record {
        goes = grind (arith, same);
        along = ap (λ (n : ℕ). n % frame.column_width) along ∙ at_column;
        across = grind (arith, same, across);
        tall = tall;
      }

  -- the first of the next one, after this one was filled
  pub next-after : along_of shelves entry.number ≡ start + frame.column_width → height ≡ across_side frame → across_of shelves entry.number ≡ 0 → 1 ≤ height_of shelves entry.number
      → IsNext frame shelves (start / frame.column_width) height entry
  next-after along full across tall =
      let next = starts-next start frame.column_width wide at_column in
      let later : column_at frame shelves entry ≡ start / frame.column_width + 1 = ap (λ (n : ℕ). n / frame.column_width) along ∙ next.0 in
      record {
        goes = grind (arith, later, full);
        along = ap (λ (n : ℕ). n % frame.column_width) along ∙ next.1;
        across = grind (arith, later, across);
        tall = tall;
      }

module _ (frame : Frame) (shelves : List LinkedShelf) (entry : Entry) (start height : ℕ) where
  -- behind a shelf of its column so much is filled
  pub filled-here : along_of shelves entry.number ≡ start → height_below frame shelves (start / frame.column_width) height entry ≡ height
  filled-here along =
      let same : column_at frame shelves entry ≡ start / frame.column_width = ap (λ (n : ℕ). n / frame.column_width) along in
      grind (arith, same)

  -- and nothing behind one of another
  pub filled-other : along_of shelves entry.number % frame.column_width ≡ 0 → start % frame.column_width ≡ 0
      → (along_of shelves entry.number ≡ start → ⊥) → height_below frame shelves (start / frame.column_width) height entry ≡ 0
  filled-other e f other =
      let apart : column_at frame shelves entry ≢ start / frame.column_width = λ same. other (same-start (along_of shelves entry.number) start frame.column_width e f same) in
      grind (arith, apart)
