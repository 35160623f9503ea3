-- Shelves stand one on the other after some of them became others: one edit of them in their midst, and what splitting and
-- absorbing are of it.
use Rattle.std.proofs.Common.{◌≡◌, ◌≢◌, ℕ, ◌+◌, ◌≤◌, Bool, true, false, List, [], ◌∷◌, ◌++◌, refl, ap, arith, append_assoc, subst, sym, ◌∙◌}
use Rattle.std.proofs.lemmas.Bool.{cond-false}
use Rattle.std.proofs.lemmas.List.{append-nil}
use Rattle.std.specs.List.{AllByRecursion}
use Rattle.std.specs.Prelude.{◌/◌, ◌==◌, if◌then◌else◌}
use Rattle.etagere_base.proofs.EachLemmas.{Each-all}
use Rattle.etagere_base.specs.Lists.{times}
use Rattle.shelf_records.specs.declared.records.LinkedShelf.{LinkedShelf}
use Rattle.shelf_records.specs.RecordLists.{Entry, shelf_numbers}
use Rattle.etagere_links.proofs.ListEnds.{times-here}
use Rattle.shelf_records.specs.AtlasRecords.{along_of, across_of, height_of}
use Rattle.shelf_records.specs.StandsFor.{AreStacked, height_before}
use Rattle.shelf_records.proofs.Spelled.RecordValues.{SameShelf}
use Rattle.shelf_records.proofs.Spelled.HeightsBefore.{height_before-append, height-one}

-- a fact of the number of each shelf
pub Each-numbers : (P : ℕ → Type 0) (entries : List Entry) → AllByRecursion (λ (entry : Entry). P entry.number) entries → AllByRecursion P (shelf_numbers entries)
Each-numbers P [] each = tt
Each-numbers P (entry ∷ entries) each = (each.0, Each-numbers P entries each.1)

module _ (shelves : List LinkedShelf) (column_width : ℕ) where
  -- of shelves that stand one on the other, the first ones do, and the others do after them
  pub stacked-parts : (below front back : List ℕ) → AreStacked shelves column_width below (front ++ back)
      → AreStacked shelves column_width below front × AreStacked shelves column_width (below ++ front) back
  stacked-parts below [] back stacked = (tt, subst (λ (l : List ℕ). AreStacked shelves column_width l back) (sym (append-nil below)) stacked)
  stacked-parts below (n ∷ ns) back stacked =
      let parts = stacked-parts (below ++ n ∷ []) ns back stacked.1 in
      ((stacked.0, parts.0), subst (λ (l : List ℕ). AreStacked shelves column_width l back) (append_assoc below (n ∷ []) ns) parts.1)

  -- shelves that stand one on the other, after others that do
  stacked-joined : (below front back : List ℕ) → AreStacked shelves column_width below front → AreStacked shelves column_width (below ++ front) back
      → AreStacked shelves column_width below (front ++ back)
  stacked-joined below [] back stacked others = subst (λ (l : List ℕ). AreStacked shelves column_width l back) (append-nil below) others
  stacked-joined below (n ∷ ns) back stacked others = (
    stacked.0,
    stacked-joined (below ++ n ∷ []) ns back stacked.1 (subst (λ (l : List ℕ). AreStacked shelves column_width l back) (sym (append_assoc below (n ∷ []) ns)) others),
  )

  -- a shelf of another column adds no height
  pub height-other : (column n : ℕ) → along_of shelves n / column_width ≢ column → height_before shelves column_width column (n ∷ []) ≡ 0
  height-other column n other = omega (arith, cond-false (along_of shelves n / column_width == column) (height_of shelves n) 0 (grind arith))

module _ (shelves new : List LinkedShelf) (column_width : ℕ) where
  -- the heights of shelves that say the same
  heights-among : (column : ℕ) (numbers : List ℕ) → ((k : ℕ) → 1 ≤ times k numbers → SameShelf shelves new k)
      → height_before new column_width column numbers ≡ height_before shelves column_width column numbers
  heights-among column [] same = refl
  heights-among column (n ∷ ns) same =
      omega (
        arith,
        height-one shelves new column_width column n (same n (omega (arith, times-here n ns))),
        heights-among column ns (λ k stands. same k (omega (arith, stands))),
      )

  -- shelves that say the same stand where they stood, after others of the same height in the columns that they stand in
  stacked-after : (Stays : ℕ → Type 0) (before before' numbers : List ℕ)
      → ((column : ℕ) → Stays column → height_before new column_width column before' ≡ height_before shelves column_width column before)
      → ((k : ℕ) → 1 ≤ times k numbers → SameShelf shelves new k) → AllByRecursion (λ n. Stays (along_of shelves n / column_width)) numbers
      → AreStacked shelves column_width before numbers → AreStacked new column_width before' numbers
  stacked-after Stays before before' [] heights same stays stacked = tt
  stacked-after Stays before before' (n ∷ ns) heights same stays stacked =
      let own : SameShelf shelves new n = same n (omega (arith, times-here n ns)) in (
        own.across ∙ stacked.0 ∙ sym (ap (λ a. height_before new column_width (a / column_width) before') own.along ∙ heights (along_of shelves n / column_width) stays.0),
        stacked-after Stays (before ++ n ∷ []) (before' ++ n ∷ []) ns
            (λ column stay. omega (
              arith,
              heights column stay,
              height-one shelves new column_width column n own,
              height_before-append new column_width column before' (n ∷ []),
              height_before-append shelves column_width column before (n ∷ []),
            ))
            (λ k stands. same k (omega (arith, stands))) stays.1 stacked.1,
      )

  -- shelves that all say the same stand where they stood
  pub stacked-same : ((k : ℕ) → SameShelf shelves new k) → (numbers : List ℕ) → AreStacked shelves column_width [] numbers → AreStacked new column_width [] numbers
  stacked-same same numbers = stacked-after (λ _. Unit {0}) [] [] numbers (λ column _. refl) (λ k _. same k) (Each-all (λ _. Unit {0}) (λ _. tt) numbers)

  -- shelves that became others stand so, where those after them stand in columns whose heights stay
  pub stacked-edited : (Stays : ℕ → Type 0) (before old edited after : List ℕ)
      → ((k : ℕ) → 1 ≤ times k before → SameShelf shelves new k) → ((k : ℕ) → 1 ≤ times k after → SameShelf shelves new k)
      → (((column : ℕ) → height_before new column_width column before ≡ height_before shelves column_width column before)
      → AreStacked shelves column_width before old → AreStacked new column_width before edited)
      → ((column : ℕ) → Stays column → height_before new column_width column edited ≡ height_before shelves column_width column old)
      → AllByRecursion (λ n. Stays (along_of shelves n / column_width)) after
      → AreStacked shelves column_width [] (before ++ (old ++ after)) → AreStacked new column_width [] (before ++ (edited ++ after))
  stacked-edited Stays before old edited after same_before same_after edits heights stays stacked =
      let front = stacked-parts shelves column_width [] before (old ++ after) stacked in
      let back = stacked-parts shelves column_width before old after front.1 in
      let below : (column : ℕ) → height_before new column_width column before ≡ height_before shelves column_width column before = λ column. heights-among column before same_before in
      stacked-joined new column_width [] before (edited ++ after)
      (stacked-after (λ _. Unit {0}) [] [] before (λ column _. refl) same_before (Each-all (λ _. Unit {0}) (λ _. tt) before) front.0)
      (stacked-joined new column_width before edited after (edits below back.0)
      (stacked-after Stays (before ++ old) (before ++ edited) after
      (λ column stay. omega (arith, below column, heights column stay, height_before-append new column_width column before edited, height_before-append shelves column_width column before old))
      same_after stays back.1))

-- what shelves say where one was split, and the rest is another
pub record SplitsShelf (shelves new : List LinkedShelf) (number rest : ℕ) : Type 0 where
  pub along : along_of new number ≡ along_of shelves number
  pub across : across_of new number ≡ across_of shelves number
  pub height : height_of new number + height_of new rest ≡ height_of shelves number
  pub rest_along : along_of new rest ≡ along_of shelves number
  pub rest_across : across_of new rest ≡ across_of shelves number + height_of new number

-- what shelves say where one became as tall as it and the next of its column together
pub record AbsorbsShelf (shelves new : List LinkedShelf) (number next : ℕ) : Type 0 where
  pub along : along_of new number ≡ along_of shelves number
  pub across : across_of new number ≡ across_of shelves number
  pub height : height_of new number ≡ height_of shelves number + height_of shelves next
  pub column : along_of shelves next ≡ along_of shelves number

-- two shelves of one column count as one of their height
counted-together : (counts : Bool) (one two : ℕ) → (if counts then one else 0) + ((if counts then two else 0) + 0) ≡ (if counts then one + two else 0) + 0
counted-together true one two = omega arith
counted-together false one two = omega arith

module _ (shelves new : List LinkedShelf) (column_width : ℕ) (before after : List ℕ) (number other : ℕ)
    (same_before : (k : ℕ) → 1 ≤ times k before → SameShelf shelves new k) (same_after : (k : ℕ) → 1 ≤ times k after → SameShelf shelves new k) where
  -- shelves stand one on the other after one was split
  pub stacked-split : SplitsShelf shelves new number other → AreStacked shelves column_width [] (before ++ number ∷ after)
      → AreStacked new column_width [] (before ++ number ∷ other ∷ after)
  stacked-split splits =
      stacked-edited shelves new column_width (λ _. Unit {0}) before (number ∷ []) (number ∷ other ∷ []) after same_before same_after
      (λ below stacked.
      let column : ℕ = along_of shelves number / column_width in
      let own : (column == column) ≡ true = grind arith in
      let under : height_before new column_width column (before ++ number ∷ []) ≡ height_before shelves column_width column before + height_of new number =
      height_before-append new column_width column before (number ∷ [])
      ∙ ap (λ a. height_before new column_width column before + ((if a / column_width == column then height_of new number else 0) + 0)) splits.along
      ∙ ap (λ (b : Bool). height_before new column_width column before + ((if b then height_of new number else 0) + 0)) own
      ∙ omega (arith, below column) in (
        splits.across ∙ stacked.0 ∙ sym (ap (λ a. height_before new column_width (a / column_width) before) splits.along ∙ below column),
        (
          omega (arith, splits.rest_across, stacked.0, under) ∙ sym (ap (λ a. height_before new column_width (a / column_width) (before ++ number ∷ [])) splits.rest_along),
          tt,
        ),
      ))
      (λ column _. rw (splits.along, splits.rest_along, ← splits.height) (counted-together (along_of shelves number / column_width == column) (height_of new number) (height_of new other)))
      (Each-all (λ _. Unit {0}) (λ _. tt) after)

  -- and after one took the place of the next
  pub stacked-absorbed : AbsorbsShelf shelves new number other → AreStacked shelves column_width [] (before ++ number ∷ other ∷ after)
      → AreStacked new column_width [] (before ++ number ∷ after)
  stacked-absorbed absorbs =
      stacked-edited shelves new column_width (λ _. Unit {0}) before (number ∷ other ∷ []) (number ∷ []) after same_before same_after
      (λ below stacked. (
        absorbs.across ∙ stacked.0 ∙ sym (ap (λ a. height_before new column_width (a / column_width) before) absorbs.along ∙ below (along_of shelves number / column_width)),
        tt,
      ))
      (λ column _. rw (absorbs.along, absorbs.height, absorbs.column)
      (sym (counted-together (along_of shelves number / column_width == column) (height_of shelves number) (height_of shelves other))))
      (Each-all (λ _. Unit {0}) (λ _. tt) after)
