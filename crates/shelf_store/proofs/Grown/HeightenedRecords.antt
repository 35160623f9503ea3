-- Records half way through a grow that get a height at the end of each column: they spell the shelves that get it.
use Rattle.std.proofs.Common.{◌≡◌, ℕ, zero, suc, ◌+◌, ◌≤◌, true, Option, None, Some, List, [], ◌∷◌, ◌++◌, length, refl, sym, ◌∙◌, arith, append_assoc, subst}
use Rattle.std.proofs.lemmas.List.{append-nil}
use Rattle.etagere_base.specs.declared.frames.Frame.{Frame}
use Rattle.std.specs.List.{AllByRecursion}
use Rattle.etagere_links.specs.Chains.{Leads}
use Rattle.etagere_links.specs.Edits.{link_at}
use Rattle.shelf_records.specs.RecordLists.{Entry, shelf_numbers}
use Rattle.shelf_records.specs.Records.{shelf_chain}
use Rattle.shelf_records.proofs.AllLists.LinkedFrames.{shelf_numbers-append}
use Rattle.shelf_model.specs.Places.{column_height}
use Rattle.shelf_store.specs.Private.RecordsGrown.{CanHeighten, CanHeightenAll, Growing, columns_heightened, end_heightened, ends_column_at}
use Rattle.shelf_model.specs.State.{Shelf}
use Rattle.shelf_model.proofs.Grown.GrownShelves.{taller_end, taller_ends}
use Rattle.shelf_store.proofs.Grown.GrowSteps.{heightened-next, heightened-none}
use Rattle.shelf_store.proofs.Grown.HalfGrown.{HasGrown, Heightens, Inserts, growing-as, shelves_spelled}
use Rattle.shelf_store.proofs.Grown.HeightenedSteps.{HasStep, IsAt, here-is, shelf_spelled, step}
use Rattle.shelf_store.proofs.Spelled.KeptCounts.{shelves-few}

-- links that lead along two lists lead along the second from where others do
leads-again : (next other : ℕ → Option ℕ) (first start : Option ℕ) (front back : List ℕ) → Leads next first (front ++ back) None → Leads other start back None
    → Leads next start back None
leads-again next other first start [] [] leads from = from
leads-again next other first start [] (y ∷ ys) leads from = (from.0, leads.1)
leads-again next other first start (x ∷ front) back leads from = leads-again next other (next x) start front back leads.1 from

-- a height is added at the shelf at hand, and then at those after it
can-next : (width height n shelf : ℕ) (at : Option ℕ) (growing new : Growing) → at ≡ Some shelf
    → new ≡ end_heightened width shelf height (link_at shelf_chain.next growing.records.shelves shelf) growing
    → (ends_column_at growing.records.shelves shelf (link_at shelf_chain.next growing.records.shelves shelf) ≡ true → CanHeighten shelf height growing)
    → CanHeightenAll width height n (link_at shelf_chain.next growing.records.shelves shelf) new → CanHeightenAll width height (suc n) at growing
can-next width height n shelf at growing new is made can rest =
    rw is (can, subst (λ (g : Growing). CanHeightenAll width height n (link_at shelf_chain.next growing.records.shelves shelf) g) made rest)

-- no height is added where no shelf is left
can-none : (width height n : ℕ) (at : Option ℕ) (growing : Growing) → at ≡ None → CanHeightenAll width height n at growing
can-none width height zero at growing is = tt
can-none width height (suc n) at growing is = rw is tt

module _ (inserts : Inserts) (grown : Frame) (old height : ℕ) (wide : 1 ≤ grown.column_width) where
  -- what is left of the loop
  abbrev Rest : ℕ → Option ℕ → Growing → List Shelf → ℕ → ℕ → Type 0
  Rest n at growing shelves items more =
      CanHeightenAll grown.column_width height n at growing
      × HasGrown grown old (columns_heightened grown.column_width height n at growing) shelves items more

  -- all that are left get their height
  left-heightened : (n : ℕ) (next : Option ℕ) (growing : Growing) (before left : List Entry) (unused_items unused_shelves : List ℕ) (front back : List Shelf) (items more : ℕ)
      → IsAt grown old height growing before left unused_items unused_shelves front back items more
      → Leads (link_at shelf_chain.next growing.records.shelves) next (shelf_numbers left) None → length left ≤ n
      → Rest n next growing (front ++ taller_ends grown height back) items more
  left-heightened n next growing before [] unused_items unused_shelves front [] items more at leads few =
      let none : next ≡ None = leads in (
        can-none grown.column_width height n next growing none,
        subst (λ (g : Growing). HasGrown grown old g (front ++ []) items more) (sym (heightened-none grown.column_width height n next growing none))
            (record {
              entries = before;
              unused_items = unused_items;
              unused_shelves = unused_shelves;
              is = growing-as at.is (append-nil before) (omega arith) (omega arith);
              spelled = at.front_spelled ∙ sym (append-nil front);
            }),
      )
  left-heightened n next growing before [] unused_items unused_shelves front (shelf ∷ shelves) items more at leads few =
      let none : [] ≡ shelf ∷ shelves = at.back_spelled in absurd (cc)
  left-heightened n next growing before (entry ∷ after) unused_items unused_shelves front [] items more at leads few =
      let none : shelf_spelled grown growing entry ∷ shelves_spelled grown growing.records after ≡ [] = at.back_spelled in absurd (cc)
  left-heightened zero next growing before (entry ∷ after) unused_items unused_shelves front (shelf ∷ shelves) items more at leads few = absurd (omega (arith, few))
  left-heightened (suc n) next growing before (entry ∷ after) unused_items unused_shelves front (shelf ∷ shelves) items more at leads few =
      let following : Option ℕ = link_at shelf_chain.next growing.records.shelves entry.number in
      let one : HasStep grown old height growing entry after following (front ++ taller_end grown height shelf shelves) shelves items more =
      step grown old height at (here-is grown old height following at leads.1) inserts wide in
      let numbers : shelf_numbers (one.entries ++ after) ≡ shelf_numbers one.entries ++ shelf_numbers after = shelf_numbers-append one.entries after in
      let leads_on : Leads (link_at shelf_chain.next one.new.records.shelves) following (shelf_numbers after) None =
      leads-again (link_at shelf_chain.next one.new.records.shelves) (link_at shelf_chain.next growing.records.shelves) one.new.records.first_shelf following
      (shelf_numbers one.entries) (shelf_numbers after)
      (subst (λ (l : List ℕ). Leads (link_at shelf_chain.next one.new.records.shelves) one.new.records.first_shelf l None) numbers one.at.is.spelled.linked.shelves.forward)
      leads.1 in
      let rest = left-heightened n following one.new one.entries after one.unused_items one.unused_shelves (front ++ taller_end grown height shelf shelves) shelves items more
      one.at leads_on (omega (arith, few)) in (
        can-next grown.column_width height n entry.number next growing one.new leads.0 one.made one.can rest.0,
        subst (λ (l : List Shelf). HasGrown grown old (columns_heightened grown.column_width height (suc n) next growing) l items more)
            (append_assoc front (taller_end grown height shelf shelves) (taller_ends grown height shelves))
            (subst (λ (g : Growing). HasGrown grown old g ((front ++ taller_end grown height shelf shelves) ++ taller_ends grown height shelves) items more)
            (heightened-next grown.column_width height (suc n) n entry.number next following growing one.new refl leads.0 refl one.made) rest.1),
      )

-- where no column is higher than this, all can get the height
low-all : (height : ℕ) (shelves left : List Shelf) → ((column : ℕ) → column_height column shelves + height ≤ 65535)
    → AllByRecursion (λ (shelf : Shelf). column_height shelf.column shelves + height ≤ 65535) left
low-all height shelves [] low = tt
low-all height shelves (shelf ∷ left) low = (low shelf.column, low-all height shelves left low)

-- the records get the height at the end of each column, if an empty shelf can be put after another one
pub heightens : Inserts → Heightens
heightens inserts grown old growing shelves height items more some wide low ordered has =
    left-heightened inserts grown old height wide (length growing.records.shelves) growing.records.first_shelf growing [] has.entries has.unused_items has.unused_shelves [] shelves items more
    (record { is = has.is; front_spelled = refl; back_spelled = has.spelled; ordered = ordered; low = low-all height shelves shelves low })
    has.is.spelled.linked.shelves.forward
    (shelves-few has.is.spelled.linked)
