-- The list in use, read from the list that has some left over before it.
use Rattle.std.proofs.Common.{◌≡◌, ℕ, ◌+◌, ◌-◌, ◌<◌, ◌≤◌, ◌^◌, List, Some, ap, arith, drop, get_or, length, subst, sym, ◌∙◌}
use Rattle.std.proofs.lemmas.List.{get_or-drop, length-drop}
use Rattle.shelf_heights.specs.Private.ByHeight.{IsFirstAsWide}
use Rattle.shelf_heights.specs.Private.FrontRoom.{HasFrontRoom, used_list}
use Rattle.shelf_heights.specs.Private.ListFields.{ListByHeight}
use Rattle.shelf_heights.specs.declared.by_height.BoundedShelf.{BoundedShelf}
use Rattle.shelf_heights.specs.declared.by_height.ShelvesByHeight.TheInside.{Inside}
use Rattle.shelf_heights.proofs.ByHeight.LeftOver.{first-drop}

module _ (by_height : Inside) (value : ListByHeight) (rules : HasFrontRoom by_height) (is : used_list by_height ≡ value) where
  -- it is what stands behind them
  pub used : drop by_height.start by_height.list.items ≡ value.items
  used = ap (λ (v : ListByHeight). v.items) is

  -- so many stand in both together
  pub used-count : length value.items + by_height.start ≡ length by_height.list.items
  used-count =
      let size : length (drop by_height.start by_height.list.items) ≡ length value.items = ap (λ (v : ListByHeight). length v.items) is in
      omega (arith, rules.within, size, length-drop by_height.start by_height.list.items)

  -- a position is one of the whole list
  pub used-within : (index : ℕ) → index < length value.items → by_height.start + index < length by_height.list.items
  used-within index within = omega (arith, within, used-count)

  -- and a number of the machine
  pub used-few : (index : ℕ) → index ≤ length value.items → by_height.start + index < 2 ^ 64
  used-few index within = omega (arith, within, used-count, rules.fits, rules.few)

  -- the first as wide of the whole list is that of the list in use
  pub used-first : (from width position : ℕ) → IsFirstAsWide (by_height.start + from) width by_height.list.items (Some position) → IsFirstAsWide from width value.items (Some (position - by_height.start))
  used-first from width position first =
      subst (λ (items : List BoundedShelf). IsFirstAsWide from width items (Some (position - by_height.start))) used
      (first-drop by_height.start from width position by_height.list.items rules.within first)

  -- the one at a position
  pub used-at : (index : ℕ) (other : BoundedShelf) → get_or by_height.list.items (by_height.start + index) other ≡ get_or value.items index other
  used-at index other = sym (get_or-drop by_height.start by_height.list.items index other) ∙ ap (λ (v : ListByHeight). get_or v.items index other) is
