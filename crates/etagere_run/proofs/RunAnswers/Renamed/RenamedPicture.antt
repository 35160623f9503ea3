-- A picture sees no id, only which items are allocated.
use Rattle.std.proofs.Common.{◌≡◌, ℕ, ◌+◌, List, [], ◌∷◌, ◌++◌, map, refl, ap, sym, ◌∙◌}
use Rattle.std.proofs.lemmas.List.{map-append}
use Rattle.std.specs.Prelude.{if◌then◌else◌}
use Rattle.etagere_base.specs.Drawing.{background, document, drawn_at}
use Rattle.etagere_base.specs.declared.drawing.Colour.TheVariants.{Allocated, Free}
use Rattle.etagere_base.specs.declared.drawing.Drawn.{Drawn}
use Rattle.etagere_base.specs.declared.frames.Frame.{Frame}
use Rattle.shelf_model.specs.Places.{column_height, column_place}
use Rattle.shelf_model.specs.State.{Item, Shelf, AtlasState}
use Rattle.shelf_model.specs.Svg.{drawn_after, drawn_along, svg}
use Rattle.etagere_run.specs.Answers.Private.Renamed.{renamed, renamed_item, renamed_shelf}
use Rattle.etagere_run.proofs.RunAnswers.Renamed.RenamedChoice.{column_height-renamed, free-renamed}

module _ (name : ℕ → ℕ) where
  -- a shelf is drawn alike
  along-renamed : (frame : Frame) (across height here : ℕ) (items : List Item)
      → drawn_along frame across height here (map (renamed_item name) items) ≡ drawn_along frame across height here items
  along-renamed frame across height here [] = refl
  along-renamed frame across height here (item ∷ items) =
      ap (λ b. drawn_at frame (if b then Free else Allocated) here across item.width height ∷ drawn_along frame across height (here + item.width) (map (renamed_item name) items)) (free-renamed name item)
      ∙ ap (λ (ds : List Drawn). drawn_along frame across height here (item ∷ []) ++ ds) (along-renamed frame across height (here + item.width) items)

  -- so are shelves after others
  after-renamed : (frame : Frame) (before shelves : List Shelf)
      → drawn_after frame (map (renamed_shelf name) before) (map (renamed_shelf name) shelves) ≡ drawn_after frame before shelves
  after-renamed frame before [] = refl
  after-renamed frame before (shelf ∷ shelves) =
      ap (λ (ds : List Drawn). ds ++ drawn_after frame (map (renamed_shelf name) before ++ renamed_shelf name shelf ∷ []) (map (renamed_shelf name) shelves))
      (ap (λ n. drawn_along frame n shelf.height (column_place frame shelf) (map (renamed_item name) shelf.items)) (column_height-renamed name shelf.column before)
      ∙ along-renamed frame (column_height shelf.column before) shelf.height (column_place frame shelf) shelf.items)
      ∙ ap (λ (ds : List Drawn). drawn_along frame (column_height shelf.column before) shelf.height (column_place frame shelf) shelf.items ++ ds)
      (ap (λ (ss : List Shelf). drawn_after frame ss (map (renamed_shelf name) shelves)) (sym (map-append (renamed_shelf name) before (shelf ∷ [])))
      ∙ after-renamed frame (before ++ shelf ∷ []) shelves)

  -- the text is the same
  pub svg-renamed : (state : AtlasState) → svg (renamed name state) ≡ svg state
  svg-renamed state =
      ap (λ (ds : List Drawn). document state.frame.width state.frame.height (background state.frame ∷ ds)) (after-renamed state.frame [] state.shelves)
