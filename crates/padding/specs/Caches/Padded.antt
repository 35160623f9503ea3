-- A cache with a padding: what is asked of it has it, and what is given back has not.
use Rattle.std.specs.Prelude.{◌≡◌, ℕ, Bool, Option, List, map, option_map}
use Rattle.etagere_base.specs.declared.geometry.Rectangle.{Rectangle}
use Rattle.etagere_base.specs.declared.geometry.Size.{Size}
use Rattle.padding.specs.declared.sides.Padding.{Padding}
use Rattle.padding.specs.Padding.{ArePadded, padded, trimmed, trimmed_allocation, with_padding}
use Rattle.glyph_shelf.specs.Cache.{CacheState, kept_allocations, listed, rectangle_at}
use Rattle.glyph_shelf.specs.Placing.{Places}
use Rattle.glyph_shelf.specs.Promises.{KeepsCachePromises}
use Rattle.glyph_shelf.specs.Retaining.{Retains}

-- a cache with a padding: the cache holds the rectangles with it
pub record PaddedCacheState : Type 0 where
  pub padding : Padding
  pub cache : CacheState

-- the rectangle of a key, without its padding
abbrev pub trimmed_at : PaddedCacheState → ℕ → Option Rectangle
trimmed_at state key = option_map (trimmed state.padding) (rectangle_at state.cache key)

-- the keys with their rectangles, without their padding
abbrev pub trimmed_entry : Padding → ℕ × Rectangle → ℕ × Rectangle
trimmed_entry padding entry = (entry.0, trimmed padding entry.1)

abbrev pub trimmed_list : PaddedCacheState → List (ℕ × Rectangle)
trimmed_list state = map (trimmed_entry state.padding) (listed state.cache)

-- a new key is placed: with the padding, its rectangle is one that the cache gives to the size with the padding
pub record PlacesPadded (old : PaddedCacheState) (key : ℕ) (size : Size) (rectangle : Rectangle)
    (evicted : List ℕ) (new : PaddedCacheState) : Type 0 where
  pub places : Places old.cache key (padded old.padding size) (with_padding old.padding rectangle) evicted new.cache
  pub padding : new.padding ≡ old.padding

-- a cache keeps the keys of which a test says so, which is told of their rectangles without their padding
pub record RetainsPadded {F : Type 0} (says : F → ℕ → Rectangle → Bool → F → Type 0) (test : F)
    (old new : PaddedCacheState) : Type 0 where
  pub retains : Retains
      (λ before key rectangle answer after. says before key (trimmed old.padding rectangle) answer after)
      test old.cache new.cache
  pub padding : new.padding ≡ old.padding

-- the cache keeps its promises, and what is given back of it, with its padding, lies inside the
-- atlas and apart
pub record KeepsCachePadding (state : PaddedCacheState) : Type 0 where
  pub cache : KeepsCachePromises state.cache
  pub padded : ArePadded state.padding state.cache.atlas.frame
      (map (trimmed_allocation state.padding) (kept_allocations state.cache))
