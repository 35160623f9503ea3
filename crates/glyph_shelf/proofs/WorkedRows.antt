-- The definitions alone, with no program, give what worked examples evict and place.
use Rattle.std.specs.Prelude.{◌≡◌, ℕ, suc, option_map, true, false, pos, None, Some, [], ◌∷◌, refl}
use Rattle.std.specs.Option.{option_map_or}
use Rattle.etagere_base.specs.declared.geometry.Rectangle.{Rectangle}
use Rattle.etagere_base.specs.declared.geometry.Size.{Size}
use Rattle.etagere_base.specs.Frames.{atlas_frame}
use Rattle.etagere_base.specs.Options.{default_options}
use Rattle.shelf_model.specs.Choice.{placement_of, rectangle_of_placement}
use Rattle.shelf_model.specs.Taking.{taken}
use Rattle.glyph_shelf.specs.Cache.{CacheState, after_dropping, dropped_keys, empty_cache, rectangle_at, used, without_key}
use Rattle.glyph_shelf.specs.Placing.{IsTooLarge, has_room}

abbrev size : ℕ → ℕ → Size
size width height = record { width = pos width; height = pos height }

abbrev rectangle : ℕ → ℕ → ℕ → ℕ → Rectangle
rectangle x0 y0 x1 y1 = record { min = record { x = pos x0; y = pos y0 }; max = record { x = pos x1; y = pos y1 } }

abbrev new_cache : ℕ → ℕ → ℕ → CacheState
new_cache width height capacity = empty_cache (atlas_frame (size width height) default_options) capacity

-- the cache after a key entered, under an id of its own
abbrev entered : CacheState → ℕ → Size → CacheState
entered state key size =
    option_map_or
    (λ placement.
    record {
      entries = (key, record { id = key; rectangle = rectangle_of_placement state.atlas.frame placement }) ∷ state.entries;
      capacity = state.capacity;
      atlas = taken state.atlas placement key;
      used_in_frame = option_map suc state.used_in_frame;
    })
    (placement_of state.atlas size) state

-- three keys fill the atlas; then the first is used again, so the second is the least recent
abbrev full : CacheState
full = entered (entered (entered (new_cache 32 32 3) 1 (size 32 8)) 2 (size 32 8)) 3 (size 32 8)

abbrev first_used : CacheState
first_used = used full 1

pub least_recent_goes-first : rectangle_at full 1 ≡ Some (rectangle 0 0 32 8)
least_recent_goes-first = refl

pub least_recent_goes-second : rectangle_at full 2 ≡ Some (rectangle 0 8 32 16)
least_recent_goes-second = refl

pub least_recent_goes-third : rectangle_at full 3 ≡ Some (rectangle 0 16 32 32)
least_recent_goes-third = refl

pub least_recent_goes-full : has_room first_used (size 32 8) ≡ false
least_recent_goes-full = refl

pub least_recent_goes-one : has_room (after_dropping first_used 1) (size 32 8) ≡ true
least_recent_goes-one = refl

pub least_recent_goes-key : dropped_keys first_used 1 ≡ 2 ∷ []
least_recent_goes-key = refl

abbrev fourth : CacheState
fourth = entered (after_dropping first_used 1) 4 (size 32 8)

pub least_recent_goes-fourth : rectangle_at fourth 4 ≡ Some (rectangle 0 8 32 16)
least_recent_goes-fourth = refl

-- a large one needs them all, in the order of use
pub all_go-none : has_room fourth (size 32 32) ≡ false
all_go-none = refl

pub all_go-one : has_room (after_dropping fourth 1) (size 32 32) ≡ false
all_go-one = refl

pub all_go-two : has_room (after_dropping fourth 2) (size 32 32) ≡ false
all_go-two = refl

pub all_go-three : has_room (after_dropping fourth 3) (size 32 32) ≡ true
all_go-three = refl

pub all_go-keys : dropped_keys fourth 3 ≡ 3 ∷ 1 ∷ 4 ∷ []
all_go-keys = refl

abbrev fifth : CacheState
fifth = entered (after_dropping fourth 3) 5 (size 32 32)

pub all_go-rectangle : rectangle_at fifth 5 ≡ Some (rectangle 0 0 32 32)
all_go-rectangle = refl

pub all_go-gone : rectangle_at fifth 4 ≡ None
all_go-gone = refl

-- what no atlas of this size holds is too large, however much would go
pub too_large : IsTooLarge fifth (size 33 1)
too_large = refl

-- a full list evicts one, though the atlas has a place
abbrev alone : CacheState
alone = entered (new_cache 64 64 1) 1 (size 8 8)

pub full_list-none : has_room alone (size 8 8) ≡ false
full_list-none = refl

pub full_list-one : has_room (after_dropping alone 1) (size 8 8) ≡ true
full_list-one = refl

pub full_list-rectangle : rectangle_at (entered (after_dropping alone 1) 2 (size 8 8)) 2 ≡ Some (rectangle 0 0 8 8)
full_list-rectangle = refl

-- a key that was taken out leaves its place
pub taken_out-gone : rectangle_at (without_key full 2) 2 ≡ None
taken_out-gone = refl

pub taken_out-place : rectangle_at (entered (without_key full 2) 4 (size 32 8)) 4 ≡ Some (rectangle 0 8 32 16)
taken_out-place = refl
