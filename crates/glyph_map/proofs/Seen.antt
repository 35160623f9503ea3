-- What an iterator over a map shows.
use Rattle.std.proofs.Common.{◌≡◌, ℕ, List, [], ◌∷◌, refl, ap}
use Rattle.etagere_base.specs.declared.geometry.Rectangle.{Rectangle}
use Rattle.etagere_base.specs.declared.ids.Allocation.{Allocation}
use Rattle.glyph_shelf.specs.Cache.{CacheState, with_rectangles}
use Rattle.glyph_shelf.specs.Cache as cache
use Rattle.glyph_map.specs.Calls.{listed}
use Rattle.glyph_map.specs.Private.Listed.{seen_both}
use Rattle.glyph_map.specs.declared.ticketed.Ticketed.{Ticketed}
use Rattle.glyph_map.proofs.Joined.{map_of}

module _ {K V : Type 0} where
  pub both-listed : (es : List (K × Ticketed V)) (c : CacheState) → seen_both es (cache.listed c) ≡ listed (map_of es c)
  both-listed es c = over es c.entries
    where
      over : (es : List (K × Ticketed V)) (cs : List (ℕ × Allocation)) → seen_both es (with_rectangles cs) ≡ listed (map_of es (let s : CacheState = record { entries = cs; capacity = c.capacity; atlas = c.atlas; used_in_frame = c.used_in_frame } in s))
      over [] cs = refl
      over (e ∷ es) [] = refl
      over (e ∷ es) (o ∷ cs) = ap (λ (l : List (K × Rectangle × V)). (e.0, o.1.rectangle, e.1.value) ∷ l) (over es cs)
