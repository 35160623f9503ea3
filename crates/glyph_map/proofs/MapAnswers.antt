-- What a map answers is what the definition of runs allows.
use Rattle.std.proofs.Common.{◌≡◌, ◌≤◌, ◌⊎◌, Bool, Option, Some, None, [], inl, inr, length, refl, ap, sym, ◌∙◌}
use Rattle.std.specs.Map.{lookup}
use Rattle.std.specs.Prelude.{IfSome, option_map}
use Rattle.etagere_base.specs.Rectangles.{IsLarge}
use Rattle.etagere_base.specs.declared.geometry.Rectangle.{Rectangle}
use Rattle.etagere_base.specs.declared.geometry.Size.{Size}
use Rattle.glyph_map.specs.Calls.{seen, seen_at, used, with_value, without_key}
use Rattle.glyph_map.specs.Placing.{IsNew, IsTooLarge, Places, evictable}
use Rattle.glyph_map.specs.State.{Held, MapState}
use Rattle.glyph_map.specs.declared.map.Placed.{Placed}
use Rattle.glyph_map.proofs.Found.{used-none, without-none}
use Rattle.glyph_map.specs.Runs.{PlacesAgain, PlacesNew}

module _ {K V : Type 0} where
  -- nothing is seen of a key that isn't there
  none-seen : (test : K → Bool) (state : MapState K V) → None ≡ seen_at test state → IsNew test state
  none-seen test state none = by_found (lookup test state.entries) none
    where
      by_found : (o : Option (Held V)) → None ≡ option_map seen o → o ≡ None
      by_found None h = refl
      by_found (Some held) h = absurd (cc)

  none-used : (test : K → Bool) (state : MapState K V) → None ≡ option_map (λ (s : Rectangle × V). s.0) (seen_at test state) → None ≡ seen_at test state
  none-used test state none = by_seen (seen_at test state) none
    where
      by_seen : (o : Option (Rectangle × V)) → None ≡ option_map (λ (s : Rectangle × V). s.0) o → None ≡ o
      by_seen None h = refl
      by_seen (Some s) h = absurd (cc)

  pub not-used : (test : K → Bool) (old new : MapState K V) → None ≡ option_map (λ (s : Rectangle × V). s.0) (seen_at test old) → new ≡ used test old
      → IsNew test old × (new ≡ old)
  not-used test old new none after =
      let is_new = none-seen test old (none-used test old none) in
      (is_new, after ∙ used-none test old is_new)

  pub not-removed : (test : K → Bool) (old new : MapState K V) → None ≡ seen_at test old → new ≡ without_key test old → IsNew test old × (new ≡ old)
  not-removed test old new none after =
      let is_new = none-seen test old none in
      (is_new, after ∙ without-none test old is_new)

  -- a key that was placed was there, or is new
  pub was-placed : (eq : K → K → Bool) (old new : MapState K V) (key : K) (value : V) (size : Size) (placed : Placed K V)
      → IfSome (seen_at (eq key) old) (λ seen. ((placed.rectangle ≡ seen.0) × (placed.replaced ≡ Some (key, seen.1)) × (placed.evicted.items ≡ []))
      × (new ≡ with_value (eq key) value (used (eq key) old)))
      → (IsNew (eq key) old → Places old key value size placed.rectangle placed.evicted.items new × (placed.replaced ≡ None))
      → (IsNew (eq key) old → IsLarge old.atlas.frame size placed.rectangle)
      → (IsNew (eq key) old × IsTooLarge old size → ⊥) → length placed.evicted.items ≤ evictable old
      → PlacesAgain eq old key value placed new ⊎ PlacesNew eq old key value size placed new
  was-placed eq old new key value size placed found new_placed large fits spared = by_found (lookup (eq key) old.entries) refl found
    where
      by_found : (o : Option (Held V)) → lookup (eq key) old.entries ≡ o
          → IfSome (option_map seen o) (λ seen. ((placed.rectangle ≡ seen.0) × (placed.replaced ≡ Some (key, seen.1)) × (placed.evicted.items ≡ []))
          × (new ≡ with_value (eq key) value (used (eq key) old)))
          → PlacesAgain eq old key value placed new ⊎ PlacesNew eq old key value size placed new
      by_found None at is =
          inr (record {
            is_new = at;
            fits = λ too_large. fits (at, too_large);
            places = (new_placed at).0;
            none = (new_placed at).1;
            spared = spared;
            large = large at;
          })
      by_found (Some held) at is =
          inl (record {
            had = held.value;
            there = ap (option_map seen) at ∙ ap (λ (r : Rectangle). let s : Rectangle × V = (r, held.value) in Some s) (sym is.0.0);
            replaced = is.0.1;
            none = is.0.2;
            after = is.1;
          })
