-- A key that is used: what it finds, and that its entry then stands first, with the stamp of the frame.
use Rattle.std.proofs.Common.{◌≡◌, ℕ, Option, Some, None, List, ◌∷◌, refl, ap, sym, ◌∙◌}
use Rattle.std.specs.Map.{lookup, lookup_entry, remove_entry, set_value}
use Rattle.std.specs.Option.{option_map_or}
use Rattle.std.specs.Prelude.{nat_eq, option_map}
use Rattle.lru.specs.LruCache.{promoted}
use Rattle.lru.proofs.CallerLemmas.{Contains-lookup_entry}
use Rattle.etagere_base.specs.declared.ids.Allocation.{Allocation}
use Rattle.glyph_shelf.specs.declared.used_keys.stamps.Entry.{Entry}
use Rattle.glyph_shelf.specs.UsedKeys.Keys.{rectangle_in}
use Rattle.glyph_shelf.specs.UsedKeys.Private.Stamps.{unstamped, used_in, with_stamp}
use Rattle.glyph_shelf.proofs.UsedKeys.BareEntries.{lookup-bare}
use Rattle.glyph_shelf.proofs.UsedKeys.Entries.{entry-none, lookup-entry}

-- the rectangle that a key finds
pub rectangle-bare : (key : ℕ) (es : List (ℕ × Entry))
    → rectangle_in (unstamped es) key ≡ option_map (λ (e : Entry). e.allocation.rectangle) (lookup (nat_eq key) es)
rectangle-bare key es =
    ap (option_map (λ (a : Allocation). a.rectangle)) (lookup-bare (nat_eq key) es) ∙ twice (lookup (nat_eq key) es)
  where
    twice : (o : Option Entry)
        → option_map (λ (a : Allocation). a.rectangle) (option_map (λ (e : Entry). e.allocation) o)
        ≡ option_map (λ (e : Entry). e.allocation.rectangle) o
    twice None = refl
    twice (Some e) = refl

module _ (frame key : ℕ) (es : List (ℕ × Entry)) where
  -- a key that isn't there moves nothing
  pub used-unknown : lookup (nat_eq key) es ≡ None → es ≡ used_in frame key es
  used-unknown unknown = rw (entry-none (nat_eq key) es unknown) refl

  -- one that is there gets the stamp of the frame, in front
  pub used-known : (e : Entry) → lookup (nat_eq key) es ≡ Some e
      → set_value (nat_eq key) (promoted (nat_eq key) es) (record { allocation = e.allocation; frame = frame }) ≡ used_in frame key es
  used-known e found = by_entry (lookup_entry (nat_eq key) es) refl (sym (lookup-entry (nat_eq key) es) ∙ found)
    where
      by_entry : (o : Option (ℕ × Entry)) → lookup_entry (nat_eq key) es ≡ o
          → option_map (λ (f : ℕ × Entry). f.1) o ≡ Some e
          → set_value (nat_eq key) (option_map_or (λ f. f ∷ remove_entry (nat_eq key) es) o es) (record { allocation = e.allocation; frame = frame })
          ≡ option_map_or (λ f. with_stamp frame f ∷ remove_entry (nat_eq key) es) o es
      by_entry None at h = absurd (cc)
      by_entry (Some f) at h =
          let own : e ≡ f.1 = cc in
          rw (Contains-lookup_entry (nat_eq key) es f at).1
          (ap (λ (x : Entry). (f.0, record { allocation = x.allocation; frame = frame }) ∷ remove_entry (nat_eq key) es) own)
