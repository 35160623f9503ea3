-- What a map lists when keys go first or out, when another value stands first, and when the last ones went.
use Rattle.std.proofs.Common.{◌≡◌, ℕ, zero, suc, ◌-◌, Bool, true, Option, Some, List, [], ◌∷◌, length, map, take, refl, ap, sym, ◌∙◌}
use Rattle.std.proofs.lemmas.List.{length-map}
use Rattle.std.specs.Map.{lookup, remove_entry}
use Rattle.std.specs.Option.{option_map_or}
use Rattle.lru.specs.LruCache.{promoted}
use Rattle.etagere_base.specs.declared.geometry.Rectangle.{Rectangle}
use Rattle.etagere_base.specs.declared.ids.Allocation.{Allocation}
use Rattle.glyph_map.specs.Calls.{revalued, seen, used, with_value}
use Rattle.glyph_map.specs.State.{Held, MapState, cache_of, pairs_of}
use Rattle.glyph_map.proofs.Entries.{entry-passes, entry-some}
use Rattle.glyph_map.specs.Told.{entries_seen, with_first_value, without_last}
use Rattle.glyph_shelf.proofs.Shown as shows

module _ {K V : Type 0} where
  -- an entry as it is listed
  abbrev pub shown : K × Held V → K × (Rectangle × V)
  shown entry = (entry.0, seen entry.1)

  -- what stands under an entry without its key
  abbrev mark : K × Held V → ℕ × Allocation
  mark entry = (0, entry.1.allocation)

  -- keys and values with rectangles that stand in the same order
  abbrev zipped : List (K × V) → List (ℕ × Allocation) → List (K × (Rectangle × V))
  zipped [] marks = []
  zipped (pair ∷ pairs) [] = []
  zipped (pair ∷ pairs) (one ∷ marks) = (pair.0, (one.1.rectangle, pair.1)) ∷ zipped pairs marks

  shown-zipped : (entries : List (K × Held V)) → map shown entries ≡ zipped (pairs_of entries) (map mark entries)
  shown-zipped [] = refl
  shown-zipped (e ∷ entries) = ap (λ (l : List (K × (Rectangle × V))). shown e ∷ l) (shown-zipped entries)

  zipped-take : (n : ℕ) (pairs : List (K × V)) (marks : List (ℕ × Allocation)) → zipped (take n pairs) (take n marks) ≡ take n (zipped pairs marks)
  zipped-take zero pairs marks = refl
  zipped-take (suc n) [] marks = refl
  zipped-take (suc n) (pair ∷ pairs) [] = refl
  zipped-take (suc n) (pair ∷ pairs) (one ∷ marks) =
      ap (λ (l : List (K × (Rectangle × V))). (pair.0, (one.1.rectangle, pair.1)) ∷ l) (zipped-take n pairs marks)

  -- where the last ones went, the others are listed
  pub left-zipped : (old : MapState K V) (n : ℕ) (pairs : List (K × V)) (marks : List (ℕ × Allocation))
      → pairs ≡ take (length old.entries - n) (pairs_of old.entries) → marks ≡ take (length old.entries - n) (cache_of old).entries
      → zipped pairs marks ≡ without_last n (entries_seen old)
  left-zipped old n pairs marks pairs_are marks_are =
      let k : ℕ = length old.entries - n in
      ap (λ (l : List (K × V)). zipped l marks) pairs_are
      ∙ ap (zipped (take k (pairs_of old.entries))) marks_are
      ∙ zipped-take k (pairs_of old.entries) (map mark old.entries)
      ∙ ap (take k) (sym (shown-zipped old.entries))
      ∙ ap (λ (m : ℕ). take (m - n) (map shown old.entries)) (sym (length-map old.entries shown))

  pub left-listed : (old new : MapState K V) (n : ℕ) → pairs_of new.entries ≡ take (length old.entries - n) (pairs_of old.entries)
      → (cache_of new).entries ≡ take (length old.entries - n) (cache_of old).entries → entries_seen new ≡ without_last n (entries_seen old)
  left-listed old new n pairs marks = shown-zipped new.entries ∙ left-zipped old n (pairs_of new.entries) (map mark new.entries) pairs marks

  -- the same behind a new key
  pub placed-listed : (old new : MapState K V) (n : ℕ) (key : K) (value : V) (kept : List (K × V)) (allocation : Allocation) (marks : List (ℕ × Allocation))
      → pairs_of new.entries ≡ (key, value) ∷ kept → (cache_of new).entries ≡ (0, allocation) ∷ marks
      → kept ≡ take (length old.entries - n) (pairs_of old.entries) → marks ≡ take (length old.entries - n) (cache_of old).entries
      → entries_seen new ≡ (key, (allocation.rectangle, value)) ∷ without_last n (entries_seen old)
  placed-listed old new n key value kept allocation marks pairs_are marks_are kept_is left_is =
      shown-zipped new.entries
      ∙ ap (λ (l : List (K × V)). zipped l (map mark new.entries)) pairs_are
      ∙ ap (zipped ((key, value) ∷ kept)) marks_are
      ∙ ap (λ (l : List (K × (Rectangle × V))). (key, (allocation.rectangle, value)) ∷ l) (left-zipped old n kept marks kept_is left_is)

  module _ (test : K → Bool) where
    -- a key is taken out of what is listed
    pub removed-shown : (entries : List (K × Held V)) → map shown (remove_entry test entries) ≡ remove_entry test (map shown entries)
    removed-shown entries = shows.removed-shown seen test entries

    -- or goes first
    pub promoted-shown : (entries : List (K × Held V)) → map shown (promoted test entries) ≡ promoted test (map shown entries)
    promoted-shown entries = shows.promoted-shown seen test entries

    first-revalued : (value : V) (e : K × Held V) (rest : List (K × Held V)) → test e.0 ≡ true
        → map shown (revalued test value (e ∷ rest)) ≡ with_first_value value (map shown (e ∷ rest))
    first-revalued value e rest passes = rw passes refl

    -- and has another value there
    pub revalued-listed : (old : MapState K V) (value : V) (held : Held V) → lookup test old.entries ≡ Some held
        → entries_seen (with_value test value (used test old)) ≡ with_first_value value (promoted test (entries_seen old))
    revalued-listed old value held found =
        let entry = entry-some test old.entries held found in
        let e : K × Held V = (entry.0, held) in
        let rest = remove_entry test old.entries in
        let first : promoted test old.entries ≡ e ∷ rest =
        ap (λ (o : Option (K × Held V)). option_map_or (λ (f : K × Held V). let l : List (K × Held V) = f ∷ rest in l) o old.entries) entry.1 in
        ap (λ (l : List (K × Held V)). map shown (revalued test value l)) first
        ∙ first-revalued value e rest (entry-passes test old.entries e entry.1)
        ∙ ap (λ (l : List (K × Held V)). with_first_value value (map shown l)) (sym first)
        ∙ ap (with_first_value value) (promoted-shown old.entries)
