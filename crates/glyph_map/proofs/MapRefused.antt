-- What a test leaves of a map that says no of just the keys among some.
use Rattle.std.proofs.Common.{◌≡◌, ◌≤◌, Bool, true, false, cond, inl, inr, List, [], ◌∷◌, length, map, reverse, refl, ap, sym, ◌∙◌, arith}
use Rattle.std.proofs.lemmas.List.{length-map, length-reverse}
use Rattle.std.specs.Borrow.{Bor}
use Rattle.std.specs.Fn.{Called, Mut}
use Rattle.std.specs.List.{filter, items_where_true}
use Rattle.std.specs.Map.{keys_of}
use Rattle.std.specs.Prelude.{not}
use Rattle.glyph_map.specs.Retaining.{Answers, RefusesSome, Retains, refused_keys, without_keys}
use Rattle.glyph_map.specs.State.{Held, MapState, pairs_of}
use Rattle.glyph_shelf.specs.Dropping.{is_one_of}
use Rattle.glyph_map.specs.Runs.{DropsKeys}
use Rattle.glyph_shelf.proofs.Refused.{answered, filter-reverse, kept-in_order, map-reversed, map-twice}

-- what isn't said no of is said yes of
not-false : (b : Bool) → false ≡ not b → b ≡ true
not-false true is = refl
not-false false is = absurd (cc)

module _ {K : Type 0} where
  -- the keys of which it said no
  refused-among : (p : K → Bool) (keys : List K) → refused_keys (map (λ key. not (p key)) keys) keys ≡ filter p keys
  refused-among p [] = refl
  refused-among p (key ∷ keys) = here (p key) (refused-among p keys)
    where
      here : (b : Bool) → refused_keys (map (λ k. not (p k)) keys) keys ≡ filter p keys
          → refused_keys (not b ∷ map (λ k. not (p k)) keys) (key ∷ keys) ≡ cond b (key ∷ filter p keys) (filter p keys)
      here true later = ap (λ (l : List K). key ∷ l) later
      here false later = later

  -- of all keys these go
  pub drops-keys : {F V : Type 0} (eq : K → K → Bool) (calls : Mut F (Bor K × (Bor V × Unit {0})) Bool) (test : F) (old new : MapState K V)
      → Retains calls eq test old new → (gone : List K) (stays : F → Type 0)
      → ((before : F) (key : Bor K) (value : Bor V) (answer : Bool) (after : F) → stays before → Called calls before (key, (value, tt)) answer after
      → (answer ≡ not (is_one_of eq gone key.now)) × stays after)
      → stays test → DropsKeys eq old gone new
  drops-keys {F} {V} eq calls test old new retains gone stays tells at =
      let p : K → Bool = is_one_of eq gone in
      let es : List (K × Held V) = old.entries in
      let key_of : K × Held V → K = λ e. e.0 in
      let pair_of : K × Held V → K × V = λ e. (e.0, e.1.value) in
      let stays_of : K × Held V → Bool = λ e. not (p e.0) in
      let asked : List (K × V) = reverse (pairs_of es) in
      let long : length retains.answers ≡ length asked =
      omega (arith, retains.each, length-reverse (pairs_of es), length-map es pair_of) in
      let known : retains.answers ≡ map (λ (e : K × V). not (p e.0)) asked =
      answered (Answers calls) (λ (e : K × V). not (p e.0)) stays
      (λ before e answer after s h.
      let told = tells before h.key h.value answer after s h.called in
      (told.0 ∙ ap (λ (k : K). not (p k)) h.shown.0, told.1)) test at retains.answers asked retains.last long retains.asked in
      let by_entry : retains.answers ≡ map stays_of (reverse es) =
      known ∙ ap (map (λ (e : K × V). not (p e.0))) (sym (map-reversed pair_of es)) ∙ map-twice pair_of (λ (e : K × V). not (p e.0)) (reverse es) in
      let by_key : retains.answers ≡ map (λ key. not (p key)) (reverse (keys_of es)) =
      by_entry ∙ sym (map-twice key_of (λ key. not (p key)) (reverse es)) ∙ ap (map (λ (key : K). not (p key))) (map-reversed key_of es) in
      record {
        left = retains.left ∙ ap (λ (l : List Bool). without_keys eq old (refused_keys l (reverse (keys_of es)))) by_key
            ∙ ap (without_keys eq old) (refused-among p (reverse (keys_of es)));
        order = retains.order ∙ ap (λ (l : List Bool). reverse (items_where_true l (reverse es))) by_entry ∙ kept-in_order stays_of es;
      }

  -- one of them goes where it said no of one
  pub some-goes : {F V : Type 0} (eq : K → K → Bool) (calls : Mut F (Bor K × (Bor V × Unit {0})) Bool) (gone : List K) (stays : F → Type 0)
      → ((before : F) (key : Bor K) (value : Bor V) (answer : Bool) (after : F) → stays before → Called calls before (key, (value, tt)) answer after
      → (answer ≡ not (is_one_of eq gone key.now)) × stays after)
      → (test : F) → stays test → (pairs : List (K × V)) → RefusesSome calls test pairs
      → 1 ≤ length (filter (is_one_of eq gone) (keys_of pairs))
  some-goes eq calls gone stays tells test at [] refuses = absurd refuses
  some-goes eq calls gone stays tells test at (pair ∷ pairs) (inl (after, says)) =
      let told = tells test says.key says.value false after at says.called in
      let goes : is_one_of eq gone pair.0 ≡ true =
      ap (is_one_of eq gone) (sym says.shown.0) ∙ not-false (is_one_of eq gone says.key.now) told.0 in
      rw goes (omega arith)
  some-goes eq calls gone stays tells test at (pair ∷ pairs) (inr (after, says, later)) =
      let told = tells test says.key says.value true after at says.called in
      counted (is_one_of eq gone pair.0) (some-goes eq calls gone stays tells after told.1 pairs later)
    where
      counted : (b : Bool) → 1 ≤ length (filter (is_one_of eq gone) (keys_of pairs))
          → 1 ≤ length (cond b (pair.0 ∷ filter (is_one_of eq gone) (keys_of pairs)) (filter (is_one_of eq gone) (keys_of pairs)))
      counted true some = omega arith
      counted false some = some

  -- of all keys one goes
  pub some-key-goes : {F V : Type 0} (eq : K → K → Bool) (calls : Mut F (Bor K × (Bor V × Unit {0})) Bool) (gone : List K) (stays : F → Type 0)
      → ((before : F) (key : Bor K) (value : Bor V) (answer : Bool) (after : F) → stays before → Called calls before (key, (value, tt)) answer after
      → (answer ≡ not (is_one_of eq gone key.now)) × stays after)
      → (test : F) → stays test → (old : MapState K V) → RefusesSome calls test (reverse (pairs_of old.entries))
      → 1 ≤ length (filter (is_one_of eq gone) (keys_of old.entries))
  some-key-goes {F} {V} eq calls gone stays tells test at old refuses =
      let p : K → Bool = is_one_of eq gone in
      let key_of : K × V → K = λ e. e.0 in
      let pair_of : K × Held V → K × V = λ e. (e.0, e.1.value) in
      let turned : keys_of (reverse (pairs_of old.entries)) ≡ reverse (keys_of old.entries) =
      map-reversed key_of (pairs_of old.entries) ∙ ap reverse (map-twice pair_of key_of old.entries) in
      let same : length (filter p (keys_of (reverse (pairs_of old.entries)))) ≡ length (filter p (keys_of old.entries)) =
      ap (λ (l : List K). length (filter p l)) turned ∙ ap length (filter-reverse p (keys_of old.entries))
      ∙ length-reverse (filter p (keys_of old.entries)) in
      let some = some-goes eq calls gone stays tells test at (reverse (pairs_of old.entries)) refuses in
      omega (arith, some, same)
