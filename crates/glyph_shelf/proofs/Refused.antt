-- What a test leaves, by its answers, and which keys it refuses.
use Rattle.std.proofs.Common.{◌≡◌, ℕ, Bool, true, false, cond, List, [], ◌∷◌, ◌++◌, length, map, reverse, refl, ap, sym, ◌∙◌, arith}
use Rattle.std.proofs.lemmas.List.{append-nil, map-append, reverse-append, reverse-reverse}
use Rattle.std.proofs.lemmas.List.Elements.{filter-append}
use Rattle.std.specs.List.{filter, items_where_true}
use Rattle.std.specs.List.Retain.{ReturnsInTurn}
use Rattle.std.specs.Prelude.{not}
use Rattle.glyph_shelf.specs.Retaining.{refused_keys}

module _ {X : Type 0} where
  -- turned round, the first one stands last
  reverse-first : (x : X) (xs : List X) → reverse (x ∷ xs) ≡ reverse xs ++ x ∷ []
  reverse-first x xs = reverse-append (x ∷ []) xs

  pub filter-reverse : (p : X → Bool) (xs : List X) → filter p (reverse xs) ≡ reverse (filter p xs)
  filter-reverse p [] = refl
  filter-reverse p (x ∷ xs) =
      ap (filter p) (reverse-first x xs)
      ∙ filter-append p (reverse xs) (x ∷ [])
      ∙ ap (λ (l : List X). l ++ filter p (x ∷ [])) (filter-reverse p xs)
      ∙ here (p x)
    where
      here : (b : Bool) → reverse (filter p xs) ++ cond b (x ∷ []) [] ≡ reverse (cond b (x ∷ filter p xs) (filter p xs))
      here true = sym (reverse-first x (filter p xs))
      here false = append-nil (reverse (filter p xs))

  -- what passes, by the answers of the test
  kept-where : (p : X → Bool) (xs : List X) → items_where_true (map p xs) xs ≡ filter p xs
  kept-where p [] = refl
  kept-where p (x ∷ xs) = here (p x) (kept-where p xs)
    where
      here : (b : Bool) → items_where_true (map p xs) xs ≡ filter p xs
          → items_where_true (b ∷ map p xs) (x ∷ xs) ≡ cond b (x ∷ filter p xs) (filter p xs)
      here true later = ap (λ (l : List X). x ∷ l) later
      here false later = later

  -- the others stand in the order that they had
  pub kept-in_order : (p : X → Bool) (xs : List X) → reverse (items_where_true (map p (reverse xs)) (reverse xs)) ≡ filter p xs
  kept-in_order p xs =
      ap reverse (kept-where p (reverse xs))
      ∙ sym (filter-reverse p (reverse xs))
      ∙ ap (filter p) (reverse-reverse xs)

  module _ {Y : Type 0} where
    pub map-twice : {Z : Type 0} (f : X → Y) (g : Y → Z) (xs : List X) → map g (map f xs) ≡ map (λ (x : X). g (f x)) xs
    map-twice f g [] = refl
    map-twice {Z} f g (x ∷ xs) = ap (λ (l : List Z). g (f x) ∷ l) (map-twice f g xs)

    pub map-reversed : (f : X → Y) (xs : List X) → map f (reverse xs) ≡ reverse (map f xs)
    map-reversed f [] = refl
    map-reversed f (x ∷ xs) =
        ap (map f) (reverse-first x xs)
        ∙ map-append f (reverse xs) (x ∷ [])
        ∙ ap (λ (l : List Y). l ++ f x ∷ []) (map-reversed f xs)
        ∙ sym (reverse-append (f x ∷ []) (map f xs))

  -- the answers that a test gave in turn, where each is what a rule says
  pub answered : {F : Type 0} (asks : F → X → Bool → F → Type 0) (says : X → Bool) (stays : F → Type 0)
      → ((before : F) (x : X) (answer : Bool) (after : F) → stays before → asks before x answer after → (answer ≡ says x) × stays after)
      → (before : F) → stays before → (answers : List Bool) (xs : List X) (last : F) → length answers ≡ length xs
      → ReturnsInTurn asks before answers xs last → answers ≡ map says xs
  answered asks says stays tells before at [] [] last long asked = refl
  answered asks says stays tells before at [] (x ∷ xs) last long asked = absurd (omega arith)
  answered asks says stays tells before at (b ∷ answers) [] last long asked = absurd (omega arith)
  answered asks says stays tells before at (b ∷ answers) (x ∷ xs) last long (after, here, later) =
      let told = tells before x b after at here in
      ap (λ (c : Bool). c ∷ answers) told.0
      ∙ ap (λ (l : List Bool). says x ∷ l) (answered asks says stays tells after told.1 answers xs last (omega arith) later)

-- the keys of which it said no
pub refused-among : (p : ℕ → Bool) (keys : List ℕ) → refused_keys (map (λ key. not (p key)) keys) keys ≡ filter p keys
refused-among p [] = refl
refused-among p (key ∷ keys) = here (p key) (refused-among p keys)
  where
    here : (b : Bool) → refused_keys (map (λ k. not (p k)) keys) keys ≡ filter p keys
        → refused_keys (not b ∷ map (λ k. not (p k)) keys) (key ∷ keys) ≡ cond b (key ∷ filter p keys) (filter p keys)
    here true later = ap (λ (l : List ℕ). key ∷ l) later
    here false later = later
