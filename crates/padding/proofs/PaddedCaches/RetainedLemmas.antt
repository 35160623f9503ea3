-- A test that is told of rectangles without their padding, where a cache asks it of those with it.
use Rattle.std.proofs.Common.{◌≡◌, ℕ, Bool, List, [], ◌∷◌, ap, sym, ◌∙◌, subst}
use Rattle.std.specs.Prelude.{reverse}
use Rattle.std.specs.List.{AllByRecursion}
use Rattle.std.specs.List.Retain.{ReturnsInTurn}
use Rattle.std.proofs.lemmas.List.{reverse-append}
use Rattle.etagere_base.specs.declared.geometry.Rectangle.{Rectangle}
use Rattle.etagere_base.proofs.EachLemmas.{Each-append}
use Rattle.padding.specs.declared.sides.Padding.{Padding}
use Rattle.padding.specs.Padding.{IsNear, trimmed}
use Rattle.glyph_shelf.specs.Cache.{CacheState, listed}
use Rattle.glyph_shelf.specs.Promises.{KeepsCachePromises}
use Rattle.glyph_shelf.specs.Retaining.{Retains}
use Rattle.padding.proofs.PaddedCaches.PaddedLemmas.{listed-near}

each-reversed : {X : Type 0} (P : X → Type 0) (xs : List X) → AllByRecursion P xs → AllByRecursion P (reverse xs)
each-reversed P [] each = tt
each-reversed P (x ∷ xs) each =
    subst (AllByRecursion P) (sym (reverse-append (x ∷ []) xs)) (Each-append P (reverse xs) (x ∷ []) (each-reversed P xs each.1) (each.0, tt))

-- a test is asked by another one, which has it and the padding
module _ {F G : Type 0} (says : F → ℕ → Rectangle → Bool → F → Type 0) (asks : G → ℕ → Rectangle → Bool → G → Type 0)
    (test_of : G → F) (padding_of : G → Padding)
    (tells : (before : G) (key : ℕ) (rectangle : Rectangle) (answer : Bool) (after : G) → asks before key rectangle answer after
    → ((told : Rectangle) × (IsNear rectangle → told ≡ trimmed (padding_of before) rectangle) × says (test_of before) key told answer (test_of after))
    × (padding_of after ≡ padding_of before)) where
  told-in_turn : (padding : Padding) (before : G) → padding_of before ≡ padding → (answers : List Bool) (entries : List (ℕ × Rectangle)) (last : G)
      → AllByRecursion (λ (entry : ℕ × Rectangle). IsNear entry.1) entries
      → ReturnsInTurn (λ b (entry : ℕ × Rectangle) answer after. asks b entry.0 entry.1 answer after) before answers entries last
      → ReturnsInTurn (λ b (entry : ℕ × Rectangle) answer after. says b entry.0 (trimmed padding entry.1) answer after) (test_of before) answers entries (test_of last)
  told-in_turn padding before is [] entries last near asked = ap test_of asked
  told-in_turn padding before is (b ∷ answers) [] last near asked = absurd asked
  told-in_turn padding before is (b ∷ answers) (e ∷ entries) last near (after, here, later) =
      let told = tells before e.0 e.1 b after here in
      let same : told.0.0 ≡ trimmed padding e.1 = told.0.1 near.0 ∙ ap (λ (p : Padding). trimmed p e.1) is in (
        test_of after,
        subst (λ (r : Rectangle). says (test_of before) e.0 r b (test_of after)) same told.0.2,
        told-in_turn padding after (told.1 ∙ is) answers entries last near.1 later,
      )

  pub retains-trimmed : (padding : Padding) (before : G) → padding_of before ≡ padding → (old new : CacheState) → KeepsCachePromises old
      → Retains asks before old new
      → Retains (λ b key rectangle answer after. says b key (trimmed padding rectangle) answer after) (test_of before) old new
  retains-trimmed padding before is old new keeps retains =
      record {
        answers = retains.answers;
        last = test_of retains.last;
        each = retains.each;
        asked = told-in_turn padding before is retains.answers (reverse (listed old)) retains.last
            (each-reversed (λ (entry : ℕ × Rectangle). IsNear entry.1) (listed old) (listed-near old keeps)) retains.asked;
        left = retains.left;
        order = retains.order;
      }
