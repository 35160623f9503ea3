-- What a test leaves that says no of just the keys among some.
use Rattle.std.proofs.Common.{◌≡◌, ℕ, Bool, List, length, map, reverse, ap, sym, ◌∙◌, arith}
use Rattle.std.proofs.lemmas.List.{length-map, length-reverse}
use Rattle.std.specs.List.{items_where_true}
use Rattle.std.specs.Map.{keys_of}
use Rattle.std.specs.Prelude.{nat_eq, not}
use Rattle.etagere_base.specs.declared.geometry.Rectangle.{Rectangle}
use Rattle.etagere_base.specs.declared.ids.Allocation.{Allocation}
use Rattle.glyph_shelf.specs.Cache.{CacheState, listed}
use Rattle.glyph_shelf.specs.Dropping.{is_one_of}
use Rattle.glyph_shelf.specs.Retaining.{Retains, refused_keys, without_keys}
use Rattle.glyph_shelf.proofs.Refused.{answered, kept-in_order, map-reversed, map-twice, refused-among}
use Rattle.padding.specs.Caches.Runs.{DropsKeys}

-- of all keys these go
pub drops-keys : {F : Type 0} (says : F → ℕ → Rectangle → Bool → F → Type 0) (test : F) (old new : CacheState) → Retains says test old new
    → (gone : List ℕ) (stays : F → Type 0)
    → ((before : F) (key : ℕ) (rectangle : Rectangle) (answer : Bool) (after : F) → stays before → says before key rectangle answer after
    → (answer ≡ not (is_one_of nat_eq gone key)) × stays after)
    → stays test → DropsKeys old gone new
drops-keys {F} says test old new retains gone stays tells at =
    let p : ℕ → Bool = is_one_of nat_eq gone in
    let es : List (ℕ × Allocation) = old.entries in
    let key_of : ℕ × Allocation → ℕ = λ e. e.0 in
    let shown : ℕ × Allocation → ℕ × Rectangle = λ e. (e.0, e.1.rectangle) in
    let stays_of : ℕ × Allocation → Bool = λ e. not (p e.0) in
    let asked : List (ℕ × Rectangle) = reverse (listed old) in
    let long : length retains.answers ≡ length asked =
    omega (arith, retains.each, length-reverse (listed old), length-map es shown) in
    let known : retains.answers ≡ map (λ (e : ℕ × Rectangle). not (p e.0)) asked =
    answered (λ before (e : ℕ × Rectangle) answer after. says before e.0 e.1 answer after) (λ (e : ℕ × Rectangle). not (p e.0)) stays
    (λ before e answer after s h. tells before e.0 e.1 answer after s h) test at retains.answers asked retains.last long retains.asked in
    let by_entry : retains.answers ≡ map stays_of (reverse es) =
    known ∙ ap (map (λ (e : ℕ × Rectangle). not (p e.0))) (sym (map-reversed shown es)) ∙ map-twice shown (λ (e : ℕ × Rectangle). not (p e.0)) (reverse es) in
    let by_key : retains.answers ≡ map (λ key. not (p key)) (reverse (keys_of es)) =
    by_entry ∙ sym (map-twice key_of (λ key. not (p key)) (reverse es)) ∙ ap (map (λ (key : ℕ). not (p key))) (map-reversed key_of es) in
    record {
      left = retains.left ∙ ap (λ (l : List Bool). without_keys old (refused_keys l (reverse (keys_of es)))) by_key
          ∙ ap (without_keys old) (refused-among p (reverse (keys_of es)));
      order = retains.order ∙ ap (λ (l : List Bool). reverse (items_where_true l (reverse es))) by_entry ∙ kept-in_order stays_of es;
    }
