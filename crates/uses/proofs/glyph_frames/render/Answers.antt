use Rattle.std.proofs.Common.{◌≡◌, ℕ, None, length, reverse, ap, sym, ◌∙◌, arith}
use Rattle.std.proofs.lemmas.List.{length-map, length-reverse, length-take}
use Rattle.std.specs.Map.{keys_of, lookup}
use Rattle.std.specs.Prelude.{nat_eq}
use Rattle.etagere_base.specs.declared.ids.Allocation.{Allocation}
use Rattle.shelf_model.proofs.Callers.{tied-length}
use Rattle.shelf_model.specs.Places.{allocations}
use Rattle.glyph_shelf.proofs.Callers.{length-after_dropping, looked-unknown, unknown-rectangle}
use Rattle.glyph_shelf.specs.Cache.{CacheState, kept_allocations, rectangle_at}
use Rattle.glyph_shelf.specs.Placing.{IsNew}
use Rattle.uses.proofs.glyph_frames.render.Goals as goal

-- as many are there as the atlas has allocated, and that stays
pub returns-in-Some-clause-there : goal.returns-in-Some-clause-there
returns-in-Some-clause-there c =
    let old = c.args.cache.now in
    let new = c.get.new.self in
    let kept : ℕ × Allocation → Allocation = λ entry. entry.1 in
    omega (
      arith,
      tied-length (kept_allocations old) (allocations old.atlas) c.requires.tied,
      tied-length (kept_allocations new) (allocations new.atlas) c.get.ensures.promises.tied,
      ap (λ (state : CacheState). length (allocations state.atlas)) c.get.ensures.used,
      length-map old.entries kept,
      length-map new.entries kept,
    )

-- it wasn't there, and each that was evicted was
pub returns-clause-counted : goal.returns-clause-counted
returns-clause-counted c =
    let old = c.args.cache.now in
    let looked = c.get.new.self in
    let evicted = c.in_ok-placed.placed.evicted.items in
    let none : rectangle_at old c.args.key ≡ None = sym c.get.ensures.value ∙ c.in_default.is in
    let same : looked ≡ old = looked-unknown old looked c.args.key none c.get.ensures.used in
    let new : IsNew looked c.args.key =
    ap (λ (state : CacheState). lookup (nat_eq c.args.key) state.entries) same ∙ unknown-rectangle old c.args.key none in
    let places = c.in_ok-placed.ensures.placed new in
    let key : ℕ × Allocation → ℕ = λ entry. entry.0 in
    omega (
      arith,
      ap (λ (state : CacheState). length state.entries) same,
      ap length places.entered.entries,
      length-after_dropping looked (length evicted),
      ap length places.listed,
      length-take (length evicted) (reverse (keys_of looked.entries)),
      length-reverse (keys_of looked.entries),
      length-map looked.entries key,
    )
