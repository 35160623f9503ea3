-- A placing evicts no more keys than there are, so a buffer for as many has room.
use Rattle.std.proofs.Common.{◌≡◌, ℕ, ◌≤◌, Option, Some, None, List, [], length, arith, ap}
use Rattle.std.specs.Prelude.{IfErr, IfOk, IfSome, IsOkAnd, Result, Ok, Err, nat_eq, reverse}
use Rattle.std.specs.Map.{keys_of, lookup}
use Rattle.std.specs.Prelude.{option_map}
use Rattle.std.proofs.lemmas.List.{length-reverse, length-take}
use Rattle.std.proofs.lemmas.Map.Entries.{length-keys_of}
use Rattle.etagere_base.specs.declared.geometry.Size.{Size}
use Rattle.etagere_base.specs.declared.ids.Allocation.{Allocation}
use Rattle.glyph_shelf.specs.Cache.{CacheState, dropped_keys, used}
use Rattle.glyph_shelf.specs.Placing.{IsLeft, IsNew, Places}
use Rattle.glyph_shelf.specs.declared.cache.Placed.{Placed}
use Rattle.glyph_shelf.specs.declared.faults.GlyphFault.{GlyphFault}
use Rattle.glyph_shelf.specs.declared.faults.GlyphFault.TheVariants.{TooLarge, Memory, FrameFull}
use Rattle.c_answers.specs.Evicted.{HasRoomFor}

-- no more keys are dropped than there are
pub few_dropped : (old : CacheState) (count : ℕ) → length (dropped_keys old count) ≤ length old.entries
few_dropped old count =
    omega (arith, length-take count (reverse (keys_of old.entries)), length-reverse (keys_of old.entries), length-keys_of old.entries)

few : (old : CacheState) (evicted : List ℕ) → evicted ≡ dropped_keys old (length evicted) → length evicted ≤ length old.entries
few old evicted listed = omega (arith, ap length listed, few_dropped old (length evicted))

module _ (old new : CacheState) (key : ℕ) (size : Size) (buffer : List ℕ) (room : length old.entries ≤ length buffer) where
  pub placed_fits : (result : Result Placed GlyphFault) (found : Option Allocation) → lookup (nat_eq key) old.entries ≡ found
      → IfSome (option_map (λ (allocation : Allocation). allocation.rectangle) found) (λ rectangle. IsOkAnd result (λ placed. (placed.rectangle ≡ rectangle) × (placed.evicted.items ≡ [])) × (new ≡ used old key))
      → (IsNew old key → IfOk result (λ placed. Places old key size placed.rectangle placed.evicted.items new))
      → IfErr result (λ fault. IsLeft old size fault new)
      → HasRoomFor buffer result
  placed_fits (Ok placed) None is there placing left = (omega (arith, few old placed.evicted.items (placing is).listed, room), tt)
  placed_fits (Ok placed) (Some allocation) is there placing left = (omega (arith, ap length there.0.1), tt)
  placed_fits (Err TooLarge) found is there placing left = (tt, omega arith)
  placed_fits (Err (Memory evicted)) found is there placing left = (tt, omega (arith, few old evicted.items left.listed, room))
  placed_fits (Err FrameFull) found is there placing left = (tt, omega arith)
