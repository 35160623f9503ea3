-- How many keys were used in a frame: never more than are there, whatever goes, enters or is used.
use Rattle.std.proofs.Common.{◌≡◌, ℕ, suc, ◌-◌, ◌<◌, ◌≤◌, Bool, true, false, Option, Some, None, List, length, take, refl, ap, arith}
use Rattle.std.proofs.lemmas.Bool.Decides.{nat_tests}
use Rattle.std.proofs.lemmas.List.{take_all}
use Rattle.std.proofs.Math.Nat.{min-le_left}
use Rattle.std.specs.Map.{lookup, remove_entry}
use Rattle.std.specs.Option.{option_map_or}
use Rattle.std.specs.Prelude.{cond, is_some, nat_eq, nat_lt, option_map}
use Rattle.etagere_base.specs.declared.ids.Allocation.{Allocation}
use Rattle.glyph_shelf.specs.UsedKeys.Keys.{KeysState, stands_first, uses_in, uses_left, uses_with, uses_without, without}

-- a key that is there, and not among the first, stands behind them
behind : (key : ℕ) (es : List (ℕ × Allocation)) (a : Allocation) (count : ℕ) → lookup (nat_eq key) es ≡ Some a
    → stands_first key es count ≡ false → count < length es
behind key es a count found among = elim (nat_lt count (length es)) as (λ b. nat_lt count (length es) ≡ b → count < length es) [
  | true ↦ λ is. grind (arith, nat_tests)
  | false ↦ λ is.
      let all : take count es ≡ es = take_all count es (grind (arith, nat_tests)) in
      let there : is_some (lookup (nat_eq key) (take count es)) ≡ true = rw (all, found) refl in
      absurd (cc)
] refl

-- the uses when a key is used
pub few-with : (key : ℕ) (es : List (ℕ × Allocation)) (a : Allocation) (uses : Option ℕ) → lookup (nat_eq key) es ≡ Some a
    → uses_in uses ≤ length es → uses_in (option_map (uses_with key es) uses) ≤ length es
few-with key es a None found few = omega arith
few-with key es a (Some count) found few = by_place (stands_first key es count) refl
  where
    by_place : (b : Bool) → stands_first key es count ≡ b
        → cond b count (cond (is_some (lookup (nat_eq key) es)) (suc count) count) ≤ length es
    by_place true among = few
    by_place false among =
        let less = behind key es a count found among in
        rw found (omega arith)

-- when one goes
pub few-without : (key : ℕ) (es : List (ℕ × Allocation)) (a : Allocation) (uses : Option ℕ) → lookup (nat_eq key) es ≡ Some a
    → uses_in uses ≤ length es → uses_in (option_map (uses_without key es) uses) ≤ length es - 1
few-without key es a None found few = omega arith
few-without key es a (Some count) found few = by_place (stands_first key es count) refl
  where
    by_place : (b : Bool) → stands_first key es count ≡ b → cond b (count - 1) count ≤ length es - 1
    by_place true among = omega arith
    by_place false among = let less = behind key es a count found among in omega arith

-- when only so many are left
pub few-left : (count : ℕ) (uses : Option ℕ) → uses_in (uses_left count uses) ≤ count
few-left count None = omega arith
few-left count (Some uses) = min-le_left count uses

-- when one enters
pub few-entered : (uses : Option ℕ) (most : ℕ) → uses_in uses ≤ most → uses_in (option_map suc uses) ≤ suc most
few-entered None most few = omega arith
few-entered (Some uses) most few = omega arith

-- a key that isn't there isn't used
pub with-unknown : (key : ℕ) (es : List (ℕ × Allocation)) (uses : Option ℕ) → lookup (nat_eq key) es ≡ None
    → ((n : ℕ) → lookup (nat_eq key) (take n es) ≡ None) → option_map (uses_with key es) uses ≡ uses
with-unknown key es None unknown first = refl
with-unknown key es (Some count) unknown first =
    let among : stands_first key es count ≡ false = ap is_some (first count) in
    rw (among, unknown) refl

-- what becomes of keys when one goes
pub gone-known : (keys : KeysState) (key : ℕ) (a : Allocation) → lookup (nat_eq key) keys.entries ≡ Some a
    → without keys key
    ≡ record { entries = remove_entry (nat_eq key) keys.entries; cap = keys.cap; uses = option_map (uses_without key keys.entries) keys.uses }
gone-known keys key a found =
    ap (λ (o : Option Allocation). option_map_or
    (λ (b : Allocation). record { entries = remove_entry (nat_eq key) keys.entries; cap = keys.cap; uses = option_map (uses_without key keys.entries) keys.uses })
    o keys) found

pub gone-unknown : (keys : KeysState) (key : ℕ) → lookup (nat_eq key) keys.entries ≡ None → without keys key ≡ keys
gone-unknown keys key unknown =
    ap (λ (o : Option Allocation). option_map_or
    (λ (b : Allocation). record { entries = remove_entry (nat_eq key) keys.entries; cap = keys.cap; uses = option_map (uses_without key keys.entries) keys.uses })
    o keys) unknown
