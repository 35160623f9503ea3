-- What a call does to what handles hold: something before and after, or nothing.
use Rattle.std.specs.Prelude.{◌≡◌, ◌↔◌, ◌≤◌, ◌⊎◌, ℕ, List, [], ◌∷◌, drop, length, take, ⊤}
use Rattle.std.specs.declared.option.Option.{Option}
use Rattle.std.specs.declared.option.Option.TheVariants.{None, Some}

-- a live handle is live after, and what it held and holds are so related
abbrev pub Leads : {S : Type 0} → Option S → Option S → (S → S → Type 0) → Type 0
Leads None new relation = ⊤
Leads (Some before) None relation = ⊥
Leads (Some before) (Some after) relation = relation before after

-- a status is one of these
abbrev pub IsAmong : List ℕ → ℕ → Type 0
IsAmong [] status = ⊥
IsAmong (first ∷ rest) status = (status ≡ first) ⊎ IsAmong rest status

-- a number says whether something holds: 1 where it does, and else 0
abbrev pub IsFlag : ℕ → Type 0 → Type 0
IsFlag flag holds = (flag ≤ 1) × ((flag ≡ 1) ↔ holds)

-- items were written to the front of a buffer, and counted; what is behind stayed
pub record IsWritten {X : Type 0} (items : List X) (old new : List X) (count : ℕ) : Type 0 where
  pub counted : count ≡ length items
  pub front : take count new ≡ items
  pub behind : drop count new ≡ drop count old
