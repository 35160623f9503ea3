-- The members of an object, passed one by one.
use Rattle.std.proofs.Common.{◌≡◌, ◌∙◌, ◌-◌, ◌≤◌, ℕ, List, [], ◌∷◌, ◌++◌, length, Option, Some, None, refl, sym, ap, subst, arith}
use Rattle.std.specs.Borrow.{Bor}
use Rattle.json.specs.Json.{Json, Members, no_members, member, members, value, parse_map, read_key}
use Rattle.json.specs.Token.{Token}
use Rattle.json.specs.Value.{members_view, value_view}
use Rattle.json.specs.declared.value.Value.{Value}
use Rattle.json.proofs.Grammar.{members_end, members_more, read_key-shorter}
use Rattle.saved_json.specs.Private.Held.{AreMembers, Arrays, IsMember, Passes, PassesMembers}
use Rattle.saved_json.proofs.PassedItems.{value-shorter}

abbrev pub joined : Members → Members → Members
joined no_members others = others
joined (member key json all) others = member key json (joined all others)

joined-none : (all : Members) → joined all no_members ≡ all
joined-none no_members = refl
joined-none (member key json all) = ap (member key json) (joined-none all)

joined-one : (all : Members) (key : List ℕ) (json : Json) (others : Members)
    → joined all (member key json others) ≡ joined (joined all (member key json no_members)) others
joined-one no_members key json others = refl
joined-one (member k j all) key json others = ap (member k j) (joined-one all key json others)

joined-turn : (all : Members) (key : List ℕ) (json : Json) (r : Option (Members × List Token))
    → parse_map (joined all) (parse_map (member key json) r)
    ≡ parse_map (joined (joined all (member key json no_members))) r
joined-turn all key json None = refl
joined-turn all key json (Some p) = ap (λ (ms : Members). Some (ms, p.1)) (joined-one all key json p.0)

-- one more member, and what was kept of it
are-members-one : {A S T : Type 0} (arrays : Arrays S T) (all : Members)
    (kept : List (Bor (List ℕ) × Value A)) (json : Json) (next : Bor (List ℕ) × Value A)
    → AreMembers arrays all (members_view kept) → IsMember arrays next.0.now (value_view next.1) json
    → AreMembers arrays (joined all (member next.0.now json no_members)) (members_view (kept ++ next ∷ []))
are-members-one arrays no_members [] json next are is = (refl, is, tt)
are-members-one arrays no_members (k ∷ kept) json next are is = absurd are
are-members-one arrays (member key j all) [] json next are is = absurd are
are-members-one arrays (member key j all) (k ∷ kept) json next (same, first, are) is =
    (same, first, are-members-one arrays all kept json next are is)

-- the members of an object up to here were passed, of which this was kept
pub record PassedMembers {A S T : Type 0} (arrays : Arrays S T) (depth : ℕ) (old : List Token)
    (kept : List (Bor (List ℕ) × Value A)) (now : List Token) : Type 0 where
  pub all : Members
  pub turns : ℕ
  pub enough : length now ≤ turns
  pub members_are : members (value depth) (length old) old ≡ parse_map (joined all) (members (value depth) turns now)
  pub kept_are : AreMembers arrays all (members_view kept)

parse_map-id : (r : Option (Members × List Token)) → r ≡ parse_map (joined no_members) r
parse_map-id None = refl
parse_map-id (Some p) = refl

pub members-begin : {A S T : Type 0} (arrays : Arrays S T) (depth : ℕ) (old : List Token)
    (kept : List (Bor (List ℕ) × Value A)) → kept ≡ [] → PassedMembers arrays depth old kept old
members-begin {A = A} arrays depth old kept none =
    subst (λ (some : List (Bor (List ℕ) × Value A)). PassedMembers arrays depth old some old) (sym none)
    (record {
      all = no_members;
      turns = length old;
      enough = omega arith;
      members_are = parse_map-id (members (value depth) (length old) old);
      kept_are = tt;
    })

pub members-on : {A S T : Type 0} (arrays : Arrays S T) (depth : ℕ) (start old between now : List Token)
    (kept more : List (Bor (List ℕ) × Value A)) (next : Bor (List ℕ) × Value A)
    → PassedMembers arrays depth start kept old → read_key old ≡ Some (Some next.0.now, between)
    → Passes depth between (IsMember arrays next.0.now (value_view next.1)) now → more ≡ kept ++ next ∷ []
    → PassedMembers arrays depth start more now
members-on {A = A} arrays depth start old between now kept more next before key passed pushed =
    let after_key = read_key-shorter old (Some next.0.now) between key in
    let after_value = value-shorter depth between now passed.json passed.value_is in
    let enough : length old ≤ before.turns = before.enough in
    let turn = members_more (value depth) before.turns next.0.now old between now passed.json
    (omega (arith, after_key, enough)) key passed.value_is in
    subst (λ (some : List (Bor (List ℕ) × Value A)). PassedMembers arrays depth start some now) (sym pushed)
    (record {
      all = joined before.all (member next.0.now passed.json no_members);
      turns = before.turns - 1;
      enough = omega (arith, after_key, after_value, enough);
      members_are =
          before.members_are ∙ ap (parse_map (joined before.all)) turn
          ∙ joined-turn before.all next.0.now passed.json (members (value depth) (before.turns - 1) now);
      kept_are = are-members-one arrays before.all kept passed.json next before.kept_are passed.holds;
    })

pub members-passed : {A S T : Type 0} (arrays : Arrays S T) (depth : ℕ) (start old new : List Token)
    (kept : List (Bor (List ℕ) × Value A)) → PassedMembers arrays depth start kept old
    → read_key old ≡ Some (None, new) → PassesMembers arrays depth start (members_view kept) new
members-passed arrays depth start old new kept before closed =
    record {
      all = before.all;
      members_are =
          before.members_are
          ∙ ap (parse_map (joined before.all)) (members_end (value depth) before.turns old new before.enough closed)
          ∙ ap (λ (ms : Members). Some (ms, new)) (joined-none before.all);
      kept_are = before.kept_are;
    }
