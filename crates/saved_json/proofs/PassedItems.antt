-- The items of an array, passed one by one.
use Rattle.std.proofs.Common.{◌≡◌, ◌∙◌, ◌+◌, ◌-◌, ◌<◌, ◌≤◌, ℕ, List, ◌∷◌, length, drop, get_or, Some, option_map, refl, sym, ap, subst, arith, add-one, drop-cons, suc}
use Rattle.std.proofs.lemmas.List.{drop_all}
use Rattle.json.specs.Json.{Json, Items, no_items, array, item, items, value, after_end_array, parse_map}
use Rattle.json.specs.Token.{Token, begin_array}
use Rattle.json.proofs.Grammar.{items_end, items_more, skip_value-shorter, value-begin_array}
use Rattle.saved_json.specs.Records.{AreRecords}
use Rattle.saved_json.specs.Private.Held.{IsArray, Passes, PassesItem}

pub value-shorter : (depth : ℕ) (old new : List Token) (json : Json) → value depth old ≡ Some (json, new)
    → length new < length old
value-shorter depth old new json is = skip_value-shorter depth old new (ap (λ r. option_map (λ p. p.1) r) is)

-- the tokens are items that spell these records, and the closing bracket
pub record Spells {R : Type 0} (Is : Json → R → Type 0) (depth n : ℕ) (old : List Token) (records : List R)
    (new : List Token) : Type 0 where
  pub all : Items
  pub items_are : items (value depth) n old ≡ Some (all, new)
  pub records_are : AreRecords Is all records

-- where the tokens still to come spell the records still to come, all tokens spell all records
pub record SpellsOn {R : Type 0} (Is : Json → R → Type 0) (depth : ℕ) (old now : List Token) (all left : List R)
    : Type 0 where
  pub turns : ℕ
  pub enough : length now ≤ turns
  pub goes_on : (new : List Token) → Spells Is depth turns now left new → Spells Is depth (length old) old all new

spells-turn : {R : Type 0} (Is : Json → R → Type 0) (depth n : ℕ) (old now new : List Token) (first : R)
    (left : List R) → PassesItem Is depth old first now → length old ≤ n → Spells Is depth (n - 1) now left new
    → Spells Is depth n old (first ∷ left) new
spells-turn Is depth n old now new first left passed enough rest =
    let passes = passed.passes in
    let shorter = value-shorter depth old now passes.json passes.value_is in
    record {
      all = item passes.json rest.all;
      items_are =
          items_more (value depth) n old now passes.json (omega (arith, shorter)) passed.goes_on passes.value_is
          ∙ ap (parse_map (item passes.json)) rest.items_are;
      records_are = (passes.holds, rest.records_are);
    }

-- after one more item
pub spells-on : {R : Type 0} (Is : Json → R → Type 0) (depth : ℕ) (start old now : List Token) (all : List R)
    (i : ℕ) (first : R) → i < length all → first ≡ get_or all i first
    → SpellsOn Is depth start old all (drop i all) → PassesItem Is depth old first now
    → SpellsOn Is depth start now all (drop (i + 1) all)
spells-on {R = R} Is depth start old now all i first within first_is before passed =
    let next : drop i all ≡ first ∷ drop (i + 1) all =
    drop-cons all i first within ∙ ap (λ (x : R). x ∷ drop (suc i) all) (sym first_is)
    ∙ ap (λ k. first ∷ drop k all) (sym (add-one i)) in
    let passes = passed.passes in
    let shorter = value-shorter depth old now passes.json passes.value_is in
    let enough : length old ≤ before.turns = before.enough in
    record {
      turns = before.turns - 1;
      enough = omega (arith, shorter, enough);
      goes_on = λ new rest.
          before.goes_on new
          (subst (λ (left : List R). Spells Is depth before.turns old left new) (sym next)
          (spells-turn Is depth before.turns old now new first (drop (i + 1) all) passed enough rest));
    }

-- at the closing bracket
pub spells-end : {R : Type 0} (Is : Json → R → Type 0) (depth : ℕ) (start old new : List Token) (all : List R)
    (i : ℕ) → length all ≤ i → SpellsOn Is depth start old all (drop i all) → after_end_array old ≡ Some new
    → Spells Is depth (length start) start all new
spells-end {R = R} Is depth start old new all i done before closed =
    before.goes_on new
    (subst (λ (left : List R). Spells Is depth before.turns old left new) (sym (drop_all i all done))
    (record {
      all = no_items;
      items_are = items_end (value depth) before.turns old new before.enough closed;
      records_are = tt;
    }))

-- the array after its opening bracket
pub array-passed : {R : Type 0} (Is : Json → R → Type 0) (old start new : List Token) (all : List R)
    → old ≡ begin_array ∷ start → Spells Is 125 (length start) start all new
    → Passes 126 old (λ json. IsArray Is json all) new
array-passed Is old start new all first spells =
    record {
      json = array spells.all;
      value_is =
          ap (value 126) first ∙ value-begin_array 126 start (omega arith) ∙ ap (parse_map array) spells.items_are;
      holds = record { items = spells.all; json_is = refl; records_are = spells.records_are };
    }
