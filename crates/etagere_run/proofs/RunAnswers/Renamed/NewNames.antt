-- What is new in two states that are the same but for the numbers of ids: another number for its id.
use Rattle.std.proofs.Common.{◌≡◌, ℕ, ◌≤◌, false, List, arith, ap, map, sym, ◌∙◌}
use Rattle.etagere_base.specs.Lists.{times}
use Rattle.shelf_model.specs.Places.{is_allocated}
use Rattle.shelf_model.specs.State.{Shelf, AtlasState}
use Rattle.shelf_model.proofs.Allocations.AllocatedIds.{times-not_allocated}
use Rattle.shelf_model.proofs.Allocations.IdLists.{ids}
use Rattle.etagere_run.specs.Answers.Private.Renamed.{renamed, renamed_shelf}
use Rattle.etagere_run.proofs.RunAnswers.Renamed.OtherNames.{allocated-renamed, exchanged-apart, exchanged-none, exchanged-one, shelves-agree, with_name}

-- numbers for ids that agree with others on what is allocated, and give a new id this one
pub record HasNewName (name : ℕ → ℕ) (one other : AtlasState) (id number : ℕ) : Type 0 where
  pub later : ℕ → ℕ
  pub apart : (n m : ℕ) → later n ≡ later m → n ≡ m
  pub own : later id ≡ number
  pub agree : (n : ℕ) → 1 ≤ times n (ids one.shelves) → later n ≡ name n
  pub state : other ≡ renamed later one

-- a new id of each can have the number of the other
pub new-name : (name : ℕ → ℕ) (one other : AtlasState) (id number : ℕ) → ((n m : ℕ) → name n ≡ name m → n ≡ m)
    → other ≡ renamed name one → is_allocated one id ≡ false → is_allocated other number ≡ false → HasNewName name one other id number
new-name name one other id number apart state fresh_id fresh_number =
    let later : ℕ → ℕ = with_name name id number in
    let agree : (n : ℕ) → 1 ≤ times n (ids one.shelves) → later n ≡ name n =
    λ n stands.
    exchanged-none (name id) number (name n)
    (λ same. let own : n ≡ id = apart n id same in let none : times n (ids one.shelves) ≡ 0 = rw own (times-not_allocated one id fresh_id) in omega (arith, none, stands))
    (λ same.
    let stood : 1 ≤ times (name n) (ids (map (renamed_shelf name) one.shelves)) = allocated-renamed name one.shelves n stands in
    let there : 1 ≤ times number (ids other.shelves) = rw (ap (λ (s : AtlasState). s.shelves) state, ← same) stood in
    omega (arith, there, times-not_allocated other number fresh_number)) in
    record {
      later = later;
      apart = λ n m same. apart n m (exchanged-apart (name id) number (name n) (name m) same);
      own = exchanged-one (name id) number;
      agree = agree;
      state = state ∙ ap (λ (shelves : List Shelf). record { frame = one.frame; shelves = shelves; peak_items = one.peak_items }) (sym (shelves-agree name later one.shelves agree));
    }
