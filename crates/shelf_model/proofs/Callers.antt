-- For callers: what they were given is found under its id, lies where and as what is allocated does, and stays so
-- through each allocation and return; the promises are kept; and each call can be answered. A caller's proofs cite this
-- file alone of these.
use Rattle.std.proofs.Common.{◌≡◌, ℕ, ◌+◌, ◌^◌, ◌<◌, ◌≤◌, Bool, true, false, cond, ◌||◌, ◌==◌, not, Option, Some, List, [], ◌∷◌, ◌++◌, length, map, filter, refl, ap, sym, ◌∙◌, subst, arith}
use Rattle.std.specs.Prelude.{None, is_some, option_map}
use Rattle.std.specs.List.{AllByRecursion, find, list_any}
use Rattle.std.proofs.lemmas.Bool.{or_parts}
use Rattle.std.proofs.lemmas.Bool.Decides.{nat_tests}
use Rattle.std.proofs.lemmas.List.{length-map, map-append}
use Rattle.etagere_base.specs.declared.geometry.Rectangle.{Rectangle}
use Rattle.etagere_base.specs.declared.geometry.Size.{Size}
use Rattle.etagere_base.specs.declared.ids.Allocation.{Allocation}
use Rattle.etagere_base.specs.declared.options.AllocatorOptions.{AllocatorOptions}
use Rattle.etagere_base.specs.Frames.{IsAccepted, atlas_frame, longest_side}
use Rattle.etagere_base.specs.Lists.{times}
use Rattle.etagere_base.specs.Rectangles.{AreApart, SharesNone}
use Rattle.etagere_base.specs.Sides.{side}
use Rattle.etagere_base.proofs.AcceptedFrames.{accepted-frame}
use Rattle.etagere_base.proofs.FirstFound.{is_some-find}
use Rattle.etagere_base.proofs.EachLemmas.{Each-append, Each-back, Each-both, Each-front, Each-remove_number, Each-weaken}
use Rattle.etagere_base.proofs.TimesLemmas.{times-append}
use Rattle.shelf_model.proofs.Allocations.EqualCounts.{times-length}
pub use Rattle.shelf_model.proofs.Taken.Allocated.{Allocated}
pub use Rattle.shelf_model.proofs.Taken.FreeNumber.{CanAllocate, placed-can_allocate}
pub use Rattle.shelf_model.proofs.Places.FreshLemmas.{fresh-allocated}
pub use Rattle.shelf_model.proofs.Returned.ReturnedAllocated.{returned-allocated}
use Rattle.shelf_model.proofs.Grown.GrownFrames.{frame-grows, grow-fits}
use Rattle.shelf_model.proofs.Grown.GrownValid.{grown-allocated, grown-valid}
use Rattle.shelf_model.proofs.Places.FreshLemmas.{fresh-valid}
pub use Rattle.shelf_model.proofs.Promises.{promises}
use Rattle.shelf_model.proofs.Returned.ReturnedValid.{returned-valid}
use Rattle.shelf_model.proofs.Taken.TakenAllocated.{taken-allocations}
use Rattle.shelf_model.specs.Atlas.{Adds, Allocates, KeepsPromises, without_id}
use Rattle.shelf_model.specs.Callers.{AreTied, IsFound}
use Rattle.shelf_model.specs.Places.{allocations, is_allocated, rectangle_of}
use Rattle.shelf_model.specs.Fresh.{fresh}
use Rattle.shelf_model.specs.Growing.{atlas_grown, grow_fault, grown_frame}
use Rattle.shelf_model.specs.Returning.{returned}
use Rattle.shelf_model.specs.State.{AtlasState}
use Rattle.shelf_model.specs.Taking.{taken}
use Rattle.shelf_model.specs.Valid.{IsValid}

-- an allocation has this id
abbrev has_id : ℕ → Allocation → Bool
has_id id allocation = allocation.id == id

-- the ids of allocations
abbrev ids_of : List Allocation → List ℕ
ids_of all = map (λ (allocation : Allocation). allocation.id) all

-- an id is its own
same_id : (id : ℕ) → (id == id) ≡ true
same_id id = grind (arith, nat_tests)

-- what is found first has a fact of each
found_here : {X : Type 0} (P : X → Type 0) (b : Bool) (x y : X) (o : Option X)
    → cond b (Some x) o ≡ Some y → P x → (o ≡ Some y → P y) → P y
found_here P true x y o found here later = subst P (cc) here
found_here P false x y o found here later = later found

-- what is found has a fact of each
Each-find : {X : Type 0} (P : X → Type 0) (test : X → Bool) (xs : List X) (y : X) → AllByRecursion P xs → find test xs ≡ Some y → P y
Each-find P test [] y ps found = absurd (cc)
Each-find P test (x ∷ xs) y ps found =
    found_here P (test x) x y (find test xs) found ps.0 (Each-find P test xs y ps.1)

-- where something is found, some element passes
list_any-found : {X : Type 0} (test : X → Bool) (xs : List X) (y : X) → find test xs ≡ Some y → list_any test xs ≡ true
list_any-found test [] y found = absurd (cc)
list_any-found test (x ∷ xs) y found = passes (test x) found (list_any-found test xs y)
  where
    passes : (b : Bool) → cond b (Some x) (find test xs) ≡ Some y → (find test xs ≡ Some y → list_any test xs ≡ true)
        → (b || list_any test xs) ≡ true
    passes true found later = refl
    passes false found later = later found

-- an element that fails the test hides nothing
pub find-inserted_other : {X : Type 0} (test : X → Bool) (front : List X) (x : X) (back : List X) → test x ≡ false
    → find test (front ++ x ∷ back) ≡ find test (front ++ back)
find-inserted_other test [] x back fails = rw fails refl
find-inserted_other test (y ∷ front) x back fails = ap (cond (test y) (Some y)) (find-inserted_other test front x back fails)

-- an element that passes is found where no other does
find-inserted : {X : Type 0} (test : X → Bool) (front : List X) (x : X) (back : List X)
    → list_any test (front ++ back) ≡ false → test x ≡ true → find test (front ++ x ∷ back) ≡ Some x
find-inserted test [] x back none passes = rw passes refl
find-inserted test (y ∷ front) x back none passes =
    let parts = or_parts (test y) (list_any test (front ++ back)) none in
    rw (parts.0) (find-inserted test front x back parts.1 passes)

-- what was found and stays is found still
keeps_here : {X : Type 0} (b c : Bool) (x : X) (xs : List X) (test : X → Bool) (o : Option X) → test x ≡ b
    → (b ≡ true → c ≡ true) → find test xs ≡ o → find test (cond c (x ∷ xs) xs) ≡ cond b (Some x) o
keeps_here true true x xs test o is keeps later = rw is refl
keeps_here true false x xs test o is keeps later = absurd (cc (keeps refl))
keeps_here false true x xs test o is keeps later = rw is later
keeps_here false false x xs test o is keeps later = later

-- a filter that keeps what passes a test keeps what is found by it
pub find-filter : {X : Type 0} (test keep : X → Bool) (xs : List X) → ((x : X) → test x ≡ true → keep x ≡ true)
    → find test (filter keep xs) ≡ find test xs
find-filter test keep [] keeps = refl
find-filter test keep (x ∷ xs) keeps =
    keeps_here (test x) (keep x) x (filter keep xs) test (find test xs) refl (keeps x) (find-filter test keep xs keeps)

-- an id is there once more where an allocation was added
times-added : (id : ℕ) (old new : List Allocation) (added : Allocation) → Adds old added new
    → times id (ids_of new) ≡ cond (added.id == id) 1 0 + times id (ids_of old)
times-added id old new added adds =
    let whole = ap (λ l. times id (ids_of l)) adds.after in
    let parts = ap (λ l. times id (ids_of l)) adds.before in
    let front = map-append (λ (a : Allocation). a.id) adds.front (added ∷ adds.back) in
    let both = map-append (λ (a : Allocation). a.id) adds.front adds.back in
    whole ∙ ap (times id) front ∙ times-append id (ids_of adds.front) (ids_of (added ∷ adds.back))
    ∙ moved (times id (ids_of adds.front)) (cond (added.id == id) 1 0) (times id (ids_of adds.back))
    ∙ ap (λ n. cond (added.id == id) 1 0 + n)
    (sym (parts ∙ ap (times id) both ∙ times-append id (ids_of adds.front) (ids_of adds.back)))
  where
    moved : (front here back : ℕ) → front + (here + back) ≡ here + (front + back)
    moved front here back = omega arith

-- one allocation, kept or left out, among others that were
times_here : (id gone : ℕ) (b : Bool) (a : Allocation) (rest : List Allocation) (k : ℕ) → (a.id == gone) ≡ b
    → times id (ids_of rest) ≡ cond (gone == id) 0 k
    → times id (ids_of (cond (not b) (a ∷ rest) rest)) ≡ cond (gone == id) 0 (cond (a.id == id) 1 0 + k)
times_here id gone true a rest k same later = grind (arith, nat_tests)
times_here id gone false a rest k other later = grind (arith, nat_tests)

-- without an id that one is nowhere, and the others are there as often
times-without_id : (id gone : ℕ) (all : List Allocation)
    → times id (ids_of (without_id gone all)) ≡ cond (gone == id) 0 (times id (ids_of all))
times-without_id id gone [] = none (gone == id)
  where
    none : (b : Bool) → ◌≡◌ {A = ℕ} 0 (cond b 0 0)
    none true = refl
    none false = refl
times-without_id id gone (a ∷ all) =
    times_here id gone (a.id == gone) a (without_id gone all) (times id (ids_of all)) refl (times-without_id id gone all)

-- an id that is nowhere is no allocation's
Each-times : (id : ℕ) (all : List Allocation) → times id (ids_of all) ≡ 0
    → AllByRecursion (λ (a : Allocation). (a.id == id) ≡ false) all
Each-times id [] none = tt
Each-times id (a ∷ all) none = let h = nowhere (a.id == id) (times id (ids_of all)) none in (h.0, Each-times id all h.1)
  where
    nowhere : (b : Bool) (k : ℕ) → cond b 1 0 + k ≡ 0 → (b ≡ false) × (k ≡ 0)
    nowhere true k h = absurd (omega arith)
    nowhere false k h = (refl, omega arith)

-- an allocation that was added is found
pub found-new : (old new : List Allocation) (added : Allocation)
    → Adds old added new → list_any (has_id added.id) old ≡ false → IsFound new added
found-new old new added adds none =
    ap (find (has_id added.id)) adds.after
    ∙ find-inserted (has_id added.id) adds.front added adds.back
    (sym (ap (list_any (has_id added.id)) adds.before) ∙ none) (same_id added.id)

-- an id that is nowhere isn't that of what is found
other_id : (m n : ℕ) (b : Bool) (all : List Allocation) (allocation : Allocation) → (m == n) ≡ b
    → list_any (has_id m) all ≡ false → find (has_id n) all ≡ Some allocation → (m == n) ≡ false
other_id m n true all allocation is none found =
    let e : m ≡ n = grind (arith, nat_tests) in
    let some : list_any (has_id m) all ≡ true = rw e (list_any-found (has_id n) all allocation found) in
    absurd (cc)
other_id m n false all allocation is none found = is

-- what was found before an allocation was added is found after it
found-added : (old new : List Allocation) (added known : Allocation)
    → Adds old added new → list_any (has_id added.id) old ≡ false → IsFound old known → IsFound new known
found-added old new added known adds none found =
    let differ = other_id added.id known.id (added.id == known.id) old known refl none found in
    ap (find (has_id known.id)) adds.after
    ∙ find-inserted_other (has_id known.id) adds.front added adds.back differ
    ∙ sym (ap (find (has_id known.id)) adds.before)
    ∙ found

-- an allocation of another id is kept
other_kept : (m n k : ℕ) → (m == n) ≡ true → (n == k) ≡ false → not (m == k) ≡ true
other_kept m n k same differs = grind (arith, nat_tests)

-- what was found is found without another id
found-without_id : (gone : ℕ) (all : List Allocation) (known : Allocation)
    → IsFound all known → (known.id == gone) ≡ false → IsFound (without_id gone all) known
found-without_id gone all known found differs =
    find-filter (has_id known.id) (λ (a : Allocation). not (a.id == gone)) all
    (λ a same. other_kept a.id known.id gone same differs)
    ∙ found

-- a fact of each, and of one more
Each-added : (P : Allocation → Type 0) (old new : List Allocation) (added : Allocation)
    → Adds old added new → AllByRecursion P old → P added → AllByRecursion P new
Each-added P old new added adds each here =
    let parts = subst (AllByRecursion P) adds.before each in
    subst (AllByRecursion P) (sym adds.after)
    (Each-append P adds.front (added ∷ adds.back) (Each-front P adds.front adds.back parts)
    (here, Each-back P adds.front adds.back parts))

-- a fact of each, but for one
Each-removed : (P : Allocation → Type 0) (old new : List Allocation) (added : Allocation)
    → Adds old added new → AllByRecursion P new → AllByRecursion P old
Each-removed P old new added adds each =
    subst (AllByRecursion P) (sym adds.before) (Each-remove_number P adds.front added adds.back (subst (AllByRecursion P) adds.after each))

-- what is allocated under an id is allocated
pub found-allocated : (state : AtlasState) (allocation : Allocation)
    → IsFound (allocations state) allocation → is_allocated state allocation.id ≡ true
found-allocated state allocation found =
    ap (λ (o : Option Allocation). is_some (option_map (λ (a : Allocation). a.rectangle) o)) found

-- where nothing is allocated under an id, no allocation has it
pub not_allocated-any : (state : AtlasState) (id : ℕ)
    → is_allocated state id ≡ false → list_any (has_id id) (allocations state) ≡ false
not_allocated-any state id none =
    sym (is_some-find (has_id id) (allocations state)) ∙ (sym (mapped (find (has_id id) (allocations state))) ∙ none)
  where
    mapped : (o : Option Allocation) → is_some (option_map (λ (a : Allocation). a.rectangle) o) ≡ is_some o
    mapped None = refl
    mapped (Some allocation) = refl

-- the rectangle of what is allocated under an id
pub found-rectangle : (state : AtlasState) (allocation : Allocation)
    → IsFound (allocations state) allocation → rectangle_of state allocation.id ≡ Some allocation.rectangle
found-rectangle state allocation found = ap (option_map (λ (a : Allocation). a.rectangle)) found

-- nothing is kept where nothing is allocated
pub tied-none : (all : List Allocation) → all ≡ [] → AreTied [] all
tied-none all none = record { found = tt; counted = λ id. ap (λ l. times id (ids_of l)) none }

-- what was allocated is kept too
pub tied-added : (kept longer old new : List Allocation) (added : Allocation)
    → AreTied kept old → Adds kept added longer → Adds old added new → list_any (has_id added.id) old ≡ false
    → AreTied longer new
tied-added kept longer old new added tied more adds none =
    record {
      found = Each-added (IsFound new) kept longer added more
          (Each-weaken (IsFound old) (IsFound new) kept (λ a. found-added old new added a adds none) tied.found)
          (found-new old new added adds none);
      counted = λ id.
          times-added id old new added adds
          ∙ ap (λ n. cond (added.id == id) 1 0 + n) (tied.counted id)
          ∙ sym (times-added id kept longer added more);
    }

-- an id that is there once at most isn't there without its allocation
alone : (id rest kept : ℕ) {all : ℕ} → kept ≡ cond (id == id) 1 0 + rest → all ≡ kept → all ≤ 1 → rest ≡ 0
alone id rest kept is counted once = grind (arith, nat_tests)

-- how often an id is there after one was left out
left : (id gone kept all rest : ℕ) → kept ≡ cond (gone == id) 1 0 + rest → all ≡ kept → all ≤ 1
    → cond (gone == id) 0 all ≡ rest
left id gone kept all rest is counted once = by_test (gone == id) is
  where
    by_test : (b : Bool) → kept ≡ cond b 1 0 + rest → cond b 0 all ≡ rest
    by_test true is = omega arith
    by_test false is = omega arith

-- what went back is kept no more
pub tied-returned : (kept shorter old new : List Allocation) (gone : Allocation)
    → AreTied kept old → Adds shorter gone kept → ((id : ℕ) → times id (ids_of old) ≤ 1) → new ≡ without_id gone.id old
    → AreTied shorter new
tied-returned kept shorter old new gone tied adds once after =
    let others = Each-times gone.id shorter
    (alone gone.id (times gone.id (ids_of shorter)) (times gone.id (ids_of kept))
    (times-added gone.id shorter kept gone adds) (tied.counted gone.id) (once gone.id)) in
    record {
      found = subst (λ (l : List Allocation). AllByRecursion (IsFound l) shorter) (sym after)
          (Each-weaken _ (IsFound (without_id gone.id old)) shorter
          (λ a known. found-without_id gone.id old a known.0 known.1)
          (Each-both (IsFound old) (λ (a : Allocation). (a.id == gone.id) ≡ false) shorter
          (Each-removed (IsFound old) shorter kept gone adds tied.found) others));
      counted = λ id.
          ap (λ l. times id (ids_of l)) after
          ∙ times-without_id id gone.id old
          ∙ left id gone.id (times id (ids_of kept)) (times id (ids_of old)) (times id (ids_of shorter))
          (times-added id shorter kept gone adds) (tied.counted id) (once id);
    }

-- a fact of each that is allocated is one of each that is kept
pub tied-each : (P : Allocation → Type 0) (kept all : List Allocation) → AreTied kept all → AllByRecursion P all → AllByRecursion P kept
tied-each P kept all tied each =
    Each-weaken (IsFound all) P kept (λ a found. Each-find P (has_id a.id) all a each found) tied.found

-- the ids of what is kept differ
pub tied-ids : (kept all : List Allocation) → AreTied kept all → ((id : ℕ) → times id (ids_of all) ≤ 1)
    → (id : ℕ) → times id (ids_of kept) ≤ 1
tied-ids kept all tied once id = omega (arith, tied.counted id, once id)

-- no allocation has two ids that differ
never_both : (m one two : ℕ) → (two == one) ≡ false → (m == one) ≡ true → (m == two) ≡ true → ⊥
never_both m one two differ first second = grind (arith, nat_tests)

-- two that are found among allocations that lie apart, where no test finds what the other does
apart_here : (s t : Allocation → Bool) (p q : Bool) (one two here : Allocation) (others : List Allocation)
    → (p ≡ true → q ≡ true → ⊥)
    → cond p (Some here) (find s others) ≡ Some one
    → cond q (Some here) (find t others) ≡ Some two
    → AllByRecursion (λ (other : Allocation). SharesNone here.rectangle other.rectangle) others
    → (find s others ≡ Some one → find t others ≡ Some two → SharesNone one.rectangle two.rectangle)
    → SharesNone one.rectangle two.rectangle
apart_here s t true true one two here others never first second apart later = absurd (never refl refl)
apart_here s t true false one two here others never first second apart later =
    let e : here ≡ one = cc in
    subst (λ (a : Allocation). SharesNone a.rectangle two.rectangle) e
    (Each-find (λ (other : Allocation). SharesNone here.rectangle other.rectangle) t others two apart second)
apart_here s t false true one two here others never first second apart later =
    let e : here ≡ two = cc in
    let h = Each-find (λ (other : Allocation). SharesNone here.rectangle other.rectangle) s others one apart first in
    subst (λ (a : Allocation). SharesNone one.rectangle a.rectangle) e (λ x y in_one in_here. h x y in_here in_one)
apart_here s t false false one two here others never first second apart later = later first second

-- two that are found by tests that nothing passes both of lie apart
apart_found : (s t : Allocation → Bool) (one two : Allocation) (all : List Allocation)
    → ((a : Allocation) → s a ≡ true → t a ≡ true → ⊥)
    → AreApart all → find s all ≡ Some one → find t all ≡ Some two → SharesNone one.rectangle two.rectangle
apart_found s t one two [] never apart first second = absurd (cc)
apart_found s t one two (here ∷ others) never apart first second =
    apart_here s t (s here) (t here) one two here others (never here) first second apart.0
    (apart_found s t one two others never apart.1)

-- two that are allocated under ids that differ share no unit square
pub found-apart : (all : List Allocation) (one two : Allocation)
    → AreApart all → IsFound all one → IsFound all two → (two.id == one.id) ≡ false → SharesNone one.rectangle two.rectangle
found-apart all one two apart first second differ =
    apart_found (has_id one.id) (has_id two.id) one two all (λ a. never_both a.id one.id two.id differ) apart first second

-- an id that is there once at most isn't there behind its first place
first_once : (n m : ℕ) → cond (n == n) 1 0 + m ≤ 1 → m ≡ 0
first_once n m once = grind (arith, nat_tests)

-- what is found under ids that differ lies apart
found_all-apart : (all kept : List Allocation)
    → AreApart all → AllByRecursion (IsFound all) kept → ((id : ℕ) → times id (ids_of kept) ≤ 1) → AreApart kept
found_all-apart all [] apart found once = tt
found_all-apart all (one ∷ kept) apart found once = (
  Each-weaken _ (λ (other : Allocation). SharesNone one.rectangle other.rectangle) kept
      (λ a both. found-apart all one a apart found.0 both.0 both.1)
      (Each-both (IsFound all) (λ (a : Allocation). (a.id == one.id) ≡ false) kept found.1
      (Each-times one.id kept (first_once one.id (times one.id (ids_of kept)) (once one.id)))),
  found_all-apart all kept apart found.1 (λ id. omega (arith, once id)),
)

-- any two that are kept share no unit square
pub tied-apart : (kept all : List Allocation) → AreTied kept all → AreApart all
    → ((id : ℕ) → times id (ids_of all) ≤ 1) → AreApart kept
tied-apart kept all tied apart once = found_all-apart all kept apart tied.found (tied-ids kept all tied once)

-- as much is allocated as is kept
pub tied-length : (kept all : List Allocation) → AreTied kept all → length all ≡ length kept
tied-length kept all tied =
    let id_of : Allocation → ℕ = λ a. a.id in
    omega (arith, times-length (ids_of all) (ids_of kept) tied.counted, length-map all id_of, length-map kept id_of)

-- nothing is allocated where nothing is kept
pub tied-empty : (all : List Allocation) → AreTied [] all → all ≡ []
tied-empty [] tied = refl
tied-empty (a ∷ all) tied = absurd (some (a.id == a.id) (times a.id (ids_of all)) (same_id a.id) (tied.counted a.id))
  where
    some : (b : Bool) (k : ℕ) → b ≡ true → cond b 1 0 + k ≡ 0 → ⊥
    some b k is none = grind arith

-- an allocation adds just what it gave to what is allocated
pub allocates-adds : (old : AtlasState) (size : Size) (allocation : Allocation) (new : AtlasState) → IsValid old
    → Allocates old size allocation new → Adds (allocations old) allocation (allocations new)
allocates-adds old size allocation new valid h =
    let after : List Allocation = allocations (taken old h.placement allocation.id) in
    subst (λ (state : AtlasState). Adds (allocations old) allocation (allocations state)) (sym h.after)
    (subst (λ (r : Rectangle). Adds (allocations old) (record { id = allocation.id; rectangle = r }) after) h.rectangle
    (taken-allocations old size h.placement allocation.id valid h.placed))

-- a new atlas of a size and options without a fault keeps the promises
pub promises-new : (size : Size) (options : AllocatorOptions) → IsAccepted longest_side size options
    → side options.alignment.width < 2 ^ 31 → side options.alignment.height < 2 ^ 31
    → KeepsPromises (fresh (atlas_frame size options))
promises-new size options accepted short_width short_height =
    promises (fresh (atlas_frame size options))
    (fresh-valid (atlas_frame size options) (accepted-frame longest_side size options accepted short_width short_height) refl)

-- promises are kept when an id is returned, and when all is
pub promises-returned : (state : AtlasState) (id : ℕ) → IsValid state → KeepsPromises (returned state id)
promises-returned state id valid = promises (returned state id) (returned-valid state id valid)

pub promises-cleared : (state : AtlasState) → IsValid state → KeepsPromises (fresh state.frame)
promises-cleared state valid = promises (fresh state.frame) (fresh-valid state.frame valid.frame valid.columns)

-- a grow without a fault changes nothing that is allocated
pub allocated-grown : (state : AtlasState) (size : Size) → IsValid state → grow_fault state size ≡ None
    → allocations (atlas_grown state size) ≡ allocations state
allocated-grown state size valid fits = grown-allocated state size valid (grow-fits state size fits)

-- it keeps the promises
pub promises-grown : (state : AtlasState) (size : Size) → IsValid state → grow_fault state size ≡ None
    → KeepsPromises (atlas_grown state size)
promises-grown state size valid fits =
    promises (atlas_grown state size) (grown-valid state size valid (grow-fits state size fits))

-- and loses no column
pub columns-grown : (state : AtlasState) (size : Size) → IsValid state → grow_fault state size ≡ None
    → state.frame.columns ≤ (grown_frame state.frame size).columns
columns-grown state size valid fits =
    let grows = frame-grows state.frame size valid.frame (grow-fits state size fits).sizes in
    omega (arith, grows.columns)
