-- What blocks know of the shelves that are left when some were dropped or merged, and how tall those are at most.
use Rattle.std.proofs.Common.{◌≡◌, ℕ, zero, suc, ◌+◌, ◌-◌, ◌<◌, Bool, true, false, Option, None, Some, List, [], ◌∷◌, length, take, drop, cond, refl, ap, subst, sym, arith, ◌∙◌, ◌==◌}
use Rattle.std.specs.Option.{option_map_or}
use Rattle.std.specs.Prelude.{option_map, slice_get, ◌%◌}
use Rattle.etagere_links.specs.Edits.{changed_by}
use Rattle.etagere_links.proofs.RecordChanges.{get-changed_by}
use Rattle.bucketed_model.specs.Merging.{Group}
use Rattle.bucketed_records.specs.declared.records.KeptShelf.{KeptShelf}
use Rattle.bucketed_records.specs.Private.Store.{last_kept}
use Rattle.bucket_index.specs.declared.blocks.Block.{Block}
use Rattle.bucket_index.specs.declared.blocks.Blocks.{Blocks}
use Rattle.bucket_index.specs.declared.heights.Heights.{Heights}
use Rattle.bucket_index.specs.Private.Blocks.{AreCountedWhere, AreInSteps, AreKnown, AreOthersKnown, IsKnown, height_at}
use Rattle.bucket_index.specs.declared.missed.Missed.{Missed}
use Rattle.bucket_index.specs.Private.Heights.{AreBelow, with_height}
use Rattle.bucket_index.specs.Private.Missed.{IsMissed, IsMissedBeside}
use Rattle.bucket_index.proofs.KnownBlocks.{AreSome, carry-counted, known-except, read-changed, some-taken, steps-changed}
use Rattle.bucket_index.proofs.MissedShelves.{missed-beside, missed-changed}
use Rattle.bucket_index.proofs.PassedShelves.{waste-flat}
use Rattle.bucket_index.proofs.TallestShelves.{below-changed, below-kept}
use Rattle.bucketed_store.specs.Private.Placing.{kept_height}
use Rattle.bucketed_store.specs.Private.Returns.{Dropping, end_dropped, last_dropped}
use Rattle.bucketed_store.specs.Private.StoreEdits.{across_of, flattened, group_height, kept_merged, to_height}

-- what is left when shelves at the end were dropped
pub some-dropped : (steps : ℕ) (done : Dropping) → AreSome done.stored.shelves (end_dropped steps done).stored.shelves
some-dropped zero done number kept at = at
some-dropped (suc steps) done number kept at = by_last (λ next. some-dropped steps next) (last_kept done.stored.shelves) at
  where
    rest : Option KeptShelf → Dropping
    rest last = option_map_or (λ (one : KeptShelf). cond (one.live_items == 0) (end_dropped steps (last_dropped one done)) done) last done

    by_test : ((next : Dropping) → AreSome next.stored.shelves (end_dropped steps next).stored.shelves) → (one : KeptShelf) (t : Bool)
        → slice_get (cond t (end_dropped steps (last_dropped one done)) done).stored.shelves number ≡ Some kept → slice_get done.stored.shelves number ≡ Some kept
    by_test later one true h = some-taken (length done.stored.shelves - 1) done.stored.shelves number kept (later (last_dropped one done) number kept h)
    by_test later one false h = h

    by_last : ((next : Dropping) → AreSome next.stored.shelves (end_dropped steps next).stored.shelves) → (last : Option KeptShelf)
        → slice_get (rest last).stored.shelves number ≡ Some kept → slice_get done.stored.shelves number ≡ Some kept
    by_last later None h = h
    by_last later (Some one) h = by_test later one (one.live_items == 0) h

-- where the others are known they are known of some of the shelves
pub others-some : (k : ℕ) (blocks : Blocks) (all shelves : List KeptShelf) → AreSome all shelves → AreOthersKnown k blocks all → AreOthersKnown k blocks shelves
others-some k blocks all shelves some known = record {
  counted = λ counts.
      carry-counted (λ n. n ≡ k → ⊥) (λ n. n ≡ k → ⊥) blocks all shelves (λ number kept other at. record { was = kept; such = other; there = some number kept at; known = λ block is. is })
      (known.counted counts);
  steps = λ in_steps number kept at. known.steps in_steps number kept (some number kept at);
}

-- what is left of shelves in steps is in steps
steps-dropped : (n : ℕ) (shelves : List KeptShelf) → AreInSteps shelves → AreInSteps (drop n shelves)
steps-dropped zero shelves steps = steps
steps-dropped (suc n) [] steps = steps
steps-dropped (suc n) (x ∷ shelves) steps = steps-dropped n shelves (λ number kept at. steps (suc number) kept at)

-- the height of shelves in steps is in steps
steps-height : (shelves : List KeptShelf) → AreInSteps shelves → kept_height shelves % 8 ≡ 0
steps-height [] steps = refl
steps-height (x ∷ shelves) steps = omega (arith, steps 0 x refl, steps-height shelves (λ number kept at. steps (suc number) kept at))

-- merged shelves stay in steps
steps-merged : (group : Group) (shelves : List KeptShelf) → AreInSteps shelves → AreInSteps (kept_merged group shelves)
steps-merged group shelves steps = by_test (group.others == 2)
  where
    height : ℕ
    height = group_height group shelves

    across : ℕ
    across = across_of shelves group.first + height

    risen : List KeptShelf
    risen = changed_by (Some group.first) (to_height height) shelves

    next : List KeptShelf
    next = changed_by (Some (group.first + 1)) (flattened across) risen

    whole : height % 8 ≡ 0
    whole =
        let left = steps-dropped group.first shelves steps in
        steps-height (take (suc group.others) (drop group.first shelves)) (λ number kept at. left number kept (some-taken (suc group.others) (drop group.first shelves) number kept at))

    two : AreInSteps next
    two = steps-changed (group.first + 1) (flattened across) risen (λ x h. refl) (steps-changed group.first (to_height height) shelves (λ x h. whole) steps)

    by_test : (t : Bool) → AreInSteps (cond t (changed_by (Some (group.first + 2)) (flattened across) next) next)
    by_test true = steps-changed (group.first + 2) (flattened across) next (λ x h. refl) two
    by_test false = two

-- how tall a shelf is that changed, but for its height
pub height-kept : (k : ℕ) (change : KeptShelf → KeptShelf) (shelves : List KeptShelf) (before : KeptShelf) → ((x : KeptShelf) → (change x).shelf.height ≡ x.shelf.height) → slice_get shelves k ≡ Some before
    → height_at (changed_by (Some k) change shelves) k ≡ before.shelf.height
height-kept k change shelves before keeps there =
    ap (λ (o : Option KeptShelf). option_map_or (λ (one : KeptShelf). one.shelf.height) o 0) (get-changed_by change shelves (Some k) k refl ∙ ap (option_map change) there) ∙ keeps before

-- a shelf that has no more room than it had, is not idle unless it was, and has no height unless it had
record IsStill (was kept : KeptShelf) : Type 0 where
  pub room : kept.widest_room ≡ was.widest_room
  pub live : kept.live_items ≡ was.live_items
  pub tall : 0 < kept.shelf.height → 0 < was.shelf.height

-- what was known of it is known
still-known : (was kept : KeptShelf) (block : Block) → IsStill was kept → IsKnown was block → IsKnown kept block
still-known was kept block still known = λ tall.
    let is = known (still.tall tall) in
    record { room = omega (arith, is.room, still.room); idle = λ idle. is.idle (ap (λ (n : ℕ). n == 0) (sym still.live) ∙ idle) }

-- what is counted of such shelves stays so where one of them changed so
counted-changed : (IsSuch : ℕ → Type 0) (k : ℕ) (change : KeptShelf → KeptShelf) (blocks : Blocks) (shelves : List KeptShelf) → (IsSuch k → (x : KeptShelf) → slice_get shelves k ≡ Some x → IsStill x (change x))
    → AreCountedWhere IsSuch blocks shelves → AreCountedWhere IsSuch blocks (changed_by (Some k) change shelves)
counted-changed IsSuch k change blocks shelves still counted =
    carry-counted IsSuch IsSuch blocks shelves (changed_by (Some k) change shelves)
    (λ number kept such at. read-changed change shelves k number kept at
    (λ z stood same is. record {
      was = z;
      such = such;
      there = ap (slice_get shelves) same ∙ stood;
      known = λ block known. subst (λ (s : KeptShelf). IsKnown s block) (sym is) (still-known z (change z) block (still (subst IsSuch same such) z stood) known);
    })
    (λ apart stood. record { was = kept; such = such; there = stood; known = λ block known. known })) counted

-- the same where shelves were merged, of which the first had a height
merged-counted : (IsSuch : ℕ → Type 0) (group : Group) (blocks : Blocks) (shelves : List KeptShelf) → (IsSuch group.first → (x : KeptShelf) → slice_get shelves group.first ≡ Some x → 0 < x.shelf.height)
    → AreCountedWhere IsSuch blocks shelves → AreCountedWhere IsSuch blocks (kept_merged group shelves)
merged-counted IsSuch group blocks shelves stood counted = by_test (group.others == 2)
  where
    height : ℕ
    height = group_height group shelves

    across : ℕ
    across = across_of shelves group.first + height

    risen : List KeptShelf
    risen = changed_by (Some group.first) (to_height height) shelves

    next : List KeptShelf
    next = changed_by (Some (group.first + 1)) (flattened across) risen

    flat : (x : KeptShelf) → IsStill x (flattened across x)
    flat x = record { room = refl; live = refl; tall = λ tall. absurd (omega (arith, tall)) }

    two : AreCountedWhere IsSuch blocks next
    two =
        counted-changed IsSuch (group.first + 1) (flattened across) blocks risen (λ such x at. flat x)
        (counted-changed IsSuch group.first (to_height height) blocks shelves (λ such x at. record { room = refl; live = refl; tall = λ tall. stood such x at }) counted)

    by_test : (t : Bool) → AreCountedWhere IsSuch blocks (cond t (changed_by (Some (group.first + 2)) (flattened across) next) next)
    by_test true = counted-changed IsSuch (group.first + 2) (flattened across) blocks next (λ such x at. flat x) two
    by_test false = two

-- merging shelves of which the first has a height changes nothing that is known
pub known-merged : (group : Group) (blocks : Blocks) (shelves : List KeptShelf) → ((x : KeptShelf) → slice_get shelves group.first ≡ Some x → 0 < x.shelf.height) → AreKnown blocks shelves
    → AreKnown blocks (kept_merged group shelves)
known-merged group blocks shelves stood known = record {
  counted = λ counts. merged-counted (λ n. Unit {0}) group blocks shelves (λ such. stood) (known.counted counts);
  steps = λ in_steps. steps-merged group shelves (known.steps in_steps);
}

-- else it changes nothing that is known of the others
pub others-merged : (group : Group) (blocks : Blocks) (shelves : List KeptShelf) → AreKnown blocks shelves → AreOthersKnown group.first blocks (kept_merged group shelves)
others-merged group blocks shelves known = record {
  counted = λ counts. merged-counted (λ n. n ≡ group.first → ⊥) group blocks shelves (λ other. absurd (other refl)) ((known-except group.first blocks shelves known).counted counts);
  steps = λ in_steps. steps-merged group shelves (known.steps in_steps);
}

-- merged shelves are known by the height that the first of them gets
pub below-merged : (group : Group) (heights : Heights) (shelves : List KeptShelf) → AreBelow heights shelves → AreBelow (with_height group.first (group_height group shelves) heights) (kept_merged group shelves)
below-merged group heights shelves below = by_test (group.others == 2)
  where
    height : ℕ
    height = group_height group shelves

    across : ℕ
    across = across_of shelves group.first + height

    known : Heights
    known = with_height group.first height heights

    risen : List KeptShelf
    risen = changed_by (Some group.first) (to_height height) shelves

    next : List KeptShelf
    next = changed_by (Some (group.first + 1)) (flattened across) risen

    two : AreBelow known next
    two = below-kept (group.first + 1) (flattened across) known risen (λ x some. absurd (omega (arith, some))) (below-changed group.first height (to_height height) heights shelves (λ x. refl) below)

    by_test : (t : Bool) → AreBelow known (cond t (changed_by (Some (group.first + 2)) (flattened across) next) next)
    by_test true = below-kept (group.first + 2) (flattened across) known next (λ x some. absurd (omega (arith, some))) two
    by_test false = two

-- no merged shelf but the first has a place for what was missed
pub missed-merged : (group : Group) (missed : Missed) (shelves : List KeptShelf) → IsMissed missed shelves → IsMissedBeside group.first missed (kept_merged group shelves)
missed-merged group missed shelves is = by_test (group.others == 2)
  where
    height : ℕ
    height = group_height group shelves

    across : ℕ
    across = across_of shelves group.first + height

    Beside : List KeptShelf → Type 0
    Beside = IsMissedBeside group.first missed

    flat : (number : ℕ) (others : List KeptShelf) → Beside others → Beside (changed_by (Some number) (flattened across) others)
    flat number others =
        missed-changed (λ n. n ≡ group.first → ⊥) number (flattened across) missed others (λ sides kept some there none. waste-flat missed.adds sides (flattened across kept) some)

    next : List KeptShelf
    next = changed_by (Some (group.first + 1)) (flattened across) (changed_by (Some group.first) (to_height height) shelves)

    two : Beside next
    two = flat (group.first + 1) (changed_by (Some group.first) (to_height height) shelves) (missed-beside group.first (to_height height) missed shelves is)

    by_test : (t : Bool) → Beside (cond t (changed_by (Some (group.first + 2)) (flattened across) next) next)
    by_test true = flat (group.first + 2) next two
    by_test false = two
