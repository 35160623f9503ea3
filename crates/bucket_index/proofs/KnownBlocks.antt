-- What is known of blocks of shelves: after a shelf was added or changed, and of shelves that are passed over.
use Rattle.std.proofs.Common.{◌≡◌, ℕ, zero, suc, ◌+◌, ◌-◌, ◌*◌, ◌<◌, ◌≤◌, Bool, true, false, Option, None, Some, List, [], ◌∷◌, ◌++◌, length, length-append, take, cond, refl, ap, sym, subst, ◌∙◌, arith, ◌==◌}
use Rattle.std.proofs.lemmas.Bool.Decides.{nat_tests}
use Rattle.std.proofs.lemmas.Bool.{and_parts, eqb-true, leb-false}
use Rattle.std.proofs.lemmas.Option.{slice_get_within}
use Rattle.std.specs.Option.{option_map_or}
use Rattle.std.specs.Prelude.{option_map, nat_le, nat_lt, slice_get, ◌%◌, ◌||◌}
use Rattle.etagere_links.specs.Edits.{changed_by}
use Rattle.etagere_links.proofs.RecordChanges.{get-changed_by, get-changed_by-other}
use Rattle.bucketed_records.specs.declared.records.KeptShelf.{KeptShelf}
use Rattle.bucketed_records.specs.Private.Store.{is_kept_idle}
use Rattle.bucket_index.specs.declared.blocks.Block.{Block}
use Rattle.bucket_index.specs.declared.blocks.Blocks.{Blocks}
use Rattle.bucket_index.specs.declared.blocks.Others.{Others}
use Rattle.bucket_index.specs.Private.Blocks.{AreBusy, AreCountedWhere, AreFirstKnown, AreInSteps, AreKnown, AreKnownOf, AreKnownWhere, AreOthers, AreOthersKnown, IsBeside, IsCovered, IsFollowed, IsKnown, IsKnownOf, IsPart, block_of, expecting, height_at, joined, may_be_idle, may_give, raised, with_shelf, with_standing}

-- a shelf is known to a block that was counted with it
pub known-own : (kept : KeptShelf) (block : Block) → IsKnown kept (with_shelf kept block)
known-own kept block = λ tall. record { room = omega arith; idle = λ idle. either block.has_idle (is_kept_idle kept) idle }
  where
    either : (s t : Bool) → t ≡ true → (s || t) ≡ true
    either true t h = refl
    either false t h = h

-- a shelf stays known where another one is counted with it
pub known-still : (kept other : KeptShelf) (block : Block) → IsKnown kept block → IsKnown kept (with_shelf other block)
known-still kept other block known = λ tall. record { room = omega (arith, (known tall).room); idle = λ idle. either block.has_idle (is_kept_idle other) ((known tall).idle idle) }
  where
    either : (s t : Bool) → s ≡ true → (s || t) ≡ true
    either true t h = refl
    either false t h = absurd (cc)

-- the same where it is counted only if it has a height
pub standing-own : (kept : KeptShelf) (block : Block) → IsKnown kept (with_standing kept block)
standing-own kept block = λ tall. by_test (kept.shelf.height == 0) refl tall
  where
    by_test : (t : Bool) → (kept.shelf.height == 0) ≡ t → 0 < kept.shelf.height → IsCovered kept (cond t block (with_shelf kept block))
    by_test true flat tall = absurd (grind arith)
    by_test false flat tall = known-own kept block tall

pub standing-still : (kept other : KeptShelf) (block : Block) → IsKnown kept block → IsKnown kept (with_standing other block)
standing-still kept other block known = by_test (other.shelf.height == 0)
  where
    by_test : (t : Bool) → IsKnown kept (cond t block (with_shelf other block))
    by_test true = known
    by_test false = known-still kept other block known

-- the same element was read twice
pub some-same : {X : Type 0} (o : Option X) (x y : X) → o ≡ Some x → o ≡ Some y → x ≡ y
some-same o x y h k = cc

-- what is read from a list of which one element was changed
pub read-changed : {X P : Type 0} (change : X → X) (xs : List X) (i j : ℕ) (y : X) → slice_get (changed_by (Some i) change xs) j ≡ Some y → ((z : X) → slice_get xs i ≡ Some z → j ≡ i → y ≡ change z → P)
    → ((j ≡ i → ⊥) → slice_get xs j ≡ Some y → P) → P
read-changed {X} {P} change xs i j y read here there = by_number (j == i) refl
  where
    by_old : j ≡ i → (o : Option X) → slice_get xs i ≡ o → option_map change o ≡ Some y → P
    by_old same None e h = absurd (cc)
    by_old same (Some z) e h = here z e same (inner z h)
      where
        inner : (x : X) → Some (change x) ≡ Some y → y ≡ change x
        inner x h = cc

    by_number : (t : Bool) → (j == i) ≡ t → P
    by_number true e =
        let same = eqb-true j i e in
        by_old same (slice_get xs i) refl (sym (get-changed_by change xs (Some i) i refl) ∙ ap (slice_get (changed_by (Some i) change xs)) (sym same) ∙ read)
    by_number false e = there (λ same. apart same e) (sym (get-changed_by-other change xs (Some i) j (λ (h : Some i ≡ Some j). apart (inner h) e)) ∙ read)
      where
        apart : j ≡ i → (j == i) ≡ false → ⊥
        apart same h = grind arith

        inner : Some i ≡ Some j → j ≡ i
        inner h = cc

-- a shelf is known to its block of a size beside others
raise-of : (Before After : ℕ → Type 0) (size k : ℕ) (one : KeptShelf) (blocks : List Block) (shelves : List KeptShelf) → slice_get shelves k ≡ Some one → ((n : ℕ) → After n → (n ≡ k → ⊥) → Before n)
    → AreKnownOf Before size blocks shelves → AreKnownOf After size (changed_by (Some (block_of size k)) (with_shelf one) blocks) shelves
raise-of Before After size k one blocks shelves here before known number kept block after at in_block = by_number (number == k) refl
  where
    by_number : (t : Bool) → (number == k) ≡ t → IsKnown kept block
    by_number true e =
        let same = eqb-true number k e in
        let shelf : one ≡ kept = some-same (slice_get shelves k) one kept here (ap (slice_get shelves) (sym same) ∙ at) in
        read-changed (with_shelf one) blocks (block_of size k) (block_of size number) block in_block
        (λ z stood _ is. subst (IsKnown kept) (sym is) (subst (λ (s : KeptShelf). IsKnown s (with_shelf one z)) shelf (known-own one z)))
        (λ apart stood. absurd (apart (ap (block_of size) same)))
    by_number false e =
        read-changed (with_shelf one) blocks (block_of size k) (block_of size number) block in_block
        (λ z stood same is. subst (IsKnown kept) (sym is) (known-still kept one z (known number kept z (before number after (λ h. apart h e)) at (ap (slice_get blocks) same ∙ stood))))
        (λ _ stood. known number kept block (before number after (λ h. apart h e)) at stood)
      where
        apart : number ≡ k → (number == k) ≡ false → ⊥
        apart same h = grind arith

-- a shelf is known to its blocks beside others
pub raise-known : (Before After : ℕ → Type 0) (k : ℕ) (one : KeptShelf) (blocks : Blocks) (shelves : List KeptShelf) → slice_get shelves k ≡ Some one → ((n : ℕ) → After n → (n ≡ k → ⊥) → Before n)
    → AreKnownWhere Before blocks shelves → AreKnownWhere After (raised k one blocks) shelves
raise-known Before After k one blocks shelves here before known = record {
  small = raise-of Before After 8 k one blocks.small shelves here before known.small;
  middle = raise-of Before After 64 k one blocks.middle shelves here before known.middle;
  large = raise-of Before After 512 k one blocks.large shelves here before known.large;
}

-- a block of a size is known anew
pub set-of : (Before After : ℕ → Type 0) (size k : ℕ) (fresh : Block) (blocks : List Block) (shelves : List KeptShelf) → ((n : ℕ) → After n → (n ≡ k → ⊥) → Before n)
    → ((number : ℕ) (kept : KeptShelf) → block_of size number ≡ block_of size k → block_of size k < length blocks → slice_get shelves number ≡ Some kept → IsKnown kept fresh)
    → AreKnownOf Before size blocks shelves → AreKnownOf After size (changed_by (Some (block_of size k)) (λ _. fresh) blocks) shelves
set-of Before After size k fresh blocks shelves before all others number kept block after at in_block =
    read-changed (λ _. fresh) blocks (block_of size k) (block_of size number) block in_block
    (λ z stood same is. subst (IsKnown kept) (sym is) (all number kept same (slice_get_within blocks (block_of size k) z stood) at))
    (λ apart stood. others number kept block (before number after (λ same. apart (ap (block_of size) same))) at stood)

-- what is known of a shelf by its block is known by a larger one
pub known-part : (kept : KeptShelf) (block whole : Block) → IsKnown kept block → IsPart block whole → IsKnown kept whole
known-part kept block whole known part = λ tall. record { room = omega (arith, (known tall).room, part.room); idle = λ idle. part.idle ((known tall).idle idle) }

-- an element of a list below its length
element-below : {X P : Type 0} (xs : List X) (n : ℕ) → n < length xs → ((x : X) → slice_get xs n ≡ Some x → P) → P
element-below [] n within found = absurd (omega arith)
element-below (x ∷ xs) zero within found = found x refl
element-below (x ∷ xs) (suc n) within found = element-below xs n (omega arith) found

-- what is known of each of some blocks together
abbrev pub AreGathered : ℕ → List Block → Block → Type 0
AreGathered from blocks whole = (number : ℕ) (block : Block) → from ≤ number → number < from + 8 → slice_get blocks number ≡ Some block → IsPart block whole

-- a shelf is known to the middle block that was gathered of its small ones, and to the large one that was of its middle ones
pub gathered-middle : (k : ℕ) (fresh : Block) (small middle : List Block) (shelves : List KeptShelf) → length small ≡ 512 → length middle ≡ 64 → AreKnownOf (λ number. Unit {0}) 8 small shelves
    → AreGathered (block_of 64 k * 8) small fresh → (number : ℕ) (kept : KeptShelf) → block_of 64 number ≡ block_of 64 k → block_of 64 k < length middle → slice_get shelves number ≡ Some kept → IsKnown kept fresh
gathered-middle k fresh small middle shelves long wide known gathered number kept same few at =
    element-below small (block_of 8 number) (omega (arith, same, few, long, wide))
    (λ block stood. known-part kept block fresh (known number kept block tt at stood) (gathered (block_of 8 number) block (omega (arith, same)) (omega (arith, same)) stood))

pub gathered-large : (k : ℕ) (fresh : Block) (middle large : List Block) (shelves : List KeptShelf) → length middle ≡ 64 → length large ≡ 8 → AreKnownOf (λ number. Unit {0}) 64 middle shelves
    → AreGathered (block_of 512 k * 8) middle fresh → (number : ℕ) (kept : KeptShelf) → block_of 512 number ≡ block_of 512 k → block_of 512 k < length large → slice_get shelves number ≡ Some kept → IsKnown kept fresh
gathered-large k fresh middle large shelves long wide known gathered number kept same few at =
    element-below middle (block_of 64 number) (omega (arith, same, few, long, wide))
    (λ block stood. known-part kept block fresh (known number kept block tt at stood) (gathered (block_of 64 number) block (omega (arith, same)) (omega (arith, same)) stood))

-- a block is part of what was gathered with it, and stays so with others
pub part-own : (whole block : Block) → IsPart block (joined whole block)
part-own whole block = record { room = omega arith; idle = λ idle. either whole.has_idle block.has_idle idle }
  where
    either : (s t : Bool) → t ≡ true → (s || t) ≡ true
    either true t h = refl
    either false t h = h

pub part-still : (block whole other : Block) → IsPart block whole → IsPart block (joined whole other)
part-still block whole other part = record { room = omega (arith, part.room); idle = λ idle. either whole.has_idle other.has_idle (part.idle idle) }
  where
    either : (s t : Bool) → s ≡ true → (s || t) ≡ true
    either true t h = refl
    either false t h = absurd (cc)

-- where a block has no room for a width, none of its shelves that has a height has
pub narrow-of : (size width b : ℕ) (blocks : List Block) (shelves : List KeptShelf) → AreKnownOf (λ number. Unit {0}) size blocks shelves → may_give width blocks b ≡ false
    → (k : ℕ) (kept : KeptShelf) → block_of size k ≡ b → slice_get shelves k ≡ Some kept → 0 < kept.shelf.height → kept.widest_room < width
narrow-of size width b blocks shelves known narrow k kept here at tall = by_block (slice_get blocks b) refl narrow
  where
    by_block : (o : Option Block) → slice_get blocks b ≡ o → option_map_or (λ (block : Block). nat_le width block.widest_room) o true ≡ false → kept.widest_room < width
    by_block None e h = absurd (cc)
    by_block (Some block) e h = omega (arith, leb-false width block.widest_room h, (known k kept block tt at (ap (slice_get blocks) here ∙ e) tall).room)

-- where a block has nothing that may be idle, each of its shelves that has a height is busy
pub busy-of : (size b : ℕ) (blocks : List Block) (shelves : List KeptShelf) → AreKnownOf (λ number. Unit {0}) size blocks shelves → may_be_idle blocks b ≡ false
    → (k : ℕ) (kept : KeptShelf) → block_of size k ≡ b → slice_get shelves k ≡ Some kept → 0 < kept.shelf.height → is_kept_idle kept ≡ false
busy-of size b blocks shelves known busy k kept here at tall = by_block (slice_get blocks b) refl busy
  where
    by_block : (o : Option Block) → slice_get blocks b ≡ o → option_map_or (λ (block : Block). block.has_idle) o true ≡ false → is_kept_idle kept ≡ false
    by_block None e h = absurd (cc)
    by_block (Some block) e h = by_test (is_kept_idle kept) refl (known k kept block tt at (ap (slice_get blocks) here ∙ e) tall)
      where
        by_test : (t : Bool) → is_kept_idle kept ≡ t → IsCovered kept block → is_kept_idle kept ≡ false
        by_test true idle is = let both = is.idle idle in absurd (cc)
        by_test false idle is = idle

-- shelves up to one that have a height are busy, and so are those from there on
pub busy-joined : (from at behind : ℕ) (shelves : List KeptShelf) → AreBusy from at shelves → AreBusy at behind shelves → AreBusy from behind shelves
busy-joined from at behind shelves before after number kept low high here = by_number (nat_lt number at) refl
  where
    by_number : (t : Bool) → nat_lt number at ≡ t → 0 < kept.shelf.height → is_kept_idle kept ≡ false
    by_number true e = before number kept low (grind (arith, nat_tests)) here
    by_number false e = after number kept (grind (arith, nat_tests)) high here

-- what is known of a shelf is what was known of the one of its number among others
pub record IsCarried (Before : ℕ → Type 0) (xs : List KeptShelf) (number : ℕ) (kept : KeptShelf) : Type 0 where
  pub was : KeptShelf
  pub such : Before number
  pub there : slice_get xs number ≡ Some was
  pub known : (block : Block) → IsKnown was block → IsKnown kept block

-- what is known of shelves is known of others
carry-known : (Before After : ℕ → Type 0) (blocks : Blocks) (xs ys : List KeptShelf) → ((number : ℕ) (kept : KeptShelf) → After number → slice_get ys number ≡ Some kept → IsCarried Before xs number kept)
    → AreKnownWhere Before blocks xs → AreKnownWhere After blocks ys
carry-known Before After blocks xs ys carried before = record {
  small = of_size 8 blocks.small before.small;
  middle = of_size 64 blocks.middle before.middle;
  large = of_size 512 blocks.large before.large;
}
  where
    of_size : (size : ℕ) (bs : List Block) → AreKnownOf Before size bs xs → AreKnownOf After size bs ys
    of_size size bs known number kept block after at in_block =
        let is = carried number kept after at in
        is.known block (known number is.was block is.such is.there in_block)

-- what is known of the blocks of a shelf by others is known of them by other ones
carry-others : (Before After : ℕ → Type 0) (others : Others) (xs ys : List KeptShelf)
    → ((number : ℕ) (kept : KeptShelf) → After number → slice_get ys number ≡ Some kept → IsCarried Before xs number kept) → AreOthers Before others xs → AreOthers After others ys
carry-others Before After others xs ys carried before some number kept after at =
    let is = carried number kept after at in
    let was = before some number is.was is.such is.there in
    record {
      small = λ other same. is.known others.small (was.small other same);
      middle = λ other same. is.known others.middle (was.middle other same);
      large = λ other same. is.known others.large (was.large other same);
    }

-- what is counted of shelves is counted of others
pub carry-counted : (Before After : ℕ → Type 0) (blocks : Blocks) (xs ys : List KeptShelf)
    → ((number : ℕ) (kept : KeptShelf) → After number → slice_get ys number ≡ Some kept → IsCarried Before xs number kept) → AreCountedWhere Before blocks xs → AreCountedWhere After blocks ys
carry-counted Before After blocks xs ys carried counted = record {
  each = carry-known Before After blocks xs ys carried counted.each;
  others = carry-others Before After blocks.others xs ys carried counted.others;
  own = counted.own;
  nested = counted.nested;
}

-- all that is known of shelves is known of others, whose heights are in steps too
carry-all : (blocks : Blocks) (xs ys : List KeptShelf) → ((number : ℕ) (kept : KeptShelf) → Unit {0} → slice_get ys number ≡ Some kept → IsCarried (λ n. Unit {0}) xs number kept)
    → (AreInSteps xs → AreInSteps ys) → AreKnown blocks xs → AreKnown blocks ys
carry-all blocks xs ys carried stepped known = record {
  counted = λ counts. carry-counted (λ n. Unit {0}) (λ n. Unit {0}) blocks xs ys carried (known.counted counts);
  steps = λ in_steps. stepped (known.steps in_steps);
}

-- each shelf is known where all are of the first so many, of which there are no more
pub all-known : (count : ℕ) (blocks : Blocks) (shelves : List KeptShelf) → length shelves ≤ count → AreFirstKnown count blocks shelves → AreKnownWhere (λ n. Unit {0}) blocks shelves
all-known count blocks shelves all known =
    carry-known (λ n. n < count) (λ n. Unit {0}) blocks shelves shelves
    (λ number kept any at. record { was = kept; such = omega (arith, all, slice_get_within shelves number kept at); there = at; known = λ block is. is }) known

-- where all are known the others than one are
pub known-except : (k : ℕ) (blocks : Blocks) (shelves : List KeptShelf) → AreKnown blocks shelves → AreOthersKnown k blocks shelves
known-except k blocks shelves known = record {
  counted = λ counts.
      carry-counted (λ n. Unit {0}) (λ n. n ≡ k → ⊥) blocks shelves shelves (λ number kept other at. record { was = kept; such = tt; there = at; known = λ block is. is }) (known.counted counts);
  steps = known.steps;
}

-- all are known where the others than one that isn't there are
pub known-past : (k : ℕ) (blocks : Blocks) (shelves : List KeptShelf) → length shelves ≤ k → AreOthersKnown k blocks shelves → AreKnown blocks shelves
known-past k blocks shelves past known = record {
  counted = λ counts.
      carry-counted (λ n. n ≡ k → ⊥) (λ n. Unit {0}) blocks shelves shelves
      (λ number kept any at. record { was = kept; such = λ same. omega (arith, same, past, slice_get_within shelves number kept at); there = at; known = λ block is. is }) (known.counted counts);
  steps = known.steps;
}

-- where one shelf changed, and its height stays a multiple of eight, heights stay in steps
pub steps-changed : (k : ℕ) (change : KeptShelf → KeptShelf) (shelves : List KeptShelf) → ((x : KeptShelf) → x.shelf.height % 8 ≡ 0 → (change x).shelf.height % 8 ≡ 0)
    → AreInSteps shelves → AreInSteps (changed_by (Some k) change shelves)
steps-changed k change shelves keeps steps number kept at =
    read-changed change shelves k number kept at (λ z stood same is. subst (λ (s : KeptShelf). s.shelf.height % 8 ≡ 0) (sym is) (keeps z (steps k z stood))) (λ apart stood. steps number kept stood)

-- where one shelf changed, but for its height, the others are known
pub known-others : (k : ℕ) (change : KeptShelf → KeptShelf) (blocks : Blocks) (shelves : List KeptShelf) → ((x : KeptShelf) → (change x).shelf.height ≡ x.shelf.height)
    → AreKnown blocks shelves → AreOthersKnown k blocks (changed_by (Some k) change shelves)
known-others k change blocks shelves height known = record {
  counted = λ counts. rest (known.counted counts);
  steps = λ in_steps. steps-changed k change shelves (λ x h. ap (λ (n : ℕ). n % 8) (height x) ∙ h) (known.steps in_steps);
}
  where
    inner : (number : ℕ) → Some k ≡ Some number → number ≡ k
    inner number h = cc

    unchanged : (number : ℕ) (kept : KeptShelf) → (number ≡ k → ⊥) → slice_get (changed_by (Some k) change shelves) number ≡ Some kept → IsCarried (λ n. Unit {0}) shelves number kept
    unchanged number kept other at = record {
      was = kept;
      such = tt;
      there = sym (get-changed_by-other change shelves (Some k) number (λ (h : Some k ≡ Some number). other (inner number h))) ∙ at;
      known = λ block is. is;
    }

    rest : AreCountedWhere (λ n. Unit {0}) blocks shelves → AreCountedWhere (λ n. n ≡ k → ⊥) blocks (changed_by (Some k) change shelves)
    rest counted = carry-counted (λ n. Unit {0}) (λ n. n ≡ k → ⊥) blocks shelves (changed_by (Some k) change shelves) unchanged counted

-- an element before the last one
before-last : {X : Type 0} (xs : List X) (x y : X) (n : ℕ) → (n ≡ length xs → ⊥) → slice_get (xs ++ x ∷ []) n ≡ Some y → slice_get xs n ≡ Some y
before-last [] x y zero other at = absurd (other refl)
before-last [] x y (suc n) other at = at
before-last (z ∷ xs) x y zero other at = at
before-last (z ∷ xs) x y (suc n) other at = before-last xs x y n (λ e. other (ap suc e)) at

-- what is known of shelves by their blocks is known whatever height is expected
pub known-expecting : {IsSuch : ℕ → Type 0} (height : ℕ) (blocks : Blocks) (shelves : List KeptShelf) → AreKnownWhere IsSuch blocks shelves → AreKnownWhere IsSuch (expecting height blocks) shelves
known-expecting height blocks shelves known = record { small = known.small; middle = known.middle; large = known.large }

-- an element of a list with one more
of-added : {X P : Type 0} (xs : List X) (x y : X) (n : ℕ) → slice_get (xs ++ x ∷ []) n ≡ Some y → (y ≡ x → P) → (slice_get xs n ≡ Some y → P) → P
of-added [] x y zero at last before = last (cc)
of-added [] x y (suc n) at last before = before at
of-added (z ∷ xs) x y zero at last before = before at
of-added (z ∷ xs) x y (suc n) at last before = of-added xs x y n at last before

-- where a shelf was added whose height was expected the others are known
known-added : (one : KeptShelf) (blocks : Blocks) (shelves : List KeptShelf) → AreKnown blocks shelves
    → AreOthersKnown (length shelves) (expecting one.shelf.height blocks) (shelves ++ one ∷ [])
known-added one blocks shelves known = record {
  counted = λ counts. rest (known.counted counts);
  steps = λ both number kept at.
      let tests = and_parts blocks.in_steps (one.shelf.height % 8 == 0) both in
      of-added shelves one kept number at (λ is. ap (λ (s : KeptShelf). s.shelf.height % 8) is ∙ eqb-true (one.shelf.height % 8) 0 tests.1) (known.steps tests.0 number kept);
}
  where
    stood : (number : ℕ) (kept : KeptShelf) → (number ≡ length shelves → ⊥) → slice_get (shelves ++ one ∷ []) number ≡ Some kept → IsCarried (λ n. Unit {0}) shelves number kept
    stood number kept other at = record { was = kept; such = tt; there = before-last shelves one kept number other at; known = λ block is. is }

    rest : AreCountedWhere (λ n. Unit {0}) blocks shelves → AreCountedWhere (λ n. n ≡ length shelves → ⊥) (expecting one.shelf.height blocks) (shelves ++ one ∷ [])
    rest counted =
        let more = carry-counted (λ n. Unit {0}) (λ n. n ≡ length shelves → ⊥) blocks shelves (shelves ++ one ∷ []) stood counted in
        record {
          each = known-expecting one.shelf.height blocks (shelves ++ one ∷ []) more.each;
          others = more.others;
          own = record { small = more.own.small; middle = more.own.middle; large = more.own.large };
          nested = more.nested;
        }

-- the same by the shelves after a push that went well
pub known-last : (one : KeptShelf) (blocks : Blocks) (shelves all : List KeptShelf) (pushes : Bool) → pushes ≡ true → all ≡ cond pushes (shelves ++ one ∷ []) shelves
    → AreKnown blocks shelves → AreOthersKnown (length all - 1) (expecting one.shelf.height blocks) all
known-last one blocks shelves all pushes well pushed known =
    let added : all ≡ shelves ++ one ∷ [] = pushed ∙ ap (λ (t : Bool). cond t (shelves ++ one ∷ []) shelves) well in
    let last : length all - 1 ≡ length shelves = omega (arith, ap (λ (xs : List KeptShelf). length xs) added, length-append shelves (one ∷ [])) in
    rw last (subst (AreOthersKnown (length shelves) (expecting one.shelf.height blocks)) (sym added) (known-added one blocks shelves known))

-- shelves among which are these
abbrev pub AreSome : List KeptShelf → List KeptShelf → Type 0
AreSome all shelves = (number : ℕ) (kept : KeptShelf) → slice_get shelves number ≡ Some kept → slice_get all number ≡ Some kept

-- the first of some shelves
pub some-taken : (count : ℕ) (shelves : List KeptShelf) → AreSome shelves (take count shelves)
some-taken zero shelves number kept at = absurd (cc)
some-taken (suc count) [] number kept at = at
some-taken (suc count) (x ∷ shelves) zero kept at = at
some-taken (suc count) (x ∷ shelves) (suc number) kept at = some-taken count shelves number kept at

-- a shelf is known to its blocks, and to what is kept of others, where all are known and counted
pub known-at : (k : ℕ) (before : KeptShelf) (blocks : Blocks) (shelves : List KeptShelf) → slice_get shelves k ≡ Some before → AreKnown blocks shelves → blocks.are_counted ≡ true → IsFollowed k before blocks
known-at k before blocks shelves at known counts = own (known.counted counts)
  where
    own : AreCountedWhere (λ n. Unit {0}) blocks shelves → IsFollowed k before blocks
    own counted = record {
      known = record {
        small = λ block stood. counted.each.small k before block tt at stood;
        middle = λ block stood. counted.each.middle k before block tt at stood;
        large = λ block stood. counted.each.large k before block tt at stood;
      };
      beside = λ some. counted.others some k before tt at;
    }

-- how tall a shelf is that was read
pub height-read : (shelves : List KeptShelf) (number : ℕ) (kept : KeptShelf) → slice_get shelves number ≡ Some kept → kept.shelf.height ≡ height_at shelves number
height-read shelves number kept at = sym (ap (λ (o : Option KeptShelf). option_map_or (λ (one : KeptShelf). one.shelf.height) o 0) at)

-- a busy shelf with no more room than it had is known where it was
pub followed-stays : (k : ℕ) (before one : KeptShelf) (blocks : Blocks) → one.shelf.height ≡ before.shelf.height → one.widest_room ≤ before.widest_room → is_kept_idle one ≡ false → IsFollowed k before blocks → IsFollowed k one blocks
followed-stays k before one blocks as_tall narrow busy was = record {
  known = record {
    small = λ block at. stays block (was.known.small block at);
    middle = λ block at. stays block (was.known.middle block at);
    large = λ block at. stays block (was.known.large block at);
  };
  beside = λ some.
      let others = was.beside some in
      record {
        small = λ other same. stays blocks.others.small (others.small other same);
        middle = λ other same. stays blocks.others.middle (others.middle other same);
        large = λ other same. stays blocks.others.large (others.large other same);
      };
}
  where
    stays : (block : Block) → IsKnown before block → IsKnown one block
    stays block known = λ tall. record { room = omega (arith, (known (omega (arith, tall, as_tall))).room, narrow); idle = λ idle. absurd (cc) }

-- all are known where one is and the others are
pub known-with : (k : ℕ) (one : KeptShelf) (blocks : Blocks) (shelves : List KeptShelf) → slice_get shelves k ≡ Some one → IsFollowed k one blocks → AreOthersKnown k blocks shelves → AreKnown blocks shelves
known-with k one blocks shelves here own known = record { counted = λ counts. all (known.counted counts); steps = known.steps }
  where
    by_other : {P : Type 0} (number : ℕ) (kept : KeptShelf) → slice_get shelves number ≡ Some kept → (number ≡ k → one ≡ kept → P) → ((number ≡ k → ⊥) → P) → P
    by_other {P} number kept at is other = by_number (number == k) refl
      where
        apart : number ≡ k → (number == k) ≡ false → ⊥
        apart same h = grind arith

        by_number : (t : Bool) → (number == k) ≡ t → P
        by_number true e =
            let same = eqb-true number k e in
            is same (some-same (slice_get shelves k) one kept here (ap (slice_get shelves) (sym same) ∙ at))
        by_number false e = other (λ same. apart same e)

    of_size : (size : ℕ) (bs : List Block) → IsKnownOf size k one bs → AreKnownOf (λ number. number ≡ k → ⊥) size bs shelves → AreKnownOf (λ number. Unit {0}) size bs shelves
    of_size size bs is rest number kept block any at in_block =
        by_other number kept at (λ same shelf. subst (λ (s : KeptShelf). IsKnown s block) shelf (is block (ap (λ (n : ℕ). slice_get bs (block_of size n)) (sym same) ∙ in_block)))
        (λ other. rest number kept block other at in_block)

    all : AreCountedWhere (λ n. n ≡ k → ⊥) blocks shelves → AreCountedWhere (λ n. Unit {0}) blocks shelves
    all counted = record {
      each = record {
        small = of_size 8 blocks.small own.known.small counted.each.small;
        middle = of_size 64 blocks.middle own.known.middle counted.each.middle;
        large = of_size 512 blocks.large own.known.large counted.each.large;
      };
      others = λ some number kept any at.
          by_other number kept at (λ same shelf. subst (λ (n : ℕ). IsBeside blocks.others n kept) (sym same) (subst (IsBeside blocks.others k) shelf (own.beside some)))
          (λ other. counted.others some number kept other at);
      own = counted.own;
      nested = counted.nested;
    }
