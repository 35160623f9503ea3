-- What is known of blocks is known of the larger ones around them: where a shelf is raised or lowered, where blocks are counted anew, and where they begin.
use Rattle.std.proofs.Common.{◌≡◌, ℕ, zero, suc, ◌+◌, ◌*◌, ◌/◌, ◌%◌, ◌<◌, ◌≤◌, Bool, true, false, Some, List, [], ◌∷◌, length, replicate, cond, ap, arith, ◌==◌, ◌∙◌, refl, subst, sym}
use Rattle.std.proofs.lemmas.Bool.{eqb-false, eqb-true}
use Rattle.std.proofs.lemmas.Option.{slice_get-get_or, slice_get_within}
use Rattle.std.specs.Prelude.{max, nat_lt, slice_get, ◌||◌}
use Rattle.etagere_links.specs.Edits.{changed_by}
use Rattle.bucketed_records.specs.declared.records.KeptShelf.{KeptShelf}
use Rattle.bucketed_records.specs.Private.Store.{is_kept_idle}
use Rattle.bucket_index.specs.declared.blocks.Block.{Block}
use Rattle.bucket_index.specs.declared.blocks.Blocks.{Blocks}
use Rattle.bucket_index.specs.declared.blocks.Others.{Others}
use Rattle.bucket_index.specs.Private.Blocks.{AreCountedWhere, AreKnownIf, AreKnownOf, AreNested, AreNestedIn, AreOthersNested, AreParts, ArePartsBeside, IsCovered, IsKnown, IsKnownAt, IsOwnOf, IsPart, KnowsIdle, begun, block_at, block_of, kept_others, lowered, no_others, no_shelves, raised, remembered, remembered_others, with_own, with_shelf}
use Rattle.bucket_index.proofs.KnownBlocks.{AreGathered, known-part, read-changed}

-- each block knows nothing
pub part-none : (block : Block) → IsPart no_shelves block
part-none block = record { room = omega arith; idle = λ h. absurd (cc) }

-- what is known of a block is known of it
part-same : (block : Block) → IsPart block block
part-same block = record { room = omega arith; idle = λ h. h }

-- what is known of two blocks, where the same shelf is counted with both, or with the larger one
joins : (s t i : Bool) → (s ≡ true → t ≡ true) → (s || i) ≡ true → (t || i) ≡ true
joins true t i h e = ap (λ (b : Bool). b || i) (h refl)
joins false true i h e = refl
joins false false i h e = e

part-with : (one : KeptShelf) (block whole : Block) → IsPart block whole → IsPart (with_shelf one block) (with_shelf one whole)
part-with one block whole part = record { room = omega (arith, part.room); idle = joins block.has_idle whole.has_idle (is_kept_idle one) part.idle }

pub part-more : (one : KeptShelf) (block whole : Block) → IsPart block whole → IsPart block (with_shelf one whole)
part-more one block whole part = record { room = omega (arith, part.room); idle = λ idle. ap (λ (b : Bool). b || is_kept_idle one) (part.idle idle) }

-- the block of a number where one was changed
block-here : (change : Block → Block) (blocks : List Block) (k : ℕ) → k < length blocks → block_at (changed_by (Some k) change blocks) k ≡ change (block_at blocks k)
block-here change [] k within = absurd (omega (arith, within))
block-here change (x ∷ xs) zero within = refl
block-here change (x ∷ xs) (suc k) within = block-here change xs k (omega (arith, within))

block-other : (change : Block → Block) (blocks : List Block) (k n : ℕ) → (n ≡ k → ⊥) → block_at (changed_by (Some k) change blocks) n ≡ block_at blocks n
block-other change [] k n other = refl
block-other change (x ∷ xs) zero zero other = absurd (other refl)
block-other change (x ∷ xs) zero (suc n) other = refl
block-other change (x ∷ xs) (suc k) zero other = refl
block-other change (x ∷ xs) (suc k) (suc n) other = block-other change xs k n (λ same. other (ap suc same))

-- nothing is known of a block that isn't there, changed or not
block-past : (blocks : List Block) (n : ℕ) → length blocks ≤ n → block_at blocks n ≡ no_shelves
block-past [] n past = refl
block-past (x ∷ xs) zero past = absurd (omega (arith, past))
block-past (x ∷ xs) (suc n) past = block-past xs n (omega (arith, past))

changed-past : (change : Block → Block) (blocks : List Block) (k : ℕ) → length blocks ≤ k → block_at (changed_by (Some k) change blocks) k ≡ no_shelves
changed-past change [] k past = refl
changed-past change (x ∷ xs) zero past = absurd (omega (arith, past))
changed-past change (x ∷ xs) (suc k) past = changed-past change xs k (omega (arith, past))

-- one of two, as a test of numbers says
by-number : {P : Type 0} (m n : ℕ) → (m ≡ n → P) → ((m ≡ n → ⊥) → P) → P
by-number {P} m n same other = by_test (m == n) refl
  where
    by_test : (t : Bool) → (m == n) ≡ t → P
    by_test true e = same (eqb-true m n e)
    by_test false e = other (eqb-false m n e)

by-less : {P : Type 0} (m n : ℕ) → (m < n → P) → (n ≤ m → P) → P
by-less {P} m n less more = by_test (nat_lt m n) refl
  where
    by_test : (t : Bool) → (nat_lt m n) ≡ t → P
    by_test true e = less (grind (arith, e))
    by_test false e = more (grind (arith, e))

-- blocks are known of larger ones where one of both is changed, and what is known of it and of those beside it is known of that
set-parts : (shelves size k : ℕ) (f g : Block → Block) (bs ws : List Block) → length bs ≡ length ws * 8
    → ((n : ℕ) → n * size < shelves → (n ≡ k → ⊥) → (n / 8 ≡ k / 8 → ⊥) → IsPart (block_at bs n) (block_at ws (n / 8)))
    → (k * size < shelves → IsPart (f (block_at bs k)) (g (block_at ws (k / 8))))
    → ((n : ℕ) → n * size < shelves → (n ≡ k → ⊥) → n / 8 ≡ k / 8 → IsPart (block_at bs n) (g (block_at ws (k / 8))))
    → AreParts shelves size (changed_by (Some k) f bs) (changed_by (Some (k / 8)) g ws)
set-parts shelves size k f g bs ws long far own beside n below =
    by-number n k
    (λ same.
    by-less k (length bs)
    (λ within. rw (same, block-here f bs k within, block-here g ws (k / 8) (omega (arith, within, long))) (own (subst (λ (m : ℕ). m * size < shelves) same below)))
    (λ past. rw (same, changed-past f bs k past) (part-none (block_at (changed_by (Some (k / 8)) g ws) (k / 8)))))
    (λ other.
    by-number (n / 8) (k / 8)
    (λ around.
    by-less n (length bs)
    (λ within. rw (block-other f bs k n other, around, block-here g ws (k / 8) (omega (arith, within, long, around))) (beside n below other around))
    (λ past. rw (block-other f bs k n other, block-past bs n past) (part-none (block_at (changed_by (Some (k / 8)) g ws) (n / 8)))))
    (λ apart. rw (block-other f bs k n other, block-other g ws (k / 8) (n / 8) apart) (far n below other apart)))

-- the block of this size around a smaller one
around-small : (k : ℕ) → block_of 8 k / 8 ≡ block_of 64 k
around-small k = omega arith

around-middle : (k : ℕ) → block_of 64 k / 8 ≡ block_of 512 k
around-middle k = omega arith

-- blocks are known of larger ones where a shelf is counted with one of both
raise-parts : (shelves size k : ℕ) (one : KeptShelf) (bs ws : List Block) → length bs ≡ length ws * 8 → AreParts shelves size bs ws
    → AreParts shelves size (changed_by (Some k) (with_shelf one) bs) (changed_by (Some (k / 8)) (with_shelf one) ws)
raise-parts shelves size k one bs ws long parts =
    set-parts shelves size k (with_shelf one) (with_shelf one) bs ws long (λ n below other apart. parts n below) (λ below. part-with one (block_at bs k) (block_at ws (k / 8)) (parts k below))
    (λ n below other around. part-more one (block_at bs n) (block_at ws (k / 8)) (subst (λ (m : ℕ). IsPart (block_at bs n) (block_at ws m)) around (parts n below)))

-- what is known beside a block is known where that one is changed
beside-changed : (shelves size k : ℕ) (change : Block → Block) (bs : List Block) (whole : Block) → ArePartsBeside shelves size k bs whole → ArePartsBeside shelves size k (changed_by (Some k) change bs) whole
beside-changed shelves size k change bs whole beside n below other around = rw (block-other change bs k n other) (beside n below other around)

-- blocks stay nested where a shelf is raised, which is the one of which others are kept, if any are
pub nested-raised : (k : ℕ) (one : KeptShelf) (blocks : Blocks) → length blocks.small ≡ 512 → length blocks.middle ≡ 64 → length blocks.large ≡ 8
    → (blocks.others.number < 4096 → blocks.others.number ≡ k) → AreNestedIn blocks → AreNestedIn (raised k one blocks)
nested-raised k one blocks long wide few same nested = record {
  small =
      subst (λ (m : ℕ). AreParts blocks.nested 8 (changed_by (Some (block_of 8 k)) (with_shelf one) blocks.small) (changed_by (Some m) (with_shelf one) blocks.middle)) (around-small k)
      (raise-parts blocks.nested 8 (block_of 8 k) one blocks.small blocks.middle (omega (arith, long, wide)) nested.small);
  middle =
      subst (λ (m : ℕ). AreParts blocks.nested 64 (changed_by (Some (block_of 64 k)) (with_shelf one) blocks.middle) (changed_by (Some m) (with_shelf one) blocks.large)) (around-middle k)
      (raise-parts blocks.nested 64 (block_of 64 k) one blocks.middle blocks.large (omega (arith, wide, few)) nested.middle);
  others = λ some.
      let was = nested.others some in
      record {
        within = was.within;
        small = was.small;
        middle = was.middle;
        beside_small = rw (← same some) (beside-changed blocks.nested 8 (block_of 8 blocks.others.number) (with_shelf one) blocks.small blocks.others.middle was.beside_small);
        beside_middle = rw (← same some) (beside-changed blocks.nested 64 (block_of 64 blocks.others.number) (with_shelf one) blocks.middle blocks.others.large was.beside_middle);
      };
  few = nested.few;
  whole = nested.whole;
}

-- the same where others than those before are kept: the blocks of a shelf as they stand
nested-captured : (k : ℕ) (blocks : Blocks) (others : Others) → k < blocks.nested → others.number ≡ k → others.small ≡ block_at blocks.small (block_of 8 k)
    → others.middle ≡ block_at blocks.middle (block_of 64 k) → others.large ≡ block_at blocks.large (block_of 512 k) → AreNestedIn blocks
    → AreNested blocks.nested blocks.small blocks.middle blocks.large others
nested-captured k blocks others within number small middle large nested = record {
  small = nested.small;
  middle = nested.middle;
  others = λ _. record {
    within = rw number within;
    small = rw (small, middle) (subst (λ (m : ℕ). IsPart (block_at blocks.small (block_of 8 k)) (block_at blocks.middle m)) (around-small k) (nested.small (block_of 8 k) (omega (arith, within))));
    middle = rw (middle, large) (subst (λ (m : ℕ). IsPart (block_at blocks.middle (block_of 64 k)) (block_at blocks.large m)) (around-middle k) (nested.middle (block_of 64 k) (omega (arith, within))));
    beside_small = rw (number, middle) (λ n below other around. subst (λ (m : ℕ). IsPart (block_at blocks.small n) (block_at blocks.middle m)) (around ∙ around-small k) (nested.small n below));
    beside_middle = rw (number, large) (λ n below other around. subst (λ (m : ℕ). IsPart (block_at blocks.middle n) (block_at blocks.large m)) (around ∙ around-middle k) (nested.middle n below));
  };
  few = nested.few;
  whole = nested.whole;
}

pub nested-remembered : (k room : ℕ) (blocks : Blocks) → k < blocks.nested → AreNestedIn blocks → AreNestedIn (remembered k room blocks)
nested-remembered k room blocks within nested = by_test (k == blocks.others.number)
  where
    by_test : (t : Bool) → AreNested blocks.nested blocks.small blocks.middle blocks.large (cond t blocks.others (remembered_others k room blocks))
    by_test true = nested
    by_test false = nested-captured k blocks (remembered_others k room blocks) within refl refl refl refl nested

pub nested-kept : (k room : ℕ) (blocks : Blocks) → k < blocks.nested → AreNestedIn blocks → AreNestedIn (kept_others k room blocks)
nested-kept k room blocks within nested = nested-captured k blocks (kept_others k room blocks).others within refl refl refl refl nested

-- the same where something else is kept of the shelf itself
pub nested-own : (one : KeptShelf) (blocks : Blocks) → AreNestedIn blocks → AreNestedIn (with_own one blocks)
nested-own one blocks nested = record {
  small = nested.small;
  middle = nested.middle;
  others = λ some.
      let was = nested.others some in
      record { within = was.within; small = was.small; middle = was.middle; beside_small = was.beside_small; beside_middle = was.beside_middle };
  few = nested.few;
  whole = nested.whole;
}

-- the same where the blocks of a shelf are known by the others and it
pub nested-lowered : (k : ℕ) (one : KeptShelf) (blocks : Blocks) → length blocks.small ≡ 512 → length blocks.middle ≡ 64 → length blocks.large ≡ 8 → blocks.others.number ≡ k → k < 4096
    → AreNestedIn blocks → AreNestedIn (lowered k one blocks)
nested-lowered k one blocks long wide few number some nested = record {
  small =
      subst
      (λ (m : ℕ).
      AreParts blocks.nested 8 (changed_by (Some (block_of 8 k)) (λ _. with_shelf one blocks.others.small) blocks.small) (changed_by (Some m) (λ _. with_shelf one blocks.others.middle) blocks.middle))
      (around-small k)
      (set-parts blocks.nested 8 (block_of 8 k) (λ _. with_shelf one blocks.others.small) (λ _. with_shelf one blocks.others.middle) blocks.small blocks.middle (omega (arith, long, wide))
      (λ n below other apart. nested.small n below) (λ below. part-with one blocks.others.small blocks.others.middle was.small)
      (λ n below other around. part-more one (block_at blocks.small n) blocks.others.middle (was.beside_small n below (rw number other) (rw number around))));
  middle =
      subst
      (λ (m : ℕ).
      AreParts blocks.nested 64 (changed_by (Some (block_of 64 k)) (λ _. with_shelf one blocks.others.middle) blocks.middle) (changed_by (Some m) (λ _. with_shelf one blocks.others.large) blocks.large))
      (around-middle k)
      (set-parts blocks.nested 64 (block_of 64 k) (λ _. with_shelf one blocks.others.middle) (λ _. with_shelf one blocks.others.large) blocks.middle blocks.large (omega (arith, wide, few))
      (λ n below other apart. nested.middle n below) (λ below. part-with one blocks.others.middle blocks.others.large was.middle)
      (λ n below other around. part-more one (block_at blocks.middle n) blocks.others.large (was.beside_middle n below (rw number other) (rw number around))));
  others = λ _. record {
    within = was.within;
    small = was.small;
    middle = was.middle;
    beside_small =
        rw (← number) (beside-changed blocks.nested 8 (block_of 8 blocks.others.number) (λ _. with_shelf one blocks.others.small) blocks.small blocks.others.middle was.beside_small);
    beside_middle =
        rw (← number) (beside-changed blocks.nested 64 (block_of 64 blocks.others.number) (λ _. with_shelf one blocks.others.middle) blocks.middle blocks.others.large was.beside_middle);
  };
  few = nested.few;
  whole = nested.whole;
}
  where
    was : AreOthersNested blocks.nested blocks.small blocks.middle blocks.others
    was = nested.others (rw number some)

-- what is known of blocks is known of the one around them that was gathered of them
gather-parts : (shelves size k : ℕ) (fresh : Block) (bs ws : List Block) → length bs ≡ length ws * 8
    → ((n : ℕ) (block : Block) → k * 8 ≤ n → n < k * 8 + 8 → slice_get bs n ≡ Some block → IsPart block fresh)
    → ((n : ℕ) → n * size < shelves → (n / 8 ≡ k → ⊥) → IsPart (block_at bs n) (block_at ws (n / 8))) → AreParts shelves size bs (changed_by (Some k) (λ _. fresh) ws)
gather-parts shelves size k fresh bs ws long gathered far n below =
    by-number (n / 8) k
    (λ around.
    by-less n (length bs)
    (λ within.
    rw (around, block-here (λ _. fresh) ws k (omega (arith, within, long, around)))
    (gathered n (block_at bs n) (omega (arith, around)) (omega (arith, around)) (slice_get-get_or bs n no_shelves within)))
    (λ past. rw (block-past bs n past) (part-none (block_at (changed_by (Some k) (λ _. fresh) ws) (n / 8)))))
    (λ apart. rw (block-other (λ _. fresh) ws k (n / 8) apart) (far n below apart))

-- blocks are nested where those of a shelf are counted, and the larger ones gathered
pub nested-gathered : (shelves k : ℕ) (fresh fresh_middle fresh_large : Block) (small middle large : List Block) (others : Others) → length small ≡ 512 → length middle ≡ 64 → length large ≡ 8
    → (others.number < 4096 → ⊥)
    → ((n : ℕ) (block : Block) → block_of 64 k * 8 ≤ n → n < block_of 64 k * 8 + 8 → slice_get (changed_by (Some (block_of 8 k)) (λ _. fresh) small) n ≡ Some block → IsPart block fresh_middle)
    → ((n : ℕ) (block : Block) → block_of 512 k * 8 ≤ n → n < block_of 512 k * 8 + 8 → slice_get (changed_by (Some (block_of 64 k)) (λ _. fresh_middle) middle) n ≡ Some block → IsPart block fresh_large)
    → {before : Others} → length (changed_by (Some (block_of 8 k)) (λ _. fresh) small) ≡ 512 → length (changed_by (Some (block_of 64 k)) (λ _. fresh_middle) middle) ≡ 64
    → AreNested shelves small middle large before
    → AreNested shelves (changed_by (Some (block_of 8 k)) (λ _. fresh) small) (changed_by (Some (block_of 64 k)) (λ _. fresh_middle) middle) (changed_by (Some (block_of 512 k)) (λ _. fresh_large) large) others
nested-gathered shelves k fresh fresh_middle fresh_large small middle large others long wide few none in_middle in_large {before} long_ wide_ nested = record {
  small =
      gather-parts shelves 8 (block_of 64 k) fresh_middle (changed_by (Some (block_of 8 k)) (λ _. fresh) small) middle (omega (arith, long_, wide)) in_middle
      (λ n below apart. rw (block-other (λ _. fresh) small (block_of 8 k) n (λ same. apart (ap (λ (m : ℕ). m / 8) same ∙ around-small k))) (nested.small n below));
  middle =
      gather-parts shelves 64 (block_of 512 k) fresh_large (changed_by (Some (block_of 64 k)) (λ _. fresh_middle) middle) large (omega (arith, wide_, few)) in_large
      (λ n below apart. rw (block-other (λ _. fresh_middle) middle (block_of 64 k) n (λ same. apart (ap (λ (m : ℕ). m / 8) same ∙ around-middle k))) (nested.middle n below));
  others = λ some. absurd (none some);
  few = nested.few;
  whole = nested.whole;
}

-- nothing is known of blocks of which nothing is known
pub block-new : (count n : ℕ) → block_at (replicate count no_shelves) n ≡ no_shelves
block-new zero n = refl
block-new (suc count) zero = refl
block-new (suc count) (suc n) = block-new count n

pub parts-new : (few many n m : ℕ) → IsPart (block_at (replicate many no_shelves) n) (block_at (replicate few no_shelves) m)
parts-new few many n m = rw (block-new many n) (part-none (block_at (replicate few no_shelves) m))

-- blocks stay nested where nothing is kept of others
pub nested-none : (shelves : ℕ) (small middle large : List Block) (others : Others) → AreNested shelves small middle large others → AreNested shelves small middle large no_others
nested-none shelves small middle large others nested = record {
  small = nested.small;
  middle = nested.middle;
  others = λ some. absurd (omega (arith, some));
  few = nested.few;
  whole = nested.whole;
}

-- a block that was read
block-read : (blocks : List Block) (n : ℕ) (block : Block) → slice_get blocks n ≡ Some block → block_at blocks n ≡ block
block-read [] n block at = absurd (cc)
block-read (x ∷ xs) zero block at = cc
block-read (x ∷ xs) (suc n) block at = block-read xs n block at

-- what is known of a small block that is nested is known of the larger ones
pub in-middle : (k : ℕ) (blocks : Blocks) → k < blocks.nested → AreNestedIn blocks → IsPart (block_at blocks.small (block_of 8 k)) (block_at blocks.middle (block_of 64 k))
in-middle k blocks within nested =
    subst (λ (m : ℕ). IsPart (block_at blocks.small (block_of 8 k)) (block_at blocks.middle m)) (around-small k) (nested.small (block_of 8 k) (omega (arith, within)))

in-large : (k : ℕ) (blocks : Blocks) → k < blocks.nested → AreNestedIn blocks → IsPart (block_at blocks.middle (block_of 64 k)) (block_at blocks.large (block_of 512 k))
in-large k blocks within nested =
    subst (λ (m : ℕ). IsPart (block_at blocks.middle (block_of 64 k)) (block_at blocks.large m)) (around-middle k) (nested.middle (block_of 64 k) (omega (arith, within)))

part-of : (one two three : Block) → IsPart one two → IsPart two three → IsPart one three
part-of one two three first then = record { room = omega (arith, first.room, then.room); idle = λ h. then.idle (first.idle h) }

-- a shelf that is known to its small block is known to all, where they are nested
pub known-nested : (k : ℕ) (one : KeptShelf) (blocks : Blocks) → k < blocks.nested → AreNestedIn blocks → IsKnown one (block_at blocks.small (block_of 8 k)) → IsKnownAt k one blocks
known-nested k one blocks within nested known = record {
  small = λ block at. subst (IsKnown one) (block-read blocks.small (block_of 8 k) block at) known;
  middle = λ block at. subst (IsKnown one) (block-read blocks.middle (block_of 64 k) block at) (known-part one small middle known (in-middle k blocks within nested));
  large = λ block at.
      subst (IsKnown one) (block-read blocks.large (block_of 512 k) block at)
      (known-part one small large known (part-of small middle large (in-middle k blocks within nested) (in-large k blocks within nested)));
}
  where
    small : Block
    small = block_at blocks.small (block_of 8 k)

    middle : Block
    middle = block_at blocks.middle (block_of 64 k)

    large : Block
    large = block_at blocks.large (block_of 512 k)

-- the blocks of a shelf know what is known of its small one, where they are nested
pub own-nested : (k : ℕ) (blocks : Blocks) → k < blocks.nested → AreNestedIn blocks
    → IsOwnOf 8 k (block_at blocks.small (block_of 8 k)) blocks.small × IsOwnOf 64 k (block_at blocks.small (block_of 8 k)) blocks.middle × IsOwnOf 512 k (block_at blocks.small (block_of 8 k)) blocks.large
own-nested k blocks within nested = (
  λ block at. subst (IsPart small) (block-read blocks.small (block_of 8 k) block at) (part-same small),
  λ block at. subst (IsPart small) (block-read blocks.middle (block_of 64 k) block at) (in-middle k blocks within nested),
  λ block at. subst (IsPart small) (block-read blocks.large (block_of 512 k) block at) (part-of small middle large (in-middle k blocks within nested) (in-large k blocks within nested)),
)
  where
    small : Block
    small = block_at blocks.small (block_of 8 k)

    middle : Block
    middle = block_at blocks.middle (block_of 64 k)

    large : Block
    large = block_at blocks.large (block_of 512 k)

-- a block that knows a shelf is as it was where that is counted with it
covered-same : (one : KeptShelf) (block : Block) → IsCovered one block → with_shelf one block ≡ block
covered-same one block known =
    subst (λ (room : ℕ). record { widest_room = room; has_idle = block.has_idle || is_kept_idle one } ≡ block) (sym wide)
    (ap (λ (idle : Bool). record { widest_room = block.widest_room; has_idle = idle }) (either block.has_idle (is_kept_idle one) known.idle))
  where
    wide : max block.widest_room one.widest_room ≡ block.widest_room
    wide = omega (arith, known.room)

    either : (s t : Bool) → (t ≡ true → s ≡ true) → (s || t) ≡ s
    either true t h = refl
    either false true h = sym (h refl)
    either false false h = refl

-- blocks are as they were where the change of one is none
changed-same : (change : Block → Block) (blocks : List Block) (k : ℕ) → change (block_at blocks k) ≡ block_at blocks k → changed_by (Some k) change blocks ≡ blocks
changed-same change [] k same = refl
changed-same change (x ∷ xs) zero same = ap (λ (block : Block). block ∷ xs) same
changed-same change (x ∷ xs) (suc k) same = ap (λ (blocks : List Block). x ∷ blocks) (changed-same change xs k same)

-- a shelf is raised once it is counted with its small block, where that is nested and the middle one knows it
pub raised-small : (k : ℕ) (one : KeptShelf) (blocks : Blocks) → k < blocks.nested → AreNestedIn blocks → IsCovered one (block_at blocks.middle (block_of 64 k))
    → record blocks { small = changed_by (Some (block_of 8 k)) (with_shelf one) blocks.small } ≡ raised k one blocks
raised-small k one blocks within nested known =
    rw (
      changed-same (with_shelf one) blocks.middle (block_of 64 k) (covered-same one (block_at blocks.middle (block_of 64 k)) known),
      changed-same (with_shelf one) blocks.large (block_of 512 k) (covered-same one (block_at blocks.large (block_of 512 k)) in_large),
    ) refl
  where
    in_large : IsCovered one (block_at blocks.large (block_of 512 k))
    in_large =
        let part = in-large k blocks within nested in
        record { room = omega (arith, known.room, part.room); idle = λ idle. part.idle (known.idle idle) }

-- a shelf with nothing live is known to a small block that knows as much
pub known-idle : (k room : ℕ) (one : KeptShelf) (blocks : Blocks) → one.widest_room ≡ room → KnowsIdle k room blocks → IsKnown one (block_at blocks.small (block_of 8 k))
known-idle k room one blocks same knows = λ tall. record { room = omega (arith, same, knows.room); idle = λ idle. knows.idle }

-- these are known whatever was kept of others
pub known-without : (IsSuch : ℕ → Type 0) (blocks : Blocks) (shelves : List KeptShelf) → length blocks.small ≡ 512 → length blocks.middle ≡ 64 → length blocks.large ≡ 8 → AreKnownIf IsSuch blocks shelves
    → AreKnownIf IsSuch (record blocks { others = record blocks.others { number = 4096 } }) shelves
known-without IsSuch blocks shelves long wide few known = record { counted = λ counts. all (known.counted counts); steps = known.steps }
  where
    all : AreCountedWhere IsSuch blocks shelves → AreCountedWhere IsSuch (record blocks { others = record blocks.others { number = 4096 } }) shelves
    all counted = record {
      each = record { small = counted.each.small; middle = counted.each.middle; large = counted.each.large };
      others = λ some. absurd (omega (arith, some));
      own = record {
        small = λ block at. absurd (omega (arith, long, slice_get_within blocks.small 512 block at));
        middle = λ block at. absurd (omega (arith, wide, slice_get_within blocks.middle 64 block at));
        large = λ block at. absurd (omega (arith, few, slice_get_within blocks.large 8 block at));
      };
      nested = record {
        small = counted.nested.small;
        middle = counted.nested.middle;
        others = λ some. absurd (omega (arith, some));
        few = counted.nested.few;
        whole = counted.nested.whole;
      };
    }

-- nothing is known of a block of which nothing is to be known any more
changed-none : (blocks : List Block) (k : ℕ) → block_at (changed_by (Some k) (λ _. no_shelves) blocks) k ≡ no_shelves
changed-none blocks k = by-less k (length blocks) (block-here (λ _. no_shelves) blocks k) (changed-past (λ _. no_shelves) blocks k)

-- all shelves before the last are known where the blocks begin that begin with that
pub known-begun : (last : ℕ) (blocks : Blocks) (shelves : List KeptShelf) → length shelves ≡ last + 1 → last ≡ blocks.nested → last < 4096 → AreCountedWhere (λ n. n ≡ last → ⊥) blocks shelves
    → AreCountedWhere (λ n. n ≡ last → ⊥) (begun last blocks) shelves
known-begun last blocks shelves count is within counted = record {
  each = record {
    small = λ number kept block other at in_block.
        read-changed (λ _. no_shelves) blocks.small (block_of 8 last) (block_of 8 number) block in_block
        (λ z stood same _. absurd (omega (arith, same, other, slice_get_within shelves number kept at, count, begins))) (λ apart stood. counted.each.small number kept block other at stood);
    middle = by_test (last % 64 == 0) refl;
    large = counted.each.large;
  };
  others = λ some. absurd (omega (arith, some));
  own = record { small = λ block at. part-none block; middle = λ block at. part-none block; large = λ block at. part-none block };
  nested = record {
    small = λ n below.
        by-number n (block_of 8 last) (λ same. rw (same, changed-none blocks.small (block_of 8 last)) (part-none _))
        (λ other. rw (block-other (λ _. no_shelves) blocks.small (block_of 8 last) n other) (around n below other (last % 64 == 0) refl));
    middle = λ n below. beside n below (last % 64 == 0) refl;
    others = λ some. absurd (omega (arith, some));
    few = omega (arith, within, begins);
    whole = omega (arith, begins);
  };
}
  where
    begins : last % 8 ≡ 0
    begins = ap (λ (n : ℕ). n % 8) is ∙ counted.nested.whole

    middle_of : Bool → List Block
    middle_of t = cond t (changed_by (Some (block_of 64 last)) (λ _. no_shelves) blocks.middle) blocks.middle

    by_test : (t : Bool) → (last % 64 == 0) ≡ t → AreKnownOf (λ n. n ≡ last → ⊥) 64 (middle_of t) shelves
    by_test true e number kept block other at in_block =
        read-changed (λ _. no_shelves) blocks.middle (block_of 64 last) (block_of 64 number) block in_block
        (λ z stood same _. absurd (omega (arith, same, other, slice_get_within shelves number kept at, count, eqb-true (last % 64) 0 e)))
        (λ apart stood. counted.each.middle number kept block other at stood)
    by_test false e number kept block other at in_block = counted.each.middle number kept block other at in_block

    around : (n : ℕ) → n * 8 < last + 8 → (n ≡ block_of 8 last → ⊥) → (t : Bool) → (last % 64 == 0) ≡ t → IsPart (block_at blocks.small n) (block_at (middle_of t) (n / 8))
    around n below other true e =
        rw (block-other (λ _. no_shelves) blocks.middle (block_of 64 last) (n / 8) (λ same. absurd (omega (arith, same, below, other, eqb-true (last % 64) 0 e))))
        (counted.nested.small n (omega (arith, below, other, is, begins)))
    around n below other false e = counted.nested.small n (omega (arith, below, other, is, begins))

    beside : (n : ℕ) → n * 64 < last + 8 → (t : Bool) → (last % 64 == 0) ≡ t → IsPart (block_at (middle_of t) n) (block_at blocks.large (n / 8))
    beside n below true e =
        by-number n (block_of 64 last) (λ same. rw (same, changed-none blocks.middle (block_of 64 last)) (part-none _))
        (λ other.
        rw (block-other (λ _. no_shelves) blocks.middle (block_of 64 last) n other)
        (counted.nested.middle n (omega (arith, below, other, is, eqb-true (last % 64) 0 e))))
    beside n below false e = counted.nested.middle n (omega (arith, below, is, begins, eqb-false (last % 64) 0 e))

-- shelves that all stand in one middle block are known once their small ones are
pub known-counted : (all : Block) (blocks : Blocks) (smalls : List Block) (shelves : List KeptShelf) → length smalls ≡ 512 → length blocks.middle ≡ 64 → length blocks.large ≡ 8 → length shelves ≤ 64
    → AreKnownOf (λ n. n < 64) 8 smalls shelves → AreGathered 0 smalls all
    → AreCountedWhere (λ n. Unit {0})
    (record blocks {
      are_counted = true;
      others = no_others;
      is_late = false;
      nested = 64;
      small = smalls;
      middle = changed_by (Some 0) (λ _. all) blocks.middle;
      large = changed_by (Some 0) (λ _. all) blocks.large;
    }) shelves
known-counted all blocks smalls shelves long wide large few known gathered = record {
  each = record {
    small = λ number kept block any at in_block. known number kept block (within number kept at) at in_block;
    middle = λ number kept block any at in_block.
        read-changed (λ _. all) blocks.middle 0 (block_of 64 number) block in_block (λ z stood _ is. subst (IsKnown kept) (sym is) (to-all number kept at))
        (λ apart stood. absurd (omega (arith, apart, within number kept at)));
    large = λ number kept block any at in_block.
        read-changed (λ _. all) blocks.large 0 (block_of 512 number) block in_block (λ z stood _ is. subst (IsKnown kept) (sym is) (to-all number kept at))
        (λ apart stood. absurd (omega (arith, apart, within number kept at)));
  };
  others = λ some. absurd (omega (arith, some));
  own = record { small = λ block at. part-none block; middle = λ block at. part-none block; large = λ block at. part-none block };
  nested = record {
    small = gather-parts 64 8 0 all smalls blocks.middle (omega (arith, long, wide)) gathered (λ n below apart. absurd (omega (arith, below, apart)));
    middle = λ n below.
        subst (λ (m : ℕ). IsPart (block_at (changed_by (Some 0) (λ _. all) blocks.middle) m) (block_at (changed_by (Some 0) (λ _. all) blocks.large) (m / 8))) (sym (first_ n below))
        (rw (block-here (λ _. all) blocks.middle 0 (omega (arith, wide)), block-here (λ _. all) blocks.large 0 (omega (arith, large))) (part-same all));
    others = λ some. absurd (omega (arith, some));
    few = omega arith;
    whole = refl;
  };
}
  where
    within : (number : ℕ) (kept : KeptShelf) → slice_get shelves number ≡ Some kept → number < 64
    within number kept at = omega (arith, few, slice_get_within shelves number kept at)

    first_ : (n : ℕ) → n * 64 < 64 → n ≡ 0
    first_ n below = omega (arith, below)

    to-all : (number : ℕ) (kept : KeptShelf) → slice_get shelves number ≡ Some kept → IsKnown kept all
    to-all number kept at =
        let below = within number kept at in
        let small = block_at smalls (block_of 8 number) in
        let stood = slice_get-get_or smalls (block_of 8 number) no_shelves (omega (arith, below, long)) in
        known-part kept small all (known number kept small below at stood) (gathered (block_of 8 number) small (omega arith) (omega (arith, below)) stood)
