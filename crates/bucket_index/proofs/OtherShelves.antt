-- What is kept of the blocks of a shelf as they are known by the others, and of the shelf itself.
use Rattle.std.proofs.Common.{◌≡◌, ℕ, ◌<◌, ◌≤◌, Bool, true, false, Some, List, length, cond, ap, arith, ◌==◌, ◌∙◌, refl, subst, sym}
use Rattle.std.proofs.lemmas.Bool.{eqb-true}
use Rattle.std.proofs.lemmas.Option.{slice_get-get_or}
use Rattle.std.specs.Prelude.{slice_get, ◌||◌}
use Rattle.etagere_links.specs.Edits.{changed_by}
use Rattle.bucketed_records.specs.declared.records.KeptShelf.{KeptShelf}
use Rattle.bucketed_records.specs.Private.Store.{is_kept_idle}
use Rattle.bucket_index.specs.declared.blocks.Block.{Block}
use Rattle.bucket_index.specs.declared.blocks.Blocks.{Blocks}
use Rattle.bucket_index.specs.declared.blocks.Others.{Others}
use Rattle.bucket_index.specs.declared.blocks.PutOff.{PutOff}
use Rattle.bucket_index.specs.Private.Blocks.{AreCountedWhere, AreKnown, AreKnownIf, AreKnownOf, AreKnownWhere, AreOthers, AreOthersKnown, IsFollowedUpTo, height_at, IsBeside, IsBesideOf, IsFollowed, IsKnown, IsKnownOf, IsOwnKnown, IsOwnOf, IsPart, block_at, block_of, kept_others, lowered, no_others, no_shelves, putting_off, raised, remembered, remembered_others, with_own, with_shelf}
use Rattle.bucket_index.proofs.KnownBlocks.{height-read, known-own, known-part, known-still, known-with, raise-known, read-changed, some-same}
use Rattle.bucket_index.proofs.NestedBlocks.{nested-kept, nested-lowered, nested-own, nested-raised, nested-remembered, own-nested, part-more, part-none}

-- a block that was counted with a shelf knows it
part-shelf : (kept : KeptShelf) (block : Block) → IsPart (with_shelf kept no_shelves) (with_shelf kept block)
part-shelf kept block = record { room = omega arith; idle = λ idle. either block.has_idle (is_kept_idle kept) idle }
  where
    either : (s t : Bool) → t ≡ true → (s || t) ≡ true
    either true t h = refl
    either false t h = h

-- where nothing is kept of others that is right
pub none-others : (IsSuch : ℕ → Type 0) (blocks : Blocks) (shelves : List KeptShelf) → blocks.others ≡ no_others → AreOthers IsSuch blocks.others shelves
none-others IsSuch blocks shelves none some = absurd (omega (arith, some, ap (λ (others : Others). others.number) none))

-- where nothing is kept of a shelf its blocks know it
pub none-own : (blocks : Blocks) → blocks.others ≡ no_others → IsOwnKnown blocks
none-own blocks none = record { small = of_size 8 blocks.small; middle = of_size 64 blocks.middle; large = of_size 512 blocks.large }
  where
    of_size : (size : ℕ) (bs : List Block) → IsOwnOf size blocks.others.number blocks.others.own bs
    of_size size bs block at = subst (λ (own : Block). IsPart own block) (sym (ap (λ (others : Others). others.own) none)) (part-none block)

-- what is known of a block of a shelf is known by the others
kept-of : (size k : ℕ) (blocks : List Block) (shelves : List KeptShelf) → block_of size k < length blocks → AreKnownOf (λ number. number ≡ k → ⊥) size blocks shelves
    → (number : ℕ) (kept : KeptShelf) → slice_get shelves number ≡ Some kept → IsBesideOf size k (block_at blocks (block_of size k)) number kept
kept-of size k blocks shelves within known number kept at other same =
    known number kept (block_at blocks (block_of size k)) other at (ap (slice_get blocks) same ∙ slice_get-get_or blocks (block_of size k) no_shelves within)

-- the blocks that are kept of a shelf before it is raised are its own
remembered-number : (k room : ℕ) (blocks : Blocks) → (remembered k room blocks).others.number ≡ k
remembered-number k room blocks = by_number (k == blocks.others.number) refl
  where
    by_number : (t : Bool) → (k == blocks.others.number) ≡ t → (cond t blocks.others (remembered_others k room blocks)).number ≡ k
    by_number true e = sym (eqb-true k blocks.others.number e)
    by_number false e = refl

-- what is kept of the blocks of a shelf before it is raised is right
others-kept : (k room : ℕ) (blocks : Blocks) (shelves : List KeptShelf) → length blocks.small ≡ 512 → length blocks.middle ≡ 64 → length blocks.large ≡ 8
    → AreCountedWhere (λ n. n ≡ k → ⊥) blocks shelves → AreOthers (λ n. Unit {0}) (remembered k room blocks).others shelves
others-kept k room blocks shelves long wide few known = by_number (k == blocks.others.number) refl
  where
    by_number : (t : Bool) → (k == blocks.others.number) ≡ t → AreOthers (λ n. Unit {0}) (cond t blocks.others (remembered_others k room blocks)) shelves
    by_number true e some number kept any at =
        let same = sym (eqb-true k blocks.others.number e) in
        record {
          small = λ other in_block. (known.others some number kept (λ is. other (is ∙ sym same)) at).small other in_block;
          middle = λ other in_block. (known.others some number kept (λ is. other (is ∙ sym same)) at).middle other in_block;
          large = λ other in_block. (known.others some number kept (λ is. other (is ∙ sym same)) at).large other in_block;
        }
    by_number false e some number kept any at = record {
      small = kept-of 8 k blocks.small shelves (omega (arith, some, long)) known.each.small number kept at;
      middle = kept-of 64 k blocks.middle shelves (omega (arith, some, wide)) known.each.middle number kept at;
      large = kept-of 512 k blocks.large shelves (omega (arith, some, few)) known.each.large number kept at;
    }

-- the blocks of a shelf that was raised know what is kept of it
own-raised : (k : ℕ) (one : KeptShelf) (blocks : Blocks) → blocks.others.number ≡ k → IsOwnKnown (with_own one (raised k one blocks))
own-raised k one blocks same = record { small = of_size 8 blocks.small; middle = of_size 64 blocks.middle; large = of_size 512 blocks.large }
  where
    of_size : (size : ℕ) (bs : List Block) → IsOwnOf size blocks.others.number (with_shelf one no_shelves) (changed_by (Some (block_of size k)) (with_shelf one) bs)
    of_size size bs block at =
        read-changed (with_shelf one) bs (block_of size k) (block_of size blocks.others.number) block at (λ z stood _ is. subst (IsPart (with_shelf one no_shelves)) (sym is) (part-shelf one z))
        (λ apart stood. absurd (apart (ap (block_of size) same)))

-- all are known to the blocks of a shelf that was raised
pub raise-counted : (k room : ℕ) (one : KeptShelf) (blocks : Blocks) (shelves : List KeptShelf) → length blocks.small ≡ 512 → length blocks.middle ≡ 64 → length blocks.large ≡ 8
    → slice_get shelves k ≡ Some one → k < blocks.nested → AreCountedWhere (λ n. n ≡ k → ⊥) blocks shelves
    → AreCountedWhere (λ n. Unit {0}) (with_own one (raised k one (remembered k room blocks))) shelves
raise-counted k room one blocks shelves long wide few here within counted = record {
  each = record { small = each.small; middle = each.middle; large = each.large };
  others = λ some number kept any at.
      let beside = others-kept k room blocks shelves long wide few counted some number kept any at in
      record { small = beside.small; middle = beside.middle; large = beside.large };
  own = own-raised k one (remembered k room blocks) (remembered-number k room blocks);
  nested =
      nested-own one (raised k one (remembered k room blocks))
      (nested-raised k one (remembered k room blocks) long wide few (λ _. remembered-number k room blocks) (nested-remembered k room blocks within counted.nested));
}
  where
    before : AreKnownWhere (λ n. n ≡ k → ⊥) (remembered k room blocks) shelves
    before = record { small = counted.each.small; middle = counted.each.middle; large = counted.each.large }

    each : AreKnownWhere (λ n. Unit {0}) (raised k one (remembered k room blocks)) shelves
    each = raise-known (λ n. n ≡ k → ⊥) (λ n. Unit {0}) k one (remembered k room blocks) shelves here (λ n any other. other) before

-- the same where nothing is kept of others
pub raise-unkept : (k : ℕ) (one : KeptShelf) (blocks : Blocks) (shelves : List KeptShelf) → length blocks.small ≡ 512 → length blocks.middle ≡ 64 → length blocks.large ≡ 8 → slice_get shelves k ≡ Some one
    → 4096 ≤ blocks.others.number → AreCountedWhere (λ n. n ≡ k → ⊥) blocks shelves → AreCountedWhere (λ n. Unit {0}) (raised k one blocks) shelves
raise-unkept k one blocks shelves long wide few here none counted = record {
  each = raise-known (λ n. n ≡ k → ⊥) (λ n. Unit {0}) k one blocks shelves here (λ n any other. other) counted.each;
  others = λ some. absurd (omega (arith, some, none));
  own = record { small = of_size 8 blocks.small counted.own.small; middle = of_size 64 blocks.middle counted.own.middle; large = of_size 512 blocks.large counted.own.large };
  nested = nested-raised k one blocks long wide few (λ some. absurd (omega (arith, some, none))) counted.nested;
}
  where
    of_size : (size : ℕ) (bs : List Block) → IsOwnOf size blocks.others.number blocks.others.own bs
        → IsOwnOf size blocks.others.number blocks.others.own (changed_by (Some (block_of size k)) (with_shelf one) bs)
    of_size size bs known block at =
        read-changed (with_shelf one) bs (block_of size k) (block_of size blocks.others.number) block at
        (λ z stood same is. subst (IsPart blocks.others.own) (sym is) (part-more one blocks.others.own z (known z (ap (slice_get bs) same ∙ stood))))
        (λ apart stood. known block stood)

-- all are known where the blocks of a shelf are kept as they stand, whose small one knows it
pub kept-counted : (k room : ℕ) (blocks : Blocks) (shelves : List KeptShelf) → length blocks.small ≡ 512 → length blocks.middle ≡ 64 → length blocks.large ≡ 8 → k < blocks.nested
    → AreCountedWhere (λ n. n ≡ k → ⊥) blocks shelves → AreCountedWhere (λ n. n ≡ k → ⊥) (kept_others k room blocks) shelves
kept-counted k room blocks shelves long wide few within counted = record {
  each = record { small = counted.each.small; middle = counted.each.middle; large = counted.each.large };
  others = λ some number kept other at. record {
    small = kept-of 8 k blocks.small shelves (omega (arith, some, long)) counted.each.small number kept at;
    middle = kept-of 64 k blocks.middle shelves (omega (arith, some, wide)) counted.each.middle number kept at;
    large = kept-of 512 k blocks.large shelves (omega (arith, some, few)) counted.each.large number kept at;
  };
  own =
      let own = own-nested k blocks within counted.nested in
      record { small = own.0; middle = own.1; large = own.2 };
  nested = nested-kept k room blocks within counted.nested;
}

-- such shelves are known to the blocks of one that are known by the others and it
pub lower-counted : (Before After : ℕ → Type 0) (k : ℕ) (one : KeptShelf) (blocks : Blocks) (shelves : List KeptShelf) → length blocks.small ≡ 512 → length blocks.middle ≡ 64 → length blocks.large ≡ 8
    → slice_get shelves k ≡ Some one → blocks.others.number ≡ k → k < 4096
    → ((n : ℕ) → After n → (n ≡ k → ⊥) → Before n) → AreCountedWhere Before blocks shelves → AreCountedWhere After (lowered k one blocks) shelves
lower-counted Before After k one blocks shelves long wide few here same some before counted = record {
  each = record {
    small = of_size 8 blocks.others.small blocks.small (λ number kept after at. (beside number kept after at).small) counted.each.small;
    middle = of_size 64 blocks.others.middle blocks.middle (λ number kept after at. (beside number kept after at).middle) counted.each.middle;
    large = of_size 512 blocks.others.large blocks.large (λ number kept after at. (beside number kept after at).large) counted.each.large;
  };
  others = λ _ number kept after at. record {
    small = (beside number kept after at).small;
    middle = (beside number kept after at).middle;
    large = (beside number kept after at).large;
  };
  own = record {
    small = own_of 8 blocks.others.small blocks.small;
    middle = own_of 64 blocks.others.middle blocks.middle;
    large = own_of 512 blocks.others.large blocks.large;
  };
  nested = nested-lowered k one blocks long wide few same some counted.nested;
}
  where
    beside : (number : ℕ) (kept : KeptShelf) → After number → slice_get shelves number ≡ Some kept → IsBeside blocks.others number kept
    beside number kept after at = record {
      small = λ other. (counted.others (omega (arith, same, some)) number kept (before number after (λ is. other (is ∙ sym same))) at).small other;
      middle = λ other. (counted.others (omega (arith, same, some)) number kept (before number after (λ is. other (is ∙ sym same))) at).middle other;
      large = λ other. (counted.others (omega (arith, same, some)) number kept (before number after (λ is. other (is ∙ sym same))) at).large other;
    }

    of_size : (size : ℕ) (block : Block) (bs : List Block)
        → ((number : ℕ) (kept : KeptShelf) → After number → slice_get shelves number ≡ Some kept → IsBesideOf size blocks.others.number block number kept) → AreKnownOf Before size bs shelves
        → AreKnownOf After size (changed_by (Some (block_of size k)) (λ _. with_shelf one block) bs) shelves
    of_size size block bs others known number kept fresh after at in_block =
        read-changed (λ _. with_shelf one block) bs (block_of size k) (block_of size number) fresh in_block
        (λ z stood in_one is. subst (IsKnown kept) (sym is) (by_number in_one (number == k) refl))
        (λ apart stood. known number kept fresh (before number after (λ is. apart (ap (block_of size) is))) at stood)
      where
        apart_by : number ≡ k → (number == k) ≡ false → ⊥
        apart_by is h = grind arith

        by_number : block_of size number ≡ block_of size k → (t : Bool) → (number == k) ≡ t → IsKnown kept (with_shelf one block)
        by_number in_one true e =
            let is : one ≡ kept = some-same (slice_get shelves k) one kept here (ap (slice_get shelves) (sym (eqb-true number k e)) ∙ at) in
            subst (λ (shelf : KeptShelf). IsKnown shelf (with_shelf one block)) is (known-own one block)
        by_number in_one false e =
            known-still kept one block (others number kept after at (λ is. apart_by (is ∙ same) e) (in_one ∙ ap (block_of size) (sym same)))

    own_of : (size : ℕ) (block : Block) (bs : List Block) → IsOwnOf size blocks.others.number (with_shelf one no_shelves) (changed_by (Some (block_of size k)) (λ _. with_shelf one block) bs)
    own_of size block bs fresh at =
        read-changed (λ _. with_shelf one block) bs (block_of size k) (block_of size blocks.others.number) fresh at
        (λ z stood _ is. subst (IsPart (with_shelf one no_shelves)) (sym is) (part-shelf one block)) (λ apart stood. absurd (apart (ap (block_of size) same)))

-- a shelf that is known beside another one is still where that one's blocks are lowered
pub lower-followed : (k late : ℕ) (kept one : KeptShelf) (blocks : Blocks) → blocks.others.number ≡ late → late < 4096 → (late ≡ k → ⊥) → IsFollowed k kept blocks → IsFollowed k kept (lowered late one blocks)
lower-followed k late kept one blocks same some apart was = record {
  known = record {
    small = of_size 8 blocks.others.small blocks.small (λ in_one. beside.small other (in_one ∙ ap (block_of 8) (sym same))) was.known.small;
    middle = of_size 64 blocks.others.middle blocks.middle (λ in_one. beside.middle other (in_one ∙ ap (block_of 64) (sym same))) was.known.middle;
    large = of_size 512 blocks.others.large blocks.large (λ in_one. beside.large other (in_one ∙ ap (block_of 512) (sym same))) was.known.large;
  };
  beside = λ _. record { small = beside.small; middle = beside.middle; large = beside.large };
}
  where
    beside : IsBeside blocks.others k kept
    beside = was.beside (omega (arith, same, some))

    other : k ≡ blocks.others.number → ⊥
    other is = apart (sym (is ∙ same))

    of_size : (size : ℕ) (block : Block) (bs : List Block) → (block_of size k ≡ block_of size late → IsKnown kept block) → IsKnownOf size k kept bs
        → IsKnownOf size k kept (changed_by (Some (block_of size late)) (λ _. with_shelf one block) bs)
    of_size size block bs others known fresh at =
        read-changed (λ _. with_shelf one block) bs (block_of size late) (block_of size k) fresh at
        (λ z stood in_one is. subst (IsKnown kept) (sym is) (known-still kept one block (others in_one))) (λ _ stood. known fresh stood)

-- the blocks of the shelf that was raised last know it where they knew as much of it then
pub followed-own : (k : ℕ) (one : KeptShelf) (blocks : Blocks) → blocks.others.number ≡ k → IsKnown one blocks.others.own → IsOwnKnown blocks → IsFollowed k one blocks
followed-own k one blocks same is own = record {
  known = record {
    small = λ block at. known-part one blocks.others.own block is (own.small block (ap (λ (n : ℕ). slice_get blocks.small (block_of 8 n)) same ∙ at));
    middle = λ block at. known-part one blocks.others.own block is (own.middle block (ap (λ (n : ℕ). slice_get blocks.middle (block_of 64 n)) same ∙ at));
    large = λ block at. known-part one blocks.others.own block is (own.large block (ap (λ (n : ℕ). slice_get blocks.large (block_of 512 n)) same ∙ at));
  };
  beside = λ _. record { small = λ other. absurd (other (sym same)); middle = λ other. absurd (other (sym same)); large = λ other. absurd (other (sym same)) };
}

-- these are known whether or not the blocks of the shelf that was raised last are yet to be lowered
pub known-late : (IsSuch : ℕ → Type 0) (late : Bool) (blocks : Blocks) (shelves : List KeptShelf) → AreKnownIf IsSuch blocks shelves → AreKnownIf IsSuch (record blocks { is_late = late }) shelves
known-late IsSuch late blocks shelves known = record { counted = λ counts. all (known.counted counts); steps = known.steps }
  where
    all : AreCountedWhere IsSuch blocks shelves → AreCountedWhere IsSuch (record blocks { is_late = late }) shelves
    all counted = record {
      each = record { small = counted.each.small; middle = counted.each.middle; large = counted.each.large };
      others = counted.others;
      own = record { small = counted.own.small; middle = counted.own.middle; large = counted.own.large };
      nested = counted.nested;
    }

-- these are known whichever block is left as it is
pub known-put-off : (IsSuch : ℕ → Type 0) (put_off : PutOff) (blocks : Blocks) (shelves : List KeptShelf) → AreKnownIf IsSuch blocks shelves → AreKnownIf IsSuch (putting_off put_off blocks) shelves
known-put-off IsSuch put_off blocks shelves known = record { counted = λ counts. all (known.counted counts); steps = known.steps }
  where
    all : AreCountedWhere IsSuch blocks shelves → AreCountedWhere IsSuch (putting_off put_off blocks) shelves
    all counted = record {
      each = record { small = counted.each.small; middle = counted.each.middle; large = counted.each.large };
      others = counted.others;
      own = record { small = counted.own.small; middle = counted.own.middle; large = counted.own.large };
      nested = counted.nested;
    }

-- all are known where a shelf that changed has no more room than it had, and holds something live
pub known-narrower : (number room : ℕ) (one : KeptShelf) (blocks : Blocks) (shelves : List KeptShelf) → slice_get shelves number ≡ Some one → (one.widest_room ≤ room) × (is_kept_idle one ≡ false)
    → IsFollowedUpTo number (height_at shelves number) room blocks → AreOthersKnown number blocks shelves → AreKnown blocks shelves
known-narrower number room one blocks shelves there is before others =
    known-with number one blocks shelves there (before one (height-read shelves number one there) is.0 is.1) others
