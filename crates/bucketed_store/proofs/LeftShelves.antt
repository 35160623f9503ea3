-- What stays where an item is returned to a bucket that keeps others.
use Rattle.std.proofs.Common.{◌≡◌, ℕ, zero, suc, ◌+◌, ◌-◌, ◌<◌, Bool, true, false, cond, Option, None, Some, List, [], ◌∷◌, length, refl, ap, sym, subst, ◌∙◌, arith, ◌==◌}
use Rattle.std.proofs.lemmas.Bool.{eqb-true}
use Rattle.std.specs.Option.{option_map_or}
use Rattle.std.specs.Prelude.{nat_le, option_map, slice_get}
use Rattle.etagere_links.specs.Edits.{changed_by}
use Rattle.etagere_links.proofs.RecordChanges.{get-changed_by, get-changed_by-other, length-changed_by}
use Rattle.bucketed_records.specs.declared.records.LinkedBucket.{LinkedBucket}
use Rattle.bucketed_records.specs.declared.records.KeptShelf.{KeptShelf}
use Rattle.bucketed_records.specs.StandsFor.{live_of}
use Rattle.bucketed_records.specs.Private.Store.{Stored, is_kept_idle, last_kept}
use Rattle.bucket_index.specs.declared.blocks.Block.{Block}
use Rattle.bucket_index.specs.declared.blocks.Blocks.{Blocks}
use Rattle.bucket_index.specs.Private.Blocks.{AreKnown, IsKnown}
use Rattle.bucket_index.proofs.KnownBlocks.{carry-counted, steps-changed}
use Rattle.bucketed_store.specs.Private.Returns.{Dropping, emptied_record, end_dropped, ends_idle, item_returned, last_dropped, lessened_record, returned_kept, returned_record}
use Rattle.bucketed_store.specs.Private.StoreEdits.{live_items_of}

-- these records
abbrev stored_of : List KeptShelf → List LinkedBucket → Option ℕ → Stored
stored_of shelves buckets unused = record { shelves = shelves; buckets = buckets; unused = unused }

-- no shelf is dropped where the last one holds something live
pub none-dropped : (steps : ℕ) (done : Dropping) → ends_idle done.stored.shelves ≡ false → end_dropped steps done ≡ done
none-dropped zero done last = refl
none-dropped (suc steps) done last = by_last (last_kept done.stored.shelves) last
  where
    by_idle : (one : KeptShelf) (t : Bool) → t ≡ false → cond t (end_dropped steps (last_dropped one done)) done ≡ done
    by_idle one true h = absurd (cc)
    by_idle one false h = refl

    by_last : (o : Option KeptShelf) → option_map_or (λ (kept : KeptShelf). kept.live_items == 0) o false ≡ false
        → option_map_or (λ (kept : KeptShelf). cond (kept.live_items == 0) (end_dropped steps (last_dropped kept done)) done) o done ≡ done
    by_last None h = refl
    by_last (Some one) h = by_idle one (one.live_items == 0) h

-- records are those of an atlas that got an item back, where both kinds are
pub stored-returned : (number : ℕ) (xs : List KeptShelf) (bs : List LinkedBucket) (shelves : List KeptShelf) (buckets : List LinkedBucket) (unused : Option ℕ)
    → xs ≡ (item_returned number (stored_of shelves buckets unused)).shelves → bs ≡ (item_returned number (stored_of shelves buckets unused)).buckets
    → stored_of xs bs unused ≡ item_returned number (stored_of shelves buckets unused)
stored-returned number xs bs shelves buckets unused same_shelves same_buckets =
    ap (λ (ys : List KeptShelf). stored_of ys bs unused) same_shelves ∙ ap (λ (cs : List LinkedBucket). stored_of (item_returned number (stored_of shelves buckets unused)).shelves cs unused) same_buckets

-- a change of one record is another one where both make the same of it
changed-alike : {T : Type 0} (f g : T → T) (xs : List T) (n : ℕ) → ((x : T) → slice_get xs n ≡ Some x → f x ≡ g x) → changed_by (Some n) f xs ≡ changed_by (Some n) g xs
changed-alike f g [] n same = refl
changed-alike f g (x ∷ xs) zero same = ap (λ y. y ∷ xs) (same x refl)
changed-alike f g (x ∷ xs) (suc n) same = ap (λ ys. x ∷ ys) (changed-alike f g xs n same)

-- a bucket with others has one item less
pub lessened : (number width : ℕ) (buckets : List LinkedBucket) → nat_le (live_of buckets number) 1 ≡ false → changed_by (Some number) (returned_record width) buckets ≡ changed_by (Some number) lessened_record buckets
lessened number width buckets many =
    changed-alike (returned_record width) lessened_record buckets number
    (λ x at. ap (λ (t : Bool). cond t (emptied_record width x) (lessened_record x)) (sym (ap (λ (o : Option LinkedBucket). nat_le (option_map_or (λ (b : LinkedBucket). b.refcount) o 0) 1) at) ∙ many))

-- one number is not another
apart : (k n : ℕ) → k ≡ n → (k == n) ≡ false → ⊥
apart k n same h = grind arith

-- what is read where a shelf has one item less that has more
less-at : (shelf number : ℕ) (shelves : List KeptShelf) (kept : KeptShelf) → 1 < live_items_of shelves shelf → slice_get (changed_by (Some shelf) (returned_kept false) shelves) number ≡ Some kept
    → {P : Type 0} → ((one : KeptShelf) → slice_get shelves number ≡ Some one → returned_kept false one ≡ kept → 1 < one.live_items → P) → (slice_get shelves number ≡ Some kept → P) → P
less-at shelf number shelves kept many there {P} own other = by_number (number == shelf) refl
  where
    by_found : number ≡ shelf → (o : Option KeptShelf) → slice_get shelves number ≡ o → option_map (returned_kept false) o ≡ Some kept → P
    by_found same None e h = absurd (cc)
    by_found same (Some one) e h =
        own one e (cc) (subst (λ (o : Option KeptShelf). 1 < option_map_or (λ (x : KeptShelf). x.live_items) o 0) (ap (slice_get shelves) (sym same) ∙ e) many)

    by_number : (t : Bool) → (number == shelf) ≡ t → P
    by_number true e =
        by_found (eqb-true number shelf e) (slice_get shelves number) refl
        (sym (get-changed_by (returned_kept false) shelves (Some shelf) number (ap (λ (n : ℕ). Some n) (sym (eqb-true number shelf e)))) ∙ there)
    by_number false e =
        other (sym (get-changed_by-other (returned_kept false) shelves (Some shelf) number (λ (h : Some shelf ≡ Some number). let same : number ≡ shelf = cc in absurd (apart number shelf same e))) ∙ there)

-- what is known of shelves is known where one has an item less that has more
pub known-left : (shelf : ℕ) (blocks : Blocks) (shelves : List KeptShelf) → 1 < live_items_of shelves shelf → AreKnown blocks shelves → AreKnown blocks (changed_by (Some shelf) (returned_kept false) shelves)
known-left shelf blocks shelves many known = record {
  counted = λ counts.
      carry-counted (λ n. Unit {0}) (λ n. Unit {0}) blocks shelves (changed_by (Some shelf) (returned_kept false) shelves)
      (λ number kept any there. less-at shelf number shelves kept many there
      (λ one at same live. record { was = one; such = tt; there = at; known = λ block is. subst (λ (k : KeptShelf). IsKnown k block) same (carried one block live is) })
      (λ at. record { was = kept; such = tt; there = at; known = λ block is. is })) (known.counted counts);
  steps = λ in_steps. steps-changed shelf (returned_kept false) shelves (λ x h. h) (known.steps in_steps);
}
  where
    busy : (one : KeptShelf) → 1 < one.live_items → is_kept_idle (returned_kept false one) ≡ true → ⊥
    busy one live idle = let none : one.live_items - 1 ≡ 0 = eqb-true (one.live_items - 1) 0 idle in omega (arith, live, none)

    carried : (one : KeptShelf) (block : Block) → 1 < one.live_items → IsKnown one block → IsKnown (returned_kept false one) block
    carried one block live is = λ tall. record { room = (is tall).room; idle = λ idle. absurd (busy one live idle) }

-- the last shelf still holds something where one has an item less that has more
pub ends-left : (shelf : ℕ) (shelves : List KeptShelf) → 1 < live_items_of shelves shelf → ends_idle shelves ≡ false → ends_idle (changed_by (Some shelf) (returned_kept false) shelves) ≡ false
ends-left shelf shelves many last =
    ap (λ (n : ℕ). idle (slice_get after (n - 1))) (length-changed_by (returned_kept false) shelves (Some shelf)) ∙ by_last (slice_get after (length shelves - 1)) refl
  where
    after : List KeptShelf
    after = changed_by (Some shelf) (returned_kept false) shelves

    idle : Option KeptShelf → Bool
    idle o = option_map_or (λ (kept : KeptShelf). kept.live_items == 0) o false

    busy : (one kept : KeptShelf) → 1 < one.live_items → returned_kept false one ≡ kept → (kept.live_items == 0) ≡ false
    busy one kept live same = let left : one.live_items - 1 ≡ kept.live_items = ap (λ (k : KeptShelf). k.live_items) same in grind (arith, live, left)

    by_last : (o : Option KeptShelf) → slice_get after (length shelves - 1) ≡ o → idle o ≡ false
    by_last None e = refl
    by_last (Some kept) e = less-at shelf (length shelves - 1) shelves kept many e (λ one at same live. busy one kept live same) (λ at. ap idle (sym at) ∙ last)

-- the last shelf still holds something where another one changed
pub ends-before : (shelf : ℕ) (change : KeptShelf → KeptShelf) (shelves : List KeptShelf) → shelf + 1 < length shelves → ends_idle shelves ≡ false → ends_idle (changed_by (Some shelf) change shelves) ≡ false
ends-before shelf change shelves before last =
    ap (λ (n : ℕ). idle (slice_get (changed_by (Some shelf) change shelves) (n - 1))) (length-changed_by change shelves (Some shelf))
    ∙ ap idle (get-changed_by-other change shelves (Some shelf) (length shelves - 1) (λ (h : Some shelf ≡ Some (length shelves - 1)). omega (arith, before, inner h))) ∙ last
  where
    idle : Option KeptShelf → Bool
    idle o = option_map_or (λ (kept : KeptShelf). kept.live_items == 0) o false

    inner : Some shelf ≡ Some (length shelves - 1) → shelf ≡ length shelves - 1
    inner h = cc

-- a return keeps of a record what is kept whether it empties the bucket or not
kept-same : {X : Type 0} (field : LinkedBucket → X) (width : ℕ) (b : LinkedBucket) → field (emptied_record width b) ≡ field b → field (lessened_record b) ≡ field b
    → field (returned_record width b) ≡ field b
kept-same field width b emptied lessened = by_test (nat_le b.refcount 1)
  where
    by_test : (t : Bool) → field (cond t (emptied_record width b) (lessened_record b)) ≡ field b
    by_test true = emptied
    by_test false = lessened

-- its link
pub links-same : (width : ℕ) (b : LinkedBucket) → (returned_record width b).next ≡ b.next
links-same width b = kept-same (λ (r : LinkedBucket). r.next) width b refl refl

-- and its place
pub places-same : (width : ℕ) (b : LinkedBucket) → (returned_record width b).x ≡ b.x
places-same width b = kept-same (λ (r : LinkedBucket). r.x) width b refl refl
