-- The widest room of a shelf after one of its buckets gave an item.
use Rattle.std.proofs.Common.{◌≡◌, ℕ, ◌+◌, ◌-◌, ◌≤◌, Bool, true, false, cond, Option, Some, refl, subst, sym, arith}
use Rattle.std.proofs.lemmas.Bool.Decides.{nat_tests}
use Rattle.std.specs.Prelude.{nat_lt, slice_get}
use Rattle.etagere_links.specs.Edits.{changed_by}
use Rattle.etagere_links.proofs.RecordChanges.{link_at-same, map-changed_by}
use Rattle.bucketed_model.specs.State.{most_buckets}
use Rattle.bucketed_records.specs.declared.records.LinkedBucket.{LinkedBucket}
use Rattle.bucketed_records.specs.Private.Store.{record_room, Stored}
use Rattle.bucketed_records.specs.BucketRecords.{next_of}
use Rattle.bucket_index.specs.Private.Searching.{widest_from}
use Rattle.bucket_index.proofs.RestOfRows.{widest-lowered}
use Rattle.bucketed_store.specs.Private.StoreEdits.{IsWidest, IsWidestKept, first_bucket_of, taken_record}

-- a bucket that gives an item has less room
pub room-lowered : (width : ℕ) (b : LinkedBucket) → record_room (taken_record width b) ≤ record_room b
room-lowered width b = by_tests (nat_lt b.item_count 4095) (nat_lt (b.item_count + 1) 4095) refl refl
  where
    by_tests : (old new : Bool) → nat_lt b.item_count 4095 ≡ old → nat_lt (b.item_count + 1) 4095 ≡ new → cond new (b.free_space - width) 0 ≤ cond old b.free_space 0
    by_tests true true e f = omega arith
    by_tests true false e f = omega arith
    by_tests false true e f = grind (arith, nat_tests)
    by_tests false false e f = omega arith

-- what is kept of a shelf one of whose buckets has just given an item
pub widest-kept : (shelf n width room : ℕ) (stored : Stored) (b : LinkedBucket) → slice_get stored.buckets n ≡ Some b → room ≡ record_room b → IsWidest shelf n width stored
    → IsWidestKept shelf n room stored.shelves (changed_by (Some n) (taken_record width) stored.buckets)
widest-kept shelf n width room stored b here own widest =
    let lowered = widest-lowered (taken_record width) (λ x. refl) (room-lowered width) most_buckets n stored.buckets b (first_bucket_of stored.shelves shelf) here in
    let after = changed_by (Some n) (taken_record width) stored.buckets in
    let next : next_of stored.buckets n ≡ next_of after n =
    sym (link_at-same (λ (bucket : LinkedBucket). bucket.next) stored.buckets after n (map-changed_by (λ (bucket : LinkedBucket). bucket.next) (taken_record width) stored.buckets (Some n) (λ x. refl))) in
    record {
      most = omega (arith, lowered.less, widest.exact);
      exact = λ less. omega (arith, less, own, lowered.less, lowered.rest, widest.exact);
      one = widest.one;
      behind = subst (λ (at : Option ℕ). widest_from most_buckets after at ≤ widest_from most_buckets after (first_bucket_of stored.shelves shelf)) next widest.behind;
    }
