-- What a return leaves: records that spell the returned state, and its totals.
use Rattle.std.proofs.Common.{◌≡◌, ℕ, zero, suc, ◌+◌, ◌-◌, ◌*◌, ◌<◌, ◌≤◌, Bool, true, false, cond, Option, Some, List, [], ◌∷◌, ◌++◌, length, refl, ap, arith, sym, subst, ◌∙◌}
use Rattle.std.proofs.Math.Nat.{zero-mul}
use Rattle.std.proofs.lemmas.Bool.{and_parts}
use Rattle.std.proofs.lemmas.List.{length-map}
use Rattle.std.proofs.lemmas.Nat.{mul-lt}
use Rattle.std.proofs.lemmas.Option.{slice_get_within}
use Rattle.std.specs.Option.{option_map_or}
use Rattle.std.specs.Prelude.{slice_get, nat_le, nat_lt}
use Rattle.etagere_base.proofs.GrownFrames.{alignment-positive}
use Rattle.etagere_base.proofs.ReplacedLists.{slice_get-append}
use Rattle.etagere_base.specs.Frames.{alignment_along}
use Rattle.etagere_base.specs.Lists.{times}
use Rattle.etagere_links.proofs.RecordChanges.{length-changed_by}
use Rattle.bucketed_model.specs.Returning.{bucket_returned, emptied_bucket, is_known, lessened_bucket, returned_bucket, tag_of}
use Rattle.bucketed_model.specs.Space.{allocated_space}
use Rattle.bucketed_model.specs.State.{Bucket, BucketShelf, BucketedState, bucket_numbers, buckets_in_use, changed_bucket, changed_in, most_buckets}
use Rattle.bucketed_model.specs.Valid.{IsBucket}
use Rattle.bucketed_model.proofs.Spacing.Spaces.{space-returned}
use Rattle.bucketed_model.proofs.Shelving.Shelves.{few-shelves}
use Rattle.bucketed_model.proofs.Validity.Changed.{buckets_in_use-changed}
use Rattle.bucketed_model.proofs.Validity.EmptiedValid.{returned-valid}
use Rattle.bucketed_model.proofs.Validity.Taken.{spot-valid}
use Rattle.bucketed_records.specs.declared.records.LinkedBucket.{LinkedBucket}
use Rattle.bucketed_records.specs.declared.records.KeptShelf.{KeptShelf}
use Rattle.bucketed_records.specs.Private.Store.{Spells, Stored, kept_shelf, kept_shelves}
use Rattle.bucketed_records.specs.Private.Witnessed.{Witnessed}
use Rattle.bucketed_records.specs.StandsFor.{free_of, live_of, shelf_of}
use Rattle.bucketed_records.proofs.Spelling.KeptShelves.{kept-append, length-kept}
use Rattle.bucketed_store.specs.Private.Returns.{Dropping, dropping_of, end_dropped, gives_item, is_known_in, item_returned, returned_area, returned_kept, returned_record, width_of}
use Rattle.bucketed_store.specs.Private.StoreEdits.{IsInRow, KnowsWidest, height_of}
use Rattle.bucketed_store.proofs.Emptying.EndDrops.{drops-all, DropsAll}
use Rattle.bucketed_store.proofs.Emptying.ItemReturns.{item-spells}
use Rattle.bucketed_store.proofs.Emptying.KnownRecords.{known-records, unused-knows}
use Rattle.bucketed_store.proofs.Spelling.SpotRecords.{spot-at}
use Rattle.bucketed_store.proofs.Spelling.WidestSpots.{shelf-knows, spot-stands}
use Rattle.bucketed_store.proofs.Emptying.SpelledSpots.{has-bucket, HasBucket, is-spot, record-at, spot_at}

-- a known id's bucket, which holds something live
record IsGiver (id : ℕ) (xs : List BucketShelf) : Type 0 where
  has : HasBucket (tag_of id).number xs
  live : 1 ≤ has.bucket.live

-- what is above 0 is at least 1
some : (n : ℕ) → nat_lt 0 n ≡ true → 1 ≤ n
some n h = grind arith

-- the bucket of a known id
giver-of : (stored : Stored) (unused : List ℕ) (state : BucketedState) (id : ℕ) → Witnessed stored unused state → is_known_in stored.buckets id ≡ true
    → IsGiver id state.shelves
giver-of stored unused state id witnessed known = by_count (times (tag_of id).number (bucket_numbers state.shelves)) refl
  where
    by_count : (n : ℕ) → times (tag_of id).number (bucket_numbers state.shelves) ≡ n → IsGiver id state.shelves
    by_count zero e =
        let unknown : is_known_in stored.buckets id ≡ false = unused-knows stored.buckets stored.unused (bucket_numbers state.shelves) unused id witnessed.spells.has_unused e in absurd (cc)
    by_count (suc n) e =
        let has : HasBucket (tag_of id).number state.shelves = has-bucket (tag_of id).number state.shelves (omega (arith, e)) in
        let at = record-at stored.buckets (tag_of id).number state.shelves has witnessed.spells.buckets in
        let gives = sym (ap (λ (o : Option LinkedBucket). option_map_or (gives_item id) o false) at) ∙ known in
        let live = and_parts _ _ (and_parts _ _ gives).1 in
        record { has = has; live = some has.bucket.live live.0 }

-- the records say whether an id is known
pub known-is : (stored : Stored) (unused : List ℕ) (state : BucketedState) (id : ℕ) → Witnessed stored unused state → is_known_in stored.buckets id ≡ is_known state id
known-is stored unused state id witnessed =
    known-records stored.buckets stored.unused unused state.shelves id witnessed.spells.buckets witnessed.spells.has_unused witnessed.valid.shelves.numbers

-- the records after a return
abbrev pub stored_returned : ℕ → Stored → Dropping
stored_returned id stored =
    let returned = item_returned (tag_of id).number stored in
    end_dropped (length returned.shelves) (dropping_of returned.shelves returned.buckets returned.unused 0)

-- a return leaves as many records
pub shelves-returned : (number : ℕ) (stored : Stored) → length (item_returned number stored).shelves ≡ length stored.shelves
shelves-returned number stored = length-changed_by (returned_kept (nat_le (live_of stored.buckets number) 1)) stored.shelves (Some (shelf_of stored.buckets number))

pub buckets-returned : (number : ℕ) (stored : Stored) → length (item_returned number stored).buckets ≡ length stored.buckets
buckets-returned number stored = length-changed_by (returned_record (width_of stored.shelves (shelf_of stored.buckets number))) stored.buckets (Some number)

-- what holds before and after the return of a known id
pub record IsReturned (stored : Stored) (state : BucketedState) (id : ℕ) : Type 0 where
  pub number : (tag_of id).number < length stored.buckets
  pub shelf : shelf_of stored.buckets (tag_of id).number < length stored.shelves
  pub free : free_of stored.buckets (tag_of id).number ≤ width_of stored.shelves (shelf_of stored.buckets (tag_of id).number)
  pub widest : KnowsWidest (shelf_of stored.buckets (tag_of id).number) stored.shelves stored.buckets
  pub row : IsInRow (shelf_of stored.buckets (tag_of id).number) (tag_of id).number stored.shelves stored.buckets
  pub few_shelves : length (item_returned (tag_of id).number stored).shelves ≤ most_buckets
  pub few_buckets : length (item_returned (tag_of id).number stored).buckets ≤ most_buckets
  pub unused : List ℕ
  pub witnessed : Witnessed (stored_returned id stored).stored unused (bucket_returned state id)
  pub in_use : (stored_returned id stored).count + buckets_in_use (bucket_returned state id).shelves ≡ buckets_in_use state.shelves
  pub space : allocated_space (bucket_returned state id) + returned_area (tag_of id).number stored.shelves stored.buckets ≡ allocated_space state

-- the area that a return gives back, by what its bucket has used
area-is : (t : Bool) (new old used after height : ℕ) → new + used * height ≡ old + after * height → after ≡ cond t 0 used → new + cond t (used * height) 0 ≡ old
area-is true new old used after height h e =
    let none : after * height ≡ 0 = ap (λ (n : ℕ). n * height) e ∙ zero-mul height in omega (arith, h, none)
area-is false new old used after height h e =
    let same : after * height ≡ used * height = ap (λ (n : ℕ). n * height) e in omega (arith, h, same)

-- what a bucket has used after a return
used-is : (b : Bucket) → (returned_bucket b).used ≡ cond (nat_le b.live 1) 0 b.used
used-is b = by_test (nat_le b.live 1)
  where
    by_test : (t : Bool) → (cond t (emptied_bucket b) (lessened_bucket b)).used ≡ cond t 0 b.used
    by_test true = refl
    by_test false = refl

-- a bucket that holds something live has a width
wide-busy : (alignment width height : ℕ) (b : Bucket) → 1 ≤ alignment → IsBucket alignment width height b → 1 ≤ b.live → 1 ≤ width
wide-busy alignment width height b some is live = omega (arith, mul-lt 0 0 b.given alignment (omega (arith, is.live, live)) (omega (arith, some)), (is.busy live).0, is.used)

-- a known id is returned
pub returned-is : (stored : Stored) (unused : List ℕ) (state : BucketedState) (id : ℕ) → Witnessed stored unused state → is_known state id ≡ true
    → IsReturned stored state id
returned-is stored unused state id witnessed known =
    let number = (tag_of id).number in
    let xs = state.shelves in
    let records = stored.buckets in
    let spells = witnessed.spells in
    let valid = witnessed.valid in
    let giver = giver-of stored unused state id witnessed (known-is stored unused state id witnessed ∙ known) in
    let has = giver.has in
    let x = has.shelf in
    let b = has.bucket in
    let i = length has.front in
    let spot = is-spot number xs has in
    let at = record-at records number xs has spells.buckets in
    let shelf : shelf_of records number ≡ i = ap (λ (r : Option LinkedBucket). option_map_or (λ (s : LinkedBucket). s.shelf) r 0) at in
    let live : live_of records number ≡ b.live = ap (λ (r : Option LinkedBucket). option_map_or (λ (s : LinkedBucket). s.refcount) r 0) at in
    let free : free_of records number ≡ x.bucket_width - b.used = ap (λ (r : Option LinkedBucket). option_map_or (λ (s : LinkedBucket). s.free_space) r 0) at in
    let A = kept_shelves state.frame [] has.front in
    let kept = kept_shelf state.frame has.front x in
    let B = kept_shelves state.frame (has.front ++ x ∷ []) has.back in
    let whole : stored.shelves ≡ A ++ kept ∷ B = spells.shelves ∙ ap (kept_shelves state.frame []) has.whole ∙ kept-append state.frame [] has.front (x ∷ has.back) in
    let here : slice_get stored.shelves (shelf_of records number) ≡ Some kept =
    ap (slice_get stored.shelves) shelf ∙ ap (λ (ks : List KeptShelf). slice_get ks i) whole ∙ slice_get-append A kept B i (length-kept state.frame [] has.front) in
    let width : width_of stored.shelves (shelf_of records number) ≡ x.bucket_width = ap (λ (r : Option KeptShelf). option_map_or (λ (k : KeptShelf). k.shelf.bucket_width) r 0) here in
    let height : height_of stored.shelves (shelf_of records number) ≡ x.height = ap (λ (r : Option KeptShelf). option_map_or (λ (k : KeptShelf). k.shelf.height) r 0) here in
    let returned = item_returned number stored in
    let changed = changed_bucket number returned_bucket xs in
    let spelled : Spells state.frame returned unused changed = item-spells state.frame stored unused xs number has valid.shelves.numbers giver.live spells in
    let long : length returned.shelves ≡ length changed = ap length spelled.shelves ∙ length-kept state.frame [] changed in
    let all : DropsAll state.frame (dropping_of returned.shelves returned.buckets returned.unused 0) (stored_returned id stored) changed =
    drops-all state.frame (length returned.shelves) (dropping_of returned.shelves returned.buckets returned.unused 0) unused changed (omega (arith, long)) spelled in
    let is_bucket = (spot-valid state.frame xs (spot_at has) spot valid.shelves).1 in
    let used : b.used ≤ x.bucket_width = is_bucket.used in
    let area : returned_area number stored.shelves records ≡ cond (nat_le b.live 1) (b.used * x.height) 0 =
    rw (live, width, free, height) (ap (λ (n : ℕ). cond (nat_le b.live 1) (n * x.height) 0) (omega (arith, used))) in
    let space = space-returned state id (spot_at has) valid spot (sym has.same) in
    record {
      number = slice_get_within records number _ at;
      shelf = slice_get_within stored.shelves (shelf_of records number) kept here;
      free = omega (arith, free, width);
      widest = subst (λ (n : ℕ). KnowsWidest n stored.shelves records) (sym shelf) (shelf-knows state.frame stored unused xs i x valid.shelves spells (spot-at xs (spot_at has) spot));
      row = subst (λ (n : ℕ). IsInRow n number stored.shelves records) (sym shelf)
          (subst (λ (n : ℕ). IsInRow i n stored.shelves records) has.same (spot-stands state.frame stored unused xs (spot_at has) valid.shelves spells spot
          (wide-busy (alignment_along state.frame) x.bucket_width x.height b (alignment-positive 65534 state.frame valid.frame) is_bucket giver.live)));
      few_shelves = omega (arith, long, length-map xs (changed_in number returned_bucket), few-shelves state.frame xs valid.frame.column_width valid.shelves.each, valid.shelves.few);
      few_buckets = spelled.has_unused.few;
      unused = all.unused;
      witnessed = record { spells = all.spells; valid = returned-valid state id valid };
      in_use = omega (arith, all.count, buckets_in_use-changed number returned_bucket xs);
      space = rw area (area-is (nat_le b.live 1) (allocated_space (bucket_returned state id)) (allocated_space state) b.used (returned_bucket b).used x.height space (used-is b));
    }
