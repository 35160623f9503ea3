-- Buckets that are made: the records that are used for them, and what stays of all others.
use Rattle.std.proofs.Common.{◌≡◌, ◌≢◌, ℕ, zero, suc, ◌+◌, ◌-◌, ◌*◌, ◌%◌, ◌<◌, ◌≤◌, max, Bool, true, false, cond, Option, None, Some, List, [], ◌∷◌, ◌++◌, length, refl, ap, arith, sym, ◌∙◌, subst, append_assoc, length-append}
use Rattle.std.proofs.Math.Nat.{mod-lt, suc-mul}
use Rattle.std.specs.Option.{option_map_or}
use Rattle.std.specs.Prelude.{nat_lt, option_and_then, option_map, slice_get, ◌==◌}
use Rattle.std.specs.List.{AllByRecursion}
use Rattle.etagere_base.proofs.EachLemmas.{Each-append}
use Rattle.etagere_base.proofs.ReplacedLists.{slice_get-append}
use Rattle.etagere_base.proofs.TimesLemmas.{times-append}
use Rattle.etagere_base.specs.Lists.{times}
use Rattle.etagere_links.specs.Edits.{changed_by}
use Rattle.etagere_links.proofs.Chains.{Leads-frame}
use Rattle.etagere_links.proofs.FieldChanges.{field_at-other}
use Rattle.etagere_links.proofs.ListEnds.{times-here, times-other}
use Rattle.etagere_links.proofs.RecordChanges.{get-changed_by, get-changed_by-other, length-changed_by, link_at-other}
use Rattle.bucketed_model.specs.Adding.{IsTag, new_bucket, new_buckets}
use Rattle.bucketed_model.specs.State.{Bucket, BucketShelf, Tag, bucket_numbers, most_buckets, tag_numbers}
use Rattle.bucketed_model.proofs.Shelving.Shelves.{numbers_of}
use Rattle.bucketed_records.specs.declared.records.LinkedBucket.{LinkedBucket}
use Rattle.bucketed_records.specs.BucketRecords.{next_of}
use Rattle.bucketed_records.specs.Private.Store.{AreBucketsSpelled, AreShelvesSpelled, HasUnused, first_link, record_of}
use Rattle.bucketed_records.specs.StandsFor.{live_of}
use Rattle.bucketed_store.specs.Private.StoreEdits.{Made, after_first, made_again, made_many, made_new, made_one, new_record}
use Rattle.bucketed_store.specs.declared.making.NewBuckets.{NewBuckets}

-- a record that stands in a list is there after one was put at its end
pub get-front : {T : Type 0} (xs ys : List T) (k : ℕ) (x : T) → slice_get xs k ≡ Some x → slice_get (xs ++ ys) k ≡ Some x
get-front [] ys k x h = absurd (cc)
get-front (y ∷ xs) ys zero x h = h
get-front (y ∷ xs) ys (suc k) x h = get-front xs ys k x h

-- there is a record under each number below their count
pub get-some : {T : Type 0} (xs : List T) (k : ℕ) → k < length xs → (x : T) × (slice_get xs k ≡ Some x)
get-some [] k within = absurd (omega arith)
get-some (x ∷ xs) zero within = (x, refl)
get-some (x ∷ xs) (suc k) within = get-some xs k (omega arith)

-- what of records stays where one of a number was put to use
abbrev pub StaysExcept : List ℕ → List LinkedBucket → List LinkedBucket → Type 0
StaysExcept numbers old new =
    (k : ℕ) (record_ : LinkedBucket) → times k numbers ≡ 0 → slice_get old k ≡ Some record_ → slice_get new k ≡ Some record_

-- a bucket was made: its number and generation, and what is in use and unused now
pub record IsMade (new : NewBuckets) (made after : Made) (used : List ℕ) : Type 0 where
  pub number : ℕ
  pub generation : ℕ
  pub unused : List ℕ
  pub first : after.first ≡ Some number
  pub tag : IsTag (record { number = number; generation = generation })
  pub fresh : times number used ≡ 0
  pub has_unused : HasUnused after.buckets after.unused (number ∷ used) unused
  pub here : slice_get after.buckets number ≡ Some (new_record new made.first generation)
  pub stays : StaysExcept (number ∷ []) made.buckets after.buckets
  pub grows : length after.buckets ≡ max (length made.buckets) (length used + 1)

-- a number that is counted once in all, and stands among the unused, is not in use
not-used : (records : List LinkedBucket) (first : Option ℕ) (used : List ℕ) (u : ℕ) (us : List ℕ) → HasUnused records first used (u ∷ us) → (u < length records) × (times u used ≡ 0) × (times u us ≡ 0)
not-used records first used u us has_unused = by_test (nat_lt u (length records)) refl (has_unused.once u)
  where
    counts : times u (used ++ u ∷ us) ≡ times u used + suc (times u us)
    counts = omega (arith, times-append u used (u ∷ us), times-here u us)

    by_test : (b : Bool) → nat_lt u (length records) ≡ b → times u (used ++ u ∷ us) ≡ cond b 1 0 → (u < length records) × (times u used ≡ 0) × (times u us ≡ 0)
    by_test true e h = (grind (arith, e), omega (arith, counts, h), omega (arith, counts, h))
    by_test false e h = absurd (omega (arith, counts, h))

-- unused records hold nothing live after another one was changed
pub idle-kept : (change : LinkedBucket → LinkedBucket) (records : List LinkedBucket) (u : ℕ) (us : List ℕ) → times u us ≡ 0
    → AllByRecursion (λ (n : ℕ). live_of records n ≡ 0) us → AllByRecursion (λ (n : ℕ). live_of (changed_by (Some u) change records) n ≡ 0) us
idle-kept change records u [] fresh idle = tt
idle-kept change records u (x ∷ us) fresh idle =
    let other : Some u ≢ Some x = λ e. let same : x ≡ u = cc in omega (arith, fresh, ap (λ (n : ℕ). times u (n ∷ us)) same, times-here u us) in
    (field_at-other (λ (bucket : LinkedBucket). bucket.refcount) 0 change records (Some u) x other ∙ idle.0, idle-kept change records u us (omega (arith, fresh)) idle.1)

-- the count of all with one more
once-more : (n k : ℕ) (b : Bool) → (n == k) ≡ b → cond b 1 0 + cond (nat_lt k n) 1 0 ≡ cond (nat_lt k (suc n)) 1 0
once-more n k true e = grind arith
once-more n k false e = grind arith

-- a bucket in a new record
made_new-is : (new : NewBuckets) (made : Made) (used : List ℕ) → HasUnused made.buckets made.unused used [] → length used < most_buckets
    → IsMade new made (made_new new made) used
made_new-is new made used has_unused few =
    let number = length made.buckets in
    let r = new_record new made.first 0 in
    let long : length (made.buckets ++ r ∷ []) ≡ suc number = omega (arith, length-append made.buckets (r ∷ [])) in
    let none : times number used ≡ 0 = unstood (has_unused.once number) in
    record {
      number = number;
      generation = 0;
      unused = [];
      first = refl;
      tag = record { number = omega (arith, has_unused.count); generation = omega arith };
      fresh = none;
      has_unused = record {
        list = has_unused.list;
        once = λ k. rw long (omega (arith, times-append k used [], times-append k (number ∷ used) [], has_unused.once k, once-more number k (number == k) refl));
        count = omega (arith, long, has_unused.count);
        few = omega (arith, long, has_unused.count);
        idle = tt;
      };
      here = slice_get-append made.buckets r [] number refl;
      stays = λ k record_ other h. get-front made.buckets (r ∷ []) k record_ h;
      grows = omega (arith, long, has_unused.count);
    }
  where
    unstood : times (length made.buckets) (used ++ []) ≡ cond (nat_lt (length made.buckets) (length made.buckets)) 1 0 → times (length made.buckets) used ≡ 0
    unstood h =
        let past : nat_lt (length made.buckets) (length made.buckets) ≡ false = grind arith in
        omega (arith, times-append (length made.buckets) used [], rw past at h)

-- a bucket in an unused record
made_again-is : (new : NewBuckets) (made : Made) (used : List ℕ) (u : ℕ) (us : List ℕ) (old : LinkedBucket) → HasUnused made.buckets made.unused used (u ∷ us)
    → slice_get made.buckets u ≡ Some old → IsMade new made (made_again new made u old) used
made_again-is new made used u us old has_unused at =
    let change : LinkedBucket → LinkedBucket = λ _. new_record new made.first ((old.generation + 1) % 256) in
    let records = changed_by (Some u) change made.buckets in
    let long : length records ≡ length made.buckets = length-changed_by change made.buckets (Some u) in
    let parts = not-used made.buckets made.unused used u us has_unused in
    let next : next_of made.buckets u ≡ old.next = ap (λ (r : Option LinkedBucket). option_and_then (λ (bucket : LinkedBucket). bucket.next) r) at in
    record {
      number = u;
      generation = (old.generation + 1) % 256;
      unused = us;
      first = refl;
      tag = record { number = omega (arith, parts.0, has_unused.few); generation = mod-lt (old.generation + 1) (omega arith) };
      fresh = parts.1;
      has_unused = record {
        list = Leads-frame (next_of made.buckets) (next_of records) us old.next None
            (λ k stands. link_at-other (λ (bucket : LinkedBucket). bucket.next) change made.buckets (Some u) k (λ e. let same : k ≡ u = cc in omega (arith, parts.2, ap (λ (n : ℕ). times n us) same, stands)))
            (rw next at has_unused.list.1);
        once = λ k. rw long (omega (arith, times-append k used (u ∷ us), times-append k (u ∷ used) us, has_unused.once k));
        count = omega (arith, long, has_unused.count);
        few = omega (arith, long, has_unused.few);
        idle = idle-kept change made.buckets u us parts.2 has_unused.idle.1;
      };
      here = get-changed_by change made.buckets (Some u) u refl ∙ ap (λ (r : Option LinkedBucket). option_map change r) at;
      stays = λ k record_ other h. get-changed_by-other change made.buckets (Some u) k (λ e. let same : u ≡ k = cc in omega (arith, other, ap (λ (n : ℕ). times k (n ∷ [])) same, times-here k [])) ∙ h;
      grows = omega (arith, long, has_unused.count);
    }

-- a bucket that is made
pub made_one-is : (new : NewBuckets) (made : Made) (used unused : List ℕ) → HasUnused made.buckets made.unused used unused → length used < most_buckets
    → IsMade new made (made_one new made) used
made_one-is new made used [] has_unused few =
    let same : made_one new made ≡ made_new new made = ap (λ (link : Option ℕ). option_map_or (λ (number : ℕ). option_map_or (made_again new made number) (slice_get made.buckets number) (made_new new made)) link (made_new new made)) has_unused.list in
    subst (λ (after : Made). IsMade new made after used) (sym same) (made_new-is new made used has_unused few)
made_one-is new made used (u ∷ us) has_unused few =
    let within = (not-used made.buckets made.unused used u us has_unused).0 in
    let found = get-some made.buckets u within in
    let same : made_one new made ≡ made_again new made u found.0 =
    ap (λ (link : Option ℕ). option_map_or (λ (number : ℕ). option_map_or (made_again new made number) (slice_get made.buckets number) (made_new new made)) link (made_new new made)) has_unused.list.0
    ∙ ap (λ (r : Option LinkedBucket). option_map_or (made_again new made u) r (made_new new made)) found.1 in
    subst (λ (after : Made). IsMade new made after used) (sym same) (made_again-is new made used u us found.0 has_unused found.1)

-- buckets stay spelled where none of their records is put to use
pub buckets-stay : (old new : List LinkedBucket) (numbers : List ℕ) (number width : ℕ) (bs : List Bucket) → StaysExcept numbers old new
    → ((k : ℕ) → 1 ≤ times k (numbers_of bs) → times k numbers ≡ 0) → AreBucketsSpelled old number width bs → AreBucketsSpelled new number width bs
buckets-stay old new numbers number width [] stays apart h = tt
buckets-stay old new numbers number width (b ∷ bs) stays apart h = (
  stays b.tag.number (record_of number width (first_link bs) b) (apart b.tag.number (omega (arith, times-here b.tag.number (numbers_of bs)))) h.0,
  buckets-stay old new numbers number width bs stays (λ k stands. apart k (omega (arith, stands))) h.1,
)

-- shelves stay spelled where none of their buckets' records is put to use
pub shelves-stay : (old new : List LinkedBucket) (numbers : List ℕ) (number : ℕ) (ss : List BucketShelf) → StaysExcept numbers old new
    → ((k : ℕ) → 1 ≤ times k (bucket_numbers ss) → times k numbers ≡ 0) → AreShelvesSpelled old number ss → AreShelvesSpelled new number ss
shelves-stay old new numbers number [] stays apart h = tt
shelves-stay old new numbers number (s ∷ ss) stays apart h = (
  buckets-stay old new numbers number s.bucket_width s.buckets stays (λ k stands. apart k (omega (arith, stands, times-append k (numbers_of s.buckets) (bucket_numbers ss)))) h.0,
  shelves-stay old new numbers (suc number) ss stays (λ k stands. apart k (omega (arith, stands, times-append k (numbers_of s.buckets) (bucket_numbers ss)))) h.1,
)

-- what is in use and unused, with the numbers in another order
pub has_unused-same : (records : List LinkedBucket) (first : Option ℕ) (used other unused : List ℕ) → ((k : ℕ) → times k other ≡ times k used) → length other ≡ length used
    → HasUnused records first used unused → HasUnused records first other unused
has_unused-same records first used other unused same long has_unused = record {
  list = has_unused.list;
  once = λ k. omega (arith, times-append k other unused, times-append k used unused, same k, has_unused.once k);
  count = omega (arith, long, has_unused.count);
  few = has_unused.few;
  idle = has_unused.idle;
}

-- one more new bucket at the left of others is the last in the order of search
new-left : (place width : ℕ) (tags : List Tag) (tag : Tag) → new_buckets place width (tags ++ tag ∷ []) ≡ new_buckets (place + width) width tags ++ new_bucket place tag ∷ []
new-left place width [] tag = let here : place + 0 * width ≡ place = omega arith in ap (λ (p : ℕ). new_bucket p tag ∷ []) here
new-left place width (t ∷ tags) tag =
    let long : length (tags ++ tag ∷ []) ≡ suc (length tags) = omega (arith, length-append tags (tag ∷ [])) in
    let here : place + length (tags ++ tag ∷ []) * width ≡ place + width + length tags * width = rw long (omega (arith, suc-mul (length tags) width)) in
    ap (λ (p : ℕ). new_bucket p t ∷ new_buckets place width (tags ++ tag ∷ [])) here
    ∙ ap (λ (bs : List Bucket). new_bucket (place + width + length tags * width) t ∷ bs) (new-left place width tags tag)

-- the number of one more tag
numbers-left : (tags : List Tag) (tag : Tag) (k : ℕ) → times k (tag_numbers (tags ++ tag ∷ [])) ≡ times k (tag_numbers tags) + times k (tag.number ∷ [])
numbers-left [] tag k = omega arith
numbers-left (t ∷ tags) tag k = omega (arith, numbers-left tags tag k)

-- as many numbers as tags
pub tags-length : (tags : List Tag) → length (tag_numbers tags) ≡ length tags
tags-length [] = refl
tags-length (t ∷ tags) = ap suc (tags-length tags)

-- buckets were made in front of those of a shelf: their tags, and what is unused now
pub record AreMade (count shelf width place : ℕ) (before after : Made) (used : List ℕ) (bs : List Bucket) : Type 0 where
  pub tags : List Tag
  pub unused : List ℕ
  pub count_is : length tags ≡ count
  pub each : AllByRecursion IsTag tags
  pub numbers : (k : ℕ) → times k (tag_numbers tags) + times k used ≤ 1
  pub first : after.first ≡ first_link (new_buckets place width tags ++ bs)
  pub spelled : AreBucketsSpelled after.buckets shelf width (new_buckets place width tags ++ bs)
  pub has_unused : HasUnused after.buckets after.unused (tag_numbers tags ++ used) unused
  pub stays : StaysExcept (tag_numbers tags) before.buckets after.buckets
  pub grows : length after.buckets ≡ max (length before.buckets) (length used + count)

-- what is in use stands once at most
used-once : (records : List LinkedBucket) (first : Option ℕ) (used unused : List ℕ) → HasUnused records first used unused → (k : ℕ) → times k used ≤ 1
used-once records first used unused has_unused k = by_test (nat_lt k (length records)) (has_unused.once k)
  where
    by_test : (b : Bool) → times k (used ++ unused) ≡ cond b 1 0 → times k used ≤ 1
    by_test true h = omega (arith, times-append k used unused, h)
    by_test false h = omega (arith, times-append k used unused, h)

-- so many buckets made from left to right
pub made_many-are : (count shelf width place : ℕ) (before : Made) (used unused : List ℕ) (bs : List Bucket) → before.first ≡ first_link bs
    → AreBucketsSpelled before.buckets shelf width bs → ((k : ℕ) → times k (numbers_of bs) ≤ times k used) → HasUnused before.buckets before.unused used unused
    → length used + count ≤ most_buckets
    → AreMade count shelf width place before (made_many count (record { shelf = shelf; width = width; x = place }) before) used bs
made_many-are zero shelf width place before used unused bs first spelled part has_unused few = record {
  tags = [];
  unused = unused;
  count_is = refl;
  each = tt;
  numbers = λ k. omega (arith, used-once before.buckets before.unused used unused has_unused k);
  first = first;
  spelled = spelled;
  has_unused = has_unused;
  stays = λ k record_ other h. h;
  grows = omega (arith, has_unused.count);
}
made_many-are (suc count) shelf width place before used unused bs first spelled part has_unused few =
    let new : NewBuckets = record { shelf = shelf; width = width; x = place } in
    let one : IsMade new before (made_one new before) used = made_one-is new before used unused has_unused (omega (arith, few)) in
    let middle : Made = made_one new before in
    let tag : Tag = record { number = one.number; generation = one.generation } in
    let full : width - 0 ≡ width = omega arith in
    let here : slice_get middle.buckets one.number ≡ Some (record_of shelf width (first_link bs) (new_bucket place tag)) =
    one.here
    ∙ ap (λ (link : Option ℕ). Some (new_record new link one.generation)) first
    ∙ ap (λ (free : ℕ). let r : LinkedBucket = record { x = place; free_space = free; next = first_link bs; refcount = 0; item_count = 0; shelf = shelf; generation = one.generation } in Some r) (sym full) in
    let kept : AreBucketsSpelled middle.buckets shelf width bs =
    buckets-stay before.buckets middle.buckets (one.number ∷ []) shelf width bs one.stays
    (λ k stands. apart k one.number (omega (arith, stands, part k)) one.fresh) spelled in
    let rest : AreMade count shelf width (place + width) middle (made_many count (after_first new) middle) (one.number ∷ used) (new_bucket place tag ∷ bs) =
    made_many-are count shelf width (place + width) middle (one.number ∷ used) one.unused (new_bucket place tag ∷ bs) one.first (here, kept)
    (λ k. omega (arith, part k)) one.has_unused (omega (arith, few)) in
    let order : new_buckets (place + width) width rest.tags ++ new_bucket place tag ∷ bs ≡ new_buckets place width (rest.tags ++ tag ∷ []) ++ bs =
    sym (ap (λ (xs : List Bucket). xs ++ bs) (new-left place width rest.tags tag) ∙ append_assoc (new_buckets (place + width) width rest.tags) (new_bucket place tag ∷ []) bs) in
    let own : (k : ℕ) → times k (tag_numbers (rest.tags ++ tag ∷ [])) ≡ times k (tag_numbers rest.tags) + times k (one.number ∷ []) = numbers-left rest.tags tag in
    record {
      tags = rest.tags ++ tag ∷ [];
      unused = rest.unused;
      count_is = omega (arith, length-append rest.tags (tag ∷ []), rest.count_is);
      each = Each-append IsTag rest.tags (tag ∷ []) rest.each (one.tag, tt);
      numbers = λ k. omega (arith, own k, rest.numbers k);
      first = rest.first ∙ ap first_link order;
      spelled = subst (AreBucketsSpelled (made_many count (after_first new) middle).buckets shelf width) order rest.spelled;
      has_unused = has_unused-same _ _ (tag_numbers rest.tags ++ one.number ∷ used) (tag_numbers (rest.tags ++ tag ∷ []) ++ used) rest.unused
          (λ k. omega (arith, times-append k (tag_numbers rest.tags) (one.number ∷ used), times-append k (tag_numbers (rest.tags ++ tag ∷ [])) used, own k))
          (omega (arith, length-append (tag_numbers rest.tags) (one.number ∷ used), length-append (tag_numbers (rest.tags ++ tag ∷ [])) used, tags-length rest.tags, tags-length (rest.tags ++ tag ∷ []), length-append rest.tags (tag ∷ [])))
          rest.has_unused;
      stays = λ k record_ other h. rest.stays k record_ (omega (arith, other, own k)) (one.stays k record_ (omega (arith, other, own k)) h);
      grows = omega (arith, one.grows, rest.grows);
    }
  where
    apart : (k n : ℕ) → 1 ≤ times k used → times n used ≡ 0 → times k (n ∷ []) ≡ 0
    apart k n stands fresh = times-other k n [] (λ e. omega (arith, stands, fresh, ap (λ (m : ℕ). times m used) e))
