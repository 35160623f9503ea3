-- Records spell the shelves without the last one, where that holds nothing live and its buckets are unused.
use Rattle.std.proofs.Common.{◌≡◌, ◌≢◌, ℕ, zero, suc, ◌+◌, ◌-◌, ◌<◌, ◌≤◌, Bool, true, false, cond, Option, None, Some, List, [], ◌∷◌, ◌++◌, length, take, refl, ap, arith, subst, sym, ◌∙◌, append_assoc, append-nil, length-append, ◌==◌}
use Rattle.std.proofs.Math.Seq.{take-append_seam}
use Rattle.std.proofs.lemmas.Bool.{and_parts, eqb-true}
use Rattle.std.proofs.lemmas.List.{length-map, length-take-le}
use Rattle.std.proofs.lemmas.Option.{slice_get_past, slice_get_within}
use Rattle.std.specs.List.{AllByRecursion, list_all}
use Rattle.std.specs.Option.{option_map_or}
use Rattle.std.specs.Prelude.{option_and_then, slice_get}
use Rattle.etagere_base.proofs.EachLemmas.{Each-append, Each-weaken}
use Rattle.etagere_base.proofs.TimesLemmas.{times-append}
use Rattle.etagere_base.specs.declared.frames.Frame.{Frame}
use Rattle.etagere_base.specs.Lists.{times}
use Rattle.etagere_links.specs.Chains.{Leads}
use Rattle.etagere_links.specs.Edits.{changed_by}
use Rattle.etagere_links.specs.Links.{link_of, no_link}
use Rattle.etagere_links.proofs.WalkedLists.{once-part}
use Rattle.etagere_links.proofs.FieldChanges.{field_at-kept}
use Rattle.etagere_links.proofs.RecordChanges.{get-changed_by-other, length-changed_by, link_at-changed, link_at-other}
use Rattle.bucketed_model.specs.Picking.{or_else}
use Rattle.bucketed_model.specs.State.{Bucket, BucketShelf, bucket_numbers, is_idle, is_idle_bucket}
use Rattle.bucketed_model.proofs.Shelving.Shelves.{numbers_of}
use Rattle.bucketed_records.specs.declared.records.LinkedBucket.{LinkedBucket}
use Rattle.bucketed_records.specs.BucketRecords.{next_of}
use Rattle.bucketed_records.specs.Private.Store.{last_kept, AreBucketsSpelled, HasUnused, Spells, first_link, kept_shelf, kept_shelves}
use Rattle.bucketed_records.specs.declared.records.KeptShelf.{KeptShelf}
use Rattle.bucketed_records.specs.StandsFor.{live_of}
use Rattle.bucketed_records.proofs.Spelling.KeptShelves.{kept-append, last-kept}
use Rattle.bucketed_records.proofs.Spelling.ReadBack.{spelled-list}
use Rattle.bucketed_store.specs.Private.Returns.{Dropping, end_dropped, last_dropped, linked_to, row_unused, row_count, row_end, row_from}
use Rattle.bucketed_store.specs.declared.dropping.RowEnd.{RowEnd}
use Rattle.bucketed_store.proofs.Emptying.SpelledSpots.{shelf-spelled, shelves-frame, shelves-front-spelled}
use Rattle.bucketed_store.proofs.Emptying.Splices.{last_of, last_of-stands, spliced}

-- where a list that links spell ends, and how many stand in it
row-is : (records : List LinkedBucket) (steps count x : ℕ) (xs : List ℕ) (start : Option ℕ) → length xs ≤ steps → Leads (next_of records) start (x ∷ xs) None
    → row_from steps records count x ≡ record { last = last_of x xs; count = count + length xs }
row-is records zero count x [] start enough leads = ap (λ (n : ℕ). record { last = x; count = n }) (omega arith)
row-is records (suc steps) count x [] start enough leads = rw leads.1 (ap (λ (n : ℕ). record { last = x; count = n }) (omega arith))
row-is records zero count x (y ∷ ys) start enough leads = absurd (omega (arith, enough))
row-is records (suc steps) count x (y ∷ ys) start enough leads =
    rw leads.1.0
    (row-is records steps (suc count) y ys (next_of records x) (omega (arith, enough)) leads.1
    ∙ ap (λ (n : ℕ). record { last = last_of y ys; count = n }) (omega arith))

-- the numbers of shelves end to end
pub numbers-append : (xs ys : List BucketShelf) → bucket_numbers (xs ++ ys) ≡ bucket_numbers xs ++ bucket_numbers ys
numbers-append [] ys = refl
numbers-append (x ∷ xs) ys =
    ap (λ (ns : List ℕ). numbers_of x.buckets ++ ns) (numbers-append xs ys) ∙ sym (append_assoc (numbers_of x.buckets) (bucket_numbers xs) (bucket_numbers ys))

-- buckets that hold nothing live have records that say so
idle-lives : (records : List LinkedBucket) (shelf width : ℕ) (bs : List Bucket) → AreBucketsSpelled records shelf width bs → list_all is_idle_bucket bs ≡ true
    → AllByRecursion (λ (k : ℕ). live_of records k ≡ 0) (numbers_of bs)
idle-lives records shelf width [] spelled idle = tt
idle-lives records shelf width (b ∷ bs) spelled idle =
    let parts = and_parts (is_idle_bucket b) (list_all is_idle_bucket bs) idle in (
      ap (λ (r : Option LinkedBucket). option_map_or (λ (bucket : LinkedBucket). bucket.refcount) r 0) spelled.0 ∙ eqb-true b.live 0 parts.0,
      idle-lives records shelf width bs spelled.1 parts.1,
    )

-- the records after a list of idle buckets became unused: which stay, and which are unused
pub record IsRowUnused (records : List LinkedBucket) (top : Option ℕ) (front unused : List ℕ) (bs : List Bucket) : Type 0 where
  pub stays : (k : ℕ) → 1 ≤ times k front → slice_get (row_unused (first_link bs) top records) k ≡ slice_get records k
  pub has_unused : HasUnused (row_unused (first_link bs) top records) (or_else (first_link bs) top) front (numbers_of bs ++ unused)
  pub count : row_count records (first_link bs) ≡ length bs

-- idle buckets are unused
pub row-made_unused : (records : List LinkedBucket) (top : Option ℕ) (front unused : List ℕ) (shelf width : ℕ) (bs : List Bucket)
    → AreBucketsSpelled records shelf width bs → list_all is_idle_bucket bs ≡ true → HasUnused records top (front ++ numbers_of bs) unused
    → IsRowUnused records top front unused bs
row-made_unused records top front unused shelf width [] spelled idle has_unused =
    record { stays = λ k stands. refl; has_unused = subst (λ (ns : List ℕ). HasUnused records top ns unused) (append-nil front) has_unused; count = refl }
row-made_unused records top front unused shelf width (b ∷ bs) spelled idle has_unused =
    let n = b.tag.number in
    let ns = numbers_of bs in
    let end = last_of n ns in
    let all : (k : ℕ) → times k ((front ++ n ∷ ns) ++ unused) ≡ times k front + times k (n ∷ ns) + times k unused =
    λ k. omega (arith, times-append k (front ++ n ∷ ns) unused, times-append k front (n ∷ ns)) in
    let once : (k : ℕ) → times k front + times k (n ∷ ns) + times k unused ≤ 1 =
    λ k. (once-part (length records) ((front ++ n ∷ ns) ++ unused) k (times k front + times k (n ∷ ns) + times k unused) has_unused.once (omega (arith, all k))).0 in
    let within : end < length records =
    (once-part (length records) ((front ++ n ∷ ns) ++ unused) end (times end (n ∷ ns)) has_unused.once (omega (arith, all end))).1 (last_of-stands n ns) in
    let leads : Leads (next_of records) (Some n) (n ∷ ns) None = spelled-list records shelf width (b ∷ bs) spelled in
    let long : length (front ++ n ∷ ns) ≡ length front + suc (length ns) = length-append front (n ∷ ns) in
    let row : row_end records n ≡ record { last = end; count = suc (length ns) } =
    row-is records (length records) 1 n ns (Some n) (omega (arith, has_unused.count, long)) leads ∙ ap (λ (m : ℕ). record { last = end; count = m }) (omega arith) in
    let new = changed_by (Some end) (linked_to top) records in
    let same : changed_by (Some (row_end records n).last) (linked_to top) records ≡ new = ap (λ (e : RowEnd). changed_by (Some e.last) (linked_to top) records) row in
    let other : (k : ℕ) → end ≢ k → Some end ≢ Some k = λ k differs e. (let equal : end ≡ k = cc in differs equal) in
    let kept : (k : ℕ) → live_of new k ≡ live_of records k = λ k. field_at-kept (λ (r : LinkedBucket). r.refcount) 0 (linked_to top) records end k (λ r. refl) in
    let list = spliced (next_of records) (next_of new) n ns unused (Some n) top (λ k. omega (arith, once k))
    (λ k differs. link_at-other (λ (r : LinkedBucket). r.next) (linked_to top) records (Some end) k (other k differs))
    (link_at-changed (λ (r : LinkedBucket). r.next) (linked_to top) records (Some end) top end refl within (λ r. refl))
    leads has_unused.list in
    let after : HasUnused new (Some n) front ((n ∷ ns) ++ unused) = record {
      list = list;
      once = λ k. rw (length-changed_by (linked_to top) records (Some end))
          (omega (arith, all k, times-append k front ((n ∷ ns) ++ unused), times-append k (n ∷ ns) unused) ∙ has_unused.once k);
      count = omega (arith, has_unused.count, long, length-append (n ∷ ns) unused, length-changed_by (linked_to top) records (Some end));
      few = omega (arith, has_unused.few, length-changed_by (linked_to top) records (Some end));
      idle = Each-append (λ (k : ℕ). live_of new k ≡ 0) (n ∷ ns) unused
          (Each-weaken (λ (k : ℕ). live_of records k ≡ 0) (λ (k : ℕ). live_of new k ≡ 0) (n ∷ ns) (λ k h. kept k ∙ h) (idle-lives records shelf width (b ∷ bs) spelled idle))
          (Each-weaken (λ (k : ℕ). live_of records k ≡ 0) (λ (k : ℕ). live_of new k ≡ 0) unused (λ k h. kept k ∙ h) has_unused.idle);
    } in
    record {
      stays = λ k stands. rw same (get-changed_by-other (linked_to top) records (Some end) k
          (other k (λ e. (let here : 1 ≤ times k (n ∷ ns) = subst (λ (j : ℕ). 1 ≤ times j (n ∷ ns)) e (last_of-stands n ns) in omega (arith, once k, stands, here)))));
      has_unused = subst (λ (rs : List LinkedBucket). HasUnused rs (Some n) front ((n ∷ ns) ++ unused)) (sym same) after;
      count = ap (λ (e : RowEnd). e.count) row ∙ ap suc (length-map bs (λ (bucket : Bucket). bucket.tag.number));
    }

-- what is kept but the last
pub front-kept : (front : List KeptShelf) (kept : KeptShelf) → take (length (front ++ kept ∷ []) - 1) (front ++ kept ∷ []) ≡ front
front-kept front kept =
    let long : length (front ++ kept ∷ []) - 1 ≡ length front = omega (arith, length-append front (kept ∷ [])) in
    rw long (take-append_seam front (kept ∷ []))

-- a last shelf that holds nothing live is dropped
pub record DropsLast (frame : Frame) (done : Dropping) (unused : List ℕ) (xs : List BucketShelf) (x : BucketShelf) : Type 0 where
  pub last : last_kept done.stored.shelves ≡ Some (kept_shelf frame xs x)
  pub spells : Spells frame (last_dropped (kept_shelf frame xs x) done).stored (numbers_of x.buckets ++ unused) xs
  pub count : (last_dropped (kept_shelf frame xs x) done).count ≡ done.count + length x.buckets

pub drops-last : (frame : Frame) (done : Dropping) (unused : List ℕ) (xs : List BucketShelf) (x : BucketShelf) → Spells frame done.stored unused (xs ++ x ∷ [])
    → is_idle x ≡ true → DropsLast frame done unused xs x
drops-last frame done unused xs x spells idle =
    let records = done.stored.buckets in
    let kept = kept_shelf frame xs x in
    let whole : done.stored.shelves ≡ kept_shelves frame [] xs ++ kept ∷ [] = spells.shelves ∙ kept-append frame [] xs (x ∷ []) in
    let numbers : bucket_numbers (xs ++ x ∷ []) ≡ bucket_numbers xs ++ numbers_of x.buckets =
    numbers-append xs (x ∷ []) ∙ ap (λ (ns : List ℕ). bucket_numbers xs ++ ns) (append-nil (numbers_of x.buckets)) in
    let row = shelf-spelled records 0 xs x [] spells.buckets in
    let unused_row = row-made_unused records done.stored.unused (bucket_numbers xs) unused (0 + length xs) x.bucket_width x.buckets row idle
    (subst (λ (ns : List ℕ). HasUnused records done.stored.unused ns unused) numbers spells.has_unused) in
    record {
      last = ap last_kept spells.shelves ∙ last-kept frame xs x;
      spells = record {
        shelves = ap (λ (ks : List KeptShelf). take (length ks - 1) ks) whole ∙ front-kept (kept_shelves frame [] xs) kept;
        buckets = shelves-frame records (row_unused (first_link x.buckets) done.stored.unused records) 0 xs unused_row.stays (shelves-front-spelled records 0 xs (x ∷ []) spells.buckets);
        has_unused = unused_row.has_unused;
      };
      count = ap (λ (n : ℕ). done.count + n) unused_row.count;
    }

-- a list goes on by a link
pub row-step : (records : List LinkedBucket) (steps rest count at next : ℕ) → steps ≡ suc rest → next_of records at ≡ Some next
    → row_from steps records count at ≡ row_from rest records (count + 1) next
row-step records steps rest count at next e link = rw (e, link) (ap (λ (n : ℕ). row_from rest records n next) (omega arith))

-- a list ends by a number of no record, which is behind the last one or stands for no link
pub row-stops : (records : List LinkedBucket) (steps rest count at number : ℕ) → steps ≡ suc rest → link_of number ≡ next_of records at → length records ≤ number
    → row_from steps records count at
    ≡ option_map_or (λ (n : ℕ). let end : RowEnd = record { last = n; count = count + 1 } in end) (link_of number) (record { last = at; count = count })
row-stops records steps rest count at number e names past = by_test (number == no_link) refl
  where
    next-past : (xs : List LinkedBucket) (n : ℕ) → length xs ≤ n → next_of xs n ≡ None
    next-past xs n long = ap (option_and_then (λ (bucket : LinkedBucket). bucket.next)) (slice_get_past xs n long)

    stands : (left : ℕ) → row_from left records (count + 1) number ≡ record { last = number; count = count + 1 }
    stands zero = refl
    stands (suc left) = rw (next-past records number past) refl

    named : (t : Bool) → (number == no_link) ≡ t → next_of records at ≡ cond t None (Some number)
    named t test = sym names ∙ ap (λ (u : Bool). cond u None (Some number)) test

    by_test : (t : Bool) → (number == no_link) ≡ t → row_from steps records count at
        ≡ option_map_or (λ (n : ℕ). let end : RowEnd = record { last = n; count = count + 1 } in end) (cond t None (Some number)) (record { last = at; count = count })
    by_test true test = rw (e, named true test) refl
    by_test false test = row-step records steps rest count at number e (named false test) ∙ stands rest

-- nothing is dropped where there is no shelf
pub end-none : (steps : ℕ) (done : Dropping) → last_kept done.stored.shelves ≡ None → end_dropped steps done ≡ done
end-none zero done none = refl
end-none (suc steps) done none = rw none refl

-- nothing is dropped where the last shelf holds something live
pub end-busy : (steps : ℕ) (done : Dropping) (kept : KeptShelf) → last_kept done.stored.shelves ≡ Some kept → 0 < kept.live_items → end_dropped steps done ≡ done
end-busy zero done kept last busy = refl
end-busy (suc steps) done kept last busy = rw last (by_test (kept.live_items == 0) refl)
  where
    by_test : (t : Bool) → (kept.live_items == 0) ≡ t → cond t (end_dropped steps (last_dropped kept done)) done ≡ done
    by_test true e = absurd (omega (arith, busy, eqb-true kept.live_items 0 e))
    by_test false e = refl

-- no more are left than there were, and all where as many are left
pub record Leaves (before after : Dropping) : Type 0 where
  pub few : length after.stored.shelves ≤ length before.stored.shelves
  pub same : length after.stored.shelves ≡ length before.stored.shelves → after ≡ before

-- what is left when shelves at the end were dropped
pub leaves-dropped : (steps : ℕ) (done : Dropping) → Leaves done (end_dropped steps done)
leaves-dropped zero done = record { few = omega arith; same = λ _. refl }
leaves-dropped (suc steps) done = by_last (λ next. leaves-dropped steps next) (last_kept done.stored.shelves) refl
  where
    shelves : List KeptShelf
    shelves = done.stored.shelves

    rest : Option KeptShelf → Dropping
    rest last = option_map_or (λ (one : KeptShelf). cond (one.live_items == 0) (end_dropped steps (last_dropped one done)) done) last done

    by_test : ((next : Dropping) → Leaves next (end_dropped steps next)) → (one : KeptShelf) → last_kept shelves ≡ Some one → (t : Bool)
        → Leaves done (cond t (end_dropped steps (last_dropped one done)) done)
    by_test later one last true =
        let next = later (last_dropped one done) in
        let within = slice_get_within shelves (length shelves - 1) one last in
        let taken = length-take-le (length shelves - 1) shelves (omega arith) in
        record { few = omega (arith, next.few, taken); same = λ same. absurd (omega (arith, next.few, within, taken, same)) }
    by_test later one last false = record { few = omega arith; same = λ _. refl }

    by_last : ((next : Dropping) → Leaves next (end_dropped steps next)) → (last : Option KeptShelf) → last_kept shelves ≡ last → Leaves done (rest last)
    by_last later None last = record { few = omega arith; same = λ _. refl }
    by_last later (Some one) last = by_test later one last (one.live_items == 0)

-- a last shelf that holds nothing live is dropped before the others are looked at
pub end-idle : (steps rest : ℕ) (done : Dropping) (kept : KeptShelf) → steps ≡ suc rest → last_kept done.stored.shelves ≡ Some kept → kept.live_items ≤ 0
    → end_dropped steps done ≡ end_dropped rest (last_dropped kept done)
end-idle steps rest done kept e last idle =
    let none : (kept.live_items == 0) ≡ true = is-zero kept.live_items idle in
    rw (e, last, none) refl
  where
    is-zero : (n : ℕ) → n ≤ 0 → (n == 0) ≡ true
    is-zero n h = grind arith

-- making unused keeps the number of records
pub length-unused : (first top : Option ℕ) (records : List LinkedBucket) → length (row_unused first top records) ≡ length records
length-unused None top records = refl
length-unused (Some first) top records = length-changed_by (linked_to top) records (Some (row_end records first).last)
