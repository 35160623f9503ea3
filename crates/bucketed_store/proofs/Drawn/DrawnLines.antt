-- What a picture shows of the state that records spell: what the records of its buckets say, shelf after shelf.
use Rattle.std.proofs.Common.{◌≡◌, ℕ, zero, suc, ◌+◌, ◌-◌, ◌≤◌, Bool, true, false, Option, None, Some, List, [], ◌∷◌, ◌++◌, length, refl, ap, arith, subst, sym, ◌∙◌}
use Rattle.std.proofs.lemmas.Grind.{flat_map-append}
use Rattle.std.proofs.lemmas.List.{append-nil}
use Rattle.std.specs.List.{AllByRecursion, flat_map}
use Rattle.std.specs.Prelude.{nat_lt, if◌then◌else◌}
use Rattle.etagere_base.proofs.EachLemmas.{Each-weaken}
use Rattle.etagere_base.specs.Drawing.{drawn_at, drawn_line, drawn_lines}
use Rattle.etagere_base.specs.Frames.{alignment_along}
use Rattle.etagere_base.specs.declared.drawing.Colour.TheVariants.{Allocated, Free}
use Rattle.etagere_base.specs.declared.drawing.Drawn.{Drawn}
use Rattle.etagere_base.specs.declared.frames.Frame.{Frame}
use Rattle.bucketed_model.specs.State.{Bucket, BucketShelf, buckets_in_use, column_height, most_buckets}
use Rattle.bucketed_model.specs.Svg.{drawn_after, drawn_along, drawn_bucket, drawn_buckets, free_part, used_part}
use Rattle.bucketed_model.specs.Valid.{IsBucket, IsShelf}
use Rattle.bucketed_records.specs.declared.records.LinkedBucket.{LinkedBucket}
use Rattle.bucketed_records.specs.declared.records.LinkedBucketShelf.{LinkedBucketShelf}
use Rattle.bucketed_records.specs.Private.Store.{AreBucketsSpelled, AreShelvesSpelled, Stored, first_link, kept_shelf, kept_shelves, record_of, stored_state}
use Rattle.bucketed_store.specs.Private.DrawnRecords.{AreKept, FitAlong, FitsIn, bucket_lines, linked_from, recorded_lines, shelf_lines}
use Rattle.bucketed_store.proofs.Drawn.DrawnLinks.{linked-here, linked-none}

-- a line that is there or not, alone or in a list of lines
line-or-none : (t : Bool) (drawn : Drawn) → (if t then drawn_line drawn else []) ≡ drawn_lines (if t then drawn ∷ [] else [])
line-or-none true drawn = sym (append-nil (drawn_line drawn))
line-or-none false drawn = refl

module _ (frame : Frame) (records : List LinkedBucket) (before : List BucketShelf) (shelf : BucketShelf) where
  -- the record of the shelf
  abbrev own : LinkedBucketShelf
  own = (kept_shelf frame before shelf).shelf

  -- where it lies across
  abbrev across : ℕ
  across = column_height shelf.column before

  -- the parts of a bucket of the shelf
  abbrev parts : Bucket → List Drawn
  parts bucket = drawn_bucket frame across shelf.height shelf.bucket_width bucket

  -- the lines of a bucket that a record spells
  lines-spelled : (number : ℕ) (next : Option ℕ) (bucket : Bucket) → bucket.used ≤ shelf.bucket_width
      → bucket_lines frame own (record_of number shelf.bucket_width next bucket) ≡ drawn_lines (parts bucket)
  lines-spelled number next bucket fits =
      let free = shelf.bucket_width - bucket.used in
      let used : shelf.bucket_width - free ≡ bucket.used = omega (arith, fits) in
      ap (λ (u : ℕ). drawn_line (drawn_at frame Allocated bucket.place across u shelf.height)
      ++ (if nat_lt 0 free then drawn_line (drawn_at frame Free (bucket.place + u) across free shelf.height) else [])) used
      ∙ ap (λ (l : List ℕ). drawn_line (used_part frame across shelf.height bucket) ++ l)
      (line-or-none (nat_lt 0 free) (free_part frame across shelf.height shelf.bucket_width bucket))

  -- the lines of buckets that records spell
  along-spelled : (number steps : ℕ) (bs : List Bucket) → AllByRecursion (λ (b : Bucket). b.used ≤ shelf.bucket_width) bs → length bs ≤ steps
      → AreBucketsSpelled records number shelf.bucket_width bs
      → flat_map (bucket_lines frame own) (linked_from steps records (first_link bs)) ≡ drawn_lines (flat_map parts bs)
  along-spelled number steps [] fit few spelled = ap (flat_map (bucket_lines frame own)) (linked-none records steps None refl)
  along-spelled number zero (b ∷ bs) fit few spelled = absurd (omega (arith, few))
  along-spelled number (suc steps) (b ∷ bs) fit few spelled =
      let record_ = record_of number shelf.bucket_width (first_link bs) b in
      let rest = linked_from steps records (first_link bs) in
      ap (flat_map (bucket_lines frame own)) (linked-here records (suc steps) steps b.tag.number (Some b.tag.number) record_ refl refl spelled.0)
      ∙ ap (λ (l : List ℕ). l ++ flat_map (bucket_lines frame own) rest) (lines-spelled number (first_link bs) b fit.0)
      ∙ ap (λ (l : List ℕ). drawn_lines (parts b) ++ l) (along-spelled number steps bs fit.1 (omega (arith, few)) spelled.1)
      ∙ sym (flat_map-append drawn_line (parts b) (flat_map parts bs))

  -- no more of them is free than they are wide
  along-fits : (number steps : ℕ) (bs : List Bucket) → length bs ≤ steps → AreBucketsSpelled records number shelf.bucket_width bs
      → AllByRecursion (FitsIn own) (linked_from steps records (first_link bs))
  along-fits number steps [] few spelled = subst (AllByRecursion (FitsIn own)) (sym (linked-none records steps None refl)) tt
  along-fits number zero (b ∷ bs) few spelled = absurd (omega (arith, few))
  along-fits number (suc steps) (b ∷ bs) few spelled =
      let record_ = record_of number shelf.bucket_width (first_link bs) b in
      subst (AllByRecursion (FitsIn own))
      (sym (linked-here records (suc steps) steps b.tag.number (Some b.tag.number) record_ refl refl spelled.0))
      (omega arith, along-fits number steps bs (omega (arith, few)) spelled.1)

-- the lines of shelves that stand after others
after-spelled : (frame : Frame) (records : List LinkedBucket) (number : ℕ) (before shelves : List BucketShelf) → AllByRecursion (IsShelf frame) shelves → buckets_in_use shelves ≤ most_buckets
    → AreShelvesSpelled records number shelves
    → flat_map (shelf_lines frame records) (kept_shelves frame before shelves) ≡ drawn_lines (drawn_after frame before shelves)
after-spelled frame records number before [] each few spelled = refl
after-spelled frame records number before (s ∷ ss) each few spelled =
    let fit = Each-weaken (IsBucket (alignment_along frame) s.bucket_width s.height) (λ (b : Bucket). b.used ≤ s.bucket_width) s.buckets (λ b is. is.used) each.0.buckets in
    let first = drawn_along frame (column_height s.column before) s in
    let others = drawn_after frame (before ++ s ∷ []) ss in
    ap (λ (l : List ℕ). l ++ flat_map (shelf_lines frame records) (kept_shelves frame (before ++ s ∷ []) ss))
    (along-spelled frame records before s number most_buckets s.buckets fit (omega (arith, few)) spelled.0)
    ∙ ap (λ (l : List ℕ). drawn_lines first ++ l) (after-spelled frame records (suc number) (before ++ s ∷ []) ss each.1 (omega (arith, few)) spelled.1)
    ∙ sym (flat_map-append drawn_line first others)

-- no more of the buckets of shelves is free than they are wide
after-fits : (frame : Frame) (records : List LinkedBucket) (number : ℕ) (before shelves : List BucketShelf) → buckets_in_use shelves ≤ most_buckets
    → AreShelvesSpelled records number shelves → AllByRecursion (FitAlong records) (kept_shelves frame before shelves)
after-fits frame records number before [] few spelled = tt
after-fits frame records number before (s ∷ ss) few spelled = (
  along-fits frame records before s number most_buckets s.buckets (omega (arith, few)) spelled.0,
  after-fits frame records (suc number) (before ++ s ∷ []) ss (omega (arith, few)) spelled.1,
)

-- the lines of every bucket, as records say
pub kept-lines : (frame : Frame) (stored : Stored) → AreKept frame stored → recorded_lines frame stored ≡ drawn_lines (drawn_buckets (stored_state frame stored))
kept-lines frame stored kept =
    let spells = kept.witnessed.spells in
    let valid = kept.witnessed.valid.shelves in
    ap (flat_map (shelf_lines frame stored.buckets)) spells.shelves
    ∙ after-spelled frame stored.buckets 0 [] (stored_state frame stored).shelves valid.each valid.few spells.buckets

-- no more of a bucket is free than it is wide
pub kept-fits : (frame : Frame) (stored : Stored) → AreKept frame stored → AllByRecursion (FitAlong stored.buckets) stored.shelves
kept-fits frame stored kept =
    let spells = kept.witnessed.spells in
    subst (AllByRecursion (FitAlong stored.buckets)) (sym spells.shelves)
    (after-fits frame stored.buckets 0 [] (stored_state frame stored).shelves kept.witnessed.valid.shelves.few spells.buckets)
