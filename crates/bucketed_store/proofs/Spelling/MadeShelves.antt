-- Shelves that are made: their records spell them.
use Rattle.std.proofs.Common.{◌≡◌, ℕ, suc, ◌+◌, ◌*◌, ◌<◌, ◌≤◌, max, Bool, true, false, cond, Option, None, Some, List, [], ◌∷◌, ◌++◌, length, take, drop, refl, ap, arith, sym, ◌∙◌, subst, append_assoc, append-nil, length-append, ⊎_elim, ◌⊎◌, inl, inr}
use Rattle.std.proofs.lemmas.List.{take_all, take_at, drop_at}
use Rattle.std.proofs.Math.Nat.{suc-mul}
use Rattle.std.specs.Option.{option_map_or}
use Rattle.std.specs.Prelude.{◌==◌}
use Rattle.std.specs.List.{AllByRecursion}
use Rattle.etagere_base.proofs.EachLemmas.{Each-append}
use Rattle.etagere_base.proofs.TimesLemmas.{times-append}
use Rattle.etagere_base.specs.declared.frames.Frame.{Frame}
use Rattle.etagere_base.specs.declared.sides.Sides.{Sides}
use Rattle.etagere_base.specs.Lists.{times}
use Rattle.bucketed_model.specs.Adding.{AreNewTags, IsTag, NewShelf, NewShelves, made_shelf, made_shelves, new_buckets, news_of, total_count, width_of_share}
use Rattle.bucketed_model.specs.Frames.{IsBucketedFrame}
use Rattle.bucketed_model.specs.State.{BucketShelf, Tag, bucket_numbers, buckets_in_use, column_height, column_place, tag_numbers}
use Rattle.bucketed_model.specs.Valid.{AreShelves}
use Rattle.bucketed_model.proofs.Shelving.Added.{added-one, FitsBehind, FitsNews}
use Rattle.bucketed_model.proofs.Shelving.Made.{length-new, numbers-new}
use Rattle.bucketed_model.proofs.Shelving.Shelves.{bucket_numbers-append, buckets_in_use-append, column_height-append, column_height-unopened, numbers_of, opened_by, in-use-length}
use Rattle.bucketed_records.specs.declared.records.LinkedBucket.{LinkedBucket}
use Rattle.bucketed_records.specs.Private.Store.{AreBucketsSpelled, AreShelvesSpelled, Spells, Stored, first_link, kept_shelf, kept_shelves, live_items, widest_room}
use Rattle.bucketed_records.specs.declared.records.KeptShelf.{KeptShelf}
use Rattle.bucketed_records.proofs.Spelling.KeptShelves.{Ends, ends-of, kept-append, last, last-kept, length-kept, nothing}
use Rattle.bucketed_store.specs.Private.StoreEdits.{IsShort, Made, StayShort, made_many, next_across, stored_shelf, stored_shelves}
use Rattle.bucketed_store.proofs.Spelling.Ends.{short-kept}
use Rattle.bucketed_store.proofs.Spelling.MadeBuckets.{AreMade, made_many-are, has_unused-same, shelves-stay, tags-length}

-- the records of shelves and of one more at their end
pub spelled-append : (records : List LinkedBucket) (number : ℕ) (ss : List BucketShelf) (s : BucketShelf) → AreShelvesSpelled records number ss
    → AreBucketsSpelled records (number + length ss) s.bucket_width s.buckets → AreShelvesSpelled records number (ss ++ s ∷ [])
spelled-append records number [] s h own = let here : number + 0 ≡ number = omega arith in (rw here at own, tt)
spelled-append records number (x ∷ ss) s h own =
    let later : number + suc (length ss) ≡ suc number + length ss = omega arith in
    (h.0, spelled-append records (suc number) ss s h.1 (rw later at own))

-- nothing is live in new buckets
live-new : (place width : ℕ) (tags : List Tag) → live_items (new_buckets place width tags) ≡ 0
live-new place width [] = refl
live-new place width (tag ∷ tags) = omega (arith, live-new place width tags)

-- new buckets have no more room than their width
room-new : (place width : ℕ) (tags : List Tag) → widest_room width (new_buckets place width tags) ≤ width
room-new place width [] = omega arith
room-new place width (tag ∷ tags) = omega (arith, room-new place width tags)

-- and just that
widest-new : (place width : ℕ) (tag : Tag) (tags : List Tag) → widest_room width (new_buckets place width (tag ∷ tags)) ≡ width
widest-new place width tag tags = omega (arith, room-new place width tags)

-- so many columns are opened after shelves as the last one says
opened-last : (opened : ℕ) (xs : List BucketShelf) (x : BucketShelf) → opened_by opened (xs ++ x ∷ []) ≡ suc x.column
opened-last opened [] x = refl
opened-last opened (y ∷ ys) x = opened-last (suc y.column) ys x

-- where a shelf begins across that stands behind others
abbrev across_behind : Frame → ℕ → Option KeptShelf → ℕ
across_behind frame column found =
    option_map_or
    (λ (kept : KeptShelf). cond (kept.shelf.x == column_place frame column) (kept.shelf.y + kept.shelf.height) 0) found 0

-- a shelf in the current column begins where the last one ends
across-current : (frame : Frame) (front : List BucketShelf) (x : BucketShelf) (column : ℕ) → column ≡ x.column
    → across_behind frame column (Some (kept_shelf frame front x)) ≡ column_height column (front ++ x ∷ [])
across-current frame front x column same =
    let sum : column_height column (front ++ x ∷ []) ≡ column_height x.column front + x.height =
    column_height-append column front (x ∷ []) ∙ one column same in
    let here : (column_place frame x.column == column_place frame column) ≡ true = rw same (equal (column_place frame x.column)) in
    ap (λ (t : Bool). cond t (column_height x.column front + x.height) 0) here ∙ sym sum
  where
    equal : (n : ℕ) → (n == n) ≡ true
    equal n = grind arith

    one : (c : ℕ) → c ≡ x.column → column_height c front + (cond (x.column == c) x.height 0 + 0) ≡ column_height x.column front + x.height
    one c k = rw k (ap (λ (t : Bool). column_height x.column front + (cond t x.height 0 + 0)) (equal x.column) ∙ omega arith)

-- a shelf in the next column begins at its start
across-later : (frame : Frame) (front : List BucketShelf) (x : BucketShelf) (column : ℕ) → 1 ≤ frame.column_width → column ≡ suc x.column → across_behind frame column (Some (kept_shelf frame front x)) ≡ 0
across-later frame front x column wide later =
    let other : (column_place frame x.column == column_place frame column) ≡ false = unequal (column_place frame x.column) (column_place frame column) (omega (arith, wide, ap (λ (c : ℕ). c * frame.column_width) later, suc-mul x.column frame.column_width)) in
    ap (λ (t : Bool). cond t (column_height x.column front + x.height) 0) other
  where
    unequal : (n m : ℕ) → n < m → (n == m) ≡ false
    unequal n m h = grind arith

-- a shelf in the current column or in the next one begins where those before it in its column end
pub across-next : (frame : Frame) (ss : List BucketShelf) (column : ℕ) → IsBucketedFrame frame → AreShelves frame ss
    → (suc column ≡ opened_by 0 ss) ⊎ (column ≡ opened_by 0 ss) → next_across (column_place frame column) (kept_shelves frame [] ss) ≡ column_height column ss
across-next frame ss column is_frame valid opens = by_end (ends-of ss)
  where
    by_end : Ends ss → next_across (column_place frame column) (kept_shelves frame [] ss) ≡ column_height column ss
    by_end (nothing e) = subst (λ (xs : List BucketShelf). next_across (column_place frame column) (kept_shelves frame [] xs) ≡ column_height column xs) (sym e) refl
    by_end (last front x e) =
        let opened : opened_by 0 ss ≡ suc x.column = ap (opened_by 0) e ∙ opened-last 0 front x in
        subst (λ (xs : List BucketShelf). next_across (column_place frame column) (kept_shelves frame [] xs) ≡ column_height column xs) (sym e)
        (ap (across_behind frame column) (last-kept frame front x) ∙ ⊎_elim
        (λ (h : suc column ≡ opened_by 0 ss). across-current frame front x column (omega (arith, h, opened)))
        (λ (h : column ≡ opened_by 0 ss). across-later frame front x column is_frame.column_width (omega (arith, h, opened))
        ∙ sym (ap (column_height column) (sym e) ∙ column_height-unopened 0 column ss valid.columns (omega (arith, h)))) opens)

-- a shelf was made behind others: the tags of its buckets, and what is unused now
pub record IsStored (frame : Frame) (new : NewShelf) (before after : Stored) (ss : List BucketShelf) : Type 0 where
  pub tags : List Tag
  pub unused : List ℕ
  pub count : length tags ≡ new.count
  pub each : AllByRecursion IsTag tags
  pub numbers : (k : ℕ) → times k (tag_numbers tags) + times k (bucket_numbers ss) ≤ 1
  pub spells : Spells frame after unused (ss ++ made_shelf frame new tags ∷ [])
  pub grows : length after.buckets ≡ max (length before.buckets) (buckets_in_use ss + new.count)
  pub short : IsShort frame before.shelves

-- some new buckets have the room of their width
widest-some : (place width : ℕ) (tags : List Tag) → 1 ≤ length tags → widest_room width (new_buckets place width tags) ≡ width
widest-some place width [] some = absurd (omega (arith, some))
widest-some place width (tag ∷ tags) some = widest-new place width tag tags

-- what is kept of a shelf that is made
kept-made : (frame : Frame) (ss : List BucketShelf) (new : NewShelf) (tags : List Tag) (across : ℕ) (first : Option ℕ) → 1 ≤ length tags
    → across ≡ column_height new.column ss → first ≡ first_link (new_buckets (column_place frame new.column) (width_of_share frame new.count) tags)
    → record {
      shelf = record {
        x = column_place frame new.column;
        y = across;
        height = new.height;
        bucket_width = width_of_share frame new.count;
        first_bucket = first;
      };
      live_items = 0;
      widest_room = width_of_share frame new.count;
    }
    ≡ kept_shelf frame ss (made_shelf frame new tags)
kept-made frame ss new tags across first some low begins =
    let place = column_place frame new.column in
    let width = width_of_share frame new.count in
    ap (kept across first 0) (sym (widest-some place width tags some))
    ∙ ap (λ (live : ℕ). kept across first live (widest_room width (new_buckets place width tags))) (sym (live-new place width tags))
    ∙ ap (λ (link : Option ℕ). kept across link (live_items (new_buckets place width tags)) (widest_room width (new_buckets place width tags))) begins
    ∙ ap (λ (y : ℕ). kept y (first_link (new_buckets place width tags)) (live_items (new_buckets place width tags)) (widest_room width (new_buckets place width tags))) low
  where
    kept : ℕ → Option ℕ → ℕ → ℕ → KeptShelf
    kept y link live room =
        record {
          shelf = record {
            x = column_place frame new.column;
            y = y;
            height = new.height;
            bucket_width = width_of_share frame new.count;
            first_bucket = link;
          };
          live_items = live;
          widest_room = room;
        }

-- a shelf that fits is made behind others
pub stored_shelf-is : (frame : Frame) (new : NewShelf) (stored : Stored) (unused : List ℕ) (ss : List BucketShelf) → IsBucketedFrame frame → AreShelves frame ss
    → FitsBehind frame ss new → Spells frame stored unused ss → IsStored frame new stored (stored_shelf frame new stored) ss
stored_shelf-is frame new stored unused ss is_frame valid fits spells =
    let place = column_place frame new.column in
    let width = width_of_share frame new.count in
    let before : Made = record { buckets = stored.buckets; unused = stored.unused; first = None } in
    let made : AreMade new.count (length stored.shelves) width place before (made_many new.count (record { shelf = length stored.shelves; width = width; x = place }) before) (bucket_numbers ss) [] =
    made_many-are new.count (length stored.shelves) width place before (bucket_numbers ss) unused [] refl tt (λ k. omega arith) spells.has_unused
    (omega (arith, in-use-length ss, fits.few)) in
    let s = made_shelf frame new made.tags in
    let some : 1 ≤ length made.tags = omega (arith, made.count_is, fits.some) in
    let alone : new_buckets place width made.tags ++ [] ≡ new_buckets place width made.tags = append-nil (new_buckets place width made.tags) in
    let many : length stored.shelves ≡ length ss = ap (λ (ks : List KeptShelf). length ks) spells.shelves ∙ length-kept frame [] ss in
    let low : next_across place stored.shelves ≡ column_height new.column ss =
    ap (next_across place) spells.shelves
    ∙ across-next frame ss new.column is_frame valid (⊎_elim (λ (h : suc new.column ≡ opened_by 0 ss). inl h) (λ (h : (new.column ≡ opened_by 0 ss) × (1 ≤ new.height)). inr h.0) fits.opens.0) in
    let records = (made_many new.count (record { shelf = length stored.shelves; width = width; x = place }) before).buckets in
    let own : AreBucketsSpelled records (0 + length ss) width s.buckets =
    subst (λ (n : ℕ). AreBucketsSpelled records n width s.buckets) (omega (arith, many))
    (subst (AreBucketsSpelled records (length stored.shelves) width) alone made.spelled) in
    let numbers : (k : ℕ) → times k (bucket_numbers (ss ++ s ∷ [])) ≡ times k (bucket_numbers ss) + times k (tag_numbers made.tags) =
    λ k. omega (arith, bucket_numbers-append k ss (s ∷ []), times-append k (numbers_of s.buckets) [], ap (times k) (numbers-new place width made.tags)) in
    record {
      tags = made.tags;
      unused = made.unused;
      count = made.count_is;
      each = made.each;
      numbers = made.numbers;
      spells = record {
        shelves = ap (λ (k : KeptShelf). stored.shelves ++ k ∷ []) (kept-made frame ss new made.tags (next_across place stored.shelves) _ some low (made.first ∙ ap first_link alone))
            ∙ ap (λ (ks : List KeptShelf). ks ++ kept_shelf frame ss s ∷ []) spells.shelves
            ∙ sym (kept-append frame [] ss (s ∷ []));
        buckets = spelled-append records 0 ss s
            (shelves-stay stored.buckets records (tag_numbers made.tags) 0 ss made.stays (λ k stands. omega (arith, stands, made.numbers k)) spells.buckets) own;
        has_unused = has_unused-same records _ (tag_numbers made.tags ++ bucket_numbers ss) (bucket_numbers (ss ++ s ∷ [])) made.unused
            (λ k. omega (arith, numbers k, times-append k (tag_numbers made.tags) (bucket_numbers ss)))
            (omega (arith, in-use-length (ss ++ s ∷ []), buckets_in_use-append ss (s ∷ []), length-new place width made.tags, in-use-length ss, length-append (tag_numbers made.tags) (bucket_numbers ss), tags-length made.tags))
            made.has_unused;
      };
      grows = omega (arith, made.grows, in-use-length ss);
      short = subst (IsShort frame) (sym spells.shelves) (short-kept frame ss valid);
    }

-- shelves were made behind others: the tags of their buckets, and what is unused now
pub record AreStored (frame : Frame) (news : List NewShelf) (before after : Stored) (ss : List BucketShelf) : Type 0 where
  pub tags : List Tag
  pub unused : List ℕ
  pub new_tags : AreNewTags ss (total_count news) tags
  pub spells : Spells frame after unused (ss ++ made_shelves frame news tags)
  pub grows : length after.buckets ≡ max (length before.buckets) (buckets_in_use ss + total_count news)
  pub short : StayShort frame news before

-- one shelf is made
stored-one : (frame : Frame) (new : NewShelf) (before after : Stored) (ss : List BucketShelf) → IsStored frame new before after ss → AreStored frame (new ∷ []) before after ss
stored-one frame new before after ss one =
    let all : take new.count one.tags ≡ one.tags = take_all new.count one.tags (omega (arith, one.count)) in
    record {
      tags = one.tags;
      unused = one.unused;
      new_tags = record { count = omega (arith, one.count); each = one.each; numbers = one.numbers };
      spells = subst (λ (tags : List Tag). Spells frame after one.unused (ss ++ made_shelf frame new tags ∷ [])) (sym all) one.spells;
      grows = omega (arith, one.grows);
      short = (one.short, tt);
    }

-- the numbers of tags end to end
tags-append : (k : ℕ) (xs ys : List Tag) → times k (tag_numbers (xs ++ ys)) ≡ times k (tag_numbers xs) + times k (tag_numbers ys)
tags-append k [] ys = omega arith
tags-append k (x ∷ xs) ys = omega (arith, tags-append k xs ys)

-- a shelf is made behind a filler
stored-two : (frame : Frame) (filling new : NewShelf) (before after : Stored) (ss : List BucketShelf) (one : IsStored frame filling before (stored_shelf frame filling before) ss)
    → IsStored frame new (stored_shelf frame filling before) after (ss ++ made_shelf frame filling one.tags ∷ []) → AreStored frame (filling ∷ new ∷ []) before after ss
stored-two frame filling new before after ss one two =
    let tags = one.tags ++ two.tags in
    let front : take filling.count tags ≡ one.tags = take_at one.tags two.tags filling.count one.count in
    let back : drop filling.count tags ≡ two.tags = drop_at one.tags two.tags filling.count one.count in
    let all : take new.count (drop filling.count tags) ≡ two.tags = ap (take new.count) back ∙ take_all new.count two.tags (omega (arith, two.count)) in
    let s = made_shelf frame filling one.tags in
    let place = column_place frame filling.column in
    let width = width_of_share frame filling.count in
    let whole : (ss ++ s ∷ []) ++ made_shelf frame new two.tags ∷ [] ≡ ss ++ made_shelves frame (filling ∷ new ∷ []) tags =
    append_assoc ss (s ∷ []) (made_shelf frame new two.tags ∷ [])
    ∙ ap (λ (own : List Tag). ss ++ made_shelf frame filling own ∷ made_shelf frame new two.tags ∷ []) (sym front)
    ∙ ap (λ (own : List Tag). ss ++ made_shelf frame filling (take filling.count tags) ∷ made_shelf frame new own ∷ []) (sym all) in
    record {
      tags = tags;
      unused = two.unused;
      new_tags = record {
        count = omega (arith, length-append one.tags two.tags, one.count, two.count);
        each = Each-append IsTag one.tags two.tags one.each two.each;
        numbers = λ k. omega (
          arith,
          tags-append k one.tags two.tags,
          two.numbers k,
          bucket_numbers-append k ss (s ∷ []),
          times-append k (numbers_of s.buckets) [],
          ap (times k) (numbers-new place width one.tags),
        );
      };
      spells = subst (Spells frame after two.unused) whole two.spells;
      grows = omega (arith, one.grows, two.grows, buckets_in_use-append ss (s ∷ []), length-new place width one.tags, one.count);
      short = (one.short, (two.short, tt));
    }

-- new shelves that fit are made
pub stored_shelves-are : (frame : Frame) (sides : Sides) (news : List NewShelf) (stored : Stored) (unused : List ℕ) (ss : List BucketShelf) → IsBucketedFrame frame → AreShelves frame ss
    → FitsNews frame ss sides news → Spells frame stored unused ss → AreStored frame news stored (stored_shelves frame news stored) ss
stored_shelves-are frame sides [] stored unused ss is_frame valid fits spells = absurd fits
stored_shelves-are frame sides (new ∷ []) stored unused ss is_frame valid fits spells =
    stored-one frame new stored (stored_shelf frame new stored) ss (stored_shelf-is frame new stored unused ss is_frame valid fits.0 spells)
stored_shelves-are frame sides (filling ∷ new ∷ []) stored unused ss is_frame valid fits spells =
    let one = stored_shelf-is frame filling stored unused ss is_frame valid fits.0 spells in
    let middle = ss ++ made_shelf frame filling one.tags ∷ [] in
    let two = stored_shelf-is frame new (stored_shelf frame filling stored) one.unused middle is_frame
    (added-one frame ss filling one.tags is_frame valid fits.0 one.count one.each one.numbers) (fits.1 one.tags one.count) one.spells in
    stored-two frame filling new stored (stored_shelves frame (filling ∷ new ∷ []) stored) ss one two
stored_shelves-are frame sides (filling ∷ new ∷ other ∷ news) stored unused ss is_frame valid fits spells = absurd fits

-- the last shelf ends within the atlas before the first of new shelves is made
pub first-short : (frame : Frame) (news : NewShelves) (stored : Stored) → StayShort frame (news_of news) stored → IsShort frame stored.shelves
first-short frame news stored short = by_filler news.filler short
  where
    by_filler : (filler : Option NewShelf) → StayShort frame (news_of (record { filler = filler; asked = news.asked })) stored → IsShort frame stored.shelves
    by_filler None h = h.0
    by_filler (Some filler) h = h.0

-- and before the second one is made
pub second-short : (frame : Frame) (news : NewShelves) (filler : NewShelf) (stored : Stored) → news.filler ≡ Some filler → StayShort frame (news_of news) stored → IsShort frame (stored_shelf frame filler stored).shelves
second-short frame news filler stored is short = by_filler news.filler is short
  where
    by_filler : (o : Option NewShelf) → o ≡ Some filler → StayShort frame (news_of (record { filler = o; asked = news.asked })) stored → IsShort frame (stored_shelf frame filler stored).shelves
    by_filler None e h = absurd (cc)
    by_filler (Some other) e h =
        let same : other ≡ filler = cc in
        subst (λ (n : NewShelf). IsShort frame (stored_shelf frame n stored).shelves) same h.1.0
