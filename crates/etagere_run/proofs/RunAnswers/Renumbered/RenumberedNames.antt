-- Other numbers for new buckets, and that what is there stays by them.
use Rattle.std.proofs.Common.{◌≡◌, ℕ, suc, ◌+◌, ◌%◌, ◌≤◌, Bool, true, false, ◌&&◌, ◌||◌, ◌==◌, List, [], ◌∷◌, ◌++◌, length, map, refl, ap, arith, sym, ◌∙◌}
use Rattle.std.proofs.lemmas.Bool.{eqb-true}
use Rattle.std.proofs.lemmas.List.{map-append}
use Rattle.std.specs.List.{AllByRecursion, list_any}
use Rattle.std.specs.Prelude.{nat_le, nat_lt}
use Rattle.etagere_base.specs.declared.ids.Allocation.{Allocation}
use Rattle.etagere_base.specs.Lists.{times}
use Rattle.etagere_base.proofs.TimesLemmas.{times-append}
use Rattle.bucketed_model.specs.Adding.{AreNewTags}
use Rattle.bucketed_model.specs.Returning.{given_of, is_giver, is_known, tag_of}
use Rattle.bucketed_model.specs.State.{Bucket, BucketShelf, BucketedState, Tag, bucket_numbers, given_unit, tag_numbers}
use Rattle.etagere_run.specs.Answers.Live.{Entry, live_allocations}
use Rattle.etagere_run.specs.Answers.Private.Renumbered.{Seen, renumbered, renumbered_bucket, renumbered_shelf, renumbered_tag, seen_entry}
use Rattle.etagere_run.proofs.RunAnswers.Renamed.OtherNames.{exchanged-apart, exchanged-none, exchanged-one, with_name}

-- a number that stands in a list stands in it under its other number
stands-map : (name : ℕ → ℕ) (n : ℕ) (ns : List ℕ) → 1 ≤ times n ns → 1 ≤ times (name n) (map name ns)
stands-map name n [] stands = absurd (omega (arith, stands))
stands-map name n (m ∷ ns) stands = by_test (λ others. stands-map name n ns others) (m == n) refl
  where
    by_test : (1 ≤ times n ns → 1 ≤ times (name n) (map name ns)) → (b : Bool) → (m == n) ≡ b → 1 ≤ times (name n) (name m ∷ map name ns)
    by_test rest true e = let same : m ≡ n = grind arith in rw same (grind arith)
    by_test rest false e = let others : 1 ≤ times n ns = grind arith in omega (arith, rest others)

-- lists of numbers are the same where numbers agree
map-agree : (name later : ℕ → ℕ) (ns : List ℕ) → ((n : ℕ) → 1 ≤ times n ns → later n ≡ name n) → map later ns ≡ map name ns
map-agree name later [] agree = refl
map-agree name later (n ∷ ns) agree =
    ap (λ m. m ∷ map later ns) (agree n (grind arith)) ∙ ap (λ (l : List ℕ). name n ∷ l) (map-agree name later ns (λ m stands. agree m (grind (arith, stands))))

-- numbers that agree with others on the old ones, and give the new ones these
pub record HasNewNumbers (name : ℕ → ℕ) (olds news others : List ℕ) : Type 0 where
  pub later : ℕ → ℕ
  pub apart : (n m : ℕ) → later n ≡ later m → n ≡ m
  pub agree : (n : ℕ) → 1 ≤ times n olds → later n ≡ name n
  pub own : map later news ≡ others

-- new numbers of each can be those of the other
pub new-numbers : (name : ℕ → ℕ) (olds news others : List ℕ) → ((n m : ℕ) → name n ≡ name m → n ≡ m) → length news ≡ length others
    → ((n : ℕ) → times n news + times n olds ≤ 1) → ((n : ℕ) → times n others + times n (map name olds) ≤ 1) → HasNewNumbers name olds news others
new-numbers name olds [] [] apart long once others_once = record { later = name; apart = apart; agree = λ n stands. refl; own = refl }
new-numbers name olds [] (m ∷ others) apart long once others_once = absurd (omega (arith, long))
new-numbers name olds (n ∷ news) [] apart long once others_once = absurd (omega (arith, long))
new-numbers name olds (n ∷ news) (m ∷ others) apart long once others_once =
    let first : ℕ → ℕ = with_name name n m in
    let own : first n ≡ m = exchanged-one (name n) m in
    let agree : (k : ℕ) → 1 ≤ times k olds → first k ≡ name k =
    λ k stands.
    exchanged-none (name n) m (name k)
    (λ same. let is : k ≡ n = apart k n same in let most : times k (n ∷ news) + times k olds ≤ 1 = once k in let here : 1 ≤ times k (n ∷ news) = rw is (grind arith) in omega (arith, most, here, stands))
    (λ same. let stood : 1 ≤ times (name k) (map name olds) = stands-map name k olds stands in let most : times (name k) (m ∷ others) + times (name k) (map name olds) ≤ 1 = others_once (name k) in let here : 1 ≤ times (name k) (m ∷ others) = rw same (grind arith) in omega (arith, most, here, stood)) in
    let rest : HasNewNumbers first (n ∷ olds) news others =
    new-numbers first (n ∷ olds) news others (λ k l same. apart k l (exchanged-apart (name n) m (name k) (name l) same)) (omega (arith, long))
    (λ k. let most : times k (n ∷ news) + times k olds ≤ 1 = once k in omega (arith, most))
    (λ k.
    let most : times k (m ∷ others) + times k (map name olds) ≤ 1 = others_once k in
    let same : times k (map first (n ∷ olds)) ≡ times k (m ∷ map name olds) = ap (λ (l : List ℕ). times k l) (ap (λ x. x ∷ map first olds) own ∙ ap (λ (l : List ℕ). m ∷ l) (map-agree name first olds agree)) in
    omega (arith, most, same)) in
    record {
      later = rest.later;
      apart = rest.apart;
      agree = λ k stands. rest.agree k (grind (arith, stands)) ∙ agree k stands;
      own = ap (λ x. x ∷ map rest.later news) (rest.agree n (grind arith) ∙ own) ∙ ap (λ (l : List ℕ). m ∷ l) rest.own;
    }

-- the numbers of buckets with other numbers
numbers-renumbered : (name : ℕ → ℕ) (shelves : List BucketShelf) → bucket_numbers (map (renumbered_shelf name) shelves) ≡ map name (bucket_numbers shelves)
numbers-renumbered name [] = refl
numbers-renumbered name (shelf ∷ shelves) =
    ap (λ (ns : List ℕ). ns ++ bucket_numbers (map (renumbered_shelf name) shelves)) (each shelf.buckets)
    ∙ ap (λ (ns : List ℕ). map name (map (λ (b : Bucket). b.tag.number) shelf.buckets) ++ ns) (numbers-renumbered name shelves)
    ∙ sym (map-append name (map (λ (b : Bucket). b.tag.number) shelf.buckets) (bucket_numbers shelves))
  where
    each : (bs : List Bucket) → map (λ (b : Bucket). b.tag.number) (map (renumbered_bucket name) bs) ≡ map name (map (λ (b : Bucket). b.tag.number) bs)
    each [] = refl
    each (b ∷ bs) = ap (λ (ns : List ℕ). name b.tag.number ∷ ns) (each bs)

-- numbers as they are
same-numbers : (ns : List ℕ) → map (λ n. n) ns ≡ ns
same-numbers [] = refl
same-numbers (n ∷ ns) = ap (λ (l : List ℕ). n ∷ l) (same-numbers ns)

-- shelves are the same under numbers that agree on their buckets
shelves-agree : (name later : ℕ → ℕ) (shelves : List BucketShelf) → ((n : ℕ) → 1 ≤ times n (bucket_numbers shelves) → later n ≡ name n)
    → map (renumbered_shelf later) shelves ≡ map (renumbered_shelf name) shelves
shelves-agree name later [] agree = refl
shelves-agree name later (shelf ∷ shelves) agree =
    let numbers : List ℕ = map (λ (b : Bucket). b.tag.number) shelf.buckets in
    ap (λ (bs : List Bucket). record { column = shelf.column; height = shelf.height; bucket_width = shelf.bucket_width; buckets = bs } ∷ map (renumbered_shelf later) shelves)
    (each shelf.buckets (λ n stands. agree n (omega (arith, stands, times-append n numbers (bucket_numbers shelves)))))
    ∙ ap (λ (ss : List BucketShelf). renumbered_shelf name shelf ∷ ss) (shelves-agree name later shelves (λ n stands. agree n (omega (arith, stands, times-append n numbers (bucket_numbers shelves)))))
  where
    each : (bs : List Bucket) → ((n : ℕ) → 1 ≤ times n (map (λ (b : Bucket). b.tag.number) bs) → later n ≡ name n) → map (renumbered_bucket later) bs ≡ map (renumbered_bucket name) bs
    each [] agree = refl
    each (b ∷ bs) agree =
        ap (λ (n : ℕ). record { place = b.place; used = b.used; live = b.live; given = b.given; tag = record { number = n; generation = 0 } } ∷ map (renumbered_bucket later) bs) (agree b.tag.number (grind arith))
        ∙ ap (λ (l : List Bucket). renumbered_bucket name b ∷ l) (each bs (λ n stands. agree n (grind (arith, stands))))

-- an id that is known names the number of a bucket
known-number : (shelves : List BucketShelf) (id : ℕ) → list_any (λ (shelf : BucketShelf). list_any (is_giver id) shelf.buckets) shelves ≡ true → 1 ≤ times (id % given_unit) (bucket_numbers shelves)
known-number [] id known = absurd (cc)
known-number (shelf ∷ shelves) id known =
    in_one (list_any (is_giver id) shelf.buckets) refl (list_any (λ (shelf : BucketShelf). list_any (is_giver id) shelf.buckets) shelves) refl known (λ later. known-number shelves id later)
  where
    numbers : List ℕ
    numbers = map (λ (b : Bucket). b.tag.number) shelf.buckets

    giver : (b : Bucket) → is_giver id b ≡ true → id % given_unit ≡ b.tag.number
    giver b gives = by_tag (id % given_unit == b.tag.number) refl gives
      where
        by_tag : (c : Bool) → (id % given_unit == b.tag.number) ≡ c
            → ((c && (tag_of id).generation == b.tag.generation) && (nat_lt 0 b.live && (nat_lt 0 (given_of id) && nat_le (given_of id) b.given))) ≡ true → id % given_unit ≡ b.tag.number
        by_tag true e h = eqb-true (id % given_unit) b.tag.number e
        by_tag false e h = absurd (cc)

    among : (bs : List Bucket) → list_any (is_giver id) bs ≡ true → 1 ≤ times (id % given_unit) (map (λ (b : Bucket). b.tag.number) bs)
    among [] known = absurd (cc)
    among (b ∷ bs) known = here (is_giver id b) refl known (λ later. among bs later)
      where
        here : (c : Bool) → is_giver id b ≡ c → (c || list_any (is_giver id) bs) ≡ true
            → (list_any (is_giver id) bs ≡ true → 1 ≤ times (id % given_unit) (map (λ (b : Bucket). b.tag.number) bs))
            → 1 ≤ times (id % given_unit) (b.tag.number ∷ map (λ (b : Bucket). b.tag.number) bs)
        here true e h later = let own : id % given_unit ≡ b.tag.number = giver b e in rw own (grind arith)
        here false e h later = let others : 1 ≤ times (id % given_unit) (map (λ (b : Bucket). b.tag.number) bs) = later h in omega (arith, others)

    in_one : (c : Bool) → list_any (is_giver id) shelf.buckets ≡ c → (d : Bool) → list_any (λ (shelf : BucketShelf). list_any (is_giver id) shelf.buckets) shelves ≡ d → (c || d) ≡ true
        → (list_any (λ (shelf : BucketShelf). list_any (is_giver id) shelf.buckets) shelves ≡ true → 1 ≤ times (id % given_unit) (bucket_numbers shelves))
        → 1 ≤ times (id % given_unit) (numbers ++ bucket_numbers shelves)
    in_one true e d f h later = omega (arith, among shelf.buckets e, times-append (id % given_unit) numbers (bucket_numbers shelves))
    in_one false e true f h later = omega (arith, later f, times-append (id % given_unit) numbers (bucket_numbers shelves))
    in_one false e false f h later = absurd (cc)

-- entries are seen alike under numbers that agree on the buckets that hold them
pub seen-agree : (name later : ℕ → ℕ) (entries : List Entry) (state : BucketedState) → AllByRecursion (λ (a : Allocation). is_known state a.id ≡ true) (live_allocations entries)
    → ((n : ℕ) → 1 ≤ times n (bucket_numbers state.shelves) → later n ≡ name n) → map (seen_entry later) entries ≡ map (seen_entry name) entries
seen-agree name later [] state known agree = refl
seen-agree name later (entry ∷ entries) state known agree =
    ap (λ (n : ℕ). record { position = entry.position; rectangle = entry.allocation.rectangle; number = n } ∷ map (seen_entry later) entries) (agree (entry.allocation.id % given_unit) (known-number state.shelves entry.allocation.id known.0))
    ∙ ap (λ (l : List Seen). seen_entry name entry ∷ l) (seen-agree name later entries state known.1 agree)

-- new tags of two states that are the same but for numbers and generations
pub record HasNewTags (name : ℕ → ℕ) (one other : BucketedState) (tags others : List Tag) : Type 0 where
  pub later : ℕ → ℕ
  pub apart : (n m : ℕ) → later n ≡ later m → n ≡ m
  pub agree : (n : ℕ) → 1 ≤ times n (bucket_numbers one.shelves) → later n ≡ name n
  pub own : map (renumbered_tag (λ n. n)) others ≡ map (renumbered_tag later) tags
  pub state : renumbered (λ n. n) other ≡ renumbered later one

-- new tags of each can have the numbers of the other
pub new-tags : (name : ℕ → ℕ) (one other : BucketedState) (needed others_needed : ℕ) (tags others : List Tag) → ((n m : ℕ) → name n ≡ name m → n ≡ m)
    → renumbered (λ n. n) other ≡ renumbered name one → needed ≡ others_needed → AreNewTags one.shelves needed tags → AreNewTags other.shelves others_needed others → HasNewTags name one other tags others
new-tags name one other needed others_needed tags others apart state same new others_new =
    let numbers : bucket_numbers other.shelves ≡ map name (bucket_numbers one.shelves) =
    sym (same-numbers (bucket_numbers other.shelves)) ∙ sym (numbers-renumbered (λ n. n) other.shelves)
    ∙ ap (λ (s : BucketedState). bucket_numbers s.shelves) state ∙ numbers-renumbered name one.shelves in
    let has : HasNewNumbers name (bucket_numbers one.shelves) (tag_numbers tags) (tag_numbers others) =
    new-numbers name (bucket_numbers one.shelves) (tag_numbers tags) (tag_numbers others) apart
    (omega (arith, long tags, long others, new.count, others_new.count, same)) new.numbers (λ n. rw (← numbers) (others_new.numbers n)) in
    record {
      later = has.later;
      apart = has.apart;
      agree = has.agree;
      own = tagged others tags has.later has.own;
      state = state ∙ ap (λ (ss : List BucketShelf). record { frame = one.frame; shelves = ss }) (sym (shelves-agree name has.later one.shelves has.agree));
    }
  where
    long : (ts : List Tag) → length (tag_numbers ts) ≡ length ts
    long [] = refl
    long (t ∷ ts) = ap suc (long ts)

    tagged : (others tags : List Tag) (later : ℕ → ℕ) → map later (tag_numbers tags) ≡ tag_numbers others → map (renumbered_tag (λ n. n)) others ≡ map (renumbered_tag later) tags
    tagged others tags later own =
        sym (of_numbers (λ n. n) others) ∙ ap (map (λ n. record { number = n; generation = 0 })) (same-numbers (tag_numbers others) ∙ sym own) ∙ of_numbers later tags
      where
        of_numbers : (name : ℕ → ℕ) (ts : List Tag) → map (λ n. record { number = n; generation = 0 }) (map name (tag_numbers ts)) ≡ map (renumbered_tag name) ts
        of_numbers name [] = refl
        of_numbers name (t ∷ ts) = ap (λ (l : List Tag). renumbered_tag name t ∷ l) (of_numbers name ts)
