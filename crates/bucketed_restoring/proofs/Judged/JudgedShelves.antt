-- Shelves that were judged one after another: what is kept of them so far, and what one more adds.
use Rattle.std.proofs.Common.{◌≡◌, ℕ, zero, suc, ◌+◌, ◌≤◌, ◌<◌, Bool, true, false, Some, List, [], ◌∷◌, ◌++◌, length, length-append, map, refl, ap, arith, sym, ◌∙◌, subst, append_assoc}
use Rattle.std.proofs.lemmas.List.{append-nil, get_or_past, map-append}
use Rattle.std.proofs.lemmas.Option.{slice_get_within}
use Rattle.std.specs.Prelude.{drop, nat_lt, slice_get, slice_index_or, take}
use Rattle.std.specs.List.{AllByRecursion}
use Rattle.etagere_base.proofs.EachLemmas.{Each-middle}
use Rattle.etagere_base.proofs.TimesLemmas.{times-append}
use Rattle.etagere_base.specs.declared.faults.RestoreFault.{RestoreFault}
use Rattle.etagere_base.specs.declared.faults.RestoreFault.TheVariants.{Link, Runs, Sharing, Memory}
use Rattle.etagere_base.specs.declared.frames.Frame.{Frame}
use Rattle.etagere_base.specs.Lists.{times}
use Rattle.etagere_links.specs.Links.{no_link}
use Rattle.etagere_links.specs.Marks.{IsMarkedBy}
use Rattle.etagere_links.proofs.WalkedLists.{part-of}
use Rattle.etagere_links.proofs.Tallies.{length-once}
use Rattle.bucketed_model.specs.Space.{space_in}
use Rattle.bucketed_model.specs.State.{BucketShelf}
use Rattle.bucketed_records.specs.declared.records.LinkedBucket.{LinkedBucket}
use Rattle.bucketed_records.specs.declared.records.LinkedBucketShelf.{LinkedBucketShelf}
use Rattle.bucketed_records.specs.BucketRecords.{BucketRecords, bucket_walk, spelled_shelf}
use Rattle.bucketed_records.specs.declared.records.KeptShelf.{KeptShelf}
use Rattle.bucketed_records.specs.Restoring.{Breaks}
use Rattle.bucketed_records.specs.StandsFor.{AreLinked, HasBuckets, StopsInRange, shelf_of, walked_numbers}
use Rattle.bucketed_restoring.specs.declared.judging.Judged.{Judged}
use Rattle.bucketed_restoring.specs.Private.Walking.{AreJudged, AreKeptSoFar, BreaksShelf, IsJudged, IsShelfJudged, kept_of}

-- the numbers of shelves end to end
pub walked-append : (buckets : List LinkedBucket) (xs ys : List LinkedBucketShelf) → walked_numbers buckets (xs ++ ys) ≡ walked_numbers buckets xs ++ walked_numbers buckets ys
walked-append buckets [] ys = refl
walked-append buckets (x ∷ xs) ys =
    ap (λ (ns : List ℕ). (bucket_walk buckets x.first_bucket).met ++ ns) (walked-append buckets xs ys)
    ∙ sym (append_assoc (bucket_walk buckets x.first_bucket).met (walked_numbers buckets xs) (walked_numbers buckets ys))

-- the space of shelves end to end
space-append : (xs ys : List BucketShelf) → space_in (xs ++ ys) ≡ space_in xs + space_in ys
space-append [] ys = omega arith
space-append (x ∷ xs) ys = omega (arith, space-append xs ys)

-- one more shelf that was judged
judged-append : (frame : Frame) (buckets : List LinkedBucket) (number : ℕ) (xs : List LinkedBucketShelf) (x : LinkedBucketShelf)
    → AreJudged frame buckets number xs → IsJudged frame buckets (number + length xs) x → AreJudged frame buckets number (xs ++ x ∷ [])
judged-append frame buckets number [] x all one =
    let same : number + 0 ≡ number = omega arith in
    (subst (λ (n : ℕ). IsJudged frame buckets n x) same one, tt)
judged-append frame buckets number (y ∷ ys) x all one =
    let same : number + suc (length ys) ≡ suc number + length ys = omega arith in
    (all.0, judged-append frame buckets (suc number) ys x all.1 (subst (λ (n : ℕ). IsJudged frame buckets n x) same one))

-- no shelf was judged yet
pub none-kept : (frame : Frame) (buckets : List LinkedBucket) (marks : List Bool) → IsMarkedBy marks [] → AreKeptSoFar frame buckets [] [] marks 0 0
none-kept frame buckets marks none = record { judged = tt; kept = refl; marked = none; counted = refl; space = refl }

-- one more shelf was judged
pub more-kept : (frame : Frame) (buckets : List LinkedBucket) (xs : List LinkedBucketShelf) (x : LinkedBucketShelf) (kept : List KeptShelf) (told : Judged) (marks more : List Bool) (steps area : ℕ)
    → AreKeptSoFar frame buckets xs kept marks steps area → IsShelfJudged frame buckets (length xs) x told
    → ((numbers : List ℕ) → IsMarkedBy marks numbers → IsMarkedBy more (numbers ++ (bucket_walk buckets x.first_bucket).met))
    → AreKeptSoFar frame buckets (xs ++ x ∷ []) (kept ++ told.kept ∷ []) more (steps + length (bucket_walk buckets x.first_bucket).met) (area + told.space)
more-kept frame buckets xs x kept told marks more steps area so_far one marks-more =
    let met = (bucket_walk buckets x.first_bucket).met in
    let numbers : walked_numbers buckets (xs ++ x ∷ []) ≡ walked_numbers buckets xs ++ met =
    walked-append buckets xs (x ∷ []) ∙ ap (λ (ns : List ℕ). walked_numbers buckets xs ++ ns) (append-nil met) in
    record {
      judged = judged-append frame buckets 0 xs x so_far.judged (subst (λ (n : ℕ). IsJudged frame buckets n x) (omega arith) one.judged);
      kept = ap (λ (ks : List KeptShelf). ks ++ told.kept ∷ []) so_far.kept ∙ ap (λ (k : KeptShelf). map (kept_of buckets) xs ++ k ∷ []) one.kept
          ∙ sym (map-append (kept_of buckets) xs (x ∷ []));
      marked = subst (IsMarkedBy more) (sym numbers) (marks-more (walked_numbers buckets xs) so_far.marked);
      counted = ap (λ (n : ℕ). n + length met) so_far.counted ∙ sym (length-append (walked_numbers buckets xs) met) ∙ ap (λ (ns : List ℕ). length ns) (sym numbers);
      space = let spelled = spelled_shelf frame buckets in
          omega (arith, so_far.space, one.space, space-append (map spelled xs) (spelled x ∷ []), ap (λ (ss : List BucketShelf). space_in ss) (map-append spelled xs (x ∷ [])));
    }

-- the links of the shelf behind others
linked-middle : (buckets : List LinkedBucket) (number : ℕ) (xs : List LinkedBucketShelf) (x : LinkedBucketShelf) (ys : List LinkedBucketShelf)
    → AreLinked buckets number (xs ++ x ∷ ys)
    → StopsInRange (length buckets) (bucket_walk buckets x.first_bucket) × AllByRecursion (λ (n : ℕ). shelf_of buckets n ≡ number + length xs) (bucket_walk buckets x.first_bucket).met
linked-middle buckets number [] x ys linked =
    let same : number ≡ number + 0 = omega arith in
    (linked.0, subst (λ (k : ℕ). AllByRecursion (λ (n : ℕ). shelf_of buckets n ≡ k) (bucket_walk buckets x.first_bucket).met) same linked.1)
linked-middle buckets number (z ∷ zs) x ys linked =
    let rest = linked-middle buckets (suc number) zs x ys linked.2 in
    let same : suc number + length zs ≡ number + suc (length zs) = omega arith in
    (rest.0, subst (λ (k : ℕ). AllByRecursion (λ (n : ℕ). shelf_of buckets n ≡ k) (bucket_walk buckets x.first_bucket).met) same rest.1)

-- a shelf behind others that breaks a rule breaks it for all
pub shelf-breaks : (atlas : BucketRecords) (xs : List LinkedBucketShelf) (x : LinkedBucketShelf) (ys : List LinkedBucketShelf) (marks : List Bool) (fault : RestoreFault)
    → atlas.shelves ≡ xs ++ x ∷ ys → IsMarkedBy marks (walked_numbers atlas.buckets xs)
    → BreaksShelf atlas.frame atlas.buckets marks (length xs) x fault → Breaks atlas fault
shelf-breaks atlas xs x ys marks Link all marked h = λ links.
    let here = linked-middle atlas.buckets 0 xs x ys (subst (AreLinked atlas.buckets 0) all links.shelves) in
    let same : 0 + length xs ≡ length xs = omega arith in
    h here.0 (subst (λ (k : ℕ). AllByRecursion (λ (n : ℕ). shelf_of atlas.buckets n ≡ k) (bucket_walk atlas.buckets x.first_bucket).met) same here.1)
shelf-breaks atlas xs x ys marks Runs all marked h = λ runs.
    let here : HasBuckets atlas x = Each-middle (HasBuckets atlas) xs x ys (subst (AllByRecursion (HasBuckets atlas)) all runs) in
    h here
shelf-breaks atlas xs x ys marks Sharing all marked h = λ shared.
    let met = (bucket_walk atlas.buckets x.first_bucket).met in
    let unused = (bucket_walk atlas.buckets atlas.unused).met in
    let numbers = walked_numbers atlas.buckets in
    let end = Each-middle (λ (shelf : LinkedBucketShelf). (bucket_walk atlas.buckets shelf.first_bucket).end ≡ no_link) xs x ys
    (subst (AllByRecursion (λ (shelf : LinkedBucketShelf). (bucket_walk atlas.buckets shelf.first_bucket).end ≡ no_link)) all shared.ends) in
    let twice = h end (numbers xs) marked in
    let k : ℕ = twice.0 in
    let part = part-of (length atlas.buckets) (numbers atlas.shelves ++ unused) (numbers atlas.shelves ++ unused) shared.once (λ n. omega arith) in
    let split : times k (numbers atlas.shelves) ≡ times k (numbers xs) + times k (numbers (x ∷ ys)) =
    ap (λ (ss : List LinkedBucketShelf). times k (numbers ss)) all ∙ ap (times k) (walked-append atlas.buckets xs (x ∷ ys)) ∙ times-append k (numbers xs) (numbers (x ∷ ys)) in
    omega (arith, part.once k, twice.1, split, times-append k (numbers atlas.shelves) unused, times-append k (numbers xs) met, times-append k met (numbers ys))
shelf-breaks atlas xs x ys marks Memory all marked h = h
shelf-breaks atlas xs x ys marks _ all marked h = absurd h

-- a list of numbers that are marked is no longer than the marks
marked-few : (marks : List Bool) (ns : List ℕ) → IsMarkedBy marks ns → length ns ≤ length marks
marked-few marks ns marked = length-once (length marks) ns (λ k. once k (slice_index_or marks k false) refl) (λ k stands. within k stands (nat_lt k (length marks)) refl)
  where
    once : (k : ℕ) (t : Bool) → slice_index_or marks k false ≡ t → times k ns ≤ 1
    once k true e = let one : times k ns ≡ 1 = marked k ∙ rw e refl in omega (arith, one)
    once k false e = let none : times k ns ≡ 0 = marked k ∙ rw e refl in omega (arith, none)

    within : (k : ℕ) → 1 ≤ times k ns → (t : Bool) → nat_lt k (length marks) ≡ t → k < length marks
    within k stands false e =
        let past : length marks ≤ k = grind (arith, e) in
        let none : slice_index_or marks k false ≡ false = get_or_past marks k false past in
        let zero : times k ns ≡ 0 = marked k ∙ rw none refl in
        absurd (omega (arith, stands, zero))
    within k stands true e = grind (arith, e)

-- so many steps as records at most
pub steps-few : (frame : Frame) (buckets : List LinkedBucket) (xs : List LinkedBucketShelf) (kept : List KeptShelf) (marks : List Bool) (steps area : ℕ)
    → AreKeptSoFar frame buckets xs kept marks steps area → steps ≤ length marks
steps-few frame buckets xs kept marks steps area so_far = omega (arith, so_far.counted, marked-few marks (walked_numbers buckets xs) so_far.marked)

-- a list is what stands before an element, the element and the rest
pub split-at : {X : Type 0} (xs : List X) (n : ℕ) (x : X) → slice_get xs n ≡ Some x → xs ≡ take n xs ++ x ∷ drop (suc n) xs
split-at [] n x h = absurd (cc)
split-at (y ∷ ys) zero x h = let same : y ≡ x = cc in ap (λ z. z ∷ ys) same
split-at (y ∷ ys) (suc n) x h = ap (λ zs. y ∷ zs) (split-at ys n x h)

-- what stands before the next element
pub take-next : {X : Type 0} (xs : List X) (n : ℕ) (x : X) → slice_get xs n ≡ Some x → take (n + 1) xs ≡ take n xs ++ x ∷ []
take-next xs n x h = let one : n + 1 ≡ suc n = omega arith in ap (λ m. take m xs) one ∙ next xs n x h
  where
    next : {X : Type 0} (xs : List X) (n : ℕ) (x : X) → slice_get xs n ≡ Some x → take (suc n) xs ≡ take n xs ++ x ∷ []
    next [] n x h = absurd (cc)
    next (y ∷ ys) zero x h = let same : y ≡ x = cc in ap (λ z. z ∷ []) same
    next (y ∷ ys) (suc n) x h = ap (λ zs. y ∷ zs) (next ys n x h)

-- so many stand before an element
pub length_of_take : {X : Type 0} (xs : List X) (n : ℕ) → n < length xs → length (take n xs) ≡ n
length_of_take [] n within = absurd (omega (arith, within))
length_of_take (y ∷ ys) zero within = refl
length_of_take (y ∷ ys) (suc n) within = omega (arith, length_of_take ys n (omega (arith, within)))

-- a shelf that breaks a rule breaks it for all
pub breaks-at : (frame : Frame) (buckets : List LinkedBucket) (shelves : List LinkedBucketShelf) (atlas : BucketRecords) (n : ℕ) (x : LinkedBucketShelf) (marks : List Bool) (fault : RestoreFault)
    → slice_get shelves n ≡ Some x → IsMarkedBy marks (walked_numbers buckets (take n shelves)) → BreaksShelf frame buckets marks n x fault
    → atlas.frame ≡ frame → atlas.shelves ≡ shelves → atlas.buckets ≡ buckets → Breaks atlas fault
breaks-at frame buckets shelves atlas n x marks fault here marked h same_frame same_shelves same_buckets =
    let within : n < length shelves = slice_get_within shelves n x here in
    let before : n ≡ length (take n shelves) = sym (length_of_take shelves n within) in
    shelf-breaks atlas (take n shelves) x (drop (suc n) shelves) marks fault (same_shelves ∙ split-at shelves n x here)
    (subst (λ (bs : List LinkedBucket). IsMarkedBy marks (walked_numbers bs (take n shelves))) (sym same_buckets) marked)
    (subst (λ (k : ℕ). BreaksShelf atlas.frame atlas.buckets marks k x fault) before
    (subst (λ (bs : List LinkedBucket). BreaksShelf atlas.frame bs marks n x fault) (sym same_buckets)
    (subst (λ (f : Frame). BreaksShelf f buckets marks n x fault) (sym same_frame) h)))
