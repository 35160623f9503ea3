-- A few buckets that stand in a row, of whose others it is known how much they can give: the widest of all, and the first
-- that has room for a width.
use Rattle.std.proofs.Common.{◌≡◌, ◌⊎◌, inl, inr, ℕ, zero, suc, ◌+◌, ◌≤◌, ◌<◌, Bool, true, false, Option, None, Some, List, [], ◌∷◌, length, max, refl, ap, sym, subst, ◌∙◌, arith, cond, ◌==◌}
use Rattle.std.proofs.lemmas.Bool.{eqb-true, leb-true}
use Rattle.std.proofs.lemmas.Option.{slice_get_within}
use Rattle.std.specs.Option.{option_map_or}
use Rattle.std.specs.Prelude.{nat_le, nat_lt, ◌&&◌, is_some, option_and_then, option_map, slice_get}
use Rattle.etagere_links.specs.Edits.{changed_by}
use Rattle.etagere_links.proofs.RecordChanges.{get-changed_by, get-changed_by-other}
use Rattle.bucketed_model.specs.State.{most_buckets}
use Rattle.bucketed_records.specs.BucketRecords.{next_of}
use Rattle.bucketed_records.specs.StandsFor.{place_of}
use Rattle.bucketed_records.specs.declared.records.LinkedBucket.{LinkedBucket}
use Rattle.bucketed_records.specs.Private.Store.{record_room}
use Rattle.bucket_index.specs.declared.rest.Rest.{Rest}
use Rattle.bucket_index.specs.declared.rest.Spot.{Spot}
use Rattle.bucket_index.specs.declared.searching.Wanted.TheVariants.{Roomy}
use Rattle.bucket_index.specs.Private.Rest.{AllStand, IsFurthestOf, IsNamed, IsRest, IsRow, IsRowIfAny, LeadDown, Stands, emptied, full_record, is_roomy_at, latest, widest_of}
use Rattle.bucket_index.specs.Private.Searching.{first_from, is_wanted, widest_from}
use Rattle.bucket_index.specs.Private.Spans.{room_at}
use Rattle.bucket_index.proofs.RestOfRows.{HaveAtMost, emptied-beside}
use Rattle.bucket_index.proofs.StandingBuckets.{next-changed, stands-same}

-- none stands where no link leads
stands-none : (steps n : ℕ) (bs : List LinkedBucket) → Stands steps bs None n → ⊥
stands-none zero n bs stands = stands
stands-none (suc steps) n bs stands = stands

-- one that stands in a row has no more room than the row
pub stands-widest : (steps n : ℕ) (bs : List LinkedBucket) (at : Option ℕ) → Stands steps bs at n → room_at bs n ≤ widest_from steps bs at
stands-widest zero n bs at stands = absurd stands
stands-widest (suc steps) n bs None stands = absurd stands
stands-widest (suc steps) n bs (Some k) stands = by_found (λ next there. stands-widest steps n bs next there) (slice_get bs k) refl
  where
    wide : Option LinkedBucket → ℕ
    wide found = option_map_or (λ (bucket : LinkedBucket). max (record_room bucket) (widest_from steps bs bucket.next)) found 0

    by_place : ((next : Option ℕ) → Stands steps bs next n → room_at bs n ≤ widest_from steps bs next) → (o : Option LinkedBucket) → slice_get bs k ≡ o → (k ≡ n) ⊎ Stands steps bs (option_and_then (λ (bucket : LinkedBucket). bucket.next) o) n → room_at bs n ≤ wide o
    by_place rest None e (inl same) = let none : room_at bs n ≡ 0 = ap (room_at bs) (sym same) ∙ ap (λ (o : Option LinkedBucket). option_map_or record_room o 0) e in omega (arith, none)
    by_place rest None e (inr later) = absurd (stands-none steps n bs later)
    by_place rest (Some b) e (inl same) = let own : room_at bs n ≡ record_room b = ap (room_at bs) (sym same) ∙ ap (λ (o : Option LinkedBucket). option_map_or record_room o 0) e in omega (arith, own)
    by_place rest (Some b) e (inr later) = omega (arith, rest b.next later)

    by_found : ((next : Option ℕ) → Stands steps bs next n → room_at bs n ≤ widest_from steps bs next) → (o : Option LinkedBucket) → slice_get bs k ≡ o → room_at bs n ≤ wide (slice_get bs k)
    by_found rest o e = subst (λ (found : Option LinkedBucket). room_at bs n ≤ wide found) (sym e)
        (by_place rest o e (subst (λ (found : Option LinkedBucket). (k ≡ n) ⊎ Stands steps bs (option_and_then (λ (bucket : LinkedBucket). bucket.next) found) n) e stands))

-- one behind another of a row that leads down begins before it
down-behind : (steps k n : ℕ) (bs : List LinkedBucket) → LeadDown (suc steps) bs (Some k) → Stands steps bs (next_of bs k) n → place_of bs n < place_of bs k
down-behind zero k n bs down stands = absurd stands
down-behind (suc steps) k n bs down stands = by_next (λ m lower there. down-behind steps m n bs lower there) (next_of bs k) refl down.1 stands
  where
    by_next : ((m : ℕ) → LeadDown (suc steps) bs (Some m) → Stands steps bs (next_of bs m) n → place_of bs n < place_of bs m) → (o : Option ℕ) → next_of bs k ≡ o → LeadDown (suc steps) bs o → Stands (suc steps) bs o n → place_of bs n < place_of bs k
    by_next rest None e lower there = absurd there
    by_next rest (Some m) e lower (inl same) = omega (arith, down.0 m e, ap (place_of bs) same)
    by_next rest (Some m) e lower (inr later) = omega (arith, down.0 m e, rest m lower later)

-- the first of a row with room for a width is the one of these that begins the furthest along, where the row leads down
first-furthest : (width steps n : ℕ) (bs : List LinkedBucket) (at : Option ℕ) → Stands steps bs at n → LeadDown steps bs at → is_roomy_at width bs n ≡ true
    → ((k : ℕ) → Stands steps bs at k → is_roomy_at width bs k ≡ true → place_of bs k ≤ place_of bs n) → first_from steps (Roomy width) bs at ≡ Some n
first-furthest width zero n bs at stands down roomy most = absurd stands
first-furthest width (suc steps) n bs None stands down roomy most = absurd stands
first-furthest width (suc steps) n bs (Some k) stands down roomy most = by_found (λ next there lower least. first-furthest width steps n bs next there lower roomy least) (slice_get bs k) refl
  where
    seek : Option LinkedBucket → Option ℕ
    seek found = option_and_then (λ (bucket : LinkedBucket). cond (is_wanted (Roomy width) bucket) (Some k) (first_from steps (Roomy width) bs bucket.next)) found

    next : Option LinkedBucket → Option ℕ
    next found = option_and_then (λ (bucket : LinkedBucket). bucket.next) found

    own : (o : Option LinkedBucket) → slice_get bs k ≡ o → k ≡ n → option_map_or (is_wanted (Roomy width)) o false ≡ true
    own o e same = ap (λ (found : Option LinkedBucket). option_map_or (is_wanted (Roomy width)) found false) (sym e) ∙ ap (is_roomy_at width bs) same ∙ roomy

    by_test : ((next : Option ℕ) → Stands steps bs next n → LeadDown steps bs next → ((m : ℕ) → Stands steps bs next m → is_roomy_at width bs m ≡ true → place_of bs m ≤ place_of bs n) → first_from steps (Roomy width) bs next ≡ Some n) → (b : LinkedBucket) → slice_get bs k ≡ Some b → (k ≡ n) ⊎ Stands steps bs (next (Some b)) n → (t : Bool) → is_wanted (Roomy width) b ≡ t
        → cond t (Some k) (first_from steps (Roomy width) bs b.next) ≡ Some n
    by_test rest b e (inl same) true is = ap (λ (m : ℕ). Some m) same
    by_test rest b e (inr later) true is =
        let here : is_roomy_at width bs k ≡ true = ap (λ (found : Option LinkedBucket). option_map_or (is_wanted (Roomy width)) found false) e ∙ is in
        let less : place_of bs n < place_of bs k = down-behind steps k n bs down (subst (λ (found : Option LinkedBucket). Stands steps bs (next found) n) (sym e) later) in
        absurd (never (most k (inl refl) here) less)
      where
        never : place_of bs k ≤ place_of bs n → place_of bs n < place_of bs k → ⊥
        never more less = omega (arith, more, less)
    by_test rest b e (inl same) false is = absurd (never (sym is ∙ own (Some b) e same))
      where
        never : false ≡ true → ⊥
        never h = cc
    by_test rest b e (inr later) false is =
        let link : next_of bs k ≡ b.next = ap next e in
        rest b.next later (subst (LeadDown steps bs) link down.1)
        (λ m there room. most m (inr (subst (λ (at : Option ℕ). Stands steps bs at m) (sym link) there)) room)

    by_place : ((next : Option ℕ) → Stands steps bs next n → LeadDown steps bs next → ((m : ℕ) → Stands steps bs next m → is_roomy_at width bs m ≡ true → place_of bs m ≤ place_of bs n) → first_from steps (Roomy width) bs next ≡ Some n) → (o : Option LinkedBucket) → slice_get bs k ≡ o → (k ≡ n) ⊎ Stands steps bs (next o) n → seek o ≡ Some n
    by_place rest None e (inl same) = absurd (never (own None e same))
      where
        never : false ≡ true → ⊥
        never h = cc
    by_place rest None e (inr later) = absurd (stands-none steps n bs later)
    by_place rest (Some b) e there = by_test rest b e there (is_wanted (Roomy width) b) refl

    by_found : ((next : Option ℕ) → Stands steps bs next n → LeadDown steps bs next → ((m : ℕ) → Stands steps bs next m → is_roomy_at width bs m ≡ true → place_of bs m ≤ place_of bs n) → first_from steps (Roomy width) bs next ≡ Some n) → (o : Option LinkedBucket) → slice_get bs k ≡ o → seek (slice_get bs k) ≡ Some n
    by_found rest o e = subst (λ (found : Option LinkedBucket). seek found ≡ Some n) (sym e)
        (by_place rest o e (subst (λ (found : Option LinkedBucket). (k ≡ n) ⊎ Stands steps bs (next found) n) e stands))

-- emptied ones do
next-emptied : (links : List (Option ℕ)) (bs : List LinkedBucket) (k : ℕ) → next_of (emptied links bs) k ≡ next_of bs k
next-emptied [] bs k = refl
next-emptied (None ∷ links) bs k = next-emptied links bs k
next-emptied (Some n ∷ links) bs k = next-changed n full_record (emptied links bs) (λ x. refl) k ∙ next-emptied links bs k

-- one that isn't emptied keeps its room
room-emptied : (links : List (Option ℕ)) (bs : List LinkedBucket) (k : ℕ) → (IsNamed links k → ⊥) → room_at (emptied links bs) k ≡ room_at bs k
room-emptied [] bs k other = refl
room-emptied (None ∷ links) bs k other = room-emptied links bs k (λ named. other (inr named))
room-emptied (Some n ∷ links) bs k other =
    ap (λ (o : Option LinkedBucket). option_map_or record_room o 0) (get-changed_by-other full_record (emptied links bs) (Some n) k (λ same. other (inl same)))
    ∙ room-emptied links bs k (λ named. other (inr named))

-- a bucket is named, or it isn't
named-or : {P : Type 0} (links : List (Option ℕ)) (k : ℕ) → (IsNamed links k → P) → ((IsNamed links k → ⊥) → P) → P
named-or {P} [] k is isnt = isnt (λ never. never)
named-or {P} (None ∷ links) k is isnt = named-or links k (λ later. is (inr later)) (λ none. isnt (λ named. by_place none named))
  where
    by_place : (IsNamed links k → ⊥) → (None ≡ Some k) ⊎ IsNamed links k → ⊥
    by_place none (inl same) = cc
    by_place none (inr later) = none later
named-or {P} (Some n ∷ links) k is isnt = by_number (λ later none. named-or links k later none) (n == k) refl
  where
    apart : n ≡ k → (n == k) ≡ false → ⊥
    apart same e = grind arith

    by_place : (n == k) ≡ false → (IsNamed links k → ⊥) → (Some n ≡ Some k) ⊎ IsNamed links k → ⊥
    by_place e none (inl same) = let own : n ≡ k = cc in apart own e
    by_place e none (inr later) = none later

    by_number : ((IsNamed links k → P) → ((IsNamed links k → ⊥) → P) → P) → (t : Bool) → (n == k) ≡ t → P
    by_number rest true e = is (inl (ap (λ (i : ℕ). Some i) (eqb-true n k e)))
    by_number rest false e = rest (λ later. is (inr later)) (λ none. isnt (by_place e none))

-- one with room for a width can give it
pub roomy-room : (width : ℕ) (bs : List LinkedBucket) (k : ℕ) → is_roomy_at width bs k ≡ true → width ≤ room_at bs k
roomy-room width bs k roomy = by_found (slice_get bs k) roomy
  where
    by_tests : (b : LinkedBucket) (wide few : Bool) → nat_le width b.free_space ≡ wide → (wide && few) ≡ true → width ≤ cond few b.free_space 0
    by_tests b true true e is = omega (arith, leb-true width b.free_space e)
    by_tests b true false e is = absurd (never is)
      where
        never : false ≡ true → ⊥
        never h = cc
    by_tests b false few e is = absurd (never is)
      where
        never : false ≡ true → ⊥
        never h = cc

    by_found : (o : Option LinkedBucket) → option_map_or (is_wanted (Roomy width)) o false ≡ true → width ≤ option_map_or record_room o 0
    by_found None is = absurd (never is)
      where
        never : false ≡ true → ⊥
        never h = cc
    by_found (Some b) is = by_tests b (nat_le width b.free_space) (nat_lt b.item_count 4095) refl is

-- one with room for a width is there
pub roomy-within : (width : ℕ) (bs : List LinkedBucket) (k : ℕ) → is_roomy_at width bs k ≡ true → k < length bs
roomy-within width bs k roomy = by_found (slice_get bs k) refl
  where
    never : false ≡ true → ⊥
    never h = cc

    by_found : (o : Option LinkedBucket) → slice_get bs k ≡ o → k < length bs
    by_found None e = absurd (never (ap (λ (o : Option LinkedBucket). option_map_or (is_wanted (Roomy width)) o false) (sym e) ∙ roomy))
    by_found (Some b) e = slice_get_within bs k b e

-- the first with room for a width that none but a few can give
pub first-of-few : (links : List (Option ℕ)) (first : Option ℕ) (bs : List LinkedBucket) (bound width n : ℕ) → widest_from most_buckets (emptied links bs) first ≤ bound → bound < width
    → Stands most_buckets bs first n → LeadDown most_buckets bs first → is_roomy_at width bs n ≡ true → ((k : ℕ) → IsNamed links k → is_roomy_at width bs k ≡ true → place_of bs k ≤ place_of bs n)
    → first_from most_buckets (Roomy width) bs first ≡ Some n
first-of-few links first bs bound width n bounded less stands down roomy most =
    first-furthest width most_buckets n bs first stands down roomy (λ k there room. named-or links k (λ named. most k named room) (λ other. absurd (never k there room other)))
  where
    never : (k : ℕ) → Stands most_buckets bs first k → is_roomy_at width bs k ≡ true → (IsNamed links k → ⊥) → ⊥
    never k there room other =
        omega (
          arith,
          stands-widest most_buckets k (emptied links bs) first (stands-same most_buckets k bs (emptied links bs) first (next-emptied links bs) there),
          room-emptied links bs k other,
          roomy-room width bs k room,
          bounded,
          less,
        )

-- each of a few that stand in a row does
pub named-stands : (links : List (Option ℕ)) (first : Option ℕ) (bs : List LinkedBucket) (n : ℕ) → AllStand links bs first → IsNamed links n → Stands most_buckets bs first n
named-stands [] first bs n stand named = absurd named
named-stands (None ∷ links) first bs n stand (inl same) = absurd (never same)
  where
    never : None ≡ Some n → ⊥
    never h = cc
named-stands (None ∷ links) first bs n stand (inr later) = named-stands links first bs n stand.1 later
named-stands (Some k ∷ links) first bs n stand (inl same) = let own : k ≡ n = cc in subst (Stands most_buckets bs first) own stand.0
named-stands (Some k ∷ links) first bs n stand (inr later) = named-stands links first bs n stand.1 later

-- the widest of a few is no wider than the row in which they stand
pub few-less : (links : List (Option ℕ)) (first : Option ℕ) (bs : List LinkedBucket) → AllStand links bs first → widest_of links bs ≤ widest_from most_buckets bs first
few-less [] first bs stand = omega arith
few-less (None ∷ links) first bs stand = omega (arith, few-less links first bs stand.1)
few-less (Some n ∷ links) first bs stand = omega (arith, few-less links first bs stand.1, stands-widest most_buckets n bs first stand.0)

-- each of a few has at most the room of the widest
few-have : (links : List (Option ℕ)) (room : ℕ) (bs : List LinkedBucket) → widest_of links bs ≤ room → HaveAtMost room bs links
few-have [] room bs most = tt
few-have (link ∷ links) room bs most = (omega (arith, most), few-have links room bs (omega (arith, most)))

-- the widest of a few is that of the row in which they stand, where no other is wider
pub widest-of-few : (links : List (Option ℕ)) (first : Option ℕ) (bs : List LinkedBucket) (bound : ℕ) → widest_from most_buckets (emptied links bs) first ≤ bound → AllStand links bs first → bound ≤ widest_of links bs
    → widest_of links bs ≡ widest_from most_buckets bs first
widest-of-few links first bs bound bounded stand more =
    omega (arith, few-less links first bs stand, emptied-beside links first (widest_of links bs) bs (few-have links (widest_of links bs) bs (omega arith)), bounded, more)

-- where a row has a first one, what is known of it is known
pub row-of : (rest : Rest) (bs : List LinkedBucket) (first : Option ℕ) → first ≡ rest.first → is_some first ≡ true → IsRowIfAny rest bs → IsRow rest bs
row-of rest bs None same some known = absurd (never some)
  where
    never : false ≡ true → ⊥
    never h = cc
row-of rest bs (Some n) same some known = known.row n (sym same)

-- the bucket beside the rest of a row is the first with room for a width that the rest can't give
pub first-alone : (rest : Rest) (bs : List LinkedBucket) (width : ℕ) → IsRest rest bs → rest.most < width → width < 65536 → is_roomy_at width bs rest.bucket ≡ true
    → first_from most_buckets (Roomy width) bs rest.first ≡ Some rest.bucket
first-alone rest bs width known less narrow roomy =
    let row : IsRow rest bs = by_first rest.first refl in
    first-of-few (Some rest.bucket ∷ []) rest.first bs rest.most width rest.bucket known.most less row.stand.0 row.down roomy (λ k named room. alone k named)
  where
    by_first : (o : Option ℕ) → rest.first ≡ o → IsRow rest bs
    by_first None e = absurd (never (known.row.none e))
      where
        never : rest.most ≡ 65535 → ⊥
        never none = omega (arith, none, less, narrow)
    by_first (Some n) e = known.row.row n e

    alone : (k : ℕ) → (Some rest.bucket ≡ Some k) ⊎ ⊥ → place_of bs k ≤ place_of bs rest.bucket
    alone k (inl same) = let own : rest.bucket ≡ k = cc in omega (arith, ap (place_of bs) own)
    alone k (inr never) = absurd never

-- links to the first of some numbers, where a later one was changed
latest-same : (k place n : ℕ) (numbers : List ℕ) → k ≤ place → latest k (changed_by (Some place) (λ _. n) numbers) ≡ latest k numbers
latest-same zero place n numbers low = refl
latest-same (suc k) place n numbers low =
    ap (λ (link : Option ℕ). link ∷ latest k (changed_by (Some place) (λ _. n) numbers)) (get-changed_by-other (λ _. n) numbers (Some place) k other)
    ∙ ap (λ (links : List (Option ℕ)). slice_get numbers k ∷ links) (latest-same k place n numbers (omega arith))
  where
    other : Some place ≡ Some k → ⊥
    other same = let own : place ≡ k = cc in omega (arith, own, low)

-- the same with the changed one
pub latest-added : (count n : ℕ) (numbers : List ℕ) → count < length numbers → latest (count + 1) (changed_by (Some count) (λ _. n) numbers) ≡ Some n ∷ latest count numbers
latest-added count n numbers within =
    let one : count + 1 ≡ suc count = omega arith in
    ap (λ (k : ℕ). latest k (changed_by (Some count) (λ _. n) numbers)) one
    ∙ ap (λ (link : Option ℕ). link ∷ latest count (changed_by (Some count) (λ _. n) numbers)) (get-changed_by (λ _. n) numbers (Some count) count refl ∙ there numbers count within)
    ∙ ap (λ (links : List (Option ℕ)). Some n ∷ links) (latest-same count count n numbers (omega arith))
  where
    there : (ns : List ℕ) (k : ℕ) → k < length ns → option_map (λ (_ : ℕ). n) (slice_get ns k) ≡ Some n
    there [] k low = absurd (omega arith)
    there (m ∷ ns) zero low = refl
    there (m ∷ ns) (suc k) low = there ns k (omega arith)

-- a link to none changes nothing of which begins the furthest along
pub furthest-none : (width : ℕ) (links : List (Option ℕ)) (bs : List LinkedBucket) (found : Option Spot) → IsFurthestOf width links bs found → IsFurthestOf width (None ∷ links) bs found
furthest-none width links bs None known = λ k named. by_place k named
  where
    by_place : (k : ℕ) → (None ≡ Some k) ⊎ IsNamed links k → is_roomy_at width bs k ≡ false
    by_place k (inl same) = absurd (cc)
    by_place k (inr later) = known k later
furthest-none width links bs (Some spot) known =
    record { named = inr known.named; roomy = known.roomy; place = known.place; most = λ k named. by_place k named }
  where
    by_place : (k : ℕ) → (None ≡ Some k) ⊎ IsNamed links k → is_roomy_at width bs k ≡ true → place_of bs k ≤ spot.x
    by_place k (inl same) roomy = absurd (cc)
    by_place k (inr later) roomy = known.most k later roomy
