-- Two runs of the same commands on a bucketed atlas, to which no memory was refused, are the same but for the numbers of ids.
use Rattle.std.proofs.Common.{◌≡◌, ◌≢◌, ℕ, ◌+◌, ◌%◌, Bool, true, false, cond, Option, None, Some, List, [], ◌∷◌, ◌++◌, map, refl, ap, arith, sym, ◌∙◌}
use Rattle.std.proofs.lemmas.List.{map-append}
use Rattle.std.specs.List.{AllByRecursion}
use Rattle.std.specs.Option.{option_map_or}
use Rattle.std.specs.Prelude.{◌==◌, find, option_map}
use Rattle.etagere_base.specs.declared.frames.Frame.{Frame}
use Rattle.etagere_base.specs.declared.geometry.Rectangle.{Rectangle}
use Rattle.etagere_base.specs.declared.geometry.Size.{Size}
use Rattle.etagere_base.specs.declared.ids.Allocation.{Allocation}
use Rattle.bucketed_model.specs.Atlas.{Allocates, Grows}
use Rattle.bucketed_model.specs.Faults.{grow_fault_number}
use Rattle.bucketed_model.specs.Growing.{grow_counts, grow_fault, grown, total}
use Rattle.bucketed_model.specs.Picking.{Spot}
use Rattle.bucketed_model.specs.Placing.{Destination, BucketPlacement, InAdded, InBucket, InMerged, placement_of}
use Rattle.bucketed_model.specs.Returning.{bucket_returned, returned_bucket, without_idle_end}
use Rattle.bucketed_model.specs.State.{Bucket, BucketShelf, BucketedState, Tag, changed_bucket, fresh, given_unit}
use Rattle.bucketed_model.specs.Taking.{allocation_in, needed_buckets, prepared, spot_of, taken_bucket}
use Rattle.bucketed_model.proofs.Allocating.{allocates-is, allocates-placed}
use Rattle.bucketed_model.proofs.Callers.{tied-safe}
use Rattle.bucketed_model.proofs.Ledger.EntriesTaken.{id-parts}
use Rattle.bucketed_model.proofs.Validity.Placed.{IsPlaced}
use Rattle.bucketed_model.proofs.Validity.Taken.{spot-valid}
use Rattle.run_scripts.specs.declared.commands.BucketedCommand.{BucketedCommand}
use Rattle.run_scripts.specs.declared.commands.BucketedCommand.TheVariants.{Allocate, Return, Grow, Clear}
use Rattle.run_scripts.specs.declared.commands.Reply.{Reply}
use Rattle.run_scripts.specs.declared.commands.Reply.TheVariants.{Placed, Refused, Returned, NotLive, Cleared, Grown, GrowRefused, NoMemory}
use Rattle.etagere_run.specs.Answers.BucketedRuns.{BucketedStep, bucketed_atlas, bucketed_effect}
use Rattle.etagere_run.specs.Answers.Laws.{without_number}
use Rattle.etagere_run.specs.Answers.Live.{Entry, live_after, live_allocations, without}
use Rattle.etagere_run.specs.Answers.Runs.{Runs}
use Rattle.etagere_run.specs.Answers.Private.Renumbered.{Seen, renumbered, renumbered_bucket, renumbered_destination, renumbered_placement, renumbered_shelf, renumbered_spot, renumbered_tag, seen_entry}
use Rattle.etagere_run.specs.Answers.Private.Tied.{IsInBuckets}
use Rattle.etagere_run.proofs.RunAnswers.BucketedAnswered.{bucketed-suits}
use Rattle.etagere_run.proofs.RunAnswers.Renumbered.RenumberedChanges.{changed-renumbered, ends-renumbered, grow_counts-renumbered, grown-renumbered, plain_bucket, plain_shelf, prepared-renumbered, rectangle-renumbered, returned-plain, spot_of-renumbered}
use Rattle.etagere_run.proofs.RunAnswers.Renumbered.RenumberedNames.{HasNewTags, new-tags, seen-agree}
use Rattle.etagere_run.proofs.RunAnswers.Renumbered.RenumberedDestinations.{placement-renumbered}

-- numbers as they are
abbrev own : ℕ → ℕ
own n = n

-- two runs so far are the same, but that buckets have other numbers and generations
pub record AreAlike (ones others : List Entry) (one other : BucketedState) : Type 0 where
  pub name : ℕ → ℕ
  pub apart : (n m : ℕ) → name n ≡ name m → n ≡ m
  pub state : renumbered own other ≡ renumbered name one
  pub live : map (seen_entry own) others ≡ map (seen_entry name) ones

-- they have the same reply but for these numbers, and are alike after it
record AnswerAlike (position : ℕ) (command : BucketedCommand) (reply answer : Reply) (ones others : List Entry) (new another : BucketedState) : Type 0 where
  same : without_number reply ≡ without_number answer
  alike : AreAlike (live_after position (bucketed_effect command reply) ones) (live_after position (bucketed_effect command answer) others) new another

-- a bucket changes alike in both
changed-alike : (name : ℕ → ℕ) (shelves others : List BucketShelf) (n m : ℕ) (change : Bucket → Bucket) → ((k l : ℕ) → name k ≡ name l → k ≡ l)
    → ((by : ℕ → ℕ) (b : Bucket) → plain_bucket (change (renumbered_bucket by b)) ≡ renumbered_bucket by (change b))
    → m ≡ name n → map plain_shelf others ≡ map (renumbered_shelf name) shelves
    → map plain_shelf (changed_bucket m change others) ≡ map (renumbered_shelf name) (changed_bucket n change shelves)
changed-alike name shelves others n m change apart same number alike =
    sym (changed-renumbered own (λ k l e. e) m change (same own) others)
    ∙ ap (λ (ss : List BucketShelf). map plain_shelf (changed_bucket m change ss)) alike
    ∙ ap (λ k. map plain_shelf (changed_bucket k change (map (renumbered_shelf name) shelves))) number
    ∙ changed-renumbered name apart n change (same name) shelves

-- what a placement needs
needed-renumbered : (name : ℕ → ℕ) (destination : Destination) → needed_buckets (renumbered_destination name destination) ≡ needed_buckets destination
needed-renumbered name (InBucket spot) = refl
needed-renumbered name (InAdded news) = refl
needed-renumbered name (InMerged group) = refl

-- the placements of both
alike-placement : (name : ℕ → ℕ) (one other : BucketedState) (size : Size) (p q : BucketPlacement) → renumbered own other ≡ renumbered name one
    → placement_of one size ≡ Some p → placement_of other size ≡ Some q → renumbered_placement own q ≡ renumbered_placement name p
alike-placement name one other size p q state placed others_placed =
    let both : Some (renumbered_placement own q) ≡ Some (renumbered_placement name p) =
    sym (ap (option_map (renumbered_placement own)) others_placed) ∙ sym (placement-renumbered own other size) ∙ ap (λ (s : BucketedState). placement_of s size) state
    ∙ placement-renumbered name one size ∙ ap (option_map (renumbered_placement name)) placed in
    cc

-- a same_destination in one and none in the other
placed-refused : (name by : ℕ → ℕ) (one other : BucketedState) (size : Size) (p : BucketPlacement) → renumbered by other ≡ renumbered name one
    → placement_of one size ≡ Some p → placement_of other size ≡ None → ⊥
placed-refused name by one other size p state placed refused =
    let both : None ≡ Some (renumbered_placement name p) =
    sym (ap (option_map (renumbered_placement by)) refused) ∙ sym (placement-renumbered by other size) ∙ ap (λ (s : BucketedState). placement_of s size) state
    ∙ placement-renumbered name one size ∙ ap (option_map (renumbered_placement name)) placed in
    cc

-- the number of the bucket that gives
given-number : (old : BucketedState) (size : Size) (allocation : Allocation) (new : BucketedState) (h : Allocates old size allocation new) (placed : IsPlaced old size h.placement h.tags)
    → allocation.id % given_unit ≡ placed.ready.spot.bucket.tag.number
given-number old size allocation new h placed =
    let shelves : List BucketShelf = prepared old.frame old.shelves h.tags h.placement.destination in
    let spot : Spot = placed.ready.spot in
    let valid = spot-valid old.frame shelves spot placed.ready.can.at placed.ready.valid in
    let parts = id-parts spot.bucket.tag (spot.bucket.given + 1) (omega (arith, valid.1.tag.number)) (omega (arith, placed.ready.can.few)) in
    ap (λ (a : Allocation). a.id % given_unit) (sym (allocates-is old size allocation new h placed)) ∙ ap (λ (t : Tag). t.number) parts.0

-- the shelves after a placement was taken
taken-is : (old : BucketedState) (size : Size) (allocation : Allocation) (new : BucketedState) (h : Allocates old size allocation new) (placed : IsPlaced old size h.placement h.tags)
    → new ≡ record { frame = old.frame; shelves = changed_bucket placed.ready.spot.bucket.tag.number (taken_bucket h.placement.width) (prepared old.frame old.shelves h.tags h.placement.destination) }
taken-is old size allocation new h placed =
    let shelves : List BucketShelf = prepared old.frame old.shelves h.tags h.placement.destination in
    h.after ∙ ap (λ (o : Option Spot). record { frame = old.frame; shelves = option_map_or (λ spot. changed_bucket spot.bucket.tag.number (taken_bucket h.placement.width) shelves) o shelves }) placed.ready.found

-- a size got its same_destination in both
placed-alike : (position : ℕ) (size : Size) (ones others : List Entry) (one other new another : BucketedState) (a b : Allocation)
    → IsInBuckets ones one → IsInBuckets others other → AreAlike ones others one other → Allocates one size a new → Allocates other size b another
    → AnswerAlike position (Allocate size) (Placed a) (Placed b) ones others new another
placed-alike position size ones others one other new another a b tied others_tied alike h g =
    let first : renumbered_placement own g.placement ≡ renumbered_placement alike.name h.placement =
    alike-placement alike.name one other size h.placement g.placement alike.state h.placed g.placed in
    let needed : needed_buckets h.placement.destination ≡ needed_buckets g.placement.destination =
    sym (needed-renumbered alike.name h.placement.destination) ∙ sym (ap (λ (p : BucketPlacement). needed_buckets p.destination) first) ∙ needed-renumbered own g.placement.destination in
    let tags : HasNewTags alike.name one other h.tags g.tags =
    new-tags alike.name one other (needed_buckets h.placement.destination) (needed_buckets g.placement.destination) h.tags g.tags alike.apart alike.state needed h.new_tags g.new_tags in
    let later : ℕ → ℕ = tags.later in
    let same : renumbered_placement own g.placement ≡ renumbered_placement later h.placement =
    alike-placement later one other size h.placement g.placement tags.state h.placed g.placed in
    let same_destination : renumbered_destination own g.placement.destination ≡ renumbered_destination later h.placement.destination = ap (λ (p : BucketPlacement). p.destination) same in
    let width : g.placement.width ≡ h.placement.width = ap (λ (p : BucketPlacement). p.width) same in
    let frame : other.frame ≡ one.frame = ap (λ (s : BucketedState). s.frame) tags.state in
    let shelves : List BucketShelf = prepared one.frame one.shelves h.tags h.placement.destination in
    let others_shelves : List BucketShelf = prepared other.frame other.shelves g.tags g.placement.destination in
    let ready : map plain_shelf others_shelves ≡ map (renumbered_shelf later) shelves =
    sym (prepared-renumbered own other.frame other.shelves g.tags g.placement.destination)
    ∙ ap (λ (f : Frame). prepared f (map plain_shelf other.shelves) (map (renumbered_tag own) g.tags) (renumbered_destination own g.placement.destination)) frame
    ∙ ap (λ (ss : List BucketShelf). prepared one.frame ss (map (renumbered_tag own) g.tags) (renumbered_destination own g.placement.destination)) (ap (λ (s : BucketedState). s.shelves) tags.state)
    ∙ ap (λ (ts : List Tag). prepared one.frame (map (renumbered_shelf later) one.shelves) ts (renumbered_destination own g.placement.destination)) tags.own
    ∙ ap (prepared one.frame (map (renumbered_shelf later) one.shelves) (map (renumbered_tag later) h.tags)) same_destination
    ∙ prepared-renumbered later one.frame one.shelves h.tags h.placement.destination in
    let placed : IsPlaced one size h.placement h.tags = allocates-placed one size a new tied.tied.valid h in
    let others_placed : IsPlaced other size g.placement g.tags = allocates-placed other size b another others_tied.tied.valid g in
    let spot : Spot = placed.ready.spot in
    let others_spot : Spot = others_placed.ready.spot in
    let spots : Some (renumbered_spot own others_spot) ≡ Some (renumbered_spot later spot) =
    sym (ap (option_map (renumbered_spot own)) others_placed.ready.found)
    ∙ sym (spot_of-renumbered own others_shelves g.placement.destination)
    ∙ ap (λ (ss : List BucketShelf). spot_of ss (renumbered_destination own g.placement.destination)) ready
    ∙ ap (spot_of (map (renumbered_shelf later) shelves)) same_destination
    ∙ spot_of-renumbered later shelves h.placement.destination
    ∙ ap (option_map (renumbered_spot later)) placed.ready.found in
    let one_spot : renumbered_spot own others_spot ≡ renumbered_spot later spot = cc in
    let one_number : others_spot.bucket.tag.number ≡ later spot.bucket.tag.number = ap (λ (s : Spot). s.bucket.tag.number) one_spot in
    let wide : others_placed.sides.along ≡ placed.sides.along = sym others_placed.width ∙ width ∙ placed.width in
    let rectangle : b.rectangle ≡ a.rectangle =
    ap (λ (x : Allocation). x.rectangle) (sym (allocates-is other size b another g others_placed))
    ∙ sym (rectangle-renumbered own other.frame others_placed.sides.along others_shelves others_spot)
    ∙ ap (λ (f : Frame). (allocation_in f others_placed.sides.along (map plain_shelf others_shelves) (renumbered_spot own others_spot)).rectangle) frame
    ∙ ap (λ (w : ℕ). (allocation_in one.frame w (map plain_shelf others_shelves) (renumbered_spot own others_spot)).rectangle) wide
    ∙ ap (λ (ss : List BucketShelf). (allocation_in one.frame placed.sides.along ss (renumbered_spot own others_spot)).rectangle) ready
    ∙ ap (λ (s : Spot). (allocation_in one.frame placed.sides.along (map (renumbered_shelf later) shelves) s).rectangle) one_spot
    ∙ rectangle-renumbered later one.frame placed.sides.along shelves spot
    ∙ ap (λ (x : Allocation). x.rectangle) (allocates-is one size a new h placed) in
    let number : b.id % given_unit ≡ later (a.id % given_unit) =
    given-number other size b another g others_placed ∙ one_number ∙ sym (ap later (given-number one size a new h placed)) in
    let known = (tied-safe (live_allocations ones) one tied.tied).known in
    record {
      same = ap (λ (r : Rectangle). Placed (record { id = 0; rectangle = r })) (sym rectangle);
      alike =
          record {
            name = later;
            apart = tags.apart;
            state = ap (renumbered own) (taken-is other size b another g others_placed)
                ∙ ap (λ (f : Frame). record { frame = f; shelves = map plain_shelf (changed_bucket others_spot.bucket.tag.number (taken_bucket g.placement.width) others_shelves) }) frame
                ∙ ap (λ (w : ℕ). record { frame = one.frame; shelves = map plain_shelf (changed_bucket others_spot.bucket.tag.number (taken_bucket w) others_shelves) }) width
                ∙ ap (λ (ss : List BucketShelf). record { frame = one.frame; shelves = ss })
                (changed-alike later shelves others_shelves spot.bucket.tag.number others_spot.bucket.tag.number (taken_bucket h.placement.width) tags.apart (λ by bucket. refl) one_number ready)
                ∙ sym (ap (renumbered later) (taken-is one size a new h placed));
            live = map-append (seen_entry own) others (record { position = position; allocation = b } ∷ [])
                ∙ ap (λ (ss : List Seen). ss ++ seen_entry own (record { position = position; allocation = b }) ∷ []) (alike.live ∙ sym (seen-agree alike.name later ones one known tags.agree))
                ∙ ap (λ (r : Rectangle). map (seen_entry later) ones ++ record { position = position; rectangle = r; number = b.id % given_unit } ∷ []) rectangle
                ∙ ap (λ (n : ℕ). map (seen_entry later) ones ++ record { position = position; rectangle = a.rectangle; number = n } ∷ []) number
                ∙ sym (map-append (seen_entry later) ones (record { position = position; allocation = a } ∷ []));
          };
    }

-- what a position holds, as it is seen
seen-found : (name : ℕ → ℕ) (earlier : ℕ) (entries : List Entry) → find (λ (s : Seen). s.position == earlier) (map (seen_entry name) entries) ≡ option_map (seen_entry name) (find (λ (e : Entry). e.position == earlier) entries)
seen-found name earlier [] = refl
seen-found name earlier (entry ∷ entries) = here (entry.position == earlier) (seen-found name earlier entries)
  where
    here : (b : Bool) → find (λ (s : Seen). s.position == earlier) (map (seen_entry name) entries) ≡ option_map (seen_entry name) (find (λ (e : Entry). e.position == earlier) entries)
        → cond b (Some (seen_entry name entry)) (find (λ (s : Seen). s.position == earlier) (map (seen_entry name) entries)) ≡ option_map (seen_entry name) (cond b (Some entry) (find (λ (e : Entry). e.position == earlier) entries))
    here true later = refl
    here false later = later

-- what is seen without a position
abbrev without_seen : ℕ → List Seen → List Seen
without_seen earlier [] = []
without_seen earlier (seen ∷ all) = cond (seen.position == earlier) all (seen ∷ without_seen earlier all)

-- what is seen, without a position
seen-without : (name : ℕ → ℕ) (earlier : ℕ) (entries : List Entry) → map (seen_entry name) (without earlier entries) ≡ without_seen earlier (map (seen_entry name) entries)
seen-without name earlier [] = refl
seen-without name earlier (entry ∷ entries) = here (entry.position == earlier) (seen-without name earlier entries)
  where
    here : (b : Bool) → map (seen_entry name) (without earlier entries) ≡ without_seen earlier (map (seen_entry name) entries)
        → map (seen_entry name) (cond b entries (entry ∷ without earlier entries)) ≡ cond b (map (seen_entry name) entries) (seen_entry name entry ∷ without_seen earlier (map (seen_entry name) entries))
    here true later = refl
    here false later = ap (λ (ss : List Seen). seen_entry name entry ∷ ss) later

-- both positions are live, or neither is
abbrev IsReturned : BucketedState → Reply → BucketedState → Option Entry → Type 0
IsReturned old reply new None = (reply ≡ NotLive) × (new ≡ old)
IsReturned old reply new (Some entry) = (reply ≡ Returned) × (new ≡ bucket_returned old entry.allocation.id)

-- a step is such an answer
is-returned : (entries : List Entry) (old : BucketedState) (earlier : ℕ) (reply : Reply) (new : BucketedState) → BucketedStep entries old (Return earlier) reply new → IsReturned old reply new (find (λ (e : Entry). e.position == earlier) entries)
is-returned entries old earlier Returned new step = of_entry (find (λ (e : Entry). e.position == earlier) entries) step.live_is
  where
    of_entry : (o : Option Entry) → option_map (λ (e : Entry). e.allocation) o ≡ Some step.allocation → IsReturned old Returned new o
    of_entry None e = absurd (cc)
    of_entry (Some entry) e = let same : step.allocation ≡ entry.allocation = cc in (refl, step.after ∙ ap (λ (a : Allocation). bucket_returned old a.id) same)
is-returned entries old earlier NotLive new step = of_entry (find (λ (e : Entry). e.position == earlier) entries) step.0
  where
    of_entry : (o : Option Entry) → option_map (λ (e : Entry). e.allocation) o ≡ None → IsReturned old NotLive new o
    of_entry None e = (refl, step.1)
    of_entry (Some entry) e = absurd (cc)
is-returned entries old earlier reply new step = absurd step

-- what was given back
returned-alike : (position earlier : ℕ) (ones others : List Entry) (one other new another : BucketedState) (reply answer : Reply) (o p : Option Entry) (alike : AreAlike ones others one other)
    → option_map (seen_entry own) p ≡ option_map (seen_entry alike.name) o → IsReturned one reply new o → IsReturned other answer another p
    → AnswerAlike position (Return earlier) reply answer ones others new another
returned-alike position earlier ones others one other new another reply answer None None alike seen (reply_is, new_is) (answer_is, another_is) =
    rw (reply_is, answer_is, new_is, another_is) (record { same = refl; alike = alike })
returned-alike position earlier ones others one other new another reply answer None (Some entry) alike seen step other_step = absurd (cc)
returned-alike position earlier ones others one other new another reply answer (Some entry) None alike seen step other_step = absurd (cc)
returned-alike position earlier ones others one other new another reply answer (Some entry) (Some other_entry) alike seen (reply_is, new_is) (answer_is, another_is) =
    let both : seen_entry own other_entry ≡ seen_entry alike.name entry = cc in
    let number : other_entry.allocation.id % given_unit ≡ alike.name (entry.allocation.id % given_unit) = ap (λ (s : Seen). s.number) both in
    let frame : other.frame ≡ one.frame = ap (λ (s : BucketedState). s.frame) alike.state in
    rw (reply_is, answer_is, new_is, another_is)
    (record {
      same = refl;
      alike =
          record {
            name = alike.name;
            apart = alike.apart;
            state = ap (λ (f : Frame). record { frame = f; shelves = map plain_shelf (without_idle_end (changed_bucket (other_entry.allocation.id % given_unit) returned_bucket other.shelves)) }) frame
                ∙ ap (λ (ss : List BucketShelf). record { frame = one.frame; shelves = ss })
                (ends-renumbered own (changed_bucket (other_entry.allocation.id % given_unit) returned_bucket other.shelves)
                ∙ ap without_idle_end
                (changed-alike alike.name one.shelves other.shelves (entry.allocation.id % given_unit) (other_entry.allocation.id % given_unit) returned_bucket alike.apart returned-plain number
                (ap (λ (s : BucketedState). s.shelves) alike.state))
                ∙ sym (ends-renumbered alike.name (changed_bucket (entry.allocation.id % given_unit) returned_bucket one.shelves)));
            live = seen-without own earlier others ∙ ap (without_seen earlier) alike.live ∙ sym (seen-without alike.name earlier ones);
          };
    })

-- a grow of both
grown-alike : (position : ℕ) (size : Size) (ones others : List Entry) (one other new another : BucketedState)
    → IsInBuckets ones one → AreAlike ones others one other → Grows one size new → Grows other size another → AnswerAlike position (Grow size) Grown Grown ones others new another
grown-alike position size ones others one other new another tied alike h g =
    let frame : other.frame ≡ one.frame = ap (λ (s : BucketedState). s.frame) alike.state in
    let counts : grow_counts one.frame size one.shelves ≡ grow_counts other.frame size other.shelves =
    sym (grow_counts-renumbered alike.name one.frame size one.shelves)
    ∙ sym (ap (λ (s : BucketedState). grow_counts s.frame size s.shelves) alike.state)
    ∙ grow_counts-renumbered own other.frame size other.shelves in
    let tags : HasNewTags alike.name one other h.tags g.tags =
    new-tags alike.name one other (total (grow_counts one.frame size one.shelves)) (total (grow_counts other.frame size other.shelves)) h.tags g.tags alike.apart alike.state (ap total counts) h.new_tags g.new_tags in
    let known = (tied-safe (live_allocations ones) one tied.tied).known in
    record {
      same = refl;
      alike =
          record {
            name = tags.later;
            apart = tags.apart;
            state = ap (renumbered own) g.after
                ∙ grown-renumbered own other size g.tags
                ∙ ap (λ (s : BucketedState). grown s size (map (renumbered_tag own) g.tags)) tags.state
                ∙ ap (grown (renumbered tags.later one) size) tags.own
                ∙ sym (grown-renumbered tags.later one size h.tags)
                ∙ sym (ap (renumbered tags.later) h.after);
            live = alike.live ∙ sym (seen-agree alike.name tags.later ones one known tags.agree);
          };
    }

-- new atlases of a frame
pub fresh-alike : (frame : Frame) → AreAlike [] [] (fresh frame) (fresh frame)
fresh-alike frame = record { name = own; apart = λ n m same. same; state = refl; live = refl }

module _ (position : ℕ) (ones others : List Entry) (one other new another : BucketedState) (tied : IsInBuckets ones one) (others_tied : IsInBuckets others other) (alike : AreAlike ones others one other) where
  -- both have one frame
  frame-alike : other.frame ≡ one.frame
  frame-alike = ap (λ (s : BucketedState). s.frame) alike.state

  -- the other atlas answers alike where a size got its same_destination
  allocated-step : (size : Size) (a : Allocation) (answer : Reply) → answer ≢ NoMemory → BucketedStep ones one (Allocate size) (Placed a) new → BucketedStep others other (Allocate size) answer another
      → AnswerAlike position (Allocate size) (Placed a) answer ones others new another
  allocated-step size a (Placed b) memory step other_step =
      placed-alike position size ones others one other new another a b tied others_tied alike step.allocates other_step.allocates
  allocated-step size a Refused memory step other_step =
      absurd (placed-refused alike.name own one other size step.allocates.placement alike.state step.allocates.placed other_step.0)
  allocated-step size a NoMemory memory step other_step = absurd (memory refl)
  allocated-step size a answer memory step other_step = absurd other_step

  -- where it was refused
  refused-step : (size : Size) (answer : Reply) → answer ≢ NoMemory → BucketedStep ones one (Allocate size) Refused new → BucketedStep others other (Allocate size) answer another
      → AnswerAlike position (Allocate size) Refused answer ones others new another
  refused-step size (Placed b) memory step other_step =
      absurd (placed-refused own alike.name other one size other_step.allocates.placement (sym alike.state) other_step.allocates.placed step.0)
  refused-step size Refused memory step other_step = rw (step.1, other_step.1) (record { same = refl; alike = alike })
  refused-step size NoMemory memory step other_step = absurd (memory refl)
  refused-step size answer memory step other_step = absurd other_step

  -- where the atlas grew
  grown-step : (size : Size) (answer : Reply) → answer ≢ NoMemory → BucketedStep ones one (Grow size) Grown new → BucketedStep others other (Grow size) answer another
      → AnswerAlike position (Grow size) Grown answer ones others new another
  grown-step size Grown memory step other_step = grown-alike position size ones others one other new another tied alike step other_step
  grown-step size (GrowRefused number) memory step other_step =
      let none : grow_fault other.frame size ≡ None = ap (λ (f : Frame). grow_fault f size) frame-alike ∙ step.fits in
      let some = other_step.0.fault_is in
      absurd (cc)
  grown-step size NoMemory memory step other_step = absurd (memory refl)
  grown-step size answer memory step other_step = absurd other_step

  -- where a grow has a fault
  unfit-step : (size : Size) (number : ℕ) (answer : Reply) → answer ≢ NoMemory → BucketedStep ones one (Grow size) (GrowRefused number) new → BucketedStep others other (Grow size) answer another
      → AnswerAlike position (Grow size) (GrowRefused number) answer ones others new another
  unfit-step size number Grown memory step other_step =
      let none : grow_fault one.frame size ≡ None = ap (λ (f : Frame). grow_fault f size) (sym frame-alike) ∙ other_step.fits in
      let some = step.0.fault_is in
      absurd (cc)
  unfit-step size number (GrowRefused others_number) memory step other_step =
      let first = step.0 in
      let second = other_step.0 in
      let both : Some first.fault ≡ Some second.fault = sym first.fault_is ∙ ap (λ (f : Frame). grow_fault f size) (sym frame-alike) ∙ second.fault_is in
      let fault : first.fault ≡ second.fault = cc in
      let numbers : number ≡ others_number = first.number_is ∙ ap grow_fault_number fault ∙ sym second.number_is in
      rw (step.1, other_step.1) (record { same = ap GrowRefused numbers; alike = alike })
  unfit-step size number NoMemory memory step other_step = absurd (memory refl)
  unfit-step size number answer memory step other_step = absurd other_step

  -- where all was cleared
  cleared-step : (answer : Reply) → BucketedStep ones one Clear Cleared new → BucketedStep others other Clear answer another → AnswerAlike position Clear Cleared answer ones others new another
  cleared-step Cleared step other_step = rw (step, other_step, frame-alike) (record { same = refl; alike = fresh-alike one.frame })
  cleared-step answer step other_step = absurd other_step

  -- a command is answered alike
  answered-alike : (command : BucketedCommand) (reply answer : Reply) → reply ≢ NoMemory → answer ≢ NoMemory
      → BucketedStep ones one command reply new → BucketedStep others other command answer another → AnswerAlike position command reply answer ones others new another
  answered-alike (Allocate size) (Placed a) answer memory room step other_step = allocated-step size a answer room step other_step
  answered-alike (Allocate size) Refused answer memory room step other_step = refused-step size answer room step other_step
  answered-alike (Allocate size) NoMemory answer memory room step other_step = absurd (memory refl)
  answered-alike (Return earlier) reply answer memory room step other_step =
      returned-alike position earlier ones others one other new another reply answer
      (find (λ (e : Entry). e.position == earlier) ones) (find (λ (e : Entry). e.position == earlier) others) alike
      (sym (seen-found own earlier others) ∙ ap (find (λ (s : Seen). s.position == earlier)) alike.live ∙ seen-found alike.name earlier ones)
      (is-returned ones one earlier reply new step) (is-returned others other earlier answer another other_step)
  answered-alike (Grow size) Grown answer memory room step other_step = grown-step size answer room step other_step
  answered-alike (Grow size) (GrowRefused number) answer memory room step other_step = unfit-step size number answer room step other_step
  answered-alike (Grow size) NoMemory answer memory room step other_step = absurd (memory refl)
  answered-alike Clear Cleared answer memory room step other_step = cleared-step answer step other_step
  answered-alike command reply answer memory room step other_step = absurd step

-- two runs have the same replies but for the numbers of ids, and so they end
pub record RunAlike (replies answers : List Reply) (last another : BucketedState) : Type 0 where
  pub same : map without_number replies ≡ map without_number answers
  pub name : ℕ → ℕ
  pub state : renumbered (λ n. n) another ≡ renumbered name last

-- runs that are alike so far go on alike
pub runs-alike : (position : ℕ) (ones others : List Entry) (one other last another : BucketedState) (commands : List BucketedCommand) (replies answers : List Reply)
    → IsInBuckets ones one → IsInBuckets others other → AreAlike ones others one other
    → Runs bucketed_atlas position ones one commands replies last → Runs bucketed_atlas position others other commands answers another
    → AllByRecursion (λ (reply : Reply). reply ≢ NoMemory) replies → AllByRecursion (λ (reply : Reply). reply ≢ NoMemory) answers → RunAlike replies answers last another
runs-alike position ones others one other last another [] [] [] tied others_tied alike run other_run memory room =
    record { same = refl; name = alike.name; state = ap (renumbered own) other_run ∙ alike.state ∙ ap (renumbered alike.name) (sym run) }
runs-alike position ones others one other last another [] (reply ∷ replies) answers tied others_tied alike run other_run memory room = absurd run
runs-alike position ones others one other last another [] [] (answer ∷ answers) tied others_tied alike run other_run memory room = absurd other_run
runs-alike position ones others one other last another (command ∷ commands) [] answers tied others_tied alike run other_run memory room = absurd run
runs-alike position ones others one other last another (command ∷ commands) (reply ∷ replies) [] tied others_tied alike run other_run memory room = absurd other_run
runs-alike position ones others one other last another (command ∷ commands) (reply ∷ replies) (answer ∷ answers) tied others_tied alike (new, step, run) (middle, other_step, other_run) memory room =
    let next : AnswerAlike position command reply answer ones others new middle =
    answered-alike position ones others one other new middle tied others_tied alike command reply answer memory.0 room.0 step other_step in
    let later : IsInBuckets (live_after position (bucketed_effect command reply) ones) new = (bucketed-suits.steps position ones one new command reply tied step).tied in
    let others_later : IsInBuckets (live_after position (bucketed_effect command answer) others) middle = (bucketed-suits.steps position others other middle command answer others_tied other_step).tied in
    let rest : RunAlike replies answers last another =
    runs-alike (position + 1) (live_after position (bucketed_effect command reply) ones) (live_after position (bucketed_effect command answer) others)
    new middle last another commands replies answers later others_later next.alike run other_run memory.1 room.1 in
    record {
      same = ap (λ (r : Reply). r ∷ map without_number replies) next.same ∙ ap (λ (rs : List Reply). without_number answer ∷ rs) rest.same;
      name = rest.name;
      state = rest.state;
    }
