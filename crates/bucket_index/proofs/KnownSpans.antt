-- What is known of spans: after a record was changed or made, and of records that a search passes.
use Rattle.std.proofs.Common.{◌≡◌, ℕ, zero, suc, ◌+◌, ◌-◌, ◌/◌, ◌<◌, ◌≤◌, Bool, true, false, cond, Option, None, Some, List, [], ◌∷◌, ◌++◌, length, map, max, refl, ap, sym, subst, ◌∙◌, arith, ◌==◌}
use Rattle.std.proofs.lemmas.Bool.{eqb-true, leb-true}
use Rattle.std.proofs.lemmas.Option.{slice_get-map, slice_get_within}
use Rattle.std.specs.Option.{option_map_or}
use Rattle.std.specs.Prelude.{nat_le, nat_lt, option_and_then, option_map, replicate, slice_get, ◌&&◌}
use Rattle.etagere_links.specs.Edits.{changed_by}
use Rattle.etagere_links.proofs.RecordChanges.{get-changed_by-other, length-changed_by, link_at-same, map-changed_by}
use Rattle.bucketed_records.specs.BucketRecords.{next_of}
use Rattle.bucketed_records.specs.declared.records.LinkedBucket.{LinkedBucket}
use Rattle.bucketed_records.specs.Private.Store.{record_room}
use Rattle.bucket_index.specs.declared.spans.Ahead.{Ahead}
use Rattle.bucket_index.specs.declared.spans.Span.{Span}
use Rattle.bucket_index.specs.declared.searching.Wanted.{Wanted}
use Rattle.bucket_index.specs.declared.searching.Wanted.TheVariants.{Roomy, Exact, Wide}
use Rattle.bucket_index.specs.Private.Searching.{first_from, is_wanted, needed_room, widest_from}
use Rattle.bucket_index.specs.Private.Spans.{AreBounds, AreOthers, AreOtherSpans, AreOtherSpansOf, AreSpans, AreSpansExcept, AreSpansExceptOf, AreSpansOf, IsBoundOf, IsKnownSpan, IsKnownSpanExcept, IsPassed, IsPassedSpan, IsSpan, IsSpanExcept, IsWithin, IsWithinExcept, Lead, block_of, bounded, no_span, room_at, span_of, whole_of, widened}
use Rattle.etagere_links.specs.Links.{link_of, no_link}
use Rattle.bucket_index.specs.declared.spans.Spans.{Spans}
use Rattle.bucket_index.proofs.KnownBlocks.{read-changed}
use Rattle.bucket_index.proofs.WidestRooms.{widest-at}

-- a number is another one, or it isn't
either : {P : Type 0} (n k : ℕ) → (n ≡ k → P) → ((n ≡ k → ⊥) → P) → P
either {P} n k same other = by_test (n == k) refl
  where
    by_test : (t : Bool) → (n == k) ≡ t → P
    by_test true e = same (eqb-true n k e)
    by_test false e = other (λ h. apart h e)
      where
        apart : n ≡ k → (n == k) ≡ false → ⊥
        apart h f = grind arith

-- a record of a number below the length
record-at : {P : Type 0} (bs : List LinkedBucket) (n : ℕ) → n < length bs → ((b : LinkedBucket) → slice_get bs n ≡ Some b → P) → P
record-at [] n within found = absurd (omega arith)
record-at (b ∷ bs) zero within found = found b refl
record-at (b ∷ bs) (suc n) within found = record-at bs n (omega arith) found

-- what the record of a number links to, and its room
pub next-at : (bs : List LinkedBucket) (n : ℕ) (b : LinkedBucket) → slice_get bs n ≡ Some b → next_of bs n ≡ b.next
next-at bs n b at = ap (option_and_then (λ (bucket : LinkedBucket). bucket.next)) at

pub room-at : (bs : List LinkedBucket) (n : ℕ) (b : LinkedBucket) → slice_get bs n ≡ Some b → room_at bs n ≡ record_room b
room-at bs n b at = ap (λ (r : Option LinkedBucket). option_map_or record_room r 0) at

-- links lead on as before where the records on the way link to the same
pub lead-still : (steps : ℕ) (Is Are : ℕ → Type 0) (xs ys : List LinkedBucket) (at behind : Option ℕ) → length xs ≤ length ys
    → ((n : ℕ) → n < length xs → Is n → next_of ys n ≡ next_of xs n) → ((n : ℕ) → n < length xs → Is n → Are n)
    → Lead steps Is xs at behind → Lead steps Are ys at behind
lead-still zero Is Are xs ys at behind long links such lead = lead
lead-still (suc steps) Is Are xs ys None behind long links such lead = absurd lead
lead-still (suc steps) Is Are xs ys (Some n) behind long links such lead = (
  omega (arith, lead.0, long),
  such n lead.0 lead.1,
  subst (λ (at : Option ℕ). Lead steps Are ys at behind) (sym (links n lead.0 lead.1)) (lead-still steps Is Are xs ys (next_of xs n) behind long links such lead.2),
)

-- one record more on the way
lead-more : (steps : ℕ) (Is : ℕ → Type 0) (xs : List LinkedBucket) (at : Option ℕ) (n : ℕ) → n < length xs → Is n → Lead steps Is xs at (Some n) → Lead (suc steps) Is xs at (next_of xs n)
lead-more zero Is xs at n within is lead = subst (λ (a : Option ℕ). Lead 1 Is xs a (next_of xs n)) (sym lead) (within, is, refl)
lead-more (suc steps) Is xs None n within is lead = absurd lead
lead-more (suc steps) Is xs (Some k) n within is lead = (lead.0, lead.1, lead-more steps Is xs (next_of xs k) n within is lead.2)

-- the first record on the way is there
lead-first : (steps : ℕ) (Is : ℕ → Type 0) (xs : List LinkedBucket) (n : ℕ) (behind : Option ℕ) → 1 ≤ steps → Lead steps Is xs (Some n) behind → (n < length xs) × Is n
lead-first zero Is xs n behind some lead = absurd (omega arith)
lead-first (suc steps) Is xs n behind some lead = (lead.0, lead.1)

-- links lead on where others end
pub lead-append : (some more : ℕ) (Is : ℕ → Type 0) (xs : List LinkedBucket) (at mid behind : Option ℕ) → Lead some Is xs at mid → Lead more Is xs mid behind → Lead (some + more) Is xs at behind
lead-append zero more Is xs at mid behind first then =
    let none : more ≡ 0 + more = omega arith in
    subst (λ (k : ℕ). Lead k Is xs at behind) none (subst (λ (a : Option ℕ). Lead more Is xs a behind) (sym first) then)
lead-append (suc some) more Is xs None mid behind first then = absurd first
lead-append (suc some) more Is xs (Some n) mid behind first then =
    let one : suc (some + more) ≡ suc some + more = omega arith in
    subst (λ (k : ℕ). Lead k Is xs (Some n) behind) one (first.0, first.1, lead-append some more Is xs (next_of xs n) mid behind first.2 then)

-- a span with one record more
pub span-longer : (numbered : ℕ → ℕ) (block n : ℕ) (link : Option ℕ) (room : ℕ) (first steps : ℕ) (bs : List LinkedBucket) (b : LinkedBucket) → slice_get bs n ≡ Some b → numbered n ≡ block → link ≡ Some n
    → Lead steps (IsWithin numbered block room bs) bs (Some first) link → Lead (steps + 1) (IsWithin numbered block (max room (record_room b)) bs) bs (Some first) b.next
span-longer numbered block n link room first steps bs b at same ends lead =
    let wide : ℕ = max room (record_room b) in
    let before = lead-still steps (IsWithin numbered block room bs) (IsWithin numbered block wide bs) bs bs (Some first) link (omega arith) (λ k low in_. refl)
    (λ k low in_. (in_.0, omega (arith, in_.1))) lead in
    let next = lead-more steps (IsWithin numbered block wide bs) bs (Some first) n (slice_get_within bs n b at) (same, omega (arith, room-at bs n b at))
    (subst (λ (l : Option ℕ). Lead steps (IsWithin numbered block wide bs) bs (Some first) l) ends before) in
    let more : suc steps ≡ steps + 1 = omega arith in
    subst (λ (k : ℕ). Lead k (IsWithin numbered block wide bs) bs (Some first) b.next) more
    (subst (λ (l : Option ℕ). Lead (suc steps) (IsWithin numbered block wide bs) bs (Some first) l) (next-at bs n b at) next)

-- a span of which a record may have this room
pub span-widened : (one : ℕ) (numbered : ℕ → ℕ) (block room : ℕ) (span : Span) (bs : List LinkedBucket) → room_at bs one ≤ room → IsKnownSpanExcept one numbered block span bs → IsKnownSpan numbered block (widened room span) bs
span-widened one numbered block room span bs narrow is known = record {
  some = (is known).some;
  lead = lead-still span.steps (IsWithinExcept one numbered block span.widest_room bs) (IsWithin numbered block (max span.widest_room room) bs) bs bs (Some span.first) (link_of span.behind) (omega arith) (λ k low in_. refl)
      (λ k low in_. (in_.0, either k one (λ same. omega (arith, narrow, ap (room_at bs) same)) (λ other. omega (arith, in_.1 other)))) (is known).lead;
}

-- where a span begins
pub but-first : (one : ℕ) (numbered : ℕ → ℕ) (block : ℕ) (span : Span) (bs : List LinkedBucket) → IsSpanExcept one numbered block span bs → (span.first < length bs) × (numbered span.first ≡ block)
but-first one numbered block span bs is =
    let begins = lead-first span.steps (IsWithinExcept one numbered block span.widest_room bs) bs span.first (link_of span.behind) is.some is.lead in
    (begins.0, begins.1.0)

-- a span that is known in a block that is numbered the same
pub known-block : (numbered : ℕ → ℕ) (one block : ℕ) (span : Span) (bs : List LinkedBucket) → one ≡ block → IsKnownSpan numbered one span bs → IsKnownSpan numbered block span bs
known-block numbered one block span bs same is = subst (λ (k : ℕ). IsKnownSpan numbered k span bs) same is

-- a span of a block, and the one behind it
pub span-joined : (numbered : ℕ → ℕ) (block first steps behind widest : ℕ) (next : Span) (bs : List LinkedBucket) → link_of behind ≡ Some next.first → IsSpan numbered block (record { first = first; steps = steps; behind = behind; widest_room = widest }) bs
    → IsSpan numbered block next bs → IsSpan numbered block (record { first = first; steps = steps + next.steps; behind = next.behind; widest_room = max widest next.widest_room }) bs
span-joined numbered block first steps behind widest next bs ends is on =
    let wide : ℕ = max widest next.widest_room in
    let one = lead-still steps (IsWithin numbered block widest bs) (IsWithin numbered block wide bs) bs bs (Some first) (link_of behind) (omega arith) (λ k low in_. refl) (λ k low in_. (in_.0, omega (arith, in_.1))) is.lead in
    let other = lead-still next.steps (IsWithin numbered block next.widest_room bs) (IsWithin numbered block wide bs) bs bs (Some next.first) (link_of next.behind) (omega arith) (λ k low in_. refl)
    (λ k low in_. (in_.0, omega (arith, in_.1))) on.lead in
    record {
      some = omega (arith, is.some);
      lead = lead-append steps next.steps (IsWithin numbered block wide bs) bs (Some first) (link_of behind) (link_of next.behind) one
          (subst (λ (l : Option ℕ). Lead next.steps (IsWithin numbered block wide bs) bs l (link_of next.behind)) (sym ends) other);
    }

-- a span of a part is one of the block
pub span-part : (scale n : ℕ) (span : Span) (bs : List LinkedBucket) → IsSpan (block_of scale) (block_of scale n) span bs → IsSpan (whole_of scale) (whole_of scale n) span bs
span-part scale n span bs is = record {
  some = is.some;
  lead = lead-still span.steps (IsWithin (block_of scale) (block_of scale n) span.widest_room bs) (IsWithin (whole_of scale) (whole_of scale n) span.widest_room bs) bs bs (Some span.first) (link_of span.behind) (omega arith)
      (λ k low in_. refl) (λ k low in_. (ap (λ (part : ℕ). part / 8) in_.0, in_.1)) is.lead;
}

-- what is known of a block is what stands there, if something is known
pub known-read : {P : Type 0} (spans : List Span) (block : ℕ) (span : Span) → span_of spans block ≡ span → span.first < no_link → (slice_get spans block ≡ Some span → P) → P
known-read {P} spans block span is known found = by_found (slice_get spans block) refl
  where
    by_found : (r : Option Span) → slice_get spans block ≡ r → P
    by_found None e =
        let none : span_of spans block ≡ no_span = ap (λ (o : Option Span). option_map_or (λ (s : Span). s) o no_span) e in
        absurd (omega (arith, known, ap (λ (s : Span). s.first) (sym is ∙ none)))
    by_found (Some s) e =
        let some : span_of spans block ≡ s = ap (λ (o : Option Span). option_map_or (λ (x : Span). x) o no_span) e in
        found (e ∙ ap (λ (x : Span). Some x) (sym some ∙ is))

-- the span of a block is one of it
pub span-of : (numbered : ℕ → ℕ) (spans : List Span) (block : ℕ) (span : Span) (bs : List LinkedBucket) → span_of spans block ≡ span → AreSpansOf numbered spans bs → IsKnownSpan numbered block span bs
span-of numbered spans block span bs is are known = known-read spans block span is known (λ at. are block span at known)

-- the same where nothing is said of the room of one record
pub span-of-except : (one : ℕ) (numbered : ℕ → ℕ) (spans : List Span) (block : ℕ) (span : Span) (bs : List LinkedBucket) → span_of spans block ≡ span → AreSpansExceptOf one numbered spans bs → IsKnownSpanExcept one numbered block span bs
span-of-except one numbered spans block span bs is are known = known-read spans block span is known (λ at. are block span at known)

-- the spans of other blocks, where nothing is said of the room of one record
pub but-others : (one : ℕ) (numbered : ℕ → ℕ) (spans : List Span) (bs : List LinkedBucket) → AreSpansExceptOf one numbered spans bs → AreOtherSpansOf one numbered spans bs
but-others one numbered spans bs but block span apart at known =
    let is = but block span at known in
    record {
      some = is.some;
      lead = lead-still span.steps (IsWithinExcept one numbered block span.widest_room bs) (IsWithin numbered block span.widest_room bs) bs bs (Some span.first) (link_of span.behind) (omega arith) (λ k low in_. refl)
          (λ k low in_. (in_.0, in_.1 (λ same. apart (sym in_.0 ∙ ap numbered same)))) is.lead;
    }

-- the spans of other blocks are known where all are
pub spans-others : (one : ℕ) (numbered : ℕ → ℕ) (spans : List Span) (bs : List LinkedBucket) → AreSpansOf numbered spans bs → AreOtherSpansOf one numbered spans bs
spans-others one numbered spans bs are block span apart at = are block span at

-- where nothing is known there is no span
pub no-spans : (numbered : ℕ → ℕ) (count : ℕ) (bs : List LinkedBucket) → AreSpansOf numbered (replicate count no_span) bs
no-spans numbered zero bs block span at known = absurd (cc)
no-spans numbered (suc count) bs zero span at known = absurd (omega (arith, known, first at))
  where
    first : Some no_span ≡ Some span → 65535 ≡ span.first
    first h = cc
no-spans numbered (suc count) bs (suc block) span at known = shifted (no-spans (λ n. numbered n) count bs)
  where
    shifted : AreSpansOf numbered (replicate count no_span) bs → IsSpan numbered (suc block) span bs
    shifted h = absurd (none count block at)
      where
        none : (c k : ℕ) → slice_get (replicate c no_span) k ≡ Some span → ⊥
        none zero k e = cc
        none (suc c) zero e = omega (arith, known, first_ e)
          where
            first_ : Some no_span ≡ Some span → 65535 ≡ span.first
            first_ h = cc
        none (suc c) (suc k) e = none c k e

-- all are known where one more is
pub spans-set : (one : ℕ) (numbered : ℕ → ℕ) (fresh : Span) (spans : List Span) (bs : List LinkedBucket) → IsKnownSpan numbered (numbered one) fresh bs → AreOtherSpansOf one numbered spans bs
    → AreSpansOf numbered (changed_by (Some (numbered one)) (λ _. fresh) spans) bs
spans-set one numbered fresh spans bs is others block span at =
    read-changed (λ _. fresh) spans (numbered one) block span at
    (λ z stood same set_. subst (λ (k : ℕ). IsKnownSpan numbered k span bs) (sym same) (subst (λ (s : Span). IsKnownSpan numbered (numbered one) s bs) (sym set_) is))
    (λ apart stood. others block span apart stood)

-- all are known where the one of a record's block may have the record's room
pub spans-raised : (one : ℕ) (numbered : ℕ → ℕ) (room : ℕ) (spans : List Span) (bs : List LinkedBucket) → room_at bs one ≤ room → AreSpansExceptOf one numbered spans bs
    → AreSpansOf numbered (changed_by (Some (numbered one)) (widened room) spans) bs
spans-raised one numbered room spans bs narrow but block span at =
    read-changed (widened room) spans (numbered one) block span at
    (λ z stood same set_. subst (λ (s : Span). IsKnownSpan numbered block s bs) (sym set_) (span-widened one numbered block room z bs narrow (but block z (ap (slice_get spans) same ∙ stood))))
    (λ apart stood. but-others one numbered spans bs but block span apart stood)

-- no span is known
pub known-none : (numbered : ℕ → ℕ) (block : ℕ) (bs : List LinkedBucket) → IsKnownSpan numbered block no_span bs
known-none numbered block bs known = absurd (omega (arith, known))

-- all are known where one more is known of the block of a record
pub fresh-known : (one : ℕ) (numbered : ℕ → ℕ) (block : ℕ) (fresh : Span) (spans news : List Span) (bs : List LinkedBucket) → news ≡ changed_by (Some block) (λ _. fresh) spans → block ≡ numbered one
    → IsKnownSpan numbered (numbered one) fresh bs → AreOtherSpansOf one numbered spans bs → AreSpansOf numbered news bs
fresh-known one numbered block fresh spans news bs set_ same is others =
    subst (λ (xs : List Span). AreSpansOf numbered xs bs) (sym (set_ ∙ ap (λ (k : ℕ). changed_by (Some k) (λ _. fresh) spans) same)) (spans-set one numbered fresh spans bs is others)

-- the others are known where the span of a record's block is forgotten
pub forgotten : (one : ℕ) (numbered : ℕ → ℕ) (block : ℕ) (none : Span) (spans news : List Span) (bs : List LinkedBucket) → news ≡ changed_by (Some block) (λ _. none) spans → block ≡ numbered one → none ≡ no_span
    → AreOtherSpansOf one numbered spans bs → AreSpansOf numbered news bs
forgotten one numbered block none spans news bs set_ same is others =
    fresh-known one numbered block none spans news bs set_ same (subst (λ (s : Span). IsKnownSpan numbered (numbered one) s bs) (sym is) (known-none numbered (numbered one) bs)) others

-- all are known where the span of a record's block may have the record's room
pub raised-known : (one : ℕ) (numbered : ℕ → ℕ) (block room : ℕ) (spans news : List Span) (bs : List LinkedBucket) → news ≡ changed_by (Some block) (widened room) spans → block ≡ numbered one → room_at bs one ≤ room
    → AreSpansExceptOf one numbered spans bs → AreSpansOf numbered news bs
raised-known one numbered block room spans news bs set_ same narrow but =
    subst (λ (xs : List Span). AreSpansOf numbered xs bs) (sym (set_ ∙ ap (λ (k : ℕ). changed_by (Some k) (widened room) spans) same)) (spans-raised one numbered room spans bs narrow but)

-- all are known where the span of a record's block has at most what others have or the record
pub bounded-known : (one : ℕ) (numbered : ℕ → ℕ) (block bound room wide : ℕ) (spans news : List Span) (bs : List LinkedBucket) → news ≡ changed_by (Some block) (bounded wide) spans → block ≡ numbered one → wide ≡ max bound room
    → room_at bs one ≤ room → AreSpansExceptOf one numbered spans bs → IsBoundOf numbered bound one spans bs → AreSpansOf numbered news bs
bounded-known one numbered block bound room wide spans news bs set_ same is narrow but others =
    subst (λ (xs : List Span). AreSpansOf numbered xs bs)
    (sym (set_ ∙ ap (λ (k : ℕ). changed_by (Some k) (bounded wide) spans) same ∙ ap (λ (w : ℕ). changed_by (Some (numbered one)) (bounded w) spans) is)) all
  where
    all : AreSpansOf numbered (changed_by (Some (numbered one)) (bounded (max bound room)) spans) bs
    all b span at =
        read-changed (bounded (max bound room)) spans (numbered one) b span at
        (λ z stood here set__. subst (λ (k : ℕ). IsKnownSpan numbered k span bs) (sym here) (subst (λ (s : Span). IsKnownSpan numbered (numbered one) s bs) (sym set__) (span-widened one numbered (numbered one) room (bounded bound z) bs narrow (others z stood))))
        (λ apart stood. but-others one numbered spans bs but b span apart stood)

-- what others have stays known where the span's own bound was changed
pub bound-kept : (one : ℕ) (numbered : ℕ → ℕ) (block bound wide : ℕ) (spans news : List Span) (bs : List LinkedBucket) → news ≡ changed_by (Some block) (bounded wide) spans → block ≡ numbered one → IsBoundOf numbered bound one spans bs
    → IsBoundOf numbered bound one news bs
bound-kept one numbered block bound wide spans news bs set_ same others =
    subst (λ (xs : List Span). IsBoundOf numbered bound one xs bs) (sym (set_ ∙ ap (λ (k : ℕ). changed_by (Some k) (bounded wide) spans) same)) all
  where
    all : IsBoundOf numbered bound one (changed_by (Some (numbered one)) (bounded wide) spans) bs
    all span at =
        read-changed (bounded wide) spans (numbered one) (numbered one) span at
        (λ z stood here set__. subst (λ (s : Span). IsKnownSpanExcept one numbered (numbered one) (bounded bound s) bs) (sym set__) (others z stood)) (λ apart stood. absurd (apart refl))

-- what others have is what was known before a record was widened
pub bound-widened : (one : ℕ) (numbered : ℕ → ℕ) (block room bound : ℕ) (before : Span) (spans news : List Span) (bs : List LinkedBucket) → news ≡ changed_by (Some block) (widened room) spans → block ≡ numbered one → before ≡ span_of spans block
    → bound ≡ before.widest_room → AreSpansExceptOf one numbered spans bs → IsBoundOf numbered bound one news bs
bound-widened one numbered block room bound before spans news bs set_ same read is but =
    subst (λ (xs : List Span). IsBoundOf numbered bound one xs bs) (sym (set_ ∙ ap (λ (k : ℕ). changed_by (Some k) (widened room) spans) same)) all
  where
    all : IsBoundOf numbered bound one (changed_by (Some (numbered one)) (widened room) spans) bs
    all span at =
        read-changed (widened room) spans (numbered one) (numbered one) span at
        (λ z stood here set__.
        let found : before ≡ z = read ∙ ap (span_of spans) same ∙ ap (λ (o : Option Span). option_map_or (λ (s : Span). s) o no_span) stood in
        let wide : bound ≡ z.widest_room = is ∙ ap (λ (s : Span). s.widest_room) found in
        subst (λ (s : Span). IsKnownSpanExcept one numbered (numbered one) (bounded bound s) bs) (sym set__)
        (subst (λ (w : ℕ). IsKnownSpanExcept one numbered (numbered one) (bounded w z) bs) (sym wide) (but (numbered one) z stood)))
        (λ apart stood. absurd (apart refl))

-- where blocks are numbered the same, the same is known
same-numbered : (numbered as_ : ℕ → ℕ) (spans : List Span) (bs : List LinkedBucket) → ((n : ℕ) → numbered n ≡ as_ n) → AreSpansOf numbered spans bs → AreSpansOf as_ spans bs
same-numbered numbered as_ spans bs same are block span at known =
    let is = are block span at known in
    record {
      some = is.some;
      lead = lead-still span.steps (IsWithin numbered block span.widest_room bs) (IsWithin as_ block span.widest_room bs) bs bs (Some span.first) (link_of span.behind) (omega arith) (λ k low in_. refl)
          (λ k low in_. (sym (same k) ∙ in_.0, in_.1)) is.lead;
    }

same-numbered-except : (one : ℕ) (numbered as_ : ℕ → ℕ) (spans : List Span) (bs : List LinkedBucket) → ((n : ℕ) → numbered n ≡ as_ n) → AreSpansExceptOf one numbered spans bs → AreSpansExceptOf one as_ spans bs
same-numbered-except one numbered as_ spans bs same are block span at known =
    let is = are block span at known in
    record {
      some = is.some;
      lead = lead-still span.steps (IsWithinExcept one numbered block span.widest_room bs) (IsWithinExcept one as_ block span.widest_room bs) bs bs (Some span.first) (link_of span.behind) (omega arith) (λ k low in_. refl)
          (λ k low in_. (sym (same k) ∙ in_.0, in_.1)) is.lead;
    }

-- middle blocks are gathered from small ones, and large ones from these
pub middle-wholes : (spans : List Span) (bs : List LinkedBucket) → AreSpansOf (whole_of 1) spans bs → AreSpansOf (block_of 8) spans bs
middle-wholes spans bs are = same-numbered (whole_of 1) (block_of 8) spans bs (λ n. omega arith) are

pub wholes-middle : (spans : List Span) (bs : List LinkedBucket) → AreSpansOf (block_of 8) spans bs → AreSpansOf (whole_of 1) spans bs
wholes-middle spans bs are = same-numbered (block_of 8) (whole_of 1) spans bs (λ n. omega arith) are

pub wholes-middle-except : (one : ℕ) (spans : List Span) (bs : List LinkedBucket) → AreSpansExceptOf one (block_of 8) spans bs → AreSpansExceptOf one (whole_of 1) spans bs
wholes-middle-except one spans bs are = same-numbered-except one (block_of 8) (whole_of 1) spans bs (λ n. omega arith) are

pub large-wholes : (spans : List Span) (bs : List LinkedBucket) → AreSpansOf (whole_of 8) spans bs → AreSpansOf (block_of 64) spans bs
large-wholes spans bs are = same-numbered (whole_of 8) (block_of 64) spans bs (λ n. omega arith) are

pub wholes-large : (spans : List Span) (bs : List LinkedBucket) → AreSpansOf (block_of 64) spans bs → AreSpansOf (whole_of 8) spans bs
wholes-large spans bs are = same-numbered (block_of 64) (whole_of 8) spans bs (λ n. omega arith) are

pub wholes-large-except : (one : ℕ) (spans : List Span) (bs : List LinkedBucket) → AreSpansExceptOf one (block_of 64) spans bs → AreSpansExceptOf one (whole_of 8) spans bs
wholes-large-except one spans bs are = same-numbered-except one (block_of 64) (whole_of 8) spans bs (λ n. omega arith) are

-- where the record of a number was changed, and links to the same
of-changed-room : (one : ℕ) (change : LinkedBucket → LinkedBucket) (numbered : ℕ → ℕ) (spans : List Span) (xs : List LinkedBucket) → ((b : LinkedBucket) → (change b).next ≡ b.next) → AreSpansOf numbered spans xs
    → AreSpansExceptOf one numbered spans (changed_by (Some one) change xs)
of-changed-room one change numbered spans xs links are block span at known =
    let is = are block span at known in
    let ys = changed_by (Some one) change xs in
    record {
      some = is.some;
      lead = lead-still span.steps (IsWithin numbered block span.widest_room xs) (IsWithinExcept one numbered block span.widest_room ys) xs ys (Some span.first) (link_of span.behind) (omega (arith, length-changed_by change xs (Some one)))
          (λ k low in_. link_at-same (λ (b : LinkedBucket). b.next) xs ys k (map-changed_by (λ (b : LinkedBucket). b.next) change xs (Some one) links))
          (λ k low in_. (in_.0, λ other. omega (arith, in_.1, ap (λ (r : Option LinkedBucket). option_map_or record_room r 0) (get-changed_by-other change xs (Some one) k (λ (h : Some one ≡ Some k). other (inner k h)))))) is.lead;
    }
  where
    inner : (k : ℕ) → Some one ≡ Some k → k ≡ one
    inner k h = cc

bound-changed-room : (one : ℕ) (change : LinkedBucket → LinkedBucket) (numbered : ℕ → ℕ) (room : ℕ) (spans : List Span) (xs : List LinkedBucket) → ((b : LinkedBucket) → (change b).next ≡ b.next) → IsBoundOf numbered room one spans xs
    → IsBoundOf numbered room one spans (changed_by (Some one) change xs)
bound-changed-room one change numbered room spans xs links are span at known =
    let is = are span at known in
    let ys = changed_by (Some one) change xs in
    record {
      some = is.some;
      lead = lead-still span.steps (IsWithinExcept one numbered (numbered one) room xs) (IsWithinExcept one numbered (numbered one) room ys) xs ys (Some span.first) (link_of span.behind) (omega (arith, length-changed_by change xs (Some one)))
          (λ k low in_. link_at-same (λ (b : LinkedBucket). b.next) xs ys k (map-changed_by (λ (b : LinkedBucket). b.next) change xs (Some one) links))
          (λ k low in_. (in_.0, λ other. omega (arith, in_.1 other, ap (λ (r : Option LinkedBucket). option_map_or record_room r 0) (get-changed_by-other change xs (Some one) k (λ (h : Some one ≡ Some k). other (inner k h)))))) is.lead;
    }
  where
    inner : (k : ℕ) → Some one ≡ Some k → k ≡ one
    inner k h = cc

-- what is known of others stays right where the record was changed alone
others-changed-room : (one : ℕ) (change : LinkedBucket → LinkedBucket) (spans : Spans) (xs : List LinkedBucket) → ((b : LinkedBucket) → (change b).next ≡ b.next) → AreOthers spans xs → spans.others.number ≡ one
    → AreOthers spans (changed_by (Some one) change xs)
others-changed-room one change spans xs links others same known =
    subst (λ (k : ℕ). AreBounds spans (changed_by (Some k) change xs)) same (
    let bounds = others known in
    let number = spans.others.number in
    record {
      small = bound-changed-room number change (block_of 1) spans.others.small spans.small xs links bounds.small;
      middle = bound-changed-room number change (block_of 8) spans.others.middle spans.middle xs links bounds.middle;
      large = bound-changed-room number change (block_of 64) spans.others.large spans.large xs links bounds.large;
    }
    )

pub spans-changed-room : (one : ℕ) (change : LinkedBucket → LinkedBucket) (spans : Spans) (xs : List LinkedBucket) → ((b : LinkedBucket) → (change b).next ≡ b.next) → AreSpans spans xs
    → AreSpansExcept one spans (changed_by (Some one) change xs)
spans-changed-room one change spans xs links are learned =
    let known = (are learned).known in
    record {
      known = record {
        small = of-changed-room one change (block_of 1) spans.small xs links known.small;
        middle = of-changed-room one change (block_of 8) spans.middle xs links known.middle;
        large = of-changed-room one change (block_of 64) spans.large xs links known.large;
      };
      others = λ same. others-changed-room one change spans xs links (are learned).others same;
    }

-- a span stays one where a record was changed that links to the same and has the same room
span-same : (numbered : ℕ → ℕ) (block : ℕ) (span : Span) (xs ys : List LinkedBucket) → length xs ≤ length ys → ((k : ℕ) → next_of ys k ≡ next_of xs k) → ((k : ℕ) → room_at ys k ≡ room_at xs k)
    → IsKnownSpan numbered block span xs → IsKnownSpan numbered block span ys
span-same numbered block span xs ys long links rooms is known =
    let before = is known in
    record {
      some = before.some;
      lead = lead-still span.steps (IsWithin numbered block span.widest_room xs) (IsWithin numbered block span.widest_room ys) xs ys (Some span.first) (link_of span.behind) long (λ k low in_. links k)
          (λ k low in_. (in_.0, omega (arith, in_.1, rooms k))) before.lead;
    }

-- the same where nothing is said of the room of one record
span-except-same : (one : ℕ) (numbered : ℕ → ℕ) (block : ℕ) (span : Span) (xs ys : List LinkedBucket) → length xs ≤ length ys → ((k : ℕ) → next_of ys k ≡ next_of xs k) → ((k : ℕ) → room_at ys k ≡ room_at xs k)
    → IsKnownSpanExcept one numbered block span xs → IsKnownSpanExcept one numbered block span ys
span-except-same one numbered block span xs ys long links rooms is known =
    let before = is known in
    record {
      some = before.some;
      lead = lead-still span.steps (IsWithinExcept one numbered block span.widest_room xs) (IsWithinExcept one numbered block span.widest_room ys) xs ys (Some span.first) (link_of span.behind) long (λ k low in_. links k)
          (λ k low in_. (in_.0, λ other. omega (arith, in_.1 other, rooms k))) before.lead;
    }

-- spans stay right where a record was changed that links to the same and has the same room
pub spans-same : (one : ℕ) (change : LinkedBucket → LinkedBucket) (spans : Spans) (xs : List LinkedBucket) → ((b : LinkedBucket) → (change b).next ≡ b.next) → ((b : LinkedBucket) → record_room (change b) ≡ record_room b)
    → AreSpans spans xs → AreSpans spans (changed_by (Some one) change xs)
spans-same one change spans xs links rooms are learned =
    let is = are learned in
    let number = spans.others.number in
    record {
      known = record {
        small = λ block span at. span-same (block_of 1) block span xs ys long next room (is.known.small block span at);
        middle = λ block span at. span-same (block_of 8) block span xs ys long next room (is.known.middle block span at);
        large = λ block span at. span-same (block_of 64) block span xs ys long next room (is.known.large block span at);
      };
      others = λ some. record {
        small = λ span at. span-except-same number (block_of 1) (block_of 1 number) (bounded spans.others.small span) xs ys long next room ((is.others some).small span at);
        middle = λ span at. span-except-same number (block_of 8) (block_of 8 number) (bounded spans.others.middle span) xs ys long next room ((is.others some).middle span at);
        large = λ span at. span-except-same number (block_of 64) (block_of 64 number) (bounded spans.others.large span) xs ys long next room ((is.others some).large span at);
      };
    }
  where
    ys : List LinkedBucket
    ys = changed_by (Some one) change xs

    long : length xs ≤ length ys
    long = omega (arith, length-changed_by change xs (Some one))

    next : (k : ℕ) → next_of ys k ≡ next_of xs k
    next k = link_at-same (λ (b : LinkedBucket). b.next) xs ys k (map-changed_by (λ (b : LinkedBucket). b.next) change xs (Some one) links)

    read : (zs : List LinkedBucket) (k : ℕ) → room_at zs k ≡ option_map_or (λ (n : ℕ). n) (slice_get (map record_room zs) k) 0
    read zs k = by_found (slice_get zs k) ∙ ap (λ (o : Option ℕ). option_map_or (λ (n : ℕ). n) o 0) (sym (slice_get-map record_room zs k))
      where
        by_found : (o : Option LinkedBucket) → option_map_or record_room o 0 ≡ option_map_or (λ (n : ℕ). n) (option_map record_room o) 0
        by_found None = refl
        by_found (Some b) = refl

    room : (k : ℕ) → room_at ys k ≡ room_at xs k
    room k = read ys k ∙ ap (λ (ns : List ℕ). option_map_or (λ (n : ℕ). n) (slice_get ns k) 0) (map-changed_by record_room change xs (Some one) rooms) ∙ sym (read xs k)

-- where the record of a number was changed
of-changed : (one : ℕ) (change : LinkedBucket → LinkedBucket) (numbered : ℕ → ℕ) (spans : List Span) (xs : List LinkedBucket) → AreSpansOf numbered spans xs → AreOtherSpansOf one numbered spans (changed_by (Some one) change xs)
of-changed one change numbered spans xs are block span apart at known =
    let is = are block span at known in
    let ys = changed_by (Some one) change xs in
    record {
      some = is.some;
      lead = lead-still span.steps (IsWithin numbered block span.widest_room xs) (IsWithin numbered block span.widest_room ys) xs ys (Some span.first) (link_of span.behind) (omega (arith, length-changed_by change xs (Some one)))
          (λ k low in_. ap (option_and_then (λ (b : LinkedBucket). b.next)) (stays k in_.0))
          (λ k low in_. (in_.0, omega (arith, in_.1, ap (λ (r : Option LinkedBucket). option_map_or record_room r 0) (stays k in_.0)))) is.lead;
    }
  where
    stays : (k : ℕ) → numbered k ≡ block → slice_get (changed_by (Some one) change xs) k ≡ slice_get xs k
    stays k same = get-changed_by-other change xs (Some one) k (λ (h : Some one ≡ Some k). apart (sym same ∙ ap numbered (inner h)))
      where
        inner : Some one ≡ Some k → k ≡ one
        inner h = cc

pub spans-changed : (one : ℕ) (change : LinkedBucket → LinkedBucket) (spans : Spans) (xs : List LinkedBucket) → AreSpans spans xs → AreOtherSpans one spans (changed_by (Some one) change xs)
spans-changed one change spans xs are learned =
    let known = (are learned).known in
    record {
      small = of-changed one change (block_of 1) spans.small xs known.small;
      middle = of-changed one change (block_of 8) spans.middle xs known.middle;
      large = of-changed one change (block_of 64) spans.large xs known.large;
    }

-- a record before those that were added
before-added : (xs ys : List LinkedBucket) (n : ℕ) → n < length xs → slice_get (xs ++ ys) n ≡ slice_get xs n
before-added [] ys n within = absurd (omega arith)
before-added (x ∷ xs) ys zero within = refl
before-added (x ∷ xs) ys (suc n) within = before-added xs ys n (omega arith)

longer-added : (xs ys : List LinkedBucket) → length xs ≤ length (xs ++ ys)
longer-added [] ys = omega arith
longer-added (x ∷ xs) ys = omega (arith, longer-added xs ys)

-- where records were added
of-added : (numbered : ℕ → ℕ) (spans : List Span) (xs ys : List LinkedBucket) → AreSpansOf numbered spans xs → AreSpansOf numbered spans (xs ++ ys)
of-added numbered spans xs ys are block span at known =
    let is = are block span at known in
    record {
      some = is.some;
      lead = lead-still span.steps (IsWithin numbered block span.widest_room xs) (IsWithin numbered block span.widest_room (xs ++ ys)) xs (xs ++ ys) (Some span.first) (link_of span.behind) (longer-added xs ys)
          (λ k low in_. ap (option_and_then (λ (b : LinkedBucket). b.next)) (before-added xs ys k low))
          (λ k low in_. (in_.0, omega (arith, in_.1, ap (λ (r : Option LinkedBucket). option_map_or record_room r 0) (before-added xs ys k low)))) is.lead;
    }

bound-added : (numbered : ℕ → ℕ) (room one : ℕ) (spans : List Span) (xs ys : List LinkedBucket) → IsBoundOf numbered room one spans xs → IsBoundOf numbered room one spans (xs ++ ys)
bound-added numbered room one spans xs ys are span at known =
    let is = are span at known in
    record {
      some = is.some;
      lead = lead-still span.steps (IsWithinExcept one numbered (numbered one) room xs) (IsWithinExcept one numbered (numbered one) room (xs ++ ys)) xs (xs ++ ys) (Some span.first) (link_of span.behind) (longer-added xs ys)
          (λ k low in_. ap (option_and_then (λ (b : LinkedBucket). b.next)) (before-added xs ys k low))
          (λ k low in_. (in_.0, λ other. omega (arith, in_.1 other, ap (λ (r : Option LinkedBucket). option_map_or record_room r 0) (before-added xs ys k low)))) is.lead;
    }

pub spans-added : (spans : Spans) (xs ys : List LinkedBucket) → AreSpans spans xs → AreSpans spans (xs ++ ys)
spans-added spans xs ys are learned =
    let known = (are learned).known in
    let number = spans.others.number in
    record {
      known = record {
        small = of-added (block_of 1) spans.small xs ys known.small;
        middle = of-added (block_of 8) spans.middle xs ys known.middle;
        large = of-added (block_of 64) spans.large xs ys known.large;
      };
      others = λ some. record {
        small = bound-added (block_of 1) spans.others.small number spans.small xs ys ((are learned).others some).small;
        middle = bound-added (block_of 8) spans.others.middle number spans.middle xs ys ((are learned).others some).middle;
        large = bound-added (block_of 64) spans.others.large number spans.large xs ys ((are learned).others some).large;
      };
    }

-- a search that stays where it is
pub passed-none : (width : ℕ) (bs : List LinkedBucket) (at : Option ℕ) (left : ℕ) → IsPassed width bs at left (record { at = at; left = left })
passed-none width bs at left = record { steps = 0; passed = omega arith; lead = refl }

-- a search that goes on from where another one stands
pub passed-on : (width : ℕ) (bs : List LinkedBucket) (at : Option ℕ) (left : ℕ) (one other : Ahead) → IsPassed width bs at left one → IsPassed width bs one.at one.left other → IsPassed width bs at left other
passed-on width bs at left one other is on = record {
  steps = is.steps + on.steps;
  passed = omega (arith, is.passed, on.passed);
  lead = lead-append is.steps on.steps (λ number. room_at bs number < width) bs at one.at other.at is.lead on.lead;
}

-- a search that goes on behind a span
pub passed-span : (width : ℕ) (numbered : ℕ → ℕ) (block : ℕ) (span : Span) (bs : List LinkedBucket) (at : Option ℕ) (number left : ℕ) → at ≡ Some number → number < no_link → IsPassedSpan number width left span
    → IsKnownSpan numbered block span bs → IsPassed width bs at left (record { at = link_of span.behind; left = left - span.steps })
passed-span width numbered block span bs at number left names small passed known =
    let is = known (omega (arith, passed.first, small)) in
    let link : Some span.first ≡ at = ap (λ (n : ℕ). Some n) passed.first ∙ sym names in
    record {
      steps = span.steps;
      passed = omega (arith, passed.few);
      lead = subst (λ (l : Option ℕ). Lead span.steps (λ n. room_at bs n < width) bs l (link_of span.behind)) link
          (lead-still span.steps (IsWithin numbered block span.widest_room bs) (λ n. room_at bs n < width) bs bs (Some span.first) (link_of span.behind) (omega arith) (λ k low in_. refl)
          (λ k low in_. omega (arith, in_.1, passed.narrow)) is.lead);
    }

-- a search for more width passes the same
pub passed-wider : (width wider : ℕ) (bs : List LinkedBucket) (at : Option ℕ) (left : ℕ) (ahead : Ahead) → width ≤ wider → IsPassed width bs at left ahead → IsPassed wider bs at left ahead
passed-wider width wider bs at left ahead more is = record {
  steps = is.steps;
  passed = is.passed;
  lead = lead-still is.steps (λ n. room_at bs n < width) (λ n. room_at bs n < wider) bs bs at ahead.at (omega arith) (λ k low in_. refl) (λ k low in_. omega (arith, in_, more)) is.lead;
}

-- what a step finds at a link
pub first-at : (wanted : Wanted) (buckets : List LinkedBucket) (left fewer number : ℕ) (at : Option ℕ) (found : Option LinkedBucket) → at ≡ Some number → left ≡ suc fewer → slice_get buckets number ≡ found
    → first_from left wanted buckets at ≡ option_and_then (λ (bucket : LinkedBucket). cond (is_wanted wanted bucket) (Some number) (first_from fewer wanted buckets bucket.next)) found
first-at wanted buckets left fewer number at found names less here =
    ap (first_from left wanted buckets) names
    ∙ ap (λ (n : ℕ). first_from n wanted buckets (Some number)) less
    ∙ ap (option_and_then (λ (bucket : LinkedBucket). cond (is_wanted wanted bucket) (Some number) (first_from fewer wanted buckets bucket.next))) here

-- nothing is found where no bucket is named
pub first-none : (wanted : Wanted) (buckets : List LinkedBucket) (left : ℕ) (at : Option ℕ) → at ≡ None → first_from left wanted buckets at ≡ None
first-none wanted buckets left at names = ap (first_from left wanted buckets) names ∙ none left
  where
    none : (n : ℕ) → first_from n wanted buckets None ≡ None
    none zero = refl
    none (suc n) = refl

-- a record with less room than it needs isn't wanted
not-wanted : (wanted : Wanted) (b : LinkedBucket) → record_room b < needed_room wanted → is_wanted wanted b ≡ false
not-wanted (Roomy width) b narrow = by_tests (nat_le width b.free_space) (nat_lt b.item_count 4095) refl refl
  where
    by_tests : (fits gives : Bool) → nat_le width b.free_space ≡ fits → nat_lt b.item_count 4095 ≡ gives → (fits && gives) ≡ false
    by_tests true true e f = absurd (omega (arith, leb-true width b.free_space e, subst (λ (t : Bool). cond t b.free_space 0 < width) f narrow))
    by_tests true false e f = refl
    by_tests false gives e f = refl
not-wanted (Exact width) b narrow = by_tests (nat_le width b.free_space) (nat_lt b.item_count 4095) refl refl
  where
    by_tests : (fits gives : Bool) → nat_le width b.free_space ≡ fits → nat_lt b.item_count 4095 ≡ gives → ((fits && gives) && b.free_space == width) ≡ false
    by_tests true true e f = absurd (omega (arith, leb-true width b.free_space e, subst (λ (t : Bool). cond t b.free_space 0 < width) f narrow))
    by_tests true false e f = refl
    by_tests false gives e f = refl
not-wanted (Wide width) b narrow = absurd (omega (arith, narrow))

-- records of which none is wanted are passed
first-passed : (steps left : ℕ) (wanted : Wanted) (bs : List LinkedBucket) (at behind : Option ℕ) → Lead steps (λ n. (b : LinkedBucket) → slice_get bs n ≡ Some b → is_wanted wanted b ≡ false) bs at behind
    → first_from (steps + left) wanted bs at ≡ first_from left wanted bs behind
first-passed zero left wanted bs at behind lead =
    let none : 0 + left ≡ left = omega arith in
    ap (λ (n : ℕ). first_from n wanted bs at) none ∙ ap (first_from left wanted bs) lead
first-passed (suc steps) left wanted bs None behind lead = absurd lead
first-passed (suc steps) left wanted bs (Some n) behind lead =
    record-at bs n lead.0 (λ b here.
    first-at wanted bs (suc steps + left) (steps + left) n (Some n) (Some b) refl (omega arith) here
    ∙ ap (λ (t : Bool). cond t (Some n) (first_from (steps + left) wanted bs b.next)) (lead.1 b here)
    ∙ ap (first_from (steps + left) wanted bs) (sym (next-at bs n b here))
    ∙ first-passed steps left wanted bs (next_of bs n) behind lead.2)

-- what is sought from a link on is sought from where the search goes on
pub first-ahead : (width left : ℕ) (wanted : Wanted) (bs : List LinkedBucket) (at : Option ℕ) (ahead : Ahead) → width ≡ needed_room wanted → IsPassed width bs at left ahead → first_from left wanted bs at ≡ first_from ahead.left wanted bs ahead.at
first-ahead width left wanted bs at ahead needs is =
    ap (λ (n : ℕ). first_from n wanted bs at) is.passed
    ∙ first-passed is.steps ahead.left wanted bs at ahead.at
    (lead-still is.steps (λ n. room_at bs n < width) (λ n. (x : LinkedBucket) → slice_get bs n ≡ Some x → is_wanted wanted x ≡ false) bs bs at ahead.at (omega arith) (λ k low in_. refl)
    (λ k low in_ x here. not-wanted wanted x (omega (arith, in_, needs, room-at bs k x here))) is.lead)

-- records of which none is wider are passed
widest-passed : (steps left most : ℕ) (bs : List LinkedBucket) (at behind : Option ℕ) → Lead steps (λ n. room_at bs n ≤ most) bs at behind → max most (widest_from (steps + left) bs at) ≡ max most (widest_from left bs behind)
widest-passed zero left most bs at behind lead =
    let none : 0 + left ≡ left = omega arith in
    ap (λ (n : ℕ). max most (widest_from n bs at)) none ∙ ap (λ (link : Option ℕ). max most (widest_from left bs link)) lead
widest-passed (suc steps) left most bs None behind lead = absurd lead
widest-passed (suc steps) left most bs (Some n) behind lead =
    record-at bs n lead.0 (λ b here.
    let later = widest-passed steps left most bs (next_of bs n) behind lead.2 in
    let own = widest-at bs (suc steps + left) (steps + left) n (Some n) (Some b) refl (omega arith) here in
    omega (arith, own, later, lead.1, room-at bs n b here, ap (widest_from (steps + left) bs) (next-at bs n b here)))

-- the widest from a link on is no wider than what was found, or one of where the search goes on
pub widest-ahead : (most left : ℕ) (bs : List LinkedBucket) (at : Option ℕ) (ahead : Ahead) → IsPassed (most + 1) bs at left ahead → max most (widest_from left bs at) ≡ max most (widest_from ahead.left bs ahead.at)
widest-ahead most left bs at ahead is =
    ap (λ (n : ℕ). max most (widest_from n bs at)) is.passed
    ∙ widest-passed is.steps ahead.left most bs at ahead.at
    (lead-still is.steps (λ n. room_at bs n < most + 1) (λ n. room_at bs n ≤ most) bs bs at ahead.at (omega arith) (λ k low in_. refl) (λ k low in_. omega (arith, in_)) is.lead)
