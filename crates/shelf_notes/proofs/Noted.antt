-- What is known of shelves, and the numbers of those that have changed, as one entry is written over another.
use Rattle.std.proofs.Common.{◌≡◌, ◌≢◌, ℕ, zero, suc, ◌+◌, ◌<◌, ◌≤◌, Bool, true, false, List, [], ◌∷◌, ◌++◌, get_or, length, replicate, set, refl, ap, arith, sym, ◌∙◌}
use Rattle.std.proofs.lemmas.List.{get_or-set_same, get_or-set_other, length-append}
use Rattle.std.specs.Prelude.{◌==◌, ◌&&◌, not}
use Rattle.etagere_base.proofs.Totals.{total-append}
use Rattle.etagere_base.proofs.TimesLemmas.{times-append, times-here}
use Rattle.etagere_base.specs.Lists.{times}
use Rattle.shelf_notes.specs.Private.Pending.{AreCounted, RoomyNotes, noted_count, notes_in, once_where, standing_at, unknown, waits}
use Rattle.shelf_notes.specs.declared.pending.PendingShelves.TheInside.{Inside}
use Rattle.shelf_notes.specs.declared.pending.Standing.{Standing}

-- what is known of a shelf of which an entry was written, and of another one
pub standing-own : (standing : List Standing) (shelf : ℕ) (one : Standing) → shelf < length standing → standing_at (set standing shelf one) shelf ≡ one
standing-own standing shelf one below = get_or-set_same standing shelf one unknown below

pub standing-other : (standing : List Standing) (shelf k : ℕ) (one : Standing) → k ≢ shelf → standing_at (set standing shelf one) k ≡ standing_at standing k
standing-other standing shelf k one other = get_or-set_other standing shelf k one unknown other

-- of a shelf without an entry nothing is known
pub standing-past : (standing : List Standing) (k : ℕ) → length standing ≤ k → standing_at standing k ≡ unknown
standing-past [] k past = refl
standing-past (x ∷ xs) zero past = absurd (omega (arith, past))
standing-past (x ∷ xs) (suc k) past = standing-past xs k (omega (arith, past))

-- a shelf of which something is so has an entry
pub known-within : (standing : List Standing) (k : ℕ) → (waits (standing_at standing k)) ≡ true → k < length standing
known-within [] k so = absurd (cc)
known-within (x ∷ xs) zero so = omega arith
known-within (x ∷ xs) (suc k) so = omega (arith, known-within xs k so)

pub in_use-within : (standing : List Standing) (k : ℕ) → (standing_at standing k).in_use ≡ true → k < length standing
in_use-within [] k so = absurd (cc)
in_use-within (x ∷ xs) zero so = omega arith
in_use-within (x ∷ xs) (suc k) so = omega (arith, in_use-within xs k so)

-- what has not changed doesn't wait, nor does what is parked
pub unnoted-waits : (noted parked : Bool) → noted ≡ false → (noted && not parked) ≡ false
unnoted-waits true parked none = absurd (cc)
unnoted-waits false parked none = refl

pub parked-waits : (noted parked : Bool) → parked ≡ true → (noted && not parked) ≡ false
parked-waits true true so = refl
parked-waits false true so = refl
parked-waits noted false so = absurd (cc)

-- what has changed and isn't parked waits, and what waits has changed and isn't parked
pub waits-noted : (noted parked : Bool) → (noted && not parked) ≡ true → (noted ≡ true) × (parked ≡ false)
waits-noted true true so = absurd (cc)
waits-noted true false so = (refl, refl)
waits-noted false parked so = absurd (cc)

pub waits-so : (noted parked : Bool) → noted ≡ true → parked ≡ false → (noted && not parked) ≡ true
waits-so true true so none = absurd (cc)
waits-so true false so none = refl
waits-so false parked so none = absurd (cc)

pub unparked-waits : (noted parked : Bool) → (noted && not parked) ≡ false → parked ≡ false → noted ≡ false
unparked-waits true true none unparked = absurd (cc)
unparked-waits true false none unparked = absurd (cc)
unparked-waits false parked none unparked = refl

pub once-le : (so : Bool) → once_where so ≤ 1
once-le true = omega arith
once-le false = omega arith

pub once-true : (so : Bool) → 1 ≤ once_where so → so ≡ true
once-true true some = refl
once-true false some = absurd (omega (arith, some))

pub once-false : (so : Bool) → once_where so ≡ 0 → so ≡ false
once-false true none = absurd (omega (arith, none))
once-false false none = refl

-- how many have changed once an entry was written over another
count-set : (n : ℕ) (xs : List Standing) (one : Standing) → n < length xs → noted_count (set xs n one) + once_where (waits (standing_at xs n)) ≡ noted_count xs + once_where (waits one)
count-set n [] one below = absurd (omega (arith, below))
count-set zero (x ∷ xs) one below = omega arith
count-set (suc n) (x ∷ xs) one below = omega (arith, count-set n xs one (omega (arith, below)))

count-le : (xs : List Standing) → noted_count xs ≤ length xs
count-le [] = omega arith
count-le (x ∷ xs) = omega (arith, count-le xs, once-le (waits x))

count-lt : (n : ℕ) (xs : List Standing) → n < length xs → (waits (standing_at xs n)) ≡ false → noted_count xs < length xs
count-lt n [] below none = absurd (omega (arith, below))
count-lt zero (x ∷ xs) below none =
    let here : once_where (waits x) ≡ 0 = rw none refl in
    omega (arith, here, count-le xs)
count-lt (suc n) (x ∷ xs) below none = omega (arith, count-lt n xs (omega (arith, below)) none, once-le (waits x))

-- so there is room for the number of one that has not changed
pub room-left : (standing : List Standing) (noted : List ℕ) (shelf : ℕ) → AreCounted standing noted → shelf < length standing → (waits (standing_at standing shelf)) ≡ false → length noted < length standing
room-left standing noted shelf counts below none = omega (arith, counts.counted, count-lt shelf standing below none)

-- a number that stands among those that have changed is that of a shelf with an entry
pub noted-within : (standing : List Standing) (noted : List ℕ) (shelf : ℕ) → AreCounted standing noted → 1 ≤ times shelf noted → shelf < length standing
noted-within standing noted shelf counts stands =
    known-within standing shelf (once-true (waits (standing_at standing shelf)) (omega (arith, stands, counts.tied shelf)))

-- an entry that says as much of a change was written over another
pub counted-kept : (standing : List Standing) (noted : List ℕ) (shelf : ℕ) (one : Standing) → AreCounted standing noted → shelf < length standing → waits one ≡ (waits (standing_at standing shelf)) → AreCounted (set standing shelf one) noted
counted-kept standing noted shelf one counts below same =
    record {
      tied = λ k. counts.tied k ∙ sym (ap once_where (at_number k (k == shelf) refl));
      counted = omega (arith, counts.counted, count-set shelf standing one below, ap once_where same);
    }
  where
    at_number : (k : ℕ) (b : Bool) → (k == shelf) ≡ b → (waits (standing_at (set standing shelf one) k)) ≡ (waits (standing_at standing k))
    at_number k true e =
        let own : k ≡ shelf = grind arith in
        rw own (ap waits (standing-own standing shelf one below) ∙ same)
    at_number k false e =
        let other : k ≢ shelf = grind arith in
        ap waits (standing-other standing shelf k one other)

-- a shelf that had not changed was noted
pub counted-noted : (standing : List Standing) (noted : List ℕ) (shelf : ℕ) (one : Standing) → AreCounted standing noted → shelf < length standing → (waits (standing_at standing shelf)) ≡ false → waits one ≡ true → AreCounted (set standing shelf one) (noted ++ shelf ∷ [])
counted-noted standing noted shelf one counts below none some =
    record {
      tied = λ k. at_number k (k == shelf) refl;
      counted = omega (arith, counts.counted, count-set shelf standing one below, ap once_where none, ap once_where some, length-append noted (shelf ∷ []));
    }
  where
    at_number : (k : ℕ) (b : Bool) → (k == shelf) ≡ b → times k (noted ++ shelf ∷ []) ≡ once_where (waits (standing_at (set standing shelf one) k))
    at_number k true e =
        let own : k ≡ shelf = grind arith in
        let flag : once_where (waits (standing_at (set standing shelf one) k)) ≡ 1 = rw own (ap (λ (s : Standing). once_where (waits s)) (standing-own standing shelf one below) ∙ ap once_where some) in
        let here : times k (shelf ∷ []) ≡ 1 = grind arith in
        let before : once_where (waits (standing_at standing k)) ≡ 0 = rw own (ap once_where none) in
        omega (arith, times-append k noted (shelf ∷ []), counts.tied k, flag, here, before)
    at_number k false e =
        let other : k ≢ shelf = grind arith in
        let here : times k (shelf ∷ []) ≡ 0 = grind arith in
        omega (arith, times-append k noted (shelf ∷ []), counts.tied k, here, ap (λ (s : Standing). once_where (waits s)) (standing-other standing shelf k one other))

-- the one that changed last is noted no more
pub counted-forgotten : (standing : List Standing) (noted rest : List ℕ) (shelf : ℕ) (one : Standing) → AreCounted standing noted → noted ≡ rest ++ shelf ∷ [] → waits one ≡ false → AreCounted (set standing shelf one) rest
counted-forgotten standing noted rest shelf one counts whole none =
    let stands : 1 ≤ times shelf noted = rw whole (omega (arith, times-append shelf rest (shelf ∷ []), times-here shelf [])) in
    let below : shelf < length standing = noted-within standing noted shelf counts stands in
    let flag : once_where (waits (standing_at standing shelf)) ≡ 1 = omega (arith, once-le (waits (standing_at standing shelf)), counts.tied shelf, stands) in
    record {
      tied = λ k. at_number k (k == shelf) refl below flag;
      counted = omega (arith, counts.counted, count-set shelf standing one below, flag, ap once_where none, length-append rest (shelf ∷ []), ap length whole);
    }
  where
    at_number : (k : ℕ) (b : Bool) → (k == shelf) ≡ b → shelf < length standing → once_where (waits (standing_at standing shelf)) ≡ 1 → times k rest ≡ once_where (waits (standing_at (set standing shelf one) k))
    at_number k true e below flag =
        let own : k ≡ shelf = grind arith in
        let after : once_where (waits (standing_at (set standing shelf one) k)) ≡ 0 = rw own (ap (λ (s : Standing). once_where (waits s)) (standing-own standing shelf one below) ∙ ap once_where none) in
        let here : times k (shelf ∷ []) ≡ 1 = grind arith in
        let before : once_where (waits (standing_at standing k)) ≡ 1 = rw own flag in
        omega (arith, times-append k rest (shelf ∷ []), ap (times k) whole, counts.tied k, after, here, before)
    at_number k false e below flag =
        let other : k ≢ shelf = grind arith in
        let here : times k (shelf ∷ []) ≡ 0 = grind arith in
        omega (arith, times-append k rest (shelf ∷ []), ap (times k) whole, counts.tied k, here, ap (λ (s : Standing). once_where (waits s)) (standing-other standing shelf k one other))

-- what was read of a shelf with an entry
pub read-standing : (standing : List Standing) (shelf : ℕ) (one : Standing) → shelf < length standing → one ≡ get_or standing shelf one → standing_at standing shelf ≡ one
read-standing [] shelf one below read = absurd (omega (arith, below))
read-standing (x ∷ xs) zero one below read = sym read
read-standing (x ∷ xs) (suc shelf) one below read = read-standing xs shelf one (omega (arith, below)) read

-- a shelf with an entry in the value has one in the fields
pub entry-in : (inside : Inside) (value : RoomyNotes) (shelf : ℕ) → notes_in inside ≡ value → shelf < length value.notes.standing → shelf < length inside.standing.items
entry-in inside value shelf same below = omega (arith, below, ap (λ (v : RoomyNotes). length v.notes.standing) same)

-- a number that was read of those that have changed
pub number-noted : (standing : List Standing) (noted : List ℕ) (index number : ℕ) → AreCounted standing noted → index < length noted → number ≡ get_or noted index number → (waits (standing_at standing number)) ≡ true
number-noted standing noted index number counts below read =
    once-true (waits (standing_at standing number)) (omega (arith, counts.tied number, read-stands noted index number below read))
  where
    read-stands : (ns : List ℕ) (index number : ℕ) → index < length ns → number ≡ get_or ns index number → 1 ≤ times number ns
    read-stands [] index number below read = absurd (omega (arith, below))
    read-stands (n ∷ ns) zero number below read = rw (sym read) (omega (arith, times-here number ns))
    read-stands (n ∷ ns) (suc index) number below read = omega (arith, read-stands ns index number (omega (arith, below)) read)

-- the last of the numbers
pub last-within : (standing : List Standing) (noted rest : List ℕ) (shelf : ℕ) → AreCounted standing noted → noted ≡ rest ++ shelf ∷ [] → shelf < length standing
last-within standing noted rest shelf counts whole =
    noted-within standing noted shelf counts (rw whole (omega (arith, times-append shelf rest (shelf ∷ []), times-here shelf [])))

-- an entry was added of a shelf of which nothing is known
pub standing-added : (standing : List Standing) (k : ℕ) → standing_at (standing ++ unknown ∷ []) k ≡ standing_at standing k
standing-added [] zero = refl
standing-added [] (suc k) = refl
standing-added (x ∷ xs) zero = refl
standing-added (x ∷ xs) (suc k) = standing-added xs k

pub counted-added : (standing : List Standing) (noted : List ℕ) → AreCounted standing noted → AreCounted (standing ++ unknown ∷ []) noted
counted-added standing noted counts =
    record {
      tied = λ k. counts.tied k ∙ sym (ap (λ (s : Standing). once_where (waits s)) (standing-added standing k));
      counted = omega (arith, counts.counted, total-append (λ (one : Standing). once_where (waits one)) standing (unknown ∷ []));
    }

-- entries of shelves of which the same is known
pub standing-replicated : (count k : ℕ) (one : Standing) → k < count → standing_at (replicate count one) k ≡ one
standing-replicated zero k one below = absurd (omega (arith, below))
standing-replicated (suc count) zero one below = refl
standing-replicated (suc count) (suc k) one below = standing-replicated count k one (omega (arith, below))

-- none of which has changed where that one hasn't
pub replicated-unchanged : (count k : ℕ) (one : Standing) → waits one ≡ false → (waits (standing_at (replicate count one) k)) ≡ false
replicated-unchanged zero k one none = refl
replicated-unchanged (suc count) zero one none = none
replicated-unchanged (suc count) (suc k) one none = replicated-unchanged count k one none

pub counted-unchanged : (count : ℕ) (one : Standing) → waits one ≡ false → AreCounted (replicate count one) []
counted-unchanged count one unchanged =
    record {
      tied = λ k. sym (ap once_where (replicated-unchanged count k one unchanged));
      counted = sym (none count);
    }
  where
    none : (n : ℕ) → noted_count (replicate n one) ≡ 0
    none zero = refl
    none (suc n) = omega (arith, none n, ap once_where unchanged)
