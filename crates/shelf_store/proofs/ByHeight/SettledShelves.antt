-- The list of shelves by height as it follows what was noted: shelves go, are put where their records put them, and are noted
-- no more.
use Rattle.std.proofs.Common.{◌≡◌, ◌≢◌, ℕ, zero, suc, ◌+◌, ◌-◌, ◌<◌, ◌≤◌, Bool, true, false, Option, None, Some, IfSome, List, [], ◌∷◌, ◌++◌, add-one, cond, get_or, length, set, take, refl, ap, arith, ◌∙◌, sym, subst}
use Rattle.std.proofs.Math.Seq.{get_or-append_seam}
use Rattle.std.proofs.lemmas.List.{length-append, length-map, length-set}
use Rattle.std.specs.Prelude.{not, ◌==◌}
use Rattle.etagere_base.proofs.EachLemmas.{Each-both, Each-weaken}
use Rattle.etagere_base.proofs.TimesLemmas.{hit, times-here}
use Rattle.etagere_base.specs.Lists.{remove_number, times}
use Rattle.etagere_base.specs.declared.frames.Frame.{Frame}
use Rattle.etagere_links.specs.Edits.{field_at}
use Rattle.shelf_records.proofs.AllLists.LinkedWalks.{walked-numbers}
use Rattle.shelf_records.specs.AtlasRecords.{height_of}
use Rattle.shelf_records.specs.RecordLists.{Records, shelf_numbers, shelf_walk, walked_lists}
use Rattle.shelf_records.specs.Private.Kept.{AreKept, bare}
use Rattle.shelf_records.specs.declared.records.LinkedShelf.{LinkedShelf}
use Rattle.shelf_heights.specs.Private.ByHeight.{AreByHeight, AreInOrder, chain_order, numbers_by_height, order_of, put_in, taken_out, AreByHeightFor}
use Rattle.shelf_notes.specs.Private.Pending.{AreTied, Notes, forgotten, is_in_use, is_listed, is_noted, listed_as, once_where, unlisted, NoneWaits, is_parked, parked_as, standing_at, waits}
use Rattle.shelf_heights.specs.declared.by_height.BoundedShelf.{BoundedShelf}
use Rattle.shelf_notes.specs.declared.pending.Standing.{Standing}
use Rattle.shelf_heights.proofs.ByHeight.Edited.{Each-put_in, Each-taken_out, by_height-in_order, in_order-among, in_order-put_in, in_order-taken_out, numbers-taken_out, times-put_in}
use Rattle.shelf_heights.proofs.ByHeight.Positions.{stands-within}
use Rattle.shelf_notes.proofs.Noted.{once-false, once-true, unparked-waits, waits-so}
use Rattle.shelf_notes.proofs.NotedShelves.{forgotten-in_use, forgotten-known, forgotten-listed, forgotten-other, listed-in_use, listed-known, listed-noted, listed-other, listed-so, unlisted-in_use, unlisted-known, unlisted-noted, unlisted-other, unlisted-so, forgotten-parked, listed-parked, parked-in_use, parked-known, parked-listed, parked-noted, parked-other, unlisted-parked}
use Rattle.shelf_records.proofs.Judged.EqualTimes.{length-fewer}
use Rattle.std.specs.List.{AllByRecursion}
use Rattle.shelf_store.proofs.ByHeight.ParkedShelves.{bound-more, parked-raised, parked-same, parked-unlisted}
use Rattle.shelf_store.proofs.ByHeight.RoomByHeight.{shelves-count}
use Rattle.shelf_store.proofs.ByHeight.SplitByHeight.{used-once}
use Rattle.shelf_store.proofs.ByHeight.SplitOrders.{StandsSame, order-stands, orders-apart}
use Rattle.shelf_store.specs.Private.Settling.{AreByHeightExceptNoted, AreSettled, BeginAsListed, BeginsAsListed, Follows, IsBoundIn, IsBounded, IsSettled, IsParked, IsToPark}

-- how often a number stands where another was left out
times-left : (k n : ℕ) (ns : List ℕ) → k ≢ n → times k (remove_number n ns) ≡ times k ns
times-left k n [] other = refl
times-left k n (m ∷ ms) other = by_test (m == n) refl (times-left k n ms other)
  where
    by_test : (b : Bool) → (m == n) ≡ b → times k (remove_number n ms) ≡ times k ms → times k (cond (not b) (m ∷ remove_number n ms) (remove_number n ms)) ≡ times k (m ∷ ms)
    by_test true e rest =
        let differ : m ≢ k = grind (arith, other) in
        let none : hit m k ≡ 0 = grind (arith, differ) in
        omega (arith, rest, none)
    by_test false e rest = omega (arith, rest)

times-gone : (n : ℕ) (ns : List ℕ) → times n (remove_number n ns) ≡ 0
times-gone n [] = refl
times-gone n (m ∷ ms) = by_test (m == n) refl (times-gone n ms)
  where
    by_test : (b : Bool) → (m == n) ≡ b → times n (remove_number n ms) ≡ 0 → times n (cond (not b) (m ∷ remove_number n ms) (remove_number n ms)) ≡ 0
    by_test true e rest = rest
    by_test false e rest =
        let none : hit m n ≡ 0 = grind arith in
        omega (arith, rest, none)

-- a field of a record that was written, and of another one
field-own : {X : Type 0} (field : LinkedShelf → X) (other : X) (shelves : List LinkedShelf) (one : LinkedShelf) (k : ℕ) → k < length shelves → field_at field other (set shelves k one) k ≡ field one
field-own field other [] one k below = absurd (omega (arith, below))
field-own field other (x ∷ xs) one zero below = refl
field-own field other (x ∷ xs) one (suc k) below = field-own field other xs one k (omega (arith, below))

field-other : {X : Type 0} (field : LinkedShelf → X) (other : X) (shelves : List LinkedShelf) (one : LinkedShelf) (n k : ℕ) → k ≢ n → field_at field other (set shelves n one) k ≡ field_at field other shelves k
field-other field other [] one n k differ = refl
field-other field other (x ∷ xs) one zero zero differ = absurd (differ refl)
field-other field other (x ∷ xs) one zero (suc k) differ = refl
field-other field other (x ∷ xs) one (suc n) zero differ = refl
field-other field other (x ∷ xs) one (suc n) (suc k) differ = field-other field other xs one n k (λ e. differ (ap suc e))

-- another shelf stands where it stood once a record was written
written-other : (shelves : List LinkedShelf) (n : ℕ) (one : LinkedShelf) (k : ℕ) → k ≢ n → StandsSame shelves (set shelves n one) k
written-other shelves n one k differ =
    record {
      in_chain = omega (arith, field-other (λ (s : LinkedShelf). s.x) 0 shelves one n k differ, field-other (λ (s : LinkedShelf). s.y) 0 shelves one n k differ);
      height = field-other (λ (s : LinkedShelf). s.height) 0 shelves one n k differ;
    }

-- a record that was read of a shelf
field-read : {X : Type 0} (field : LinkedShelf → X) (other : X) (shelves : List LinkedShelf) (k : ℕ) (one : LinkedShelf) → k < length shelves → one ≡ get_or shelves k one → field_at field other shelves k ≡ field one
field-read field other [] k one below read = absurd (omega (arith, below))
field-read field other (x ∷ xs) zero one below read = ap field (sym read)
field-read field other (x ∷ xs) (suc k) one below read = field-read field other xs k one (omega (arith, below)) read

-- a shelf stands where its record puts it once that was written
written-own : (kept shelves : List LinkedShelf) (n : ℕ) (one : LinkedShelf) → n < length kept → n < length shelves → one ≡ get_or shelves n one → StandsSame shelves (set kept n one) n
written-own kept shelves n one below there read =
    record {
      in_chain = omega (
        arith,
        field-own (λ (s : LinkedShelf). s.x) 0 kept one n below,
        field-own (λ (s : LinkedShelf). s.y) 0 kept one n below,
        field-read (λ (s : LinkedShelf). s.x) 0 shelves n one there read,
        field-read (λ (s : LinkedShelf). s.y) 0 shelves n one there read,
      );
      height = field-own (λ (s : LinkedShelf). s.height) 0 kept one n below ∙ sym (field-read (λ (s : LinkedShelf). s.height) 0 shelves n one there read);
    }

module _ (frame : Frame) (records : Records) (notes : Notes) (by_height : List BoundedShelf) (kept : AreKept frame records) (holds : AreByHeightExceptNoted frame records notes by_height) where
  -- a shelf in use is there
  pub in_use-there : (k : ℕ) → is_in_use notes k ≡ true → k < length records.shelves
  in_use-there k so = (used-once frame records kept).within k (omega (arith, holds.in_use k, ap once_where so))

  pub in_use-met : (k : ℕ) → is_in_use notes k ≡ true → 1 ≤ times k (shelf_walk records).met
  in_use-met k so = omega (arith, holds.in_use k, ap once_where so, ap (times k) (walked-numbers records (shelf_walk records).met))

  -- a listed shelf stands there, and has a record that was kept
  pub listed-stands : (k : ℕ) → is_listed notes k ≡ true → 1 ≤ times k (numbers_by_height by_height)
  listed-stands k so = omega (arith, holds.listed k, ap once_where so)

  pub listed-within : (k : ℕ) → is_listed notes k ≡ true → k < length notes.kept
  listed-within k so = stands-within notes.kept k by_height holds.order (listed-stands k so)

  pub stands-listed : (k : ℕ) → 1 ≤ times k (numbers_by_height by_height) → is_listed notes k ≡ true
  stands-listed k stands = once-true (is_listed notes k) (omega (arith, stands, holds.listed k))

  -- a shelf that has not changed begins as listed
  pub unnoted-as_listed : (k : ℕ) → is_noted notes k ≡ false → BeginsAsListed records.shelves notes k
  unnoted-as_listed k unnoted =
      let is = holds.settled k unnoted in
      record { in_use = λ stands. sym is.listed ∙ stands; in_chain = is.in_chain }

  -- how often a number stands without a shelf
  times-without : (shelf k : ℕ) → k ≢ shelf → times k (numbers_by_height (taken_out shelf by_height)) ≡ times k (numbers_by_height by_height)
  times-without shelf k other = ap (times k) (numbers-taken_out shelf by_height) ∙ times-left k shelf (numbers_by_height by_height) other

  none-without : (shelf : ℕ) → times shelf (numbers_by_height (taken_out shelf by_height)) ≡ 0
  none-without shelf = ap (times shelf) (numbers-taken_out shelf by_height) ∙ times-gone shelf (numbers_by_height by_height)

  -- one of the others is listed, and another shelf
  other-differs : (shelf k : ℕ) → 1 ≤ times k (numbers_by_height (taken_out shelf by_height)) → k ≢ shelf
  other-differs shelf k stands same =
      let none : times k (numbers_by_height (taken_out shelf by_height)) ≡ 0 = rw same (none-without shelf) in
      omega (arith, stands, none)

  other-listed : (shelf k : ℕ) → 1 ≤ times k (numbers_by_height (taken_out shelf by_height)) → is_listed notes k ≡ true
  other-listed shelf k stands = stands-listed k (omega (arith, stands, times-without shelf k (other-differs shelf k stands)))

  -- a shelf that has changed goes
  module _ (shelf : ℕ) (known : shelf < length notes.standing) (noted : is_noted notes shelf ≡ true) where
    unnoted-differs : (k : ℕ) → is_noted notes k ≡ false → k ≢ shelf
    unnoted-differs k unnoted same = let so : is_noted notes k ≡ true = rw same noted in absurd (cc)

    pub gone-holds : AreByHeightExceptNoted frame records (unlisted shelf notes) (taken_out shelf by_height)
    gone-holds =
        record {
          listed = λ k. by_number k (k == shelf) refl;
          in_use = λ k. holds.in_use k ∙ sym (ap once_where (unlisted-in_use notes shelf known k));
          order = in_order-taken_out notes.kept shelf by_height holds.order;
          settled = λ k unnoted.
              let before : is_noted notes k ≡ false = sym (unlisted-noted notes shelf known k) ∙ unnoted in
              let same = unlisted-other notes shelf known k (unnoted-differs k before) in
              let is = holds.settled k before in
              let listed : is_listed (unlisted shelf notes) k ≡ is_listed notes k = ap (λ (s : Standing). s.listed) same in
              record {
                listed = listed ∙ is.listed ∙ sym (ap (λ (s : Standing). s.in_use) same);
                in_chain = λ stands. is.in_chain (sym listed ∙ stands);
                height = λ stands. is.height (sym listed ∙ stands);
              };
          bounds = Each-taken_out (λ (one : BoundedShelf). is_noted notes one.shelf ≡ false → IsBoundIn (bare frame records) (walked_lists records).entries one)
              (λ (one : BoundedShelf). is_noted (unlisted shelf notes) one.shelf ≡ false → IsBoundIn (bare frame records) (walked_lists records).entries one) shelf by_height
              (λ one other bounds unnoted. bounds (sym (unlisted-noted notes shelf known one.shelf) ∙ unnoted)) holds.bounds;
          parked = λ k so.
              let before : is_parked notes k ≡ true = sym (unlisted-parked notes shelf known k) ∙ so in
              let is = holds.parked k before in
              record { unlisted = unlisted-none k (k == shelf) refl is.unlisted; some = is.some; narrow = is.narrow };
          known = omega (arith, holds.known, unlisted-known notes shelf known);
          few = holds.few;
        }
      where
        unlisted-none : (k : ℕ) (b : Bool) → (k == shelf) ≡ b → is_listed notes k ≡ false → is_listed (unlisted shelf notes) k ≡ false
        unlisted-none k true e none = let own : k ≡ shelf = grind arith in rw own (unlisted-so notes shelf known)
        unlisted-none k false e none = let other : k ≢ shelf = grind arith in ap (λ (s : Standing). s.listed) (unlisted-other notes shelf known k other) ∙ none

        by_number : (k : ℕ) (b : Bool) → (k == shelf) ≡ b → times k (numbers_by_height (taken_out shelf by_height)) ≡ once_where (is_listed (unlisted shelf notes) k)
        by_number k true e =
            let own : k ≡ shelf = grind arith in
            rw own (none-without shelf ∙ sym (ap once_where (unlisted-so notes shelf known)))
        by_number k false e =
            let other : k ≢ shelf = grind arith in
            times-without shelf k other ∙ holds.listed k ∙ sym (ap (λ (s : Standing). once_where s.listed) (unlisted-other notes shelf known k other))

    pub gone-as_listed : BeginsAsListed records.shelves (unlisted shelf notes) shelf
    gone-as_listed =
        let none : is_listed (unlisted shelf notes) shelf ≡ false = unlisted-so notes shelf known in
        record { in_use = λ stands. absurd (cc); in_chain = λ stands. absurd (cc) }

    pub others-as_listed : (k : ℕ) → BeginsAsListed records.shelves notes k → BeginsAsListed records.shelves (unlisted shelf notes) k
    others-as_listed k is = by_number (k == shelf) refl
      where
        by_number : (b : Bool) → (k == shelf) ≡ b → BeginsAsListed records.shelves (unlisted shelf notes) k
        by_number true e = let own : k ≡ shelf = grind arith in rw own gone-as_listed
        by_number false e =
            let other : k ≢ shelf = grind arith in
            let same = unlisted-other notes shelf known k other in
            record {
              in_use = λ stands. ap (λ (s : Standing). s.in_use) same ∙ is.in_use (sym (ap (λ (s : Standing). s.listed) same) ∙ stands);
              in_chain = λ stands. is.in_chain (sym (ap (λ (s : Standing). s.listed) same) ∙ stands);
            }

    -- or is put where its record puts it, where each that is listed is in use and begins where it began
    module _ (one : BoundedShelf) (read : LinkedShelf) (named : one.shelf ≡ shelf) (in_use : is_in_use notes shelf ≡ true) (as_listed : BeginAsListed records.shelves notes) (entries : length notes.kept ≡ length notes.standing) (is_read : read ≡ get_or records.shelves shelf read) where
      abbrev after : Notes
      after = listed_as shelf read notes

      abbrev Others : List BoundedShelf
      Others = taken_out shelf by_height

      below : shelf < length notes.kept
      below = omega (arith, known, entries)

      own-stands : StandsSame records.shelves after.kept shelf
      own-stands = written-own notes.kept records.shelves shelf read below (in_use-there shelf in_use) is_read

      other-stands : (k : ℕ) → k ≢ shelf → StandsSame notes.kept after.kept k
      other-stands k other = written-other notes.kept shelf read k other

      pub others-order : AreInOrder after.kept Others
      others-order =
          in_order-among notes.kept after.kept Others
          (λ k stands. omega (arith, listed-within k (other-listed shelf k stands), length-set notes.kept shelf read))
          (λ k stands. order-stands notes.kept after.kept k (other-stands k (other-differs shelf k stands)))
          (in_order-taken_out notes.kept shelf by_height holds.order)

      pub own-within : shelf < length after.kept
      own-within = omega (arith, below, length-set notes.kept shelf read)

      order-after : AreInOrder after.kept (put_in after.kept one Others)
      order-after =
          in_order-put_in after.kept one Others (omega (arith, own-within, named))
          (λ k stands. subst (λ n. order_of after.kept k ≢ order_of after.kept n) (sym named)
          (orders-apart frame records after.kept k shelf kept
          (in_use-met k ((as_listed k).in_use (other-listed shelf k stands)))
          (in_use-met shelf in_use)
          ((other-stands k (other-differs shelf k stands)).in_chain ∙ (as_listed k).in_chain (other-listed shelf k stands))
          own-stands.in_chain
          (other-differs shelf k stands)))
          others-order

      listed-after : (k : ℕ) → times k (numbers_by_height (put_in after.kept one Others)) ≡ once_where (is_listed after k)
      listed-after k = times-put_in k after.kept one Others ∙ ap (λ n. times k (n ∷ numbers_by_height Others)) named ∙ by_number (k == shelf) refl
        where
          by_number : (b : Bool) → (k == shelf) ≡ b → times k (shelf ∷ numbers_by_height Others) ≡ once_where (is_listed after k)
          by_number true e =
              let own : k ≡ shelf = grind arith in
              let here : hit shelf k ≡ 1 = grind (arith, own) in
              let none : times k (numbers_by_height Others) ≡ 0 = rw own (none-without shelf) in
              let so : once_where (is_listed after k) ≡ 1 = rw own (ap once_where (listed-so notes shelf read known)) in
              omega (arith, here, none, so)
          by_number false e =
              let other : k ≢ shelf = grind arith in
              let here : hit shelf k ≡ 0 = grind (arith, other) in
              omega (arith, here, times-without shelf k other, holds.listed k, ap (λ (s : Standing). once_where s.listed) (listed-other notes shelf read known k other))

      pub put-holds : is_parked notes shelf ≡ false → AreByHeightExceptNoted frame records after (put_in after.kept one Others)
      put-holds unparked =
          record {
            listed = listed-after;
            in_use = λ k. holds.in_use k ∙ sym (ap once_where (listed-in_use notes shelf read known k));
            order = order-after;
            settled = λ k unnoted.
                let before : is_noted notes k ≡ false = sym (listed-noted notes shelf read known k) ∙ unnoted in
                let other : k ≢ shelf = unnoted-differs k before in
                let same = listed-other notes shelf read known k other in
                let is = holds.settled k before in
                let listed : is_listed after k ≡ is_listed notes k = ap (λ (s : Standing). s.listed) same in
                record {
                  listed = listed ∙ is.listed ∙ sym (ap (λ (s : Standing). s.in_use) same);
                  in_chain = λ stands. (other-stands k other).in_chain ∙ is.in_chain (sym listed ∙ stands);
                  height = λ stands. (other-stands k other).height ∙ is.height (sym listed ∙ stands);
                };
            bounds = Each-put_in New after.kept one Others own
                (Each-taken_out Old New shelf by_height (λ bounded other bounds unnoted. bounds (sym (listed-noted notes shelf read known bounded.shelf) ∙ unnoted)) holds.bounds);
            parked = λ k so.
                let before : is_parked notes k ≡ true = sym (listed-parked notes shelf read known k) ∙ so in
                let other : k ≢ shelf = λ own. let none : is_parked notes k ≡ false = rw own unparked in absurd (cc) in
                let is = holds.parked k before in
                record {
                  unlisted = ap (λ (s : Standing). s.listed) (listed-other notes shelf read known k other) ∙ is.unlisted;
                  some = is.some;
                  narrow = is.narrow;
                };
            known = omega (arith, holds.known, listed-known notes shelf read known);
            few = holds.few;
          }
        where
          Old : BoundedShelf → Type 0
          Old bounded = is_noted notes bounded.shelf ≡ false → IsBoundIn (bare frame records) (walked_lists records).entries bounded

          New : BoundedShelf → Type 0
          New bounded = is_noted after bounded.shelf ≡ false → IsBoundIn (bare frame records) (walked_lists records).entries bounded

          own : New one
          own unnoted =
              let so : is_noted after one.shelf ≡ true = rw named (listed-noted notes shelf read known shelf ∙ noted) in
              absurd (cc)

      pub put-as_listed : BeginAsListed records.shelves after
      put-as_listed k = by_number (k == shelf) refl
        where
          by_number : (b : Bool) → (k == shelf) ≡ b → BeginsAsListed records.shelves after k
          by_number true e =
              let own : k ≡ shelf = grind arith in
              rw own (record { in_use = λ stands. listed-in_use notes shelf read known shelf ∙ in_use; in_chain = λ stands. own-stands.in_chain })
          by_number false e =
              let other : k ≢ shelf = grind arith in
              let same = listed-other notes shelf read known k other in
              record {
                in_use = λ stands. ap (λ (s : Standing). s.in_use) same ∙ (as_listed k).in_use (sym (ap (λ (s : Standing). s.listed) same) ∙ stands);
                in_chain = λ stands. (other-stands k other).in_chain ∙ (as_listed k).in_chain (sym (ap (λ (s : Standing). s.listed) same) ∙ stands);
              }

      pub put-settled : IsSettled records.shelves after shelf
      put-settled =
          record {
            listed = listed-so notes shelf read known ∙ sym (listed-in_use notes shelf read known shelf ∙ in_use);
            in_chain = λ stands. own-stands.in_chain;
            height = λ stands. own-stands.height;
          }

      -- a shelf with a bound is bounded, whichever the others are
      pub put-bounded : IsBoundIn (bare frame records) (walked_lists records).entries one → IsBounded frame records shelf (put_in after.kept one Others)
      put-bounded bound =
          Each-put_in (λ (bounded : BoundedShelf). bounded.shelf ≡ shelf → IsBoundIn (bare frame records) (walked_lists records).entries bounded) after.kept one Others
          (λ same. bound)
          (Each-taken_out (λ (bounded : BoundedShelf). is_noted notes bounded.shelf ≡ false → IsBoundIn (bare frame records) (walked_lists records).entries bounded)
          (λ (bounded : BoundedShelf). bounded.shelf ≡ shelf → IsBoundIn (bare frame records) (walked_lists records).entries bounded) shelf by_height (λ bounded other bounds same. absurd (other same)) holds.bounds)

    -- there is room for one that is put in, where each that is listed is in use
    pub put-room : is_in_use notes shelf ≡ true → is_listed notes shelf ≡ false → BeginAsListed records.shelves notes → length by_height < length records.shelves
    put-room in_use unlisted_so as_listed =
        omega (
          arith,
          length-map by_height (λ (one : BoundedShelf). one.shelf),
          length-fewer (shelf ∷ numbers_by_height by_height) (shelf_numbers (walked_lists records).entries) (λ k. by_number k (k == shelf) refl (is_listed notes k) refl),
          shelves-count frame records kept,
        )
      where
        by_number : (k : ℕ) (b : Bool) → (k == shelf) ≡ b → (c : Bool) → is_listed notes k ≡ c → times k (shelf ∷ numbers_by_height by_height) ≤ times k (shelf_numbers (walked_lists records).entries)
        by_number k true e c f =
            let own : k ≡ shelf = grind arith in
            let here : hit shelf k ≡ 1 = grind (arith, own) in
            let none : once_where (is_listed notes k) ≡ 0 = rw own (ap once_where unlisted_so) in
            let so : once_where (is_in_use notes k) ≡ 1 = rw own (ap once_where in_use) in
            omega (arith, here, none, so, holds.listed k, holds.in_use k)
        by_number k false e true f =
            let here : hit shelf k ≡ 0 = grind arith in
            omega (arith, here, holds.listed k, holds.in_use k, ap once_where ((as_listed k).in_use f), ap once_where f)
        by_number k false e false f =
            let here : hit shelf k ≡ 0 = grind arith in
            omega (arith, here, holds.listed k, ap once_where f)

  -- a shelf with an entry
  module _ (shelf : ℕ) (known : shelf < length notes.standing) where
    -- a shelf that the list follows is noted no more
    pub forgotten-holds : (left : List ℕ) → IsSettled records.shelves notes shelf → IsBounded frame records shelf by_height → AreByHeightExceptNoted frame records (forgotten shelf left notes) by_height
    forgotten-holds left own bounded =
        record {
          listed = λ k. holds.listed k ∙ sym (ap once_where (forgotten-listed notes shelf left known k));
          in_use = λ k. holds.in_use k ∙ sym (ap once_where (forgotten-in_use notes shelf left known k));
          order = holds.order;
          settled = λ k unnoted. again k (by_number k unnoted (k == shelf) refl);
          bounds = Each-weaken (λ (one : BoundedShelf). (is_noted notes one.shelf ≡ false → IsBoundIn (bare frame records) (walked_lists records).entries one) × (one.shelf ≡ shelf → IsBoundIn (bare frame records) (walked_lists records).entries one))
              (λ (one : BoundedShelf). is_noted (forgotten shelf left notes) one.shelf ≡ false → IsBoundIn (bare frame records) (walked_lists records).entries one) by_height
              (λ one both unnoted. of_one one both unnoted (one.shelf == shelf) refl)
              (Each-both (λ (one : BoundedShelf). is_noted notes one.shelf ≡ false → IsBoundIn (bare frame records) (walked_lists records).entries one)
              (λ (one : BoundedShelf). one.shelf ≡ shelf → IsBoundIn (bare frame records) (walked_lists records).entries one) by_height holds.bounds bounded);
          parked = λ k so.
              parked-same (bare frame records) (bare frame records) (walked_lists records).entries (walked_lists records).entries notes (forgotten shelf left notes) k
              (forgotten-listed notes shelf left known k) refl (λ bounds. bounds) (holds.parked k (sym (forgotten-parked notes shelf left known k) ∙ so));
          known = omega (arith, holds.known, forgotten-known notes shelf left known);
          few = holds.few;
        }
      where
        by_number : (k : ℕ) → is_noted (forgotten shelf left notes) k ≡ false → (b : Bool) → (k == shelf) ≡ b → IsSettled records.shelves notes k
        by_number k unnoted true e = let same : k ≡ shelf = grind arith in rw same own
        by_number k unnoted false e =
            let other : k ≢ shelf = grind arith in
            holds.settled k (sym (ap (λ (s : Standing). s.noted) (forgotten-other notes shelf left known k other)) ∙ unnoted)

        again : (k : ℕ) → IsSettled records.shelves notes k → IsSettled records.shelves (forgotten shelf left notes) k
        again k is =
            let listed = forgotten-listed notes shelf left known k in
            record {
              listed = listed ∙ is.listed ∙ sym (forgotten-in_use notes shelf left known k);
              in_chain = λ stands. is.in_chain (sym listed ∙ stands);
              height = λ stands. is.height (sym listed ∙ stands);
            }

        of_one : (one : BoundedShelf) → (is_noted notes one.shelf ≡ false → IsBoundIn (bare frame records) (walked_lists records).entries one) × (one.shelf ≡ shelf → IsBoundIn (bare frame records) (walked_lists records).entries one)
            → is_noted (forgotten shelf left notes) one.shelf ≡ false → (b : Bool) → (one.shelf == shelf) ≡ b → IsBoundIn (bare frame records) (walked_lists records).entries one
        of_one one both unnoted true e = both.1 (grind arith)
        of_one one both unnoted false e =
            let other : one.shelf ≢ shelf = grind arith in
            both.0 (sym (ap (λ (s : Standing). s.noted) (forgotten-other notes shelf left known one.shelf other)) ∙ unnoted)

    -- or is parked, where it isn't listed and its free items are narrow
    pub parked-holds : (left : List ℕ) → is_listed notes shelf ≡ false → IsToPark frame records notes shelf → AreByHeightExceptNoted frame records (parked_as shelf left notes) by_height
    parked-holds left unlisted_so to_park =
        record {
          listed = λ k. holds.listed k ∙ sym (ap once_where (parked-listed notes shelf left known k));
          in_use = λ k. holds.in_use k ∙ sym (ap once_where (parked-in_use notes shelf left known k));
          order = holds.order;
          settled = λ k unnoted.
              let is = holds.settled k (sym (parked-noted notes shelf left known k) ∙ unnoted) in
              let listed = parked-listed notes shelf left known k in
              record {
                listed = listed ∙ is.listed ∙ sym (parked-in_use notes shelf left known k);
                in_chain = λ stands. is.in_chain (sym listed ∙ stands);
                height = λ stands. is.height (sym listed ∙ stands);
              };
          bounds = Each-weaken (λ (one : BoundedShelf). is_noted notes one.shelf ≡ false → IsBoundIn (bare frame records) (walked_lists records).entries one)
              (λ (one : BoundedShelf). is_noted (parked_as shelf left notes) one.shelf ≡ false → IsBoundIn (bare frame records) (walked_lists records).entries one) by_height
              (λ one bounds unnoted. bounds (sym (parked-noted notes shelf left known one.shelf) ∙ unnoted)) holds.bounds;
          parked = λ k so. by_number k so (k == shelf) refl;
          known = omega (arith, holds.known, parked-known notes shelf left known);
          few = holds.few;
        }
      where
        by_number : (k : ℕ) → is_parked (parked_as shelf left notes) k ≡ true → (b : Bool) → (k == shelf) ≡ b → IsParked (bare frame records) (walked_lists records).entries (parked_as shelf left notes) k
        by_number k so true e =
            let own : k ≡ shelf = grind arith in
            subst (λ (n : ℕ). IsParked (bare frame records) (walked_lists records).entries (parked_as shelf left notes) n) (sym own)
            (record {
              unlisted = parked-listed notes shelf left known shelf ∙ unlisted_so;
              some = omega (arith, to_park.some);
              narrow = bound-more (bare frame records) (walked_lists records).entries shelf (notes.narrow_below - 1) ((parked_as shelf left notes).parked_below - 1) (omega arith) to_park.narrow;
            })
        by_number k so false e =
            let other : k ≢ shelf = grind arith in
            parked-raised (bare frame records) (walked_lists records).entries notes (parked_as shelf left notes) k
            (parked-listed notes shelf left known k) (omega arith)
            (holds.parked k (sym (ap (λ (s : Standing). s.parked) (parked-other notes shelf left known k other)) ∙ so))

    pub forgotten-as_listed : (left : List ℕ) → BeginAsListed records.shelves notes → BeginAsListed records.shelves (forgotten shelf left notes)
    forgotten-as_listed left as_listed k =
        let listed = forgotten-listed notes shelf left known k in
        record {
          in_use = λ stands. forgotten-in_use notes shelf left known k ∙ (as_listed k).in_use (sym listed ∙ stands);
          in_chain = λ stands. (as_listed k).in_chain (sym listed ∙ stands);
        }

  -- a shelf out of use is settled, where each that is listed is in use
  module _ (shelf : ℕ) (unused : is_in_use notes shelf ≡ false) (as_listed : BeginAsListed records.shelves notes) where
    unused-unlisted : is_listed notes shelf ≡ false
    unused-unlisted = by_list (is_listed notes shelf) refl
      where
        by_list : (b : Bool) → is_listed notes shelf ≡ b → b ≡ false
        by_list true e = let so : is_in_use notes shelf ≡ true = (as_listed shelf).in_use e in absurd (cc)
        by_list false e = refl

    pub unused-settled : IsSettled records.shelves notes shelf
    unused-settled =
        record {
          listed = unused-unlisted ∙ sym unused;
          in_chain = λ stands. absurd (cc (unused-unlisted, stands));
          height = λ stands. absurd (cc (unused-unlisted, stands));
        }

    pub unused-bounded : IsBounded frame records shelf by_height
    unused-bounded = none by_height (holds.listed shelf ∙ ap once_where unused-unlisted)
      where
        none : (xs : List BoundedShelf) → times shelf (numbers_by_height xs) ≡ 0 → IsBounded frame records shelf xs
        none [] absent = tt
        none (one ∷ others) absent =
            (λ same. let here : hit one.shelf shelf ≡ 1 = grind (arith, same) in absurd (omega (arith, absent, here)), none others (omega (arith, absent)))

  -- where none waits, the list is that by height for what is as wide as the width of parked shelves
  module _ (none : NoneWaits notes) (width : ℕ) (wide : notes.parked_below ≤ width) where
    unnoted-listed : (k : ℕ) → is_listed notes k ≡ true → is_noted notes k ≡ false
    unnoted-listed k so = unparked-waits _ _ (none k) (parked-unlisted (bare frame records) (walked_lists records).entries notes by_height k holds so)

    unnoted-stands : (k : ℕ) → 1 ≤ times k (numbers_by_height by_height) → is_noted notes k ≡ false
    unnoted-stands k stands = unnoted-listed k (stands-listed k stands)

    left-narrow : (k : ℕ) → 1 ≤ times k (shelf_numbers (walked_lists records).entries) → times k (numbers_by_height by_height) ≡ 0
        → IsBoundIn (bare frame records) (walked_lists records).entries (record { widest = width - 1; shelf = k })
    left-narrow k used absent = by_mark (is_parked notes k) refl
      where
        unlisted_so : is_listed notes k ≡ false
        unlisted_so = once-false (is_listed notes k) (sym (holds.listed k) ∙ absent)

        used_so : is_in_use notes k ≡ true
        used_so = once-true (is_in_use notes k) (omega (arith, used, holds.in_use k))

        by_mark : (b : Bool) → is_parked notes k ≡ b → IsBoundIn (bare frame records) (walked_lists records).entries (record { widest = width - 1; shelf = k })
        by_mark true e = bound-more (bare frame records) (walked_lists records).entries k (notes.parked_below - 1) (width - 1) (omega (arith, wide)) (holds.parked k e).narrow
        by_mark false e =
            let listed : is_listed notes k ≡ is_in_use notes k = (holds.settled k (unparked-waits _ _ (none k) e)).listed in
            absurd (cc (unlisted_so, used_so))

    pub for-width : AreByHeightFor frame records width by_height
    for-width =
        record {
          once = λ k. by_list k (is_listed notes k) refl;
          left_out = left-narrow;
          rising = (in_order-among notes.kept records.shelves by_height
              (λ k stands. in_use-there k (sym (holds.settled k (unnoted-stands k stands)).listed ∙ stands-listed k stands))
              (λ k stands. order-stands notes.kept records.shelves k
              (record { in_chain = sym ((holds.settled k (unnoted-stands k stands)).in_chain (stands-listed k stands)); height = sym ((holds.settled k (unnoted-stands k stands)).height (stands-listed k stands)) }))
              holds.order).rising;
          bounds = bounds-of by_height (λ k stands. stands) holds.bounds;
        }
      where
        by_list : (k : ℕ) (b : Bool) → is_listed notes k ≡ b → times k (numbers_by_height by_height) ≤ times k (shelf_numbers (walked_lists records).entries)
        by_list k true e = omega (arith, holds.listed k, holds.in_use k, ap once_where ((holds.settled k (unnoted-listed k e)).listed), ap once_where e)
        by_list k false e = omega (arith, holds.listed k, ap once_where e)

        bounds-of : (ones : List BoundedShelf) → ((k : ℕ) → 1 ≤ times k (numbers_by_height ones) → 1 ≤ times k (numbers_by_height by_height))
            → AllByRecursion (λ (one : BoundedShelf). is_noted notes one.shelf ≡ false → IsBoundIn (bare frame records) (walked_lists records).entries one) ones
            → AllByRecursion (IsBoundIn (bare frame records) (walked_lists records).entries) ones
        bounds-of [] stand bounds = tt
        bounds-of (one ∷ others) stand bounds = (
          bounds.0 (unnoted-stands one.shelf (stand one.shelf (omega (arith, times-here one.shelf (numbers_by_height others))))),
          bounds-of others (λ k stands. stand k (omega (arith, stands))) bounds.1,
        )

  -- where none is parked either, the list is that by height
  module _ (none : NoneWaits notes) (below : notes.parked_below ≡ 0) where
    unparked-all : (k : ℕ) → is_parked notes k ≡ false
    unparked-all k = by_mark (is_parked notes k) refl
      where
        by_mark : (b : Bool) → is_parked notes k ≡ b → b ≡ false
        by_mark true e = absurd (omega (arith, (holds.parked k e).some, below))
        by_mark false e = refl

    unchanged : (k : ℕ) → is_noted notes k ≡ false
    unchanged k = unparked-waits _ _ (none k) (unparked-all k)

    pub all-by_height : AreByHeight frame records by_height
    all-by_height =
        record {
          once = λ k. holds.listed k ∙ ap once_where (holds.settled k (unchanged k)).listed ∙ sym (holds.in_use k);
          rising = (in_order-among notes.kept records.shelves by_height
              (λ k stands. in_use-there k (sym (holds.settled k (unchanged k)).listed ∙ stands-listed k stands))
              (λ k stands. order-stands notes.kept records.shelves k
              (record { in_chain = sym ((holds.settled k (unchanged k)).in_chain (stands-listed k stands)); height = sym ((holds.settled k (unchanged k)).height (stands-listed k stands)) }))
              holds.order).rising;
          bounds = Each-weaken (λ (one : BoundedShelf). is_noted notes one.shelf ≡ false → IsBoundIn (bare frame records) (walked_lists records).entries one)
              (IsBoundIn (bare frame records) (walked_lists records).entries) by_height (λ one bounds. bounds (unchanged one.shelf)) holds.bounds;
        }

    pub all-settled : AreSettled records notes
    all-settled =
        record {
          unchanged = unchanged;
          in_use = holds.in_use;
          settled = λ k. holds.settled k (unchanged k);
          unparked = unparked-all;
          parked_below = below;
          known = holds.known;
          within = listed-within;
        }

-- a list that follows the records is settled
pub follows-settled : (frame : Frame) (records : Records) (notes : Notes) (by_height : List BoundedShelf) → AreKept frame records → AreByHeight frame records by_height → Follows records.shelves by_height notes → AreSettled records notes
follows-settled frame records notes by_height kept are follows =
    record {
      unchanged = follows.unchanged;
      in_use = λ k. sym (are.once k) ∙ follows.listed k ∙ sym (ap once_where (follows.in_use k));
      settled = λ k. record {
        listed = sym (follows.in_use k);
        in_chain = λ stands. ap (λ (shelves : List LinkedShelf). chain_order shelves k) follows.kept;
        height = λ stands. ap (λ (shelves : List LinkedShelf). height_of shelves k) follows.kept;
      };
      unparked = follows.unparked;
      parked_below = follows.parked_below;
      known = omega (arith, follows.known);
      within = λ k so. omega (
        arith,
        ap (λ (shelves : List LinkedShelf). length shelves) follows.kept,
        stands-within records.shelves k by_height (by_height-in_order frame records by_height kept are) (omega (arith, follows.listed k, ap once_where so)),
      );
    }

-- where there are no numbers of those that are to be followed, none waits
pub none-waits : (notes : Notes) → AreTied notes → length notes.noted ≡ 0 → NoneWaits notes
none-waits notes tied none k = once-false (waits (standing_at notes.standing k)) (sym (tied k) ∙ ap (times k) (empty notes.noted none))
  where
    empty : (ns : List ℕ) → length ns ≡ 0 → ns ≡ []
    empty [] e = refl
    empty (n ∷ ns) e = absurd (omega (arith, e))

-- a list without a shelf is as it was where the shelf did not stand there
pub absent-stays : (shelf : ℕ) (by_height : List BoundedShelf) → times shelf (numbers_by_height by_height) ≡ 0 → taken_out shelf by_height ≡ by_height
absent-stays shelf [] none = refl
absent-stays shelf (one ∷ others) none = by_test (one.shelf == shelf) refl (λ left. absent-stays shelf others left)
  where
    by_test : (b : Bool) → (one.shelf == shelf) ≡ b → (times shelf (numbers_by_height others) ≡ 0 → taken_out shelf others ≡ others) → cond (not b) (one ∷ taken_out shelf others) (taken_out shelf others) ≡ one ∷ others
    by_test true e rest =
        let here : hit one.shelf shelf ≡ 1 = grind arith in
        absurd (omega (arith, none, here))
    by_test false e rest = ap (λ (xs : List BoundedShelf). one ∷ xs) (rest (omega (arith, none)))

-- those of these numbers begin as listed
abbrev pub BeginAsListedAmong : List LinkedShelf → Notes → List ℕ → Type 0
BeginAsListedAmong shelves notes numbers = (k : ℕ) → 1 ≤ times k numbers → BeginsAsListed shelves notes k

-- and so does one more
pub one-more-as_listed : (shelves : List LinkedShelf) (old new : Notes) (n shelf : ℕ) → n < length old.noted → shelf ≡ get_or old.noted n 0
    → ((k : ℕ) → BeginsAsListed shelves old k → BeginsAsListed shelves new k) → BeginsAsListed shelves new shelf
    → BeginAsListedAmong shelves old (take n old.noted) → BeginAsListedAmong shelves new (take (n + 1) old.noted)
one-more-as_listed shelves old new n shelf below read others own before k stands = by_number (k == shelf) refl
  where
    more : (m : ℕ) (ns : List ℕ) → m < length ns → times k (take (suc m) ns) ≡ times k (take m ns) + hit (get_or ns m 0) k
    more m [] low = absurd (omega (arith, low))
    more zero (x ∷ xs) low = omega arith
    more (suc m) (x ∷ xs) low = omega (arith, more m xs (omega (arith, low)))

    by_number : (b : Bool) → (k == shelf) ≡ b → BeginsAsListed shelves new k
    by_number true e = let same : k ≡ shelf = grind arith in rw same own
    by_number false e =
        let other : get_or old.noted n 0 ≢ k = grind (arith, read) in
        let none : hit (get_or old.noted n 0) k ≡ 0 = grind (arith, other) in
        others k (before k (omega (arith, stands, ap (λ m. times k (take m old.noted)) (add-one n), more n old.noted below, none)))

-- where all that have changed begin as listed, all do
pub all-as_listed : (frame : Frame) (records : Records) (notes : Notes) (by_height : List BoundedShelf) → AreKept frame records → AreByHeightExceptNoted frame records notes by_height → AreTied notes → BeginAsListedAmong records.shelves notes notes.noted → BeginAsListed records.shelves notes
all-as_listed frame records notes by_height kept holds tied as_listed k = by_note (is_noted notes k) refl
  where
    by_note : (b : Bool) → is_noted notes k ≡ b → BeginsAsListed records.shelves notes k
    by_note true e = by_mark (is_parked notes k) refl
      where
        by_mark : (b : Bool) → is_parked notes k ≡ b → BeginsAsListed records.shelves notes k
        by_mark true f =
            let unlisted_so : is_listed notes k ≡ false = (holds.parked k f).unlisted in
            record { in_use = λ stands. absurd (cc); in_chain = λ stands. absurd (cc) }
        by_mark false f = as_listed k (omega (arith, tied k, ap once_where (waits-so _ _ e f)))
    by_note false e = unnoted-as_listed frame records notes by_height kept holds k e

-- what became of the notes once the number of the shelf that changed last was taken away
popped-is : (change : ℕ → List ℕ → Notes → Notes) (old new : Notes) (shelf : ℕ) (result : Option ℕ)
    → (result ≡ None → old.noted ≡ []) → IfSome result (λ s. s < length old.standing) → IfSome result (λ s. old.noted ≡ new.noted ++ s ∷ []) → IfSome result (λ s. new ≡ change s new.noted old)
    → 0 < length old.noted → shelf ≡ get_or old.noted (length old.noted - 1) 0
    → (new ≡ change shelf new.noted old) × (shelf < length old.standing)
popped-is change old new shelf None none within last made some read =
    absurd (omega (arith, some, ap (λ (ns : List ℕ). length ns) (none refl)))
popped-is change old new shelf (Some s) none within last made some read =
    let end : length old.noted - 1 ≡ length new.noted = omega (arith, ap (λ (ns : List ℕ). length ns) last, length-append new.noted (s ∷ [])) in
    let same : shelf ≡ s =
    read ∙ ap (λ n. get_or old.noted n 0) end ∙ ap (λ (ns : List ℕ). get_or ns (length new.noted) 0) last ∙ get_or-append_seam new.noted s [] 0 in
    (made ∙ ap (λ n. change n new.noted old) (sym same), omega (arith, within, same))

-- what holds then of one that is noted no more
pub popped-holds : (frame : Frame) (records : Records) (old new : Notes) (by_height : List BoundedShelf) (shelf : ℕ) (result : Option ℕ)
    → AreKept frame records → AreByHeightExceptNoted frame records old by_height → BeginAsListed records.shelves old → IsSettled records.shelves old shelf → IsBounded frame records shelf by_height
    → (result ≡ None → old.noted ≡ []) → IfSome result (λ s. s < length old.standing) → IfSome result (λ s. old.noted ≡ new.noted ++ s ∷ []) → IfSome result (λ s. new ≡ forgotten s new.noted old)
    → 0 < length old.noted → shelf ≡ get_or old.noted (length old.noted - 1) 0
    → AreByHeightExceptNoted frame records new by_height × BeginAsListed records.shelves new
popped-holds frame records old new by_height shelf result kept holds as_listed settled bounded none within last made some read =
    let is = popped-is forgotten old new shelf result none within last made some read in (
      subst (λ (notes : Notes). AreByHeightExceptNoted frame records notes by_height) (sym is.0) (forgotten-holds frame records old by_height kept holds shelf is.1 new.noted settled bounded),
      subst (BeginAsListed records.shelves) (sym is.0) (forgotten-as_listed frame records old by_height kept holds shelf is.1 new.noted as_listed),
    )

-- and of one that is parked
pub parked-popped : (frame : Frame) (records : Records) (old new : Notes) (by_height : List BoundedShelf) (shelf : ℕ) (result : Option ℕ)
    → AreKept frame records → AreByHeightExceptNoted frame records old by_height
    → (result ≡ None → old.noted ≡ []) → IfSome result (λ s. s < length old.standing) → IfSome result (λ s. old.noted ≡ new.noted ++ s ∷ []) → IfSome result (λ s. new ≡ parked_as s new.noted old)
    → 0 < length old.noted → shelf ≡ get_or old.noted (length old.noted - 1) 0 → is_listed old shelf ≡ false → IsToPark frame records old shelf
    → AreByHeightExceptNoted frame records new by_height
parked-popped frame records old new by_height shelf result kept holds none within last made some read unlisted_so to_park =
    let is = popped-is parked_as old new shelf result none within last made some read in
    subst (λ (notes : Notes). AreByHeightExceptNoted frame records notes by_height) (sym is.0) (parked-holds frame records old by_height kept holds shelf is.1 new.noted unlisted_so to_park)

pub parked-begin : (shelves : List LinkedShelf) (old new : Notes) (shelf : ℕ) (result : Option ℕ)
    → (result ≡ None → old.noted ≡ []) → IfSome result (λ s. s < length old.standing) → IfSome result (λ s. old.noted ≡ new.noted ++ s ∷ []) → IfSome result (λ s. new ≡ parked_as s new.noted old)
    → 0 < length old.noted → shelf ≡ get_or old.noted (length old.noted - 1) 0
    → BeginAsListed shelves old → BeginAsListed shelves new
parked-begin shelves old new shelf result none within last made some read as_listed =
    let is = popped-is parked_as old new shelf result none within last made some read in
    subst (BeginAsListed shelves) (sym is.0)
    (λ k.
    let listed = parked-listed old shelf new.noted is.1 k in
    record {
      in_use = λ stands. parked-in_use old shelf new.noted is.1 k ∙ (as_listed k).in_use (sym listed ∙ stands);
      in_chain = λ stands. (as_listed k).in_chain (sym listed ∙ stands);
    })
