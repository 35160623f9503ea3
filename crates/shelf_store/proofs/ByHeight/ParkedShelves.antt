-- Shelves that are parked stay so while others change, and what leaves one parked.
use Rattle.std.proofs.Common.{◌≡◌, ◌≢◌, ℕ, ◌-◌, ◌<◌, ◌≤◌, Bool, true, false, cond, List, length, map, refl, ap, arith, ◌∙◌, sym, subst}
use Rattle.std.specs.Prelude.{◌==◌}
use Rattle.std.specs.List.{AllByRecursion}
use Rattle.etagere_base.proofs.EachLemmas.{Each-weaken}
use Rattle.etagere_base.specs.Lists.{times}
use Rattle.shelf_model.specs.Listing.{RiseFrom}
use Rattle.shelf_records.specs.RecordLists.{Entry, Records}
use Rattle.shelf_records.specs.AtlasRecords.{AtlasRecords, spelled_shelf}
use Rattle.shelf_heights.specs.Private.ByHeight.{AreBounds, IsBound, IsByHeight, IsByHeightFor, numbers_by_height, order_of}
use Rattle.shelf_heights.specs.declared.by_height.BoundedShelf.{BoundedShelf}
use Rattle.shelf_notes.specs.Private.Pending.{NoneWaits, Notes, is_in_use, is_listed, is_noted, is_parked, noted_as, once_where, unparked}
use Rattle.shelf_notes.specs.declared.pending.Standing.{Standing}
use Rattle.shelf_notes.proofs.Noted.{unnoted-waits}
use Rattle.shelf_notes.proofs.NotedShelves.{noted-in_use, noted-known, noted-listed, noted-other, parked-before, parked-no, unnoted-before, unnoted-differs}
use Rattle.shelf_store.proofs.ByHeight.FreedBounds.{within-more}
use Rattle.shelf_store.specs.Private.Settling.{AreSettled, HoldsExceptNoted, IsBoundIn, IsParked}

-- a bound is one still where it is greater
pub bound-more : (atlas : AtlasRecords) (entries : List Entry) (shelf one other : ℕ) → one ≤ other → IsBoundIn atlas entries (record { widest = one; shelf = shelf }) → IsBoundIn atlas entries (record { widest = other; shelf = shelf })
bound-more atlas entries shelf one other less bounds =
    Each-weaken (λ (entry : Entry). entry.number ≡ shelf → IsBound one (spelled_shelf atlas entry)) (λ (entry : Entry). entry.number ≡ shelf → IsBound other (spelled_shelf atlas entry)) entries
    (λ entry bound named. within-more one other (spelled_shelf atlas entry).items less (bound named)) bounds

-- a parked shelf stays so where it isn't listed still and its free items aren't wider
pub parked-same : (atlas new : AtlasRecords) (entries edited : List Entry) (notes later : Notes) (k : ℕ) → is_listed later k ≡ is_listed notes k → later.parked_below ≡ notes.parked_below
    → (IsBoundIn atlas entries (record { widest = notes.parked_below - 1; shelf = k }) → IsBoundIn new edited (record { widest = notes.parked_below - 1; shelf = k }))
    → IsParked atlas entries notes k → IsParked new edited later k
parked-same atlas new entries edited notes later k listed below bounds is =
    record {
      unlisted = listed ∙ is.unlisted;
      some = omega (arith, is.some, below);
      narrow = subst (λ (p : ℕ). IsBoundIn new edited (record { widest = p - 1; shelf = k })) (sym below) (bounds is.narrow);
    }

-- so it does where wider ones are parked too
pub parked-raised : (atlas : AtlasRecords) (entries : List Entry) (notes later : Notes) (k : ℕ) → is_listed later k ≡ is_listed notes k → notes.parked_below ≤ later.parked_below → IsParked atlas entries notes k → IsParked atlas entries later k
parked-raised atlas entries notes later k listed more is =
    record {
      unlisted = listed ∙ is.unlisted;
      some = omega (arith, is.some, more);
      narrow = bound-more atlas entries k (notes.parked_below - 1) (later.parked_below - 1) (omega (arith, more)) is.narrow;
    }

-- a parked shelf isn't listed
pub parked-unlisted : (atlas : AtlasRecords) (entries : List Entry) (notes : Notes) (by_height : List BoundedShelf) (k : ℕ) → HoldsExceptNoted atlas entries notes by_height → is_listed notes k ≡ true → is_parked notes k ≡ false
parked-unlisted atlas entries notes by_height k holds so = by_mark (is_parked notes k) refl
  where
    by_mark : (b : Bool) → is_parked notes k ≡ b → b ≡ false
    by_mark true e = let none : is_listed notes k ≡ false = (holds.parked k e).unlisted in absurd (cc)
    by_mark false e = refl

-- the list holds where a shelf in use is noted, though it may not have changed
pub noted-holds : (atlas : AtlasRecords) (entries : List Entry) (notes : Notes) (by_height : List BoundedShelf) (shelf : ℕ) → shelf < length notes.standing → is_in_use notes shelf ≡ true → HoldsExceptNoted atlas entries notes by_height
    → HoldsExceptNoted atlas entries (noted_as shelf true notes) by_height
noted-holds atlas entries notes by_height shelf known so holds =
    record {
      listed = λ k. holds.listed k ∙ sym (ap once_where (noted-listed notes shelf true known k));
      in_use = λ k. holds.in_use k ∙ sym (ap once_where (in_use-same k (k == shelf) refl));
      order = holds.order;
      settled = λ k none.
          let is = holds.settled k (unnoted-before notes shelf true known k none) in
          let same = noted-other notes shelf true known k (unnoted-differs notes shelf true known k none) in
          let listed : is_listed (noted_as shelf true notes) k ≡ is_listed notes k = ap (λ (s : Standing). s.listed) same in
          record {
            listed = listed ∙ is.listed ∙ sym (ap (λ (s : Standing). s.in_use) same);
            in_chain = λ stands. is.in_chain (sym listed ∙ stands);
            height = λ stands. is.height (sym listed ∙ stands);
          };
      bounds = Each-weaken (λ (one : BoundedShelf). is_noted notes one.shelf ≡ false → IsBoundIn atlas entries one)
          (λ (one : BoundedShelf). is_noted (noted_as shelf true notes) one.shelf ≡ false → IsBoundIn atlas entries one) by_height
          (λ one bounds none. bounds (unnoted-before notes shelf true known one.shelf none)) holds.bounds;
      parked = λ k parked.
          parked-same atlas atlas entries entries notes (noted_as shelf true notes) k (noted-listed notes shelf true known k) refl (λ bounds. bounds)
          (holds.parked k (parked-before notes shelf true known k parked));
      known = omega (arith, holds.known, noted-known notes shelf true known);
      few = holds.few;
    }
  where
    in_use-same : (k : ℕ) (b : Bool) → (k == shelf) ≡ b → is_in_use (noted_as shelf true notes) k ≡ is_in_use notes k
    in_use-same k true e = let own : k ≡ shelf = grind arith in rw own (noted-in_use notes shelf true known ∙ sym so)
    in_use-same k false e = let other : k ≢ shelf = grind arith in ap (λ (s : Standing). s.in_use) (noted-other notes shelf true known k other)

-- so a shelf in use need not stay parked
pub unparked-holds : (atlas : AtlasRecords) (entries : List Entry) (notes : Notes) (by_height : List BoundedShelf) (shelf : ℕ) → shelf < length notes.standing → is_in_use notes shelf ≡ true → HoldsExceptNoted atlas entries notes by_height
    → HoldsExceptNoted atlas entries (unparked shelf notes) by_height × (is_parked (unparked shelf notes) shelf ≡ false)
unparked-holds atlas entries notes by_height shelf known so holds = by_mark (is_parked notes shelf) refl
  where
    by_mark : (b : Bool) → is_parked notes shelf ≡ b → HoldsExceptNoted atlas entries (cond b (noted_as shelf true notes) notes) by_height × (is_parked (cond b (noted_as shelf true notes) notes) shelf ≡ false)
    by_mark true e = (noted-holds atlas entries notes by_height shelf known so holds, parked-no notes shelf true known)
    by_mark false e = (holds, e)

-- which shelves are to be parked is left open
pub watched-holds : (atlas : AtlasRecords) (entries : List Entry) (notes : Notes) (by_height : List BoundedShelf) (below : ℕ) → HoldsExceptNoted atlas entries notes by_height
    → HoldsExceptNoted atlas entries (record notes { narrow_below = below }) by_height
watched-holds atlas entries notes by_height below holds =
    record {
      listed = holds.listed;
      in_use = holds.in_use;
      order = holds.order;
      settled = λ k none. let is = holds.settled k none in record { listed = is.listed; in_chain = is.in_chain; height = is.height };
      bounds = holds.bounds;
      parked = λ k so. let is = holds.parked k so in record { unlisted = is.unlisted; some = is.some; narrow = is.narrow };
      known = holds.known;
      few = holds.few;
    }

-- all shelves by height are those for each width
pub all-for : (atlas : AtlasRecords) (entries : List Entry) (width : ℕ) (by_height : List BoundedShelf) → IsByHeight atlas entries by_height → IsByHeightFor atlas entries width by_height
all-for atlas entries width by_height are =
    record {
      once = λ k. omega (arith, are.once k);
      left_out = λ k used absent. absurd (omega (arith, are.once k, used, absent));
      rising = are.rising;
      bounds = are.bounds;
    }

-- where nothing has changed, nothing waits
pub settled-none : (records : Records) (notes : Notes) → AreSettled records notes → NoneWaits notes
settled-none records notes settled k = unnoted-waits _ _ (settled.unchanged k)

-- the list holds with other bounds of the same shelves
pub searched-holds : (atlas : AtlasRecords) (entries : List Entry) (notes : Notes) (old new : List BoundedShelf) → numbers_by_height new ≡ numbers_by_height old → AreBounds atlas entries new → HoldsExceptNoted atlas entries notes old
    → HoldsExceptNoted atlas entries notes new
searched-holds atlas entries notes old new same bounds holds =
    record {
      listed = λ k. ap (times k) same ∙ holds.listed k;
      in_use = holds.in_use;
      order = record {
        within = subst (λ (ns : List ℕ). AllByRecursion (λ k. k < length notes.kept) ns) (sym same) holds.order.within;
        rising = subst (λ (ns : List ℕ). RiseFrom 0 (map (order_of notes.kept) ns)) (sym same) holds.order.rising;
      };
      settled = holds.settled;
      bounds = Each-weaken (IsBoundIn atlas entries) (λ (one : BoundedShelf). is_noted notes one.shelf ≡ false → IsBoundIn atlas entries one) new (λ one bound unnoted. bound) bounds;
      parked = holds.parked;
      known = holds.known;
      few = holds.few;
    }
