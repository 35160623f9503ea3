-- The list of shelves by height once one that has changed left it, and another one was put in.
use Rattle.std.proofs.Common.{◌≡◌, ◌≢◌, ℕ, ◌<◌, true, false, List, get_or, length, ap, arith, ◌∙◌, sym, subst}
use Rattle.etagere_base.specs.declared.frames.Frame.{Frame}
use Rattle.shelf_records.specs.RecordLists.{Records, walked_lists}
use Rattle.shelf_records.specs.Private.Kept.{AreKept, bare}
use Rattle.shelf_records.specs.declared.records.LinkedShelf.{LinkedShelf}
use Rattle.shelf_heights.specs.Private.ByHeight.{AreInOrder, put_in, taken_out}
use Rattle.shelf_heights.specs.declared.by_height.BoundedShelf.{BoundedShelf}
use Rattle.shelf_notes.specs.Private.Pending.{Notes, is_in_use, is_listed, is_noted, is_parked, listed_as, once_where, unlisted}
use Rattle.shelf_notes.specs.declared.pending.Standing.{Standing}
use Rattle.shelf_notes.proofs.NotedShelves.{unlisted-in_use, unlisted-known, unlisted-noted, unlisted-other, unlisted-parked}
use Rattle.shelf_store.proofs.ByHeight.SettledShelves.{absent-stays, gone-holds, others-as_listed, others-order, own-within, put-as_listed, put-bounded, put-holds, put-settled}
use Rattle.shelf_store.specs.Private.Settling.{AreByHeightExceptNoted, BeginAsListed, IsBoundIn, IsBounded, IsSettled}

-- what is noted then
abbrev pub replaced_notes : ℕ → ℕ → LinkedShelf → Notes → Notes
replaced_notes shelf left read notes = listed_as shelf read (unlisted left notes)

-- what is known of both shelves before
pub record CanReplace (frame : Frame) (records : Records) (notes : Notes) (by_height : List BoundedShelf) (shelf left : ℕ) : Type 0 where
  pub kept : AreKept frame records
  pub holds : AreByHeightExceptNoted frame records notes by_height
  pub as_listed : BeginAsListed records.shelves notes
  pub known : shelf < length notes.standing
  pub noted : is_noted notes shelf ≡ true
  pub unparked : is_parked notes shelf ≡ false
  pub in_use : is_in_use notes shelf ≡ true
  pub unlisted_so : is_listed notes shelf ≡ false
  pub left_known : left < length notes.standing
  pub left_listed : is_listed notes left ≡ true
  pub left_noted : is_noted notes left ≡ true
  pub entries : length notes.kept ≡ length notes.standing

-- what holds after
pub record IsReplaced (frame : Frame) (records : Records) (by_height : List BoundedShelf) (shelf left : ℕ) (one : BoundedShelf) (after : Notes) : Type 0 where
  pub order : AreInOrder after.kept (taken_out left by_height)
  pub within : shelf < length after.kept
  pub holds : AreByHeightExceptNoted frame records after (put_in after.kept one (taken_out left by_height))
  pub bounded : IsBounded frame records shelf (put_in after.kept one (taken_out left by_height))
  pub as_listed : BeginAsListed records.shelves after
  pub settled : IsSettled records.shelves after shelf

pub replaced : (frame : Frame) (records : Records) (notes : Notes) (by_height : List BoundedShelf) (shelf left : ℕ) (one : BoundedShelf) (read : LinkedShelf) → CanReplace frame records notes by_height shelf left
    → one.shelf ≡ shelf → read ≡ get_or records.shelves shelf read → IsBoundIn (bare frame records) (walked_lists records).entries one
    → IsReplaced frame records by_height shelf left one (replaced_notes shelf left read notes)
replaced frame records notes by_height shelf left one read can named is_read bound =
    record {
      order = subst (AreInOrder after.kept) absent (others-order frame records middle others can.kept holds shelf known noted one read named in_use as_listed entries is_read);
      within = own-within frame records middle others can.kept holds shelf known noted one read named in_use as_listed entries is_read;
      holds = subst (λ (xs : List BoundedShelf). AreByHeightExceptNoted frame records after (put_in after.kept one xs)) absent
          (put-holds frame records middle others can.kept holds shelf known noted one read named in_use as_listed entries is_read unparked);
      bounded = subst (λ (xs : List BoundedShelf). IsBounded frame records shelf (put_in after.kept one xs)) absent
          (put-bounded frame records middle others can.kept holds shelf known noted one read named in_use as_listed entries is_read bound);
      as_listed = put-as_listed frame records middle others can.kept holds shelf known noted one read named in_use as_listed entries is_read;
      settled = put-settled frame records middle others can.kept holds shelf known noted one read named in_use as_listed entries is_read;
    }
  where
    middle : Notes
    middle = unlisted left notes

    after : Notes
    after = replaced_notes shelf left read notes

    others : List BoundedShelf
    others = taken_out left by_height

    holds : AreByHeightExceptNoted frame records middle others
    holds = gone-holds frame records notes by_height can.kept can.holds left can.left_known can.left_noted

    known : shelf < length middle.standing
    known = omega (arith, can.known, unlisted-known notes left can.left_known)

    noted : is_noted middle shelf ≡ true
    noted = unlisted-noted notes left can.left_known shelf ∙ can.noted

    unparked : is_parked middle shelf ≡ false
    unparked = unlisted-parked notes left can.left_known shelf ∙ can.unparked

    in_use : is_in_use middle shelf ≡ true
    in_use = unlisted-in_use notes left can.left_known shelf ∙ can.in_use

    as_listed : BeginAsListed records.shelves middle
    as_listed = λ k. others-as_listed frame records notes by_height can.kept can.holds left can.left_known can.left_noted k (can.as_listed k)

    entries : length middle.kept ≡ length middle.standing
    entries = can.entries ∙ sym (unlisted-known notes left can.left_known)

    differs : shelf ≢ left
    differs same =
        let listed_too : is_listed notes shelf ≡ true = rw same can.left_listed in
        let not_so : is_listed notes shelf ≡ false = can.unlisted_so in
        absurd (cc)

    absent : taken_out shelf others ≡ others
    absent =
        absent-stays shelf others
        (holds.listed shelf ∙ ap once_where (ap (λ (s : Standing). s.listed) (unlisted-other notes left can.left_known shelf differs) ∙ can.unlisted_so))
