-- What is noted beside the list of shelves by height, so that a shelf that changes need not be moved in it at once.
use Rattle.std.specs.Prelude.{◌≡◌, ℕ, ◌≤◌, Bool, ◌&&◌, not, true, false, List, [], ◌∷◌, ◌++◌, get_or, length, max, min, set, vec_capacity, ◌==◌, if◌then◌else◌}
use Rattle.etagere_base.specs.Lists.{times, total}
use Rattle.shelf_records.specs.declared.records.LinkedShelf.{LinkedShelf}
use Rattle.shelf_notes.specs.declared.pending.PendingShelves.TheInside.{Inside}
use Rattle.shelf_notes.specs.declared.pending.Standing.{Standing}

-- the records of shelves as they were when the list followed them, what is known of each shelf, the numbers of those that
-- have changed since and aren't parked, a width that no free item of a parked shelf has (0 where none was parked since all
-- were listed), and the width below which shelves are to be parked
pub record Notes : Type 0 where
  pub kept : List LinkedShelf
  pub standing : List Standing
  pub noted : List ℕ
  pub parked_below : ℕ
  pub narrow_below : ℕ

-- notes, and for how many shelves there is room
pub record RoomyNotes : Type 0 where
  pub notes : Notes
  pub room : ℕ

-- what is known of a shelf of which nothing is
abbrev pub unknown : Standing
unknown = record { listed = false; in_use = false; noted = false; parked = false }

-- what is known of a shelf
abbrev pub standing_at : List Standing → ℕ → Standing
standing_at standing shelf = get_or standing shelf unknown

-- whether the list has a shelf
abbrev pub is_listed : Notes → ℕ → Bool
is_listed notes shelf = (standing_at notes.standing shelf).listed

-- whether a shelf is in use
abbrev pub is_in_use : Notes → ℕ → Bool
is_in_use notes shelf = (standing_at notes.standing shelf).in_use

-- whether a shelf has changed since the list followed it
abbrev pub is_noted : Notes → ℕ → Bool
is_noted notes shelf = (standing_at notes.standing shelf).noted

-- whether a shelf that has changed stays out of the list, since its free items are too narrow for what is asked for
abbrev pub is_parked : Notes → ℕ → Bool
is_parked notes shelf = (standing_at notes.standing shelf).parked

-- whether the list is to follow a shelf that has changed
abbrev pub waits : Standing → Bool
waits one = one.noted && not one.parked

-- 1 for what is so, and 0 for what isn't
abbrev pub once_where : Bool → ℕ
once_where so = if so then 1 else 0

-- so many are to be followed
abbrev pub noted_count : List Standing → ℕ
noted_count standing = total (λ (one : Standing). once_where (waits one)) standing

-- each shelf that is to be followed stands once among the numbers of those, and they are as many
pub record AreCounted (standing : List Standing) (noted : List ℕ) : Type 0 where
  pub tied : (k : ℕ) → times k noted ≡ once_where (waits (standing_at standing k))
  pub counted : length noted ≡ noted_count standing

-- each shelf that is to be followed stands once among the numbers of those
abbrev pub AreTied : Notes → Type 0
AreTied notes = (k : ℕ) → times k notes.noted ≡ once_where (waits (standing_at notes.standing k))

-- there is none
abbrev pub NoneWaits : Notes → Type 0
NoneWaits notes = (k : ℕ) → waits (standing_at notes.standing k) ≡ false

-- what the fields stand for
abbrev pub notes_in : Inside → RoomyNotes
notes_in pending =
    record {
      notes = record {
        kept = pending.kept.items;
        standing = pending.standing.items;
        noted = pending.noted.items;
        parked_below = pending.parked_below;
        narrow_below = pending.narrow_below;
      };
      room = min (min (vec_capacity pending.kept) (vec_capacity pending.standing)) (vec_capacity pending.noted);
    }

-- what they keep: a kept record for each shelf of which something is known, and room for the number of each
pub record AreRoomy (pending : Inside) : Type 0 where
  pub equal : length pending.kept.items ≡ length pending.standing.items
  pub counts : AreCounted pending.standing.items pending.noted.items
  pub fits : length pending.standing.items ≤ vec_capacity pending.noted
  pub few : length pending.standing.items ≤ 65535

-- the notes once it was noted that a shelf has changed, and whether it is in use now
abbrev pub noted_as : ℕ → Bool → Notes → Notes
noted_as shelf in_use notes =
    record notes {
      standing = set notes.standing shelf
          (record (standing_at notes.standing shelf) { in_use = in_use; noted = true; parked = false });
      noted = if waits (standing_at notes.standing shelf) then notes.noted else notes.noted ++ shelf ∷ [];
    }

-- the notes once a parked shelf was noted, so that the list follows it again
abbrev pub unparked : ℕ → Notes → Notes
unparked shelf notes = if is_parked notes shelf then noted_as shelf true notes else notes

-- the notes with an entry for a shelf, where they had none
abbrev pub with_entry : ℕ → LinkedShelf → Notes → Notes
with_entry shelf any notes =
    if shelf == length notes.standing
    then record notes { kept = notes.kept ++ any ∷ []; standing = notes.standing ++ unknown ∷ [] }
    else notes

-- the notes once the list lost a shelf
abbrev pub unlisted : ℕ → Notes → Notes
unlisted shelf notes =
    record notes { standing = set notes.standing shelf (record (standing_at notes.standing shelf) { listed = false }) }

-- the notes once the list followed a shelf, whose record is this
abbrev pub listed_as : ℕ → LinkedShelf → Notes → Notes
listed_as shelf one notes =
    record notes {
      kept = set notes.kept shelf one;
      standing = set notes.standing shelf (record (standing_at notes.standing shelf) { listed = true });
    }

-- the notes once the last of the numbers was taken away, which is this
abbrev pub forgotten : ℕ → List ℕ → Notes → Notes
forgotten shelf noted notes =
    record notes {
      standing = set notes.standing shelf (record (standing_at notes.standing shelf) { noted = false });
      noted = noted;
    }

-- the notes once the last of the numbers was taken away, which is this, and its shelf stays out of the list
abbrev pub parked_as : ℕ → List ℕ → Notes → Notes
parked_as shelf noted notes =
    record notes {
      standing = set notes.standing shelf (record (standing_at notes.standing shelf) { parked = true });
      noted = noted;
      parked_below = max notes.parked_below notes.narrow_below;
    }

-- the notes once a shelf in use was listed, which has not changed
abbrev pub put_to_use : ℕ → Notes → Notes
put_to_use shelf notes =
    record notes { standing = set notes.standing shelf (record { listed = true; in_use = true; noted = false; parked = false }) }
