-- The records of a small atlas stand for its state, by computing.
use Rattle.etagere_base.specs.declared.faults.RestoreFault.TheVariants.{Frame, Counts, Link, Shelves, Runs, Neighbours, FreeList, Sharing, Unused, Space, Memory}
use Rattle.std.proofs.Common.{◌≡◌, ℕ, false, None, Some, [], ◌∷◌, refl, pos, arith, lit<}
use Rattle.std.specs.Prelude.{nat_lt, if◌then◌else◌}
use Rattle.etagere_base.specs.Lists.{times}
use Rattle.etagere_base.specs.declared.frames.Frame as frames
use Rattle.shelf_records.specs.AtlasRecords.{AtlasRecords, spelled_state, walked_entries}
use Rattle.shelf_records.specs.StandsFor.{StandsFor}
use Rattle.shelf_model.specs.State.{AtlasState}
use Rattle.shelf_records.proofs.RecordRows.{two_items}

-- an atlas of 20 by 8
abbrev small_frame : frames.Frame
small_frame =
    record {
      width = 20;
      height = 8;
      alignment_width = 1;
      alignment_height = 1;
      vertical = false;
      column_width = 20;
      columns = 1;
    }

-- its records after an allocation of 8 by 8
abbrev small_records : AtlasRecords
small_records =
    record {
      frame = small_frame;
      records = two_items;
      allocated_space = pos 64;
    }

-- its state
abbrev small_state : AtlasState
small_state =
    record {
      frame = small_frame;
      shelves =
          record {
            column = 0;
            height = 8;
            items = record { width = 8; id = Some 65536 } ∷ record { width = 12; id = None } ∷ [];
            free_list = 8 ∷ [];
          } ∷ [];
      peak_items = 2;
    }

-- the walks through the records spell the state
small_spelled : small_state ≡ spelled_state small_records (walked_entries small_records)
small_spelled = refl

-- each of two numbers stands once in the list of both
two-once : (number : ℕ) → times number (0 ∷ 1 ∷ []) ≡ (if nat_lt number 2 then 1 else 0)
two-once number = grind arith

-- none but the first stands in a list of one
one-once : (number : ℕ) → times number (0 ∷ []) ≡ (if nat_lt number 1 then 1 else 0)
one-once number = grind arith

-- the records stand for the state
small_stands : StandsFor small_records small_state
small_stands =
    record {
      spelled = refl;
      columns = refl;
      keeps = elim [
        | Frame ↦ record {
          width = (omega arith, omega arith);
          height = (omega arith, omega arith);
          area = lit< tt;
          alignment_width = (omega arith, lit< tt);
          alignment_height = (omega arith, lit< tt);
          column_width = omega arith;
          aligned = refl;
          columns = (omega arith, omega arith);
        }
        | Counts ↦ record { shelves = (omega arith, omega arith); items = (omega arith, omega arith) }
        | Link ↦ record {
          shelves = refl;
          unused_shelves = refl;
          unused_items = refl;
          back = (refl, tt);
          each_shelf =
              (record { items = refl; free_list = refl; links = record { back = (refl, (refl, tt)); owners = (refl, (refl, tt)) } }, tt);
        }
        | Shelves ↦ record {
          columns = (omega arith, tt);
          ordered = tt;
          along = (refl, tt);
          across = (refl, tt);
          heights = (omega arith, tt);
          filled = λ column below. let first : column ≡ 0 = omega arith in rw first refl;
        }
        | Runs ↦ (
          record {
            places = (refl, (refl, tt));
            items = (record { width = omega arith; aligned = refl }, (record { width = omega arith; aligned = refl }, tt));
            width = refl;
            is_empty = refl;
          },
          tt,
        )
        | Neighbours ↦ record { items = ((refl, tt), tt); shelves = tt }
        | FreeList ↦ (record { list = record { items = λ item. refl; back = (refl, tt) }; ends = refl }, tt)
        | Sharing ↦ record {
          shelves = one-once;
          items = two-once;
          shelf_end = refl;
          unused_shelf_end = refl;
          item_ends = (refl, tt);
          unused_item_end = refl;
        }
        | Unused ↦ tt
        | Space ↦ refl
        | Memory ↦ tt
      ];
    }
