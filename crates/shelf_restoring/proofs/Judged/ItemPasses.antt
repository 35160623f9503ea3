-- What one more item of a shelf adds, and what the rests of lists say of a whole one.
use Rattle.std.proofs.Common.{◌≡◌, ℕ, ◌+◌, Bool, true, false, not, ◌&&◌, List, [], ◌∷◌, length, map, None, Option, Some, refl, ap, sym, arith, ◌∙◌}
use Rattle.etagere_base.proofs.DecidingLemmas.{decides-no, decides-yes}
use Rattle.etagere_base.specs.declared.frames.Frame.{Frame}
use Rattle.etagere_base.specs.Lists.{NoNeighbours}
use Rattle.std.specs.List.{AllByRecursion}
use Rattle.std.specs.Prelude.{Decides}
use Rattle.shelf_records.specs.Chains.{LeadsBack}
use Rattle.etagere_links.specs.Edits.{link_at}
use Rattle.shelf_records.specs.declared.records.LinkedItem.{LinkedItem}
use Rattle.shelf_records.specs.Records.{item_chain}
use Rattle.shelf_model.specs.Merging.{both_free}
use Rattle.shelf_model.specs.Space.{allocated_width}
use Rattle.shelf_model.specs.State.{is_free}
use Rattle.shelf_model.specs.Valid.{IsItem}
use Rattle.shelf_records.specs.AtlasRecords.{is_allocated_at, item_at, shelf_of, width_of}
use Rattle.shelf_records.specs.RecordLists.{Entry}
use Rattle.shelf_records.specs.StandsFor.{LieFrom, LinkBack, free_present}
use Rattle.shelf_records.proofs.Spelled.SpelledPlaces.{free-spelled}
use Rattle.shelf_restoring.specs.Private.Rules.{ApartFrom, LinkedFrom, RowFrom}

-- a test decides that what it denies is not so
pub decides-not : (b : Bool) → Decides (not b) (b ≡ false)
decides-not true = decides-no (λ e. absurd (cc))
decides-not false = decides-yes refl

module _ (items : List LinkedItem) where
  -- a free item counts
  pub free-more : (x : ℕ) (rest : List ℕ) → is_allocated_at items x ≡ false → length (free_present items (x ∷ rest)) ≡ 1 + length (free_present items rest)
  free-more x rest free = rw free (omega arith)

  -- an allocated one does not
  pub taken-more : (x : ℕ) (rest : List ℕ) → is_allocated_at items x ≡ true → length (free_present items (x ∷ rest)) ≡ length (free_present items rest)
  taken-more x rest taken = rw taken refl

  -- a free item has no allocated width
  pub width-free : (x : ℕ) (rest : List ℕ) → is_allocated_at items x ≡ false → allocated_width (map (item_at items) (x ∷ rest)) ≡ allocated_width (map (item_at items) rest)
  width-free x rest free = let is : is_free (item_at items x) ≡ true = free-spelled items x ∙ ap not free in rw is (omega arith)

  -- an allocated one has its own
  pub width-taken : (x : ℕ) (rest : List ℕ) → is_allocated_at items x ≡ true
      → allocated_width (map (item_at items) (x ∷ rest)) ≡ width_of items x + allocated_width (map (item_at items) rest)
  width-taken x rest taken = let is : is_free (item_at items x) ≡ false = free-spelled items x ∙ ap not taken in rw is refl

  -- items that link back one after the other, and name their shelf
  linked-parts : (shelf : ℕ) (before : Option ℕ) (numbers : List ℕ) → LinkedFrom items shelf before numbers
      → LeadsBack (link_at item_chain.previous items) before numbers × AllByRecursion (λ item. shelf_of items item ≡ shelf) numbers
  linked-parts shelf before [] linked = (tt, tt)
  linked-parts shelf before (number ∷ numbers) linked =
      let later = linked-parts shelf (Some number) numbers linked.1 in ((linked.0.0, later.0), (linked.0.1, later.1))

  -- and the other way round
  parts-linked : (shelf : ℕ) (before : Option ℕ) (numbers : List ℕ) → LeadsBack (link_at item_chain.previous items) before numbers
      → AllByRecursion (λ item. shelf_of items item ≡ shelf) numbers → LinkedFrom items shelf before numbers
  parts-linked shelf before [] back owners = tt
  parts-linked shelf before (number ∷ numbers) back owners = ((back.0, owners.0), parts-linked shelf (Some number) numbers back.1 owners.1)

  -- items link back and name their shelf just where they do so one after the other
  pub linked-back : (entry : Entry) → LinkedFrom items entry.number None entry.items → LinkBack items entry
  linked-back entry linked = let parts = linked-parts entry.number None entry.items linked in record { back = parts.0; owners = parts.1 }

  -- and the other way round
  pub back-linked : (entry : Entry) → LinkBack items entry → LinkedFrom items entry.number None entry.items
  back-linked entry back = parts-linked entry.number None entry.items back.back back.owners

  -- items in a row lie side by side
  pub row-lies : (frame : Frame) (here : ℕ) (numbers : List ℕ) → RowFrom frame items here numbers
      → LieFrom items here numbers × AllByRecursion (IsItem frame) (map (item_at items) numbers)
  row-lies frame here [] row = (tt, tt)
  row-lies frame here (number ∷ numbers) row =
      let later = row-lies frame (here + width_of items number) numbers row.1 in ((row.0.0, later.0), (row.0.1, later.1))

  -- and the other way round
  pub lies-row : (frame : Frame) (here : ℕ) (numbers : List ℕ) → LieFrom items here numbers
      → AllByRecursion (IsItem frame) (map (item_at items) numbers) → RowFrom frame items here numbers
  lies-row frame here [] lie each = tt
  lies-row frame here (number ∷ numbers) lie each = ((lie.0, each.0), lies-row frame (here + width_of items number) numbers lie.1 each.1)

  -- two neighbours are both free where neither is allocated
  both-spelled : (x y : ℕ) → both_free (item_at items x) (item_at items y) ≡ (not (is_allocated_at items x) && not (is_allocated_at items y))
  both-spelled x y = rw (free-spelled items x, free-spelled items y) refl

  -- items that stand apart behind one that does
  apart-behind : (x : ℕ) (numbers : List ℕ) → ApartFrom items (not (is_allocated_at items x)) numbers → NoNeighbours both_free (map (item_at items) (x ∷ numbers))
  apart-behind x [] apart = tt
  apart-behind x (y ∷ numbers) apart = (both-spelled x y ∙ apart.0, apart-behind y numbers apart.1)

  -- and the other way round
  behind-apart : (x : ℕ) (numbers : List ℕ) → NoNeighbours both_free (map (item_at items) (x ∷ numbers)) → ApartFrom items (not (is_allocated_at items x)) numbers
  behind-apart x [] apart = tt
  behind-apart x (y ∷ numbers) apart = (sym (both-spelled x y) ∙ apart.0, behind-apart y numbers apart.1)

  -- items stand apart
  pub apart-all : (numbers : List ℕ) → ApartFrom items false numbers → NoNeighbours both_free (map (item_at items) numbers)
  apart-all [] apart = tt
  apart-all (x ∷ numbers) apart = apart-behind x numbers apart.1

  -- and the other way round
  pub all-apart : (numbers : List ℕ) → NoNeighbours both_free (map (item_at items) numbers) → ApartFrom items false numbers
  all-apart [] apart = tt
  all-apart (x ∷ numbers) apart = (refl, behind-apart x numbers apart)
