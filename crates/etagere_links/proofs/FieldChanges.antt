-- A field of the record of a number: what a change of a record keeps of it.
use Rattle.std.proofs.Common.{◌≡◌, ◌≢◌, ℕ, zero, suc, ◌<◌, Option, Some, List, [], ◌∷◌, length, get_or, map, refl, ap, arith, sym, ◌∙◌}
use Rattle.std.specs.Prelude.{slice_get}
use Rattle.std.specs.Option.{option_map_or}
use Rattle.etagere_links.specs.Edits.{changed_by, field_at}
use Rattle.etagere_links.proofs.RecordChanges.{get-changed_by-other}

-- a field of a record that is there
pub field_at-within : {T X : Type 0} (field : T → X) (other : X) (xs : List T) (k : ℕ) (d : T) → k < length xs → field_at field other xs k ≡ field (get_or xs k d)
field_at-within field other [] k d within = absurd (omega arith)
field_at-within field other (x ∷ xs) zero d within = refl
field_at-within field other (x ∷ xs) (suc k) d within = field_at-within field other xs k d (omega arith)

-- a field of the record that a link names, after it was changed to this
pub field_at-changed : {T X : Type 0} (field : T → X) (other : X) (change : T → T) (xs : List T) (k : ℕ) (value : X) → k < length xs → ((x : T) → field (change x) ≡ value) → field_at field other (changed_by (Some k) change xs) k ≡ value
field_at-changed field other change [] k value within becomes = absurd (omega arith)
field_at-changed field other change (x ∷ xs) zero value within becomes = becomes x
field_at-changed field other change (x ∷ xs) (suc k) value within becomes = field_at-changed field other change xs k value (omega arith) becomes

-- a field of every record, where the change keeps it
pub field_at-kept : {T X : Type 0} (field : T → X) (other : X) (change : T → T) (xs : List T) (j k : ℕ) → ((x : T) → field (change x) ≡ field x) → field_at field other (changed_by (Some j) change xs) k ≡ field_at field other xs k
field_at-kept field other change [] j k keeps = refl
field_at-kept field other change (x ∷ xs) zero zero keeps = keeps x
field_at-kept field other change (x ∷ xs) zero (suc k) keeps = refl
field_at-kept field other change (x ∷ xs) (suc j) zero keeps = refl
field_at-kept field other change (x ∷ xs) (suc j) (suc k) keeps = field_at-kept field other change xs j k keeps

-- a field of another record
pub field_at-other : {T X : Type 0} (field : T → X) (other : X) (change : T → T) (xs : List T) (link : Option ℕ) (k : ℕ) → link ≢ Some k → field_at field other (changed_by link change xs) k ≡ field_at field other xs k
field_at-other field other change xs link k stranger = ap (λ r. option_map_or field r other) (get-changed_by-other change xs link k stranger)

-- a field is read from the list of these fields
field_at-map : {T X : Type 0} (field : T → X) (other : X) (xs : List T) (k : ℕ) → field_at field other xs k ≡ option_map_or (λ (x : X). x) (slice_get (map field xs) k) other
field_at-map field other [] k = refl
field_at-map field other (x ∷ xs) zero = refl
field_at-map field other (x ∷ xs) (suc k) = field_at-map field other xs k

-- where all these fields are the same, each is
pub field_at-same : {T X : Type 0} (field : T → X) (other : X) (xs ys : List T) (k : ℕ) → map field ys ≡ map field xs → field_at field other ys k ≡ field_at field other xs k
field_at-same {T} {X} field other xs ys k same =
    field_at-map field other ys k ∙ ap (λ field_edits. option_map_or (λ (x : X). x) (slice_get field_edits k) other) same ∙ sym (field_at-map field other xs k)
