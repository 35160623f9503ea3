-- What changing one record changes: its own field, and no field of another; and what stays of every one.
use Rattle.std.proofs.Common.{◌≡◌, ◌≢◌, ℕ, zero, suc, ◌<◌, Option, None, Some, List, [], ◌∷◌, length, map, refl, ap, arith, sym, ◌∙◌}
use Rattle.std.specs.Prelude.{option_and_then, option_map, slice_get}
use Rattle.etagere_links.specs.Edits.{changed_at, changed_by, link_at}

-- the record that is changed
get-changed_at : {T : Type 0} (change : T → T) (xs : List T) (k : ℕ) → slice_get (changed_at k change xs) k ≡ option_map change (slice_get xs k)
get-changed_at change [] k = refl
get-changed_at change (x ∷ xs) zero = refl
get-changed_at change (x ∷ xs) (suc k) = get-changed_at change xs k

-- another record
get-changed_at-other : {T : Type 0} (change : T → T) (xs : List T) (j k : ℕ) → j ≢ k → slice_get (changed_at j change xs) k ≡ slice_get xs k
get-changed_at-other change [] j k other = refl
get-changed_at-other change (x ∷ xs) zero zero other = absurd (other refl)
get-changed_at-other change (x ∷ xs) zero (suc k) other = refl
get-changed_at-other change (x ∷ xs) (suc j) zero other = refl
get-changed_at-other change (x ∷ xs) (suc j) (suc k) other = get-changed_at-other change xs j k (λ e. other (omega arith))

-- the record that a link names, after it was changed
pub get-changed_by : {T : Type 0} (change : T → T) (xs : List T) (link : Option ℕ) (k : ℕ) → link ≡ Some k → slice_get (changed_by link change xs) k ≡ option_map change (slice_get xs k)
get-changed_by change xs link k names = rw names (get-changed_at change xs k)

-- a record that the link does not name
pub get-changed_by-other : {T : Type 0} (change : T → T) (xs : List T) (link : Option ℕ) (k : ℕ) → link ≢ Some k → slice_get (changed_by link change xs) k ≡ slice_get xs k
get-changed_by-other change xs None k other = refl
get-changed_by-other change xs (Some j) k other = get-changed_at-other change xs j k (λ e. other (ap (λ n. Some n) e))

-- changing one keeps the number of records
length-changed_at : {T : Type 0} (change : T → T) (xs : List T) (k : ℕ) → length (changed_at k change xs) ≡ length xs
length-changed_at change [] k = refl
length-changed_at change (x ∷ xs) zero = refl
length-changed_at change (x ∷ xs) (suc k) = ap suc (length-changed_at change xs k)

-- changing the one that a link names keeps the number of records
pub length-changed_by : {T : Type 0} (change : T → T) (xs : List T) (link : Option ℕ) → length (changed_by link change xs) ≡ length xs
length-changed_by change xs None = refl
length-changed_by change xs (Some k) = length-changed_at change xs k

-- what a change keeps of a record is kept of all
map-changed_at : {T X : Type 0} (f : T → X) (change : T → T) (xs : List T) (k : ℕ) → ((x : T) → f (change x) ≡ f x) → map f (changed_at k change xs) ≡ map f xs
map-changed_at f change [] k keeps = refl
map-changed_at f change (x ∷ xs) zero keeps = ap (λ z. z ∷ map f xs) (keeps x)
map-changed_at f change (x ∷ xs) (suc k) keeps = ap (λ zs. f x ∷ zs) (map-changed_at f change xs k keeps)

-- what a change of the one that a link names keeps of a record is kept of all
pub map-changed_by : {T X : Type 0} (f : T → X) (change : T → T) (xs : List T) (link : Option ℕ) → ((x : T) → f (change x) ≡ f x) → map f (changed_by link change xs) ≡ map f xs
map-changed_by f change xs None keeps = refl
map-changed_by f change xs (Some k) keeps = map-changed_at f change xs k keeps

-- a field of a changed record
read-changed : {T : Type 0} (f : T → Option ℕ) (change : T → T) (value : Option ℕ) → ((x : T) → f (change x) ≡ value) → (xs : List T) (k : ℕ) → k < length xs → option_and_then f (option_map change (slice_get xs k)) ≡ value
read-changed f change value becomes [] k within = absurd (omega arith)
read-changed f change value becomes (x ∷ xs) zero within = becomes x
read-changed f change value becomes (x ∷ xs) (suc k) within = read-changed f change value becomes xs k (omega arith)

-- a field of the record that a link names, after it was changed to this
pub link_at-changed : {T : Type 0} (f : T → Option ℕ) (change : T → T) (xs : List T) (link value : Option ℕ) (k : ℕ) → link ≡ Some k → k < length xs → ((x : T) → f (change x) ≡ value) → link_at f (changed_by link change xs) k ≡ value
link_at-changed f change xs link value k names within becomes =
    rw (get-changed_by change xs link k names) (read-changed f change value becomes xs k within)

-- a field of a record that the link does not name
pub link_at-other : {T : Type 0} (f : T → Option ℕ) (change : T → T) (xs : List T) (link : Option ℕ) (k : ℕ) → link ≢ Some k → link_at f (changed_by link change xs) k ≡ link_at f xs k
link_at-other f change xs link k other = ap (λ r. option_and_then f r) (get-changed_by-other change xs link k other)

-- a link is read from the list of these links
link_at-map : {T : Type 0} (f : T → Option ℕ) (xs : List T) (k : ℕ) → link_at f xs k ≡ option_and_then (λ (l : Option ℕ). l) (slice_get (map f xs) k)
link_at-map f [] k = refl
link_at-map f (x ∷ xs) zero = refl
link_at-map f (x ∷ xs) (suc k) = link_at-map f xs k

-- where all these links are the same, each is
pub link_at-same : {T : Type 0} (f : T → Option ℕ) (xs ys : List T) (k : ℕ) → map f ys ≡ map f xs → link_at f ys k ≡ link_at f xs k
link_at-same f xs ys k same =
    link_at-map f ys k ∙ ap (λ links. option_and_then (λ (l : Option ℕ). l) (slice_get links k)) same ∙ sym (link_at-map f xs k)
