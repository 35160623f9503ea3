-- The entries of a cache whose rectangles have moved: they are all that another atlas has allocated, and each key that moved
-- is found among them.
use Rattle.std.proofs.Common.{◌≡◌, ℕ, ◌+◌, ◌≤◌, ◌==◌, Bool, true, false, cond, Option, Some, None, List, [], ◌∷◌, length, map, refl, ap, sym, ◌∙◌, subst, arith}
use Rattle.std.proofs.lemmas.Bool.{eqb-true}
use Rattle.std.specs.List.{AllByRecursion, cons_option, filter_map, find}
use Rattle.std.specs.Map.{keys_of, lookup, values_of}
use Rattle.std.specs.Prelude.{IfSome, nat_eq, option_map}
use Rattle.etagere_base.proofs.TimesLemmas.{hit}
use Rattle.etagere_base.specs.Lists.{times, total}
use Rattle.etagere_base.specs.declared.ids.Allocation.{Allocation}
use Rattle.shelf_model.specs.Callers.{AreTied, IsFound}
use Rattle.moves.specs.Atlases.Arranging.{moved_from, moved_to}
use Rattle.moves.specs.declared.atlases.rearrangement.Move.{Move}
use Rattle.moves.specs.Caches.Arranging.{moved_entry, new_allocation}
use Rattle.moves.proofs.MovedCaches.Found.{found-total, under, under-absent, under-each, weigh}

abbrev pub Entries : Type 0
Entries = List (ℕ × Allocation)

-- the ids of allocations
abbrev pub ids_of : List Allocation → List ℕ
ids_of all = map (λ (allocation : Allocation). allocation.id) all

-- old ids with what is allocated now, and ids with keys
abbrev pub moved_by_id : List Move → Entries
moved_by_id moves = map (λ (move : Move). (move.before.id, move.after)) moves

abbrev pub names : Entries → List (ℕ × ℕ)
names entries = map (λ (entry : ℕ × Allocation). (entry.1.id, entry.0)) entries

-- the entries that moved
abbrev pub moved : List Move → Entries → Entries
moved moves entries = filter_map (moved_entry moves) entries

-- ids of what moved, and of entries
pub moved_by_id-ids : (moves : List Move) → keys_of (moved_by_id moves) ≡ ids_of (moved_from moves)
moved_by_id-ids [] = refl
moved_by_id-ids (m ∷ ms) = ap (λ (l : List ℕ). m.before.id ∷ l) (moved_by_id-ids ms)

pub names-ids : (es : Entries) → keys_of (names es) ≡ ids_of (values_of es)
names-ids [] = refl
names-ids (e ∷ es) = ap (λ (l : List ℕ). e.1.id ∷ l) (names-ids es)

-- how often an id stands among the entries that moved
moved-ids : (moves : List Move) (id : ℕ) (es : Entries)
    → times id (ids_of (values_of (moved moves es)))
    ≡ total (λ (i : ℕ). weigh (λ (a : Allocation). hit a.id id) (under (moved_by_id moves) i)) (ids_of (values_of es))
moved-ids moves id [] = refl
moved-ids moves id (e ∷ es) =
    by_allocation (under (moved_by_id moves) e.1.id) (total (λ (i : ℕ). weigh (λ (a : Allocation). hit a.id id) (under (moved_by_id moves) i)) (ids_of (values_of es)))
    (moved-ids moves id es)
  where
    by_allocation : (o : Option Allocation) (n : ℕ) → times id (ids_of (values_of (moved moves es))) ≡ n
        → times id (ids_of (values_of (cons_option (option_map (λ (after : Allocation). (e.0, after)) o) (moved moves es))))
        ≡ weigh (λ (a : Allocation). hit a.id id) o + n
    by_allocation None n same = omega (arith, same)
    by_allocation (Some a) n same = ap (λ (k : ℕ). hit a.id id + k) same

-- and among what moved
moved_by_id-total : (moves : List Move) (id : ℕ) → total (λ (p : ℕ × Allocation). hit p.1.id id) (moved_by_id moves) ≡ times id (ids_of (moved_to moves))
moved_by_id-total [] id = refl
moved_by_id-total (m ∷ ms) id = ap (λ (k : ℕ). hit m.after.id id + k) (moved_by_id-total ms id)

-- what is found of each move
each-moved_by_id : (P : Allocation → Type 0) (moves : List Move) → AllByRecursion P (moved_to moves)
    → AllByRecursion (λ (p : ℕ × Allocation). P p.1) (moved_by_id moves)
each-moved_by_id P [] each = tt
each-moved_by_id P (m ∷ ms) each = (each.0, each-moved_by_id P ms each.1)

moved-each : (P : Allocation → Type 0) (moves : List Move) (es : Entries) → AllByRecursion P (moved_to moves)
    → AllByRecursion P (values_of (moved moves es))
moved-each P moves [] each = tt
moved-each P moves (e ∷ es) each =
    by_allocation (under (moved_by_id moves) e.1.id) (under-each P e.1.id (moved_by_id moves) (each-moved_by_id P moves each)) (moved-each P moves es each)
  where
    by_allocation : (o : Option Allocation) → IfSome o P → AllByRecursion P (values_of (moved moves es))
        → AllByRecursion P (values_of (cons_option (option_map (λ (after : Allocation). (e.0, after)) o) (moved moves es)))
    by_allocation None some rest = rest
    by_allocation (Some a) some rest = (some, rest)

-- the entries that moved are all that is allocated, where what moved is, and each id that moved stands once among entries
pub moved-tied : (moves : List Move) (es : Entries) (all : List Allocation) → AreTied (moved_to moves) all
    → AllByRecursion (λ (id : ℕ). times id (ids_of (values_of es)) ≡ 1) (ids_of (moved_from moves))
    → ((id : ℕ) → times id (ids_of (moved_from moves)) ≤ 1) → AreTied (values_of (moved moves es)) all
moved-tied moves es all tied each once =
    let same = moved_by_id-ids moves in
    record {
      found = moved-each (IsFound all) moves es tied.found;
      counted = λ id.
          tied.counted id
          ∙ sym (moved_by_id-total moves id)
          ∙ sym (found-total (λ (a : Allocation). hit a.id id) (moved_by_id moves) (ids_of (values_of es))
          (subst (AllByRecursion (λ (id : ℕ). times id (ids_of (values_of es)) ≡ 1)) (sym same) each)
          (λ id. subst (λ (l : List ℕ). times id l ≤ 1) (sym same) (once id)))
          ∙ sym (moved-ids moves id es);
    }

-- no key stands more often than before, and there are no more
pub moved-keys : (moves : List Move) (key : ℕ) (es : Entries) → times key (keys_of (moved moves es)) ≤ times key (keys_of es)
moved-keys moves key [] = omega arith
moved-keys moves key (e ∷ es) = by_allocation (under (moved_by_id moves) e.1.id) (moved-keys moves key es)
  where
    by_allocation : (o : Option Allocation) → times key (keys_of (moved moves es)) ≤ times key (keys_of es)
        → times key (keys_of (cons_option (option_map (λ (after : Allocation). (e.0, after)) o) (moved moves es))) ≤ times key (keys_of (e ∷ es))
    by_allocation None rest = omega (arith, rest)
    by_allocation (Some a) rest = omega (arith, rest)

pub moved-length : (moves : List Move) (es : Entries) → length (moved moves es) ≤ length es
moved-length moves [] = omega arith
moved-length moves (e ∷ es) = by_allocation (under (moved_by_id moves) e.1.id) (moved-length moves es)
  where
    by_allocation : (o : Option Allocation) → length (moved moves es) ≤ length es
        → length (cons_option (option_map (λ (after : Allocation). (e.0, after)) o) (moved moves es)) ≤ length (e ∷ es)
    by_allocation None rest = omega (arith, rest)
    by_allocation (Some a) rest = omega (arith, rest)

-- a key that is found stands there
found-stands : (key : ℕ) (a : Allocation) (es : Entries) → lookup (nat_eq key) es ≡ Some a → 1 ≤ times key (keys_of es)
found-stands key a [] found = absurd (cc)
found-stands key a (e ∷ es) found = by_test (nat_eq key e.0) (nat_eq e.0 key) (flipped key e.0) found (found-stands key a es)
  where
    flipped : (m n : ℕ) → nat_eq m n ≡ nat_eq n m
    flipped m n = grind arith

    by_test : (b c : Bool) → b ≡ c → cond b (Some e.1) (lookup (nat_eq key) es) ≡ Some a
        → (lookup (nat_eq key) es ≡ Some a → 1 ≤ times key (keys_of es)) → 1 ≤ cond c 1 0 + times key (keys_of es)
    by_test true true same h later = omega arith
    by_test true false same h later = absurd (cc)
    by_test false c same h later = omega (arith, later h)

-- what is found under one id is one allocation
same-found : (all : List Allocation) (a b : Allocation) → IsFound all a → IsFound all b → a.id ≡ b.id → a ≡ b
same-found all a b one two same =
    let both : Some a ≡ Some b = sym one ∙ ap (λ (id : ℕ). find (λ other. other.id == id) all) same ∙ two in
    cc

-- the key that stands under the id of something allocated is that of its entry
pub name-found : (all : List Allocation) (a : Allocation) (key : ℕ) (es : Entries) → IsFound all a
    → AllByRecursion (IsFound all) (values_of es) → ((key : ℕ) → times key (keys_of es) ≤ 1) → under (names es) a.id ≡ Some key
    → lookup (nat_eq key) es ≡ Some a
name-found all a key [] found each once is = absurd (cc)
name-found all a key (e ∷ es) found each once is =
    by_test (nat_eq a.id e.1.id) refl is (name-found all a key es found each.1 (λ key. omega (arith, once key)))
  where
    here : (b : Bool) → b ≡ true → cond b (Some a) (lookup (nat_eq key) es) ≡ Some a
    here true h = refl
    here false h = absurd (cc)

    reflexive : (m n : ℕ) → m ≡ n → nat_eq m n ≡ true
    reflexive m n same = grind arith

    apart : (m n k : ℕ) → 1 ≤ k → cond (nat_eq n m) 1 0 + k ≤ 1 → nat_eq m n ≡ false
    apart m n k some few = grind arith

    later : (b : Bool) → b ≡ false → lookup (nat_eq key) es ≡ Some a → cond b (Some e.1) (lookup (nat_eq key) es) ≡ Some a
    later true h rest = absurd (cc)
    later false h rest = rest

    by_test : (b : Bool) → nat_eq a.id e.1.id ≡ b → cond b (Some e.0) (under (names es) a.id) ≡ Some key
        → (under (names es) a.id ≡ Some key → lookup (nat_eq key) es ≡ Some a)
        → cond (nat_eq key e.0) (Some e.1) (lookup (nat_eq key) es) ≡ Some a
    by_test true same h rest =
        let name : key ≡ e.0 = cc in
        let one : e.1 ≡ a = sym (same-found all a e.1 found each.0 (eqb-true a.id e.1.id same)) in
        rw one (here (nat_eq key e.0) (reflexive key e.0 name))
    by_test false other h rest =
        later (nat_eq key e.0) (apart key e.0 (times key (keys_of es)) (found-stands key a es (rest h)) (once key)) (rest h)

-- an entry that moved is found where it is now
pub moved-found : (moves : List Move) (key : ℕ) (before after : Allocation) (es : Entries) → lookup (nat_eq key) es ≡ Some before
    → new_allocation moves before.id ≡ Some after → lookup (nat_eq key) (moved moves es) ≡ Some after
moved-found moves key before after [] found is = absurd (cc)
moved-found moves key before after (e ∷ es) found is =
    by_test (nat_eq key e.0) refl found (λ h. moved-found moves key before after es h is)
  where
    skipped : (o : Option Allocation) (b : Bool) → nat_eq key e.0 ≡ b → b ≡ false
        → lookup (nat_eq key) (cons_option (option_map (λ (after : Allocation). (e.0, after)) o) (moved moves es))
        ≡ lookup (nat_eq key) (moved moves es)
    skipped None b is none = refl
    skipped (Some a) b is none = rw (is, none) refl

    by_test : (b : Bool) → nat_eq key e.0 ≡ b → cond b (Some e.1) (lookup (nat_eq key) es) ≡ Some before
        → (lookup (nat_eq key) es ≡ Some before → lookup (nat_eq key) (moved moves es) ≡ Some after)
        → lookup (nat_eq key) (cons_option (moved_entry moves e) (moved moves es)) ≡ Some after
    by_test true same h rest =
        let one : e.1 ≡ before = cc in
        let some : new_allocation moves e.1.id ≡ Some after = ap (λ (a : Allocation). new_allocation moves a.id) one ∙ is in
        rw (some, same) refl
    by_test false other h rest = skipped (new_allocation moves e.1.id) false other refl ∙ rest h

-- one that was left is not found
pub left-found : (moves : List Move) (key : ℕ) (before : Allocation) (es : Entries) → lookup (nat_eq key) es ≡ Some before
    → ((key : ℕ) → times key (keys_of es) ≤ 1) → new_allocation moves before.id ≡ None → lookup (nat_eq key) (moved moves es) ≡ None
left-found moves key before [] found once is = refl
left-found moves key before (e ∷ es) found once is =
    by_test (nat_eq key e.0) refl found (λ h. left-found moves key before es h (λ key. omega (arith, once key)) is)
  where
    absent : (es : Entries) → times key (keys_of es) ≡ 0 → lookup (nat_eq key) es ≡ None
    absent es none = under-absent key es none

    alone : (m n k : ℕ) → nat_eq m n ≡ true → cond (nat_eq n m) 1 0 + k ≤ 1 → k ≡ 0
    alone m n k same few = grind arith

    skipped : (o : Option Allocation) → nat_eq key e.0 ≡ false
        → lookup (nat_eq key) (cons_option (option_map (λ (after : Allocation). (e.0, after)) o) (moved moves es))
        ≡ lookup (nat_eq key) (moved moves es)
    skipped None none = refl
    skipped (Some a) none = rw none refl

    by_test : (b : Bool) → nat_eq key e.0 ≡ b → cond b (Some e.1) (lookup (nat_eq key) es) ≡ Some before
        → (lookup (nat_eq key) es ≡ Some before → lookup (nat_eq key) (moved moves es) ≡ None)
        → lookup (nat_eq key) (cons_option (moved_entry moves e) (moved moves es)) ≡ None
    by_test true same h rest =
        let one : e.1 ≡ before = cc in
        let none : new_allocation moves e.1.id ≡ None = ap (λ (a : Allocation). new_allocation moves a.id) one ∙ is in
        let gone = moved-keys moves key es in
        rw none (absent (moved moves es) (omega (arith, gone, alone key e.0 (times key (keys_of es)) same (once key))))
    by_test false other h rest = skipped (new_allocation moves e.1.id) other ∙ rest h
