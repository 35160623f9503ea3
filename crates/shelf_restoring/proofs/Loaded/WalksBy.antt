-- A walk along the bits of links is a walk through the records.
use Rattle.std.proofs.Common.{◌≡◌, ℕ, Bool, Option, List, [], ◌++◌, length, map, ap, subst, ◌∙◌}
use Rattle.std.proofs.lemmas.List.{length-map}
use Rattle.etagere_links.specs.declared.marking.WalkFault.{WalkFault}
use Rattle.etagere_links.specs.Links.{bits_of}
use Rattle.etagere_links.specs.Marks.{IsMarkedBy}
use Rattle.etagere_links.specs.Walks.{walk_by, Walked, walk}
use Rattle.etagere_links.specs.WalkFaults.{BreaksOff}

-- the walk is that through the records
pub walks-by : {T : Type 0} (link : T → Option ℕ) (records : List T) (start : Option ℕ) (links : List ℕ) (bits : ℕ)
    → links ≡ map (λ (here : T). bits_of (link here)) records → bits ≡ bits_of start → walk links bits ≡ walk_by link records start
walks-by {T} link records start links bits are is =
    ap (λ (ls : List ℕ). walk ls bits) are ∙ ap (λ (b : ℕ). walk (map (λ (here : T). bits_of (link here)) records) b) is

-- there are as many links as records
pub links-length : {T : Type 0} (link : T → Option ℕ) (records : List T) (links : List ℕ)
    → links ≡ map (λ (here : T). bits_of (link here)) records → length links ≡ length records
links-length {T} link records links are = ap length are ∙ length-map records (λ (here : T). bits_of (link here))

-- what it is refused for
pub breaks-by : {T : Type 0} (link : T → Option ℕ) (records : List T) (start : Option ℕ) (links : List ℕ) (bits : ℕ) (marks : List Bool) (fault : WalkFault)
    → links ≡ map (λ (here : T). bits_of (link here)) records → bits ≡ bits_of start
    → BreaksOff marks (length links) (walk links bits) fault → BreaksOff marks (length records) (walk_by link records start) fault
breaks-by link records start links bits marks fault are is breaks =
    subst (λ (w : Walked). BreaksOff marks (length records) w fault) (walks-by link records start links bits are is)
    (subst (λ (n : ℕ). BreaksOff marks n (walk links bits) fault) (links-length link records links are) breaks)

-- what two walks met is marked
pub both-marked : {T : Type 0} (link : T → Option ℕ) (records : List T) (first second : Option ℕ) (links : List ℕ) (bits other_bits : ℕ) (marks marks_then marks_last : List Bool)
    → links ≡ map (λ (here : T). bits_of (link here)) records → bits ≡ bits_of first → other_bits ≡ bits_of second → IsMarkedBy marks []
    → ((numbers : List ℕ) → IsMarkedBy marks numbers → IsMarkedBy marks_then (numbers ++ (walk links bits).met))
    → ((numbers : List ℕ) → IsMarkedBy marks_then numbers → IsMarkedBy marks_last (numbers ++ (walk links other_bits).met))
    → IsMarkedBy marks_last ((walk_by link records first).met ++ (walk_by link records second).met)
both-marked link records first second links bits other_bits marks marks_then marks_last are is other unmarked one two =
    subst (λ (w : Walked). IsMarkedBy marks_last ((walk_by link records first).met ++ w.met)) (walks-by link records second links other_bits are other)
    (two (walk_by link records first).met
    (subst (λ (w : Walked). IsMarkedBy marks_then w.met) (walks-by link records first links bits are is) (one [] unmarked)))
