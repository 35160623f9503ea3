-- What becomes of the state of used keys, by their entries.
use Rattle.std.proofs.Common.{◌≡◌, ℕ, suc, ◌+◌, ◌-◌, ◌≤◌, ◌==◌, Bool, true, false, cond, Option, Some, None, List, ◌∷◌, length, take, refl, ap, sym, ◌∙◌, arith}
use Rattle.std.proofs.lemmas.Bool.Decides.{nat_tests}
use Rattle.std.specs.Map.{lookup, lookup_entry, remove_entry}
use Rattle.std.specs.Option.{option_map_or}
use Rattle.std.specs.Prelude.{is_some, min, nat_eq, option_map}
use Rattle.etagere_base.specs.declared.ids.Allocation.{Allocation}
use Rattle.glyph_shelf.specs.declared.used_keys.stamps.Entry.{Entry}
use Rattle.glyph_shelf.specs.UsedKeys.Keys.{KeysState, entered, framed, looked, stands_first, uses_with, uses_without, without, without_last}
use Rattle.glyph_shelf.specs.UsedKeys.Private.Stamps.{AreFalling, stamped_first, unstamped, used_in, with_stamp}
use Rattle.glyph_shelf.proofs.UsedKeys.BareEntries.{length-bare, lookup-bare, promoted-bare, removed-bare, take-bare}
use Rattle.glyph_shelf.proofs.UsedKeys.Entries.{lookup-entry, promoted-unknown, removed-unknown, unknown-take}
use Rattle.glyph_shelf.proofs.UsedKeys.StampLemmas.{falling-removed, stamped-found, stamped-none, stamped-removed, stamped-take}

-- the uses of a frame, if it is one
abbrev uses_of : ℕ → ℕ → Option ℕ
uses_of frame count = cond (frame == 0) None (Some count)

-- the state of entries that are stamped up to a frame
abbrev pub state_of : List (ℕ × Entry) → ℕ → ℕ → KeysState
state_of es cap frame = record { entries = unstamped es; cap = cap; uses = uses_of frame (stamped_first frame es) }

-- a key that is used
used-falls : (frame key : ℕ) (es : List (ℕ × Entry)) → AreFalling frame es → AreFalling frame (used_in frame key es)
used-falls frame key es falling = by_entry (lookup_entry (nat_eq key) es)
  where
    by_entry : (o : Option (ℕ × Entry))
        → AreFalling frame (option_map_or (λ e. with_stamp frame e ∷ remove_entry (nat_eq key) es) o es)
    by_entry None = falling
    by_entry (Some e) = (omega arith, falling-removed (nat_eq key) frame es falling)

-- the uses of one that is there
uses-used : (frame key : ℕ) (es : List (ℕ × Entry)) (e : Entry) → AreFalling frame es → lookup (nat_eq key) es ≡ Some e
    → suc (stamped_first frame (remove_entry (nat_eq key) es)) ≡ uses_with key (unstamped es) (stamped_first frame es)
uses-used frame key es e falling found =
    let there : is_some (lookup (nat_eq key) (unstamped es)) ≡ true = ap is_some (lookup-bare (nat_eq key) es ∙ ap (option_map (λ (x : Entry). x.allocation)) found) in
    by_stamp (e.frame == frame) (stamped-found (nat_eq key) frame es e falling found)
    (stamped-removed (nat_eq key) frame es e falling found) (is_some (lookup (nat_eq key) (unstamped es))) there
  where
    by_stamp : (b : Bool) → stands_first key (unstamped es) (stamped_first frame es) ≡ b
        → stamped_first frame es ≡ stamped_first frame (remove_entry (nat_eq key) es) + cond b 1 0
        → (there : Bool) → there ≡ true
        → suc (stamped_first frame (remove_entry (nat_eq key) es))
        ≡ cond (stands_first key (unstamped es) (stamped_first frame es)) (stamped_first frame es) (cond there (suc (stamped_first frame es)) (stamped_first frame es))
    by_stamp true among counted there is = rw among (omega arith)
    by_stamp false among counted true is = rw among (omega arith)
    by_stamp false among counted false is = absurd (cc)

-- the uses where it isn't
uses-unknown : (frame key : ℕ) (es : List (ℕ × Entry)) → lookup (nat_eq key) es ≡ None
    → uses_with key (unstamped es) (stamped_first frame es) ≡ stamped_first frame es
uses-unknown frame key es unknown =
    let bare_unknown : lookup (nat_eq key) (unstamped es) ≡ None = lookup-bare (nat_eq key) es ∙ ap (option_map (λ (x : Entry). x.allocation)) unknown in
    let among : stands_first key (unstamped es) (stamped_first frame es) ≡ false =
    ap is_some (unknown-take (nat_eq key) (stamped_first frame es) (unstamped es) bare_unknown) in
    rw (among, bare_unknown) refl

mapped : (frame : ℕ) (f : ℕ → ℕ) (count : ℕ) → uses_of frame (f count) ≡ option_map f (uses_of frame count)
mapped frame f count = elim (frame == 0) as (λ b. cond b None (Some (f count)) ≡ option_map f (cond b None (Some count))) [ true ↦ refl | false ↦ refl ]

abbrev keys : List (ℕ × Allocation) → ℕ → Option ℕ → KeysState
keys entries cap uses = record { entries = entries; cap = cap; uses = uses }

parts : {entries other : List (ℕ × Allocation)} {uses another : Option ℕ} (cap : ℕ) → entries ≡ other → uses ≡ another
    → keys entries cap uses ≡ keys other cap another
parts {entries} {other} {uses} {another} cap one two =
    ap (λ (l : List (ℕ × Allocation)). keys l cap uses) one ∙ ap (keys other cap) two

pub used-looked : (frame key cap : ℕ) (es : List (ℕ × Entry)) → AreFalling frame es
    → state_of (used_in frame key es) cap frame ≡ looked (state_of es cap frame) key
used-looked frame key cap es falling = by_entry (lookup_entry (nat_eq key) es) refl (lookup-entry (nat_eq key) es)
  where
    by_entry : (o : Option (ℕ × Entry)) → lookup_entry (nat_eq key) es ≡ o
        → lookup (nat_eq key) es ≡ option_map (λ (f : ℕ × Entry). f.1) o
        → state_of (option_map_or (λ e. with_stamp frame e ∷ remove_entry (nat_eq key) es) o es) cap frame ≡ looked (state_of es cap frame) key
    by_entry None at found =
        let bare_unknown : lookup (nat_eq key) (unstamped es) ≡ None = lookup-bare (nat_eq key) es ∙ ap (option_map (λ (x : Entry). x.allocation)) found in
        parts cap (sym (promoted-unknown (nat_eq key) (unstamped es) bare_unknown))
        (ap (uses_of frame) (sym (uses-unknown frame key es found)) ∙ mapped frame (uses_with key (unstamped es)) (stamped_first frame es))
    by_entry (Some e) at found =
        let own : (frame == frame) ≡ true = grind (arith, nat_tests) in
        parts cap (sym (promoted-bare (nat_eq key) es e at))
        (ap (λ (b : Bool). uses_of frame (cond b (suc (stamped_first frame (remove_entry (nat_eq key) es))) 0)) own
        ∙ ap (uses_of frame) (uses-used frame key es e.1 falling found)
        ∙ mapped frame (uses_with key (unstamped es)) (stamped_first frame es))

pub used-stamped : (frame key : ℕ) (es : List (ℕ × Entry)) → AreFalling frame es → AreFalling frame (used_in frame key es)
used-stamped = used-falls

-- a key that goes
pub removed-without : (frame key cap : ℕ) (es : List (ℕ × Entry)) (e : Entry) → AreFalling frame es → lookup (nat_eq key) es ≡ Some e
    → state_of (remove_entry (nat_eq key) es) cap frame ≡ without (state_of es cap frame) key
removed-without frame key cap es e falling found =
    let there : lookup (nat_eq key) (unstamped es) ≡ Some e.allocation = lookup-bare (nat_eq key) es ∙ ap (option_map (λ (x : Entry). x.allocation)) found in
    parts cap (removed-bare (nat_eq key) es)
    (ap (uses_of frame) (by_stamp (e.frame == frame) (stamped-found (nat_eq key) frame es e falling found) (stamped-removed (nat_eq key) frame es e falling found))
    ∙ mapped frame (uses_without key (unstamped es)) (stamped_first frame es))
    ∙ sym (ap (λ (o : Option Allocation). option_map_or
    (λ (a : Allocation). record { entries = remove_entry (nat_eq key) (unstamped es); cap = cap; uses = option_map (uses_without key (unstamped es)) (uses_of frame (stamped_first frame es)) })
    o (state_of es cap frame)) there)
  where
    by_stamp : (b : Bool) → stands_first key (unstamped es) (stamped_first frame es) ≡ b
        → stamped_first frame es ≡ stamped_first frame (remove_entry (nat_eq key) es) + cond b 1 0
        → stamped_first frame (remove_entry (nat_eq key) es) ≡ uses_without key (unstamped es) (stamped_first frame es)
    by_stamp true among counted = rw among (omega arith)
    by_stamp false among counted = rw among (omega arith)

-- a key that isn't there doesn't
pub unknown-without : (frame key cap : ℕ) (es : List (ℕ × Entry)) → lookup (nat_eq key) es ≡ None
    → state_of (remove_entry (nat_eq key) es) cap frame ≡ without (state_of es cap frame) key
unknown-without frame key cap es unknown =
    let there : lookup (nat_eq key) (unstamped es) ≡ None = lookup-bare (nat_eq key) es ∙ ap (option_map (λ (x : Entry). x.allocation)) unknown in
    ap (λ (l : List (ℕ × Entry)). state_of l cap frame) (removed-unknown (nat_eq key) es unknown)
    ∙ sym (ap (λ (o : Option Allocation). option_map_or
    (λ (a : Allocation). record { entries = remove_entry (nat_eq key) (unstamped es); cap = cap; uses = option_map (uses_without key (unstamped es)) (uses_of frame (stamped_first frame es)) })
    o (state_of es cap frame)) there)

-- the last entry goes
pub popped-without : (frame cap : ℕ) (es : List (ℕ × Entry))
    → state_of (take (length es - 1) es) cap frame ≡ without_last (state_of es cap frame)
popped-without frame cap es =
    let short : length es - 1 ≡ length (unstamped es) - 1 = ap (λ (n : ℕ). n - 1) (sym (length-bare es)) in
    ap (λ (n : ℕ). state_of (take n es) cap frame) short
    ∙ parts cap (take-bare (length (unstamped es) - 1) es)
    (ap (uses_of frame) (stamped-take frame (length (unstamped es) - 1) es)
    ∙ mapped frame (min (length (unstamped es) - 1)) (stamped_first frame es))

-- a new key is put in front
put-entered : (frame key cap : ℕ) (a : Allocation) (es : List (ℕ × Entry))
    → state_of ((key, record { allocation = a; frame = frame }) ∷ es) cap frame ≡ entered (state_of es cap frame) key a
put-entered frame key cap a es =
    let own : (frame == frame) ≡ true = grind (arith, nat_tests) in
    parts cap refl
    (ap (λ (b : Bool). uses_of frame (cond b (suc (stamped_first frame es)) 0)) own ∙ mapped frame suc (stamped_first frame es))

-- where there is no room for it, the last entry goes
pub put-for_last : (frame key cap : ℕ) (a : Allocation) (es : List (ℕ × Entry)) → length es ≡ cap
    → state_of ((key, record { allocation = a; frame = frame }) ∷ take (cap - 1) es) cap frame
    ≡ entered (without_last (state_of es cap frame)) key a
put-for_last frame key cap a es full =
    ap (λ (n : ℕ). state_of ((key, record { allocation = a; frame = frame }) ∷ take (n - 1) es) cap frame) (sym full)
    ∙ put-entered frame key cap a (take (length es - 1) es)
    ∙ ap (λ (s : KeysState). entered s key a) (popped-without frame cap es)

-- a frame begins
pub begun-framed : (frame old cap : ℕ) (es before : List (ℕ × Entry)) → 1 ≤ frame → AreFalling (frame - 1) es
    → unstamped es ≡ unstamped before → state_of es cap frame ≡ framed (state_of before cap old)
begun-framed frame old cap es before some falling same =
    let begun : (frame == 0) ≡ false = grind (arith, nat_tests) in
    let none : stamped_first frame es ≡ 0 = stamped-none (frame - 1) frame es falling (omega arith) in
    parts cap same (rw (begun, none) refl)
