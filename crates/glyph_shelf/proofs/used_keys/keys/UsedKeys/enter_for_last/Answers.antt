use Rattle.std.proofs.Common.{◌≡◌, ◌-◌, ℕ, Result, Ok, Err, OnOk, OnErr, length, nat_eq, ap, sym, ◌∙◌, subst, arith}
use Rattle.std.specs.Map.{lookup}
use Rattle.lru.specs.LruCache.{LruCache}
use Rattle.glyph_shelf.specs.declared.used_keys.stamps.Entry.{Entry}
use Rattle.glyph_shelf.specs.UsedKeys.Keys.{KeysState, entered, without_last}
use Rattle.glyph_shelf.specs.UsedKeys.Private.Stamps.{AreFalling}
use Rattle.glyph_shelf.proofs.UsedKeys.BareEntries.{length-bare, unknown-bare}
use Rattle.glyph_shelf.proofs.UsedKeys.StampLemmas.{falling-take}
use Rattle.glyph_shelf.proofs.UsedKeys.StateLemmas.{put-for_last, state_of}
use Rattle.glyph_shelf.proofs.used_keys.keys.UsedKeys.enter_for_last.Goals as goal

in_either : {A B X : Type 0} (P : X → Type 0) (r : Result A B) (new one two : X) → OnOk r (new ≡ one) → OnErr r (new ≡ two)
    → P one → P two → P new
in_either P (Ok a) new one two ok err in_one in_two = subst P (sym ok) in_one
in_either P (Err b) new one two ok err in_one in_two = subst P (sym err) in_two

in_ok : {A B P Q : Type 0} (r : Result A B) → OnOk r P → (P → Q) → OnOk r Q
in_ok (Ok a) holds then = then holds
in_ok (Err b) holds then = tt

pub put_first-requires : goal.put_first-requires
put_first-requires c =
    unknown-bare (nat_eq c.args.key) c.self.inside.entries.entries
    (ap (λ (s : KeysState). lookup (nat_eq c.args.key) s.entries) c.self.view_is ∙ c.requires.new)

pub invariant_of-self : goal.invariant_of-self
invariant_of-self c =
    let frame = c.self.inside.frame in
    let es = c.self.inside.entries.entries in
    in_either (λ (l : LruCache ℕ Entry). AreFalling frame l.entries) c.put_first.result c.put_first.new.entries _ _
    c.put_first.ensures.ok c.put_first.ensures.err
    (omega arith, falling-take (c.self.inside.entries.cap - 1) frame es c.self.invariant) c.self.invariant

pub returns-clause-ok : goal.returns-clause-ok
returns-clause-ok c =
    let inside = c.self.inside in
    let full : length inside.entries.entries ≡ inside.entries.cap =
    sym (length-bare inside.entries.entries) ∙ ap (λ (s : KeysState). length s.entries) c.self.view_is ∙ c.requires.full
    ∙ sym (ap (λ (s : KeysState). s.cap) c.self.view_is) in
    in_ok c.put_first.result c.put_first.ensures.ok
    (λ put. ap (λ (l : LruCache ℕ Entry). state_of l.entries l.cap inside.frame) put
    ∙ put-for_last inside.frame c.args.key inside.entries.cap c.args.allocation inside.entries.entries full
    ∙ ap (λ (s : KeysState). entered (without_last s) c.args.key c.args.allocation) c.self.view_is)
