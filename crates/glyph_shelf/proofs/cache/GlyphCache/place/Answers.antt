use Rattle.std.proofs.Common.{◌≡◌, ◌≤◌, None, length, nat_eq, true, ap, sym, ◌∙◌, subst, arith}
use Rattle.std.specs.Map.{lookup}
use Rattle.std.specs.Prelude.{is_some}
use Rattle.glyph_shelf.specs.Cache.{CacheState, evictable, rectangle_at}
use Rattle.glyph_shelf.specs.Placing.{Enters, IsFrameFull, IsNew, Places, RanOut, SameLayout, has_room}
use Rattle.glyph_shelf.specs.Promises.{KeepsCachePromises}
use Rattle.glyph_shelf.proofs.Evicting.{places-none, ran_out-none}
use Rattle.glyph_shelf.proofs.Fitting.{large-none}
use Rattle.glyph_shelf.proofs.FullFrames.{full-places}
use Rattle.glyph_shelf.proofs.Keeping.{looked-unknown, unknown-rectangle}
use Rattle.glyph_shelf.proofs.cache.GlyphCache.place.Goals as goal

pub enter-requires : goal.enter-requires
enter-requires c =
    let kept = c.self.inside.kept in
    let none : rectangle_at kept c.args.key ≡ None = sym c.look.ensures.value ∙ c.in_default.is in
    ap (λ (s : CacheState). lookup (nat_eq c.args.key) s.entries) (looked-unknown kept c.look.new.self c.args.key none c.look.ensures.used)
    ∙ unknown-rectangle kept c.args.key none

pub returns-in_default-enter-clause-too_large : goal.returns-in_default-enter-clause-too_large
returns-in_default-enter-clause-too_large c =
    let none : rectangle_at c.self.inside.kept c.args.key ≡ None = sym c.look.ensures.value ∙ c.in_default.is in
    let same : c.look.new.self ≡ c.args.self.now =
    looked-unknown c.self.inside.kept c.look.new.self c.args.key none c.look.ensures.used ∙ c.self.view_is in
    let room : has_room c.args.self.now c.args.size ≡ true =
    ap (λ (s : CacheState). has_room s c.args.size) (sym same) ∙ c.in_default-enter.ensures.err_room in
    (λ is. absurd (cc), λ large. absurd (large-none c.args.self.now c.args.size (subst KeepsCachePromises same c.look.ensures.promises) large.1 room))

pub returns-in_default-enter-clause-left : goal.returns-in_default-enter-clause-left
returns-in_default-enter-clause-left c =
    let none : rectangle_at c.self.inside.kept c.args.key ≡ None = sym c.look.ensures.value ∙ c.in_default.is in
    let same : c.look.new.self ≡ c.args.self.now =
    looked-unknown c.self.inside.kept c.look.new.self c.args.key none c.look.ensures.used ∙ c.self.view_is in
    let room : has_room c.args.self.now c.args.size ≡ true =
    ap (λ (s : CacheState). has_room s c.args.size) (sym same) ∙ c.in_default-enter.ensures.err_room in
    ran_out-none c.args.self.now c.enter.new.self c.args.size _ c.new-evicted.ensures.items room
    (subst (λ (s : CacheState). SameLayout s c.enter.new.self) same c.in_default-enter.ensures.err)

pub returns-in_default-enter-clause-spared_left : goal.returns-in_default-enter-clause-spared_left
returns-in_default-enter-clause-spared_left c =
    omega (arith, ap length c.new-evicted.ensures.items)

pub returns-in_default-enter-clause-full : goal.returns-in_default-enter-clause-full
returns-in_default-enter-clause-full c =
    let none : rectangle_at c.self.inside.kept c.args.key ≡ None = sym c.look.ensures.value ∙ c.in_default.is in
    let same : c.look.new.self ≡ c.args.self.now =
    looked-unknown c.self.inside.kept c.look.new.self c.args.key none c.look.ensures.used ∙ c.self.view_is in
    let room : has_room c.args.self.now c.args.size ≡ true =
    ap (λ (s : CacheState). has_room s c.args.size) (sym same) ∙ c.in_default-enter.ensures.err_room in
    λ new full. let lacks = full 0 (omega arith) in absurd (cc)

pub returns-in-Some-entered-clause-placed : goal.returns-in-Some-entered-clause-placed
returns-in-Some-entered-clause-placed c =
    let none : rectangle_at c.self.inside.kept c.args.key ≡ None = sym c.look.ensures.value ∙ c.in_default.is in
    let same : c.look.new.self ≡ c.args.self.now =
    looked-unknown c.self.inside.kept c.look.new.self c.args.key none c.look.ensures.used ∙ c.self.view_is in
    let room : has_room c.args.self.now c.args.size ≡ true =
    ap (λ (s : CacheState). has_room s c.args.size) (sym same) ∙ sym c.in-Ok.ensures.room ∙ ap is_some c.in-Some-entered.is in
    λ new. places-none c.args.self.now c.args.key c.args.size c.in-Some-entered.rectangle _ c.enter.new.self c.new-evicted.ensures.items room
    (subst (λ (s : CacheState). Enters s c.args.key c.args.size c.in-Some-entered.rectangle c.enter.new.self) same (rw c.in-Some-entered.is at c.in-Ok.ensures.entered))

pub returns-in-Some-entered-clause-too_large : goal.returns-in-Some-entered-clause-too_large
returns-in-Some-entered-clause-too_large c =
    let none : rectangle_at c.self.inside.kept c.args.key ≡ None = sym c.look.ensures.value ∙ c.in_default.is in
    let same : c.look.new.self ≡ c.args.self.now =
    looked-unknown c.self.inside.kept c.look.new.self c.args.key none c.look.ensures.used ∙ c.self.view_is in
    let room : has_room c.args.self.now c.args.size ≡ true =
    ap (λ (s : CacheState). has_room s c.args.size) (sym same) ∙ sym c.in-Ok.ensures.room ∙ ap is_some c.in-Some-entered.is in
    (λ is. absurd (cc), λ large. absurd (large-none c.args.self.now c.args.size (subst KeepsCachePromises same c.look.ensures.promises) large.1 room))

pub returns-in-Some-entered-clause-spared : goal.returns-in-Some-entered-clause-spared
returns-in-Some-entered-clause-spared c =
    omega (arith, ap length c.new-evicted.ensures.items)

pub returns-in-Some-entered-clause-full : goal.returns-in-Some-entered-clause-full
returns-in-Some-entered-clause-full c =
    let none : rectangle_at c.self.inside.kept c.args.key ≡ None = sym c.look.ensures.value ∙ c.in_default.is in
    let same : c.look.new.self ≡ c.args.self.now =
    looked-unknown c.self.inside.kept c.look.new.self c.args.key none c.look.ensures.used ∙ c.self.view_is in
    let room : has_room c.args.self.now c.args.size ≡ true =
    ap (λ (s : CacheState). has_room s c.args.size) (sym same) ∙ sym c.in-Ok.ensures.room ∙ ap is_some c.in-Some-entered.is in
    λ new full. let lacks = full 0 (omega arith) in absurd (cc)

pub returns-then-not-fits_when_empty-clause-left : goal.returns-then-not-fits_when_empty-clause-left
returns-then-not-fits_when_empty-clause-left c =
    let none : rectangle_at c.self.inside.kept c.args.key ≡ None = sym c.look.ensures.value ∙ c.in_default.is in
    let same : c.look.new.self ≡ c.args.self.now =
    looked-unknown c.self.inside.kept c.look.new.self c.args.key none c.look.ensures.used ∙ c.self.view_is in
    let entered_none : c.enter.new.self ≡ c.look.new.self = rw c.in_default-entered.is at c.in-Ok.ensures.none in
    let still : c.enter.new.self ≡ c.args.self.now = entered_none ∙ same in
    still

pub returns-then-not-fits_when_empty-clause-full : goal.returns-then-not-fits_when_empty-clause-full
returns-then-not-fits_when_empty-clause-full c =
    let none : rectangle_at c.self.inside.kept c.args.key ≡ None = sym c.look.ensures.value ∙ c.in_default.is in
    let same : c.look.new.self ≡ c.args.self.now =
    looked-unknown c.self.inside.kept c.look.new.self c.args.key none c.look.ensures.used ∙ c.self.view_is in
    let entered_none : c.enter.new.self ≡ c.look.new.self = rw c.in_default-entered.is at c.in-Ok.ensures.none in
    let still : c.enter.new.self ≡ c.args.self.now = entered_none ∙ same in
    λ new full. (tt, still)

pub evict_and_enter-requires-clause-new : goal.evict_and_enter-requires-clause-new
evict_and_enter-requires-clause-new c =
    let none : rectangle_at c.self.inside.kept c.args.key ≡ None = sym c.look.ensures.value ∙ c.in_default.is in
    let same : c.look.new.self ≡ c.args.self.now =
    looked-unknown c.self.inside.kept c.look.new.self c.args.key none c.look.ensures.used ∙ c.self.view_is in
    let entered_none : c.enter.new.self ≡ c.look.new.self = rw c.in_default-entered.is at c.in-Ok.ensures.none in
    ap (λ (s : CacheState). lookup (nat_eq c.args.key) s.entries) (entered_none ∙ looked-unknown c.self.inside.kept c.look.new.self c.args.key none c.look.ensures.used)
    ∙ unknown-rectangle c.self.inside.kept c.args.key none

pub evict_and_enter-requires-clause-full : goal.evict_and_enter-requires-clause-full
evict_and_enter-requires-clause-full c =
    let entered_none : c.enter.new.self ≡ c.look.new.self = rw c.in_default-entered.is at c.in-Ok.ensures.none in
    ap (λ (s : CacheState). has_room s c.args.size) entered_none ∙ sym c.in-Ok.ensures.room ∙ ap is_some c.in_default-entered.is

pub returns-in_default-evict_and_enter-clause-left : goal.returns-in_default-evict_and_enter-clause-left
returns-in_default-evict_and_enter-clause-left c =
    let none : rectangle_at c.self.inside.kept c.args.key ≡ None = sym c.look.ensures.value ∙ c.in_default.is in
    let same : c.look.new.self ≡ c.args.self.now =
    looked-unknown c.self.inside.kept c.look.new.self c.args.key none c.look.ensures.used ∙ c.self.view_is in
    let entered_none : c.enter.new.self ≡ c.look.new.self = rw c.in_default-entered.is at c.in-Ok.ensures.none in
    let still : c.enter.new.self ≡ c.args.self.now = entered_none ∙ same in
    subst (λ (s : CacheState). RanOut s c.args.size c.evict_and_enter.new.evicted.items c.evict_and_enter.new.self) still
    c.in_default-evict_and_enter.ensures.err

pub returns-in_default-evict_and_enter-clause-spared_left : goal.returns-in_default-evict_and_enter-clause-spared_left
returns-in_default-evict_and_enter-clause-spared_left c =
    let none : rectangle_at c.self.inside.kept c.args.key ≡ None = sym c.look.ensures.value ∙ c.in_default.is in
    let same : c.look.new.self ≡ c.args.self.now =
    looked-unknown c.self.inside.kept c.look.new.self c.args.key none c.look.ensures.used ∙ c.self.view_is in
    let entered_none : c.enter.new.self ≡ c.look.new.self = rw c.in_default-entered.is at c.in-Ok.ensures.none in
    let still : c.enter.new.self ≡ c.args.self.now = entered_none ∙ same in
    subst (λ (s : CacheState). length c.evict_and_enter.new.evicted.items ≤ evictable s) still c.evict_and_enter.ensures.spared

pub returns-in_default-evict_and_enter-clause-full : goal.returns-in_default-evict_and_enter-clause-full
returns-in_default-evict_and_enter-clause-full c =
    let none : rectangle_at c.self.inside.kept c.args.key ≡ None = sym c.look.ensures.value ∙ c.in_default.is in
    let same : c.look.new.self ≡ c.args.self.now =
    looked-unknown c.self.inside.kept c.look.new.self c.args.key none c.look.ensures.used ∙ c.self.view_is in
    let entered_none : c.enter.new.self ≡ c.look.new.self = rw c.in_default-entered.is at c.in-Ok.ensures.none in
    let still : c.enter.new.self ≡ c.args.self.now = entered_none ∙ same in
    λ new full.
    let kept = c.in_default-evict_and_enter.ensures.err_full (subst (λ (s : CacheState). IsFrameFull s c.args.size) (sym still) full) in
    (kept.0, kept.1 ∙ still)

pub returns-in_default-answer-clause-left : goal.returns-in_default-answer-clause-left
returns-in_default-answer-clause-left c =
    let none : rectangle_at c.self.inside.kept c.args.key ≡ None = sym c.look.ensures.value ∙ c.in_default.is in
    let same : c.look.new.self ≡ c.args.self.now =
    looked-unknown c.self.inside.kept c.look.new.self c.args.key none c.look.ensures.used ∙ c.self.view_is in
    let entered_none : c.enter.new.self ≡ c.look.new.self = rw c.in_default-entered.is at c.in-Ok.ensures.none in
    let still : c.enter.new.self ≡ c.args.self.now = entered_none ∙ same in
    let unchanged : c.evict_and_enter.new.self ≡ c.enter.new.self = rw c.in_default-answer.is at c.in-Ok-evict_and_enter.ensures.none in
    unchanged ∙ still

pub returns-in_default-answer-clause-frame_full : goal.returns-in_default-answer-clause-frame_full
returns-in_default-answer-clause-frame_full c =
    let none : rectangle_at c.self.inside.kept c.args.key ≡ None = sym c.look.ensures.value ∙ c.in_default.is in
    let same : c.look.new.self ≡ c.args.self.now =
    looked-unknown c.self.inside.kept c.look.new.self c.args.key none c.look.ensures.used ∙ c.self.view_is in
    let entered_none : c.enter.new.self ≡ c.look.new.self = rw c.in_default-entered.is at c.in-Ok.ensures.none in
    let still : c.enter.new.self ≡ c.args.self.now = entered_none ∙ same in
    let full : IsFrameFull c.enter.new.self c.args.size = rw c.in_default-answer.is at c.in-Ok-evict_and_enter.ensures.full in
    let unknown : IsNew c.self.inside.kept c.args.key = unknown-rectangle c.self.inside.kept c.args.key none in
    λ is. (
      subst (λ (s : CacheState). IsNew s c.args.key) c.self.view_is unknown,
      subst (λ (s : CacheState). IsFrameFull s c.args.size) still full,
    )

pub returns-in_default-answer-clause-full : goal.returns-in_default-answer-clause-full
returns-in_default-answer-clause-full c =
    λ new full. (tt, returns-in_default-answer-clause-left c)

pub returns-clause-placed : goal.returns-clause-placed
returns-clause-placed c =
    let none : rectangle_at c.self.inside.kept c.args.key ≡ None = sym c.look.ensures.value ∙ c.in_default.is in
    let same : c.look.new.self ≡ c.args.self.now =
    looked-unknown c.self.inside.kept c.look.new.self c.args.key none c.look.ensures.used ∙ c.self.view_is in
    let entered_none : c.enter.new.self ≡ c.look.new.self = rw c.in_default-entered.is at c.in-Ok.ensures.none in
    let still : c.enter.new.self ≡ c.args.self.now = entered_none ∙ same in
    let places : Places c.enter.new.self c.args.key c.args.size c.in-Some-answer.rectangle c.evict_and_enter.new.evicted.items c.evict_and_enter.new.self =
    rw c.in-Some-answer.is at c.in-Ok-evict_and_enter.ensures.ok in
    λ new. subst (λ (s : CacheState). Places s c.args.key c.args.size c.in-Some-answer.rectangle c.evict_and_enter.new.evicted.items c.evict_and_enter.new.self) still places

pub returns-clause-spared : goal.returns-clause-spared
returns-clause-spared c =
    let none : rectangle_at c.self.inside.kept c.args.key ≡ None = sym c.look.ensures.value ∙ c.in_default.is in
    let same : c.look.new.self ≡ c.args.self.now =
    looked-unknown c.self.inside.kept c.look.new.self c.args.key none c.look.ensures.used ∙ c.self.view_is in
    let entered_none : c.enter.new.self ≡ c.look.new.self = rw c.in_default-entered.is at c.in-Ok.ensures.none in
    let still : c.enter.new.self ≡ c.args.self.now = entered_none ∙ same in
    subst (λ (s : CacheState). length c.evict_and_enter.new.evicted.items ≤ evictable s) still c.evict_and_enter.ensures.spared

pub returns-clause-full : goal.returns-clause-full
returns-clause-full c =
    λ new full. absurd (full-places c.args.self.now c.args.key c.args.size c.in-Some-answer.rectangle c.evict_and_enter.new.evicted.items
    c.evict_and_enter.new.self full (returns-clause-placed c new) (returns-clause-spared c))
