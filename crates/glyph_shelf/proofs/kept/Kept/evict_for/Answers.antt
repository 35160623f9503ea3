use Rattle.std.proofs.Common.{◌≡◌, ℕ, ◌++◌, [], ◌∷◌, false, true, Result, Ok, Err, OnErr, List, is_some, length, refl, ap, sym, ◌∙◌, subst, arith}
use Rattle.std.proofs.lemmas.List.{length-append}
use Rattle.etagere_base.specs.declared.frames.Frame.{Frame}
use Rattle.etagere_base.specs.Rectangles.{IsLarge}
use Rattle.glyph_shelf.specs.Cache.{CacheState, evictable, without_last}
use Rattle.glyph_shelf.specs.Placing.{RanOut, has_room}
use Rattle.glyph_shelf.proofs.Evicting.{IsEvicting, evicted-places, evicted-ran_out, evicting-shorter, evicting-some, evicting-step, evicting-stopped, ran_out-first}
use Rattle.glyph_shelf.proofs.FullFrames.{evicted-fewer}
use Rattle.glyph_shelf.proofs.kept.Kept.evict_for.Goals as goal

on_err : {A B : Type 0} (P : Type 0) (r : Result A B) → P → OnErr r P
on_err P (Ok a) holds = tt
on_err P (Err b) holds = holds

pub returns-in_err-reserve_exact-clause-err : goal.returns-in_err-reserve_exact-clause-err
returns-in_err-reserve_exact-clause-err c =
    let now = c.args.self.now in
    let left : List ℕ → Type 0 = λ evicted. RanOut now c.args.size evicted now in
    on_err (left c.reserve_exact.new.self.items) _
    (subst left (sym (c.reserve_exact.ensures.items ∙ c.requires.none))
    (ran_out-first now c.args.size c.requires.promises c.requires.fits))

pub returns-in_err-rectangle-clause-err : goal.returns-in_err-rectangle-clause-err
returns-in_err-rectangle-clause-err c =
    let longer : c.push.new.self.items ≡ c.loop-last.evicted.items ++ c.in-Some.last ∷ [] = rw c.unwrap.ensures at c.push.ensures.items in
    let stepped : IsEvicting c.args.self.now c.args.key c.args.size c.push.new.self.items (without_last c.loop-last.self) =
    evicting-step c.args.self.now c.args.key c.args.size c.loop-last.invariant.0 c.loop-last.invariant.1
    c.in-Some.ensures.key longer refl in
    on_err (RanOut c.args.self.now c.args.size c.push.new.self.items c.enter_for_last.new.self) _
    (evicted-ran_out c.args.self.now c.args.size c.push.new.self.items (without_last c.loop-last.self) c.enter_for_last.new.self c.requires.room
    stepped.has c.in_err-rectangle.ensures.err_room c.in_err-rectangle.ensures.err)

pub returns-in-Some-2-clause-ok : goal.returns-in-Some-2-clause-ok
returns-in-Some-2-clause-ok c =
    let longer : c.push.new.self.items ≡ c.loop-last.evicted.items ++ c.in-Some.last ∷ [] = rw c.unwrap.ensures at c.push.ensures.items in
    let stepped : IsEvicting c.args.self.now c.args.key c.args.size c.push.new.self.items (without_last c.loop-last.self) =
    evicting-step c.args.self.now c.args.key c.args.size c.loop-last.invariant.0 c.loop-last.invariant.1
    c.in-Some.ensures.key longer refl in
    let room : has_room (without_last c.loop-last.self) c.args.size ≡ true = sym c.in_ok-rectangle.ensures.room ∙ ap is_some c.in-Some-2.is in
    evicted-places c.args.self.now c.args.key c.args.size c.push.new.self.items (without_last c.loop-last.self) c.in-Some-2.rectangle
    c.enter_for_last.new.self stepped.has room (rw c.in-Some-2.is at c.in_ok-rectangle.ensures.entered)

pub returns-in-Some-2-clause-large : goal.returns-in-Some-2-clause-large
returns-in-Some-2-clause-large c =
    subst (λ (frame : Frame). IsLarge frame c.args.size c.in-Some-2.rectangle) c.loop-last.invariant.0.frame
    (rw c.in-Some-2.is at c.in_ok-rectangle.ensures.large)

pub loop-last-smaller : goal.loop-last-smaller
loop-last-smaller c =
    let same : c.enter_for_last.new.self ≡ (without_last c.loop-last.self) = rw c.in_default-2.is at c.in_ok-rectangle.ensures.none in
    evicting-shorter c.loop-last.self c.enter_for_last.new.self c.in-Some.last
    c.in-Some.ensures.key (same ∙ refl)

pub loop-last-preserved : goal.loop-last-preserved
loop-last-preserved c =
    let longer : c.push.new.self.items ≡ c.loop-last.evicted.items ++ c.in-Some.last ∷ [] = rw c.unwrap.ensures at c.push.ensures.items in
    let same : c.enter_for_last.new.self ≡ (without_last c.loop-last.self) = rw c.in_default-2.is at c.in_ok-rectangle.ensures.none in
    let full : has_room (without_last c.loop-last.self) c.args.size ≡ false = sym c.in_ok-rectangle.ensures.room ∙ ap is_some c.in_default-2.is in (
      evicting-step c.args.self.now c.args.key c.args.size c.loop-last.invariant.0 c.loop-last.invariant.1
          c.in-Some.ensures.key (c.reserve.ensures.items ∙ longer) (same ∙ refl),
      ap (λ (s : CacheState). has_room s c.args.size) same ∙ full,
      omega (arith, c.in_ok-reserve.ensures.ok),
    )

pub returns-in_err-reserve-clause-err : goal.returns-in_err-reserve-clause-err
returns-in_err-reserve-clause-err c =
    let longer : c.push.new.self.items ≡ c.loop-last.evicted.items ++ c.in-Some.last ∷ [] = rw c.unwrap.ensures at c.push.ensures.items in
    let same : c.enter_for_last.new.self ≡ (without_last c.loop-last.self) = rw c.in_default-2.is at c.in_ok-rectangle.ensures.none in
    on_err (RanOut c.args.self.now c.args.size c.reserve.new.self.items c.enter_for_last.new.self) _
    (evicting-stopped c.args.self.now c.args.key c.args.size c.reserve.new.self.items c.enter_for_last.new.self c.requires.room
    (evicting-step c.args.self.now c.args.key c.args.size c.loop-last.invariant.0 c.loop-last.invariant.1
    c.in-Some.ensures.key (c.reserve.ensures.items ∙ longer) (same ∙ refl)))

pub unreachable-requires : goal.unreachable-requires
unreachable-requires c =
    evicting-some c.args.self.now c.args.key c.args.size c.loop-last.evicted.items c.loop-last.self
    c.loop-last.invariant.0 c.loop-last.invariant.1 c.in_default.ensures.key

pub returns-in_err-rectangle-clause-spared : goal.returns-in_err-rectangle-clause-spared
returns-in_err-rectangle-clause-spared c =
    let longer : c.push.new.self.items ≡ c.loop-last.evicted.items ++ c.in-Some.last ∷ [] = rw c.unwrap.ensures at c.push.ensures.items in
    let now = c.args.self.now in
    let more = evicted-fewer now c.args.size c.loop-last.evicted.items c.loop-last.self (evictable now) c.loop-last.invariant.0.has
    c.loop-last.invariant.1 c.requires.room in
    omega (arith, ap length longer, length-append c.loop-last.evicted.items (c.in-Some.last ∷ []))

pub returns-in-Some-2-clause-spared : goal.returns-in-Some-2-clause-spared
returns-in-Some-2-clause-spared c =
    let longer : c.push.new.self.items ≡ c.loop-last.evicted.items ++ c.in-Some.last ∷ [] = rw c.unwrap.ensures at c.push.ensures.items in
    let now = c.args.self.now in
    let more = evicted-fewer now c.args.size c.loop-last.evicted.items c.loop-last.self (evictable now) c.loop-last.invariant.0.has
    c.loop-last.invariant.1 c.requires.room in
    omega (arith, ap length longer, length-append c.loop-last.evicted.items (c.in-Some.last ∷ []))

pub returns-in_err-reserve-clause-spared : goal.returns-in_err-reserve-clause-spared
returns-in_err-reserve-clause-spared c =
    let longer : c.push.new.self.items ≡ c.loop-last.evicted.items ++ c.in-Some.last ∷ [] = rw c.unwrap.ensures at c.push.ensures.items in
    let now = c.args.self.now in
    let more = evicted-fewer now c.args.size c.loop-last.evicted.items c.loop-last.self (evictable now) c.loop-last.invariant.0.has
    c.loop-last.invariant.1 c.requires.room in
    omega (arith, ap length (c.reserve.ensures.items ∙ longer), length-append c.loop-last.evicted.items (c.in-Some.last ∷ []))
