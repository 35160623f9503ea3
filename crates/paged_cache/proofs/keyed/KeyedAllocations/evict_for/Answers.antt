use Rattle.std.proofs.Common.{◌≡◌, ℕ, ◌++◌, [], ◌∷◌, false, true, Result, Ok, Err, OnErr, List, is_some, ap, sym, ◌∙◌, subst, arith}
use Rattle.paged_cache.specs.Keyed.{RanOut, has_room}
use Rattle.paged_cache.proofs.Evicting.{evicted-places, evicted-ran_out, evicting-some, evicting-start, evicting-step, evicting-stopped, shorter-without_last}
use Rattle.paged_cache.proofs.keyed.KeyedAllocations.evict_for.Goals as goal

on_err : {A B : Type 0} (P : Type 0) (r : Result A B) → P → OnErr r P
on_err P (Ok a) holds = tt
on_err P (Err b) holds = holds

pub returns-in_err-reserve-clause-err : goal.returns-in_err-reserve-clause-err
returns-in_err-reserve-clause-err g c =
    let start =
    evicting-start g.A.Allocates.keeps g.A.Allocates.has_place g.A.Allocates.fits g.A.Allocates.returned g.A.Allocates.are_held (record {
      one_less = g.met.A.Allocates.one_less;
      still_keeps = g.met.A.Allocates.still_keeps;
      none_held = g.met.A.Allocates.none_held;
      fits_returned = g.met.A.Allocates.fits_returned;
    })
    c.args.self.now c.args.key c.args.size c.requires.promises c.requires.new c.requires.fits in
    let left : List ℕ → Type 0 = λ evicted. RanOut g.A.Allocates.returned g.A.Allocates.has_place g.A.Allocates.gives c.args.self.now c.args.size evicted c.args.self.now in
    on_err (left c.reserve.new.self.items) _
    (subst left (sym (c.reserve.ensures.items ∙ c.requires.none))
    (evicting-stopped g.A.Allocates.keeps g.A.Allocates.has_place g.A.Allocates.fits g.A.Allocates.returned g.A.Allocates.are_held g.A.Allocates.gives c.args.self.now c.args.key c.args.size [] c.args.self.now start))

pub enter-requires : goal.enter-requires
enter-requires g c =
    let longer : c.push.new.self.items ≡ c.loop-dropped.evicted.items ++ c.in-Some.dropped ∷ [] = rw c.unwrap.ensures at c.push.ensures.items in
    let stepped =
    evicting-step g.A.Allocates.keeps g.A.Allocates.has_place g.A.Allocates.fits g.A.Allocates.returned g.A.Allocates.are_held
    c.args.self.now c.args.key c.args.size c.loop-dropped.evicted.items c.push.new.self.items c.loop-dropped.self c.drop_last.new.self c.in-Some.dropped
    c.loop-dropped.invariant.0 c.loop-dropped.invariant.1 c.in-Some.ensures.key longer c.drop_last.ensures.dropped in
    stepped.new

pub returns-in_err-allocation-clause-err : goal.returns-in_err-allocation-clause-err
returns-in_err-allocation-clause-err g c =
    let longer : c.push.new.self.items ≡ c.loop-dropped.evicted.items ++ c.in-Some.dropped ∷ [] = rw c.unwrap.ensures at c.push.ensures.items in
    let stepped =
    evicting-step g.A.Allocates.keeps g.A.Allocates.has_place g.A.Allocates.fits g.A.Allocates.returned g.A.Allocates.are_held
    c.args.self.now c.args.key c.args.size c.loop-dropped.evicted.items c.push.new.self.items c.loop-dropped.self c.drop_last.new.self c.in-Some.dropped
    c.loop-dropped.invariant.0 c.loop-dropped.invariant.1 c.in-Some.ensures.key longer c.drop_last.ensures.dropped in
    on_err (RanOut g.A.Allocates.returned g.A.Allocates.has_place g.A.Allocates.gives c.args.self.now c.args.size c.push.new.self.items c.enter.new.self) _
    (evicted-ran_out g.A.Allocates.returned g.A.Allocates.has_place g.A.Allocates.gives c.args.self.now c.args.size c.push.new.self.items c.drop_last.new.self c.enter.new.self
    stepped.has c.in_err-allocation.ensures.err_room c.in_err-allocation.ensures.err)

pub returns-in-Some-2-clause-ok : goal.returns-in-Some-2-clause-ok
returns-in-Some-2-clause-ok g c =
    let longer : c.push.new.self.items ≡ c.loop-dropped.evicted.items ++ c.in-Some.dropped ∷ [] = rw c.unwrap.ensures at c.push.ensures.items in
    let stepped =
    evicting-step g.A.Allocates.keeps g.A.Allocates.has_place g.A.Allocates.fits g.A.Allocates.returned g.A.Allocates.are_held
    c.args.self.now c.args.key c.args.size c.loop-dropped.evicted.items c.push.new.self.items c.loop-dropped.self c.drop_last.new.self c.in-Some.dropped
    c.loop-dropped.invariant.0 c.loop-dropped.invariant.1 c.in-Some.ensures.key longer c.drop_last.ensures.dropped in
    let room : has_room g.A.Allocates.has_place c.drop_last.new.self c.args.size ≡ true = sym c.in_ok-allocation.ensures.room ∙ ap is_some c.in-Some-2.is in
    evicted-places g.A.Allocates.returned g.A.Allocates.has_place g.A.Allocates.gives c.args.self.now c.args.key c.args.size c.push.new.self.items c.drop_last.new.self c.in-Some-2.allocation
    c.enter.new.self stepped.has room (rw c.in-Some-2.is at c.in_ok-allocation.ensures.entered)

pub loop-dropped-smaller : goal.loop-dropped-smaller
loop-dropped-smaller g c =
    let same : c.enter.new.self ≡ c.drop_last.new.self = rw c.in_default-2.is at c.in_ok-allocation.ensures.none in
    shorter-without_last g.A.Allocates.returned c.loop-dropped.self c.enter.new.self c.in-Some.dropped
    c.in-Some.ensures.key (same ∙ c.drop_last.ensures.dropped)

pub loop-dropped-preserved : goal.loop-dropped-preserved
loop-dropped-preserved g c =
    let longer : c.push.new.self.items ≡ c.loop-dropped.evicted.items ++ c.in-Some.dropped ∷ [] = rw c.unwrap.ensures at c.push.ensures.items in
    let same : c.enter.new.self ≡ c.drop_last.new.self = rw c.in_default-2.is at c.in_ok-allocation.ensures.none in
    let stepped =
    evicting-step g.A.Allocates.keeps g.A.Allocates.has_place g.A.Allocates.fits g.A.Allocates.returned g.A.Allocates.are_held
    c.args.self.now c.args.key c.args.size c.loop-dropped.evicted.items c.reserve-in-Some.new.self.items c.loop-dropped.self c.enter.new.self c.in-Some.dropped
    c.loop-dropped.invariant.0 c.loop-dropped.invariant.1 c.in-Some.ensures.key (c.reserve-in-Some.ensures.items ∙ longer) (same ∙ c.drop_last.ensures.dropped) in
    let full : has_room g.A.Allocates.has_place c.drop_last.new.self c.args.size ≡ false = sym c.in_ok-allocation.ensures.room ∙ ap is_some c.in_default-2.is in (
      stepped,
      ap (λ s. has_room g.A.Allocates.has_place s c.args.size) same ∙ full,
      omega (arith, c.in_ok-reserve-2.ensures.ok),
    )

pub returns-in_err-reserve-2-clause-err : goal.returns-in_err-reserve-2-clause-err
returns-in_err-reserve-2-clause-err g c =
    let longer : c.push.new.self.items ≡ c.loop-dropped.evicted.items ++ c.in-Some.dropped ∷ [] = rw c.unwrap.ensures at c.push.ensures.items in
    let same : c.enter.new.self ≡ c.drop_last.new.self = rw c.in_default-2.is at c.in_ok-allocation.ensures.none in
    let stepped =
    evicting-step g.A.Allocates.keeps g.A.Allocates.has_place g.A.Allocates.fits g.A.Allocates.returned g.A.Allocates.are_held
    c.args.self.now c.args.key c.args.size c.loop-dropped.evicted.items c.reserve-in-Some.new.self.items c.loop-dropped.self c.enter.new.self c.in-Some.dropped
    c.loop-dropped.invariant.0 c.loop-dropped.invariant.1 c.in-Some.ensures.key (c.reserve-in-Some.ensures.items ∙ longer) (same ∙ c.drop_last.ensures.dropped) in
    on_err (RanOut g.A.Allocates.returned g.A.Allocates.has_place g.A.Allocates.gives c.args.self.now c.args.size c.reserve-in-Some.new.self.items c.enter.new.self) _
    (evicting-stopped g.A.Allocates.keeps g.A.Allocates.has_place g.A.Allocates.fits g.A.Allocates.returned g.A.Allocates.are_held g.A.Allocates.gives c.args.self.now c.args.key c.args.size c.reserve-in-Some.new.self.items c.enter.new.self stepped)

pub unreachable-requires : goal.unreachable-requires
unreachable-requires g c =
    evicting-some g.A.Allocates.keeps g.A.Allocates.has_place g.A.Allocates.fits g.A.Allocates.returned g.A.Allocates.are_held c.args.self.now c.args.key c.args.size c.loop-dropped.evicted.items c.loop-dropped.self
    c.loop-dropped.invariant.0 c.loop-dropped.invariant.1 c.in_default.ensures.key
