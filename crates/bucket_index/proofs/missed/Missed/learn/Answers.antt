use Rattle.std.proofs.Common.{◌≡◌, Bool, true, false, refl, subst, sym, arith}
use Rattle.std.specs.Bool.{beq}
use Rattle.std.specs.Prelude.{IfSome}
use Rattle.bucket_index.specs.Private.Missed.{AreMissed}
use Rattle.bucket_index.proofs.MissedShelves.{sizes-before}
use Rattle.bucket_index.proofs.missed.Missed.learn.Goals as goal

-- two truths of which a test says that they are one
bool-same : (s t : Bool) → beq s t ≡ true → s ≡ t
bool-same true true h = refl
bool-same false false h = refl
bool-same true false h = absurd (cc)
bool-same false true h = absurd (cc)

pub returns-in-Some : goal.returns-in-Some
returns-in-Some c =
    let missed = c.args.self.now in
    let shelves = c.args.shelves.now in
    let tail = c.min-self.result in
    let same : missed.adds ≡ c.args.adds = bool-same missed.adds c.args.adds c.if-self-adds.true in
    let known : AreMissed missed.adds missed.except missed.tail c.in-Some.sizes shelves =
    subst (λ o. IfSome o (λ sizes. AreMissed missed.adds missed.except missed.tail sizes shelves)) c.in-Some.is c.requires.missed in
    subst (λ adds. AreMissed adds missed.except tail c.with.result shelves) (sym same)
    (c.with.ensures missed.except tail shelves
    (record { some = c.requires.some; without = λ number kept such low other there. c.requires.without number kept (omega (arith, low, c.min-self.ensures)) there })
    (sizes-before c.args.adds missed.except missed.tail tail c.in-Some.sizes shelves (omega (arith, c.min-self.ensures))
    (subst (λ adds. AreMissed adds missed.except missed.tail c.in-Some.sizes shelves) same known)))
