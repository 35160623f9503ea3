use Rattle.std.proofs.Common.{◌≡◌, ◌*◌, ◌/◌, ap, rules, sym, ℕ, ◌∙◌}
use Rattle.etagere_base.specs.Frames.{along_side, alignment_along}
use Rattle.etagere_base.specs.Growing.{resized}
use Rattle.etagere_base.specs.Sides.{down, side}
use Rattle.etagere_base.specs.declared.frames.Frame.{Frame}
use Rattle.etagere_base.specs.declared.geometry.Size.{Size}
use Rattle.etagere_base.proofs.GrownFrames.{one-grown}
use Rattle.etagere_base.proofs.growing.grown_frame.Goals as goal

-- what was computed of the one column
computed : (frame : Frame) (size : Size) (width height along alignment : ℕ) → width ≡ side size.width → height ≡ side size.height
    → along ≡ along_side (record frame { width = width; height = height }) → alignment ≡ alignment_along frame
    → record frame { width = width; height = height; column_width = along / alignment * alignment }
    ≡ record (resized frame size) { column_width = down (along_side (resized frame size)) (alignment_along frame) }
computed frame size width height along alignment wide tall long even =
    let sides : record frame { width = width; height = height } ≡ resized frame size =
    ap (λ (w : ℕ). record frame { width = w; height = height }) wide ∙ ap (λ (h : ℕ). record frame { width = side size.width; height = h }) tall in
    ap (λ (f : Frame). record f { column_width = along / alignment * alignment }) sides
    ∙ ap (λ (n : ℕ). record (resized frame size) { column_width = n / alignment * alignment }) (long ∙ ap along_side sides)
    ∙ ap (λ (n : ℕ). record (resized frame size) { column_width = down (along_side (resized frame size)) n }) even

-- one column
pub returns-then-frame-eq1 : goal.returns-then-frame-eq1
returns-then-frame-eq1 c =
    let wide : c.side.result ≡ side c.args.size.width = search rules in
    let tall : c.side-2.result ≡ side c.args.size.height = search rules in
    computed c.args.frame.now c.args.size c.side.result c.side-2.result c.along_side-along.result c.alignment_along-alignment.result
    wide tall c.along_side-along.ensures c.alignment_along-alignment.ensures.value
    ∙ sym (one-grown 65535 c.args.frame.now c.args.size c.requires.frame (record { wider = c.requires.wider; taller = c.requires.taller }) c.if-frame-eq1.true)
