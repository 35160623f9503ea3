use Rattle.std.proofs.Common.{◌≡◌, ◌+◌, ap, ◌∙◌}
use Rattle.std.proofs.lemmas.Result.{err_from_is_err_and}
use Rattle.run_scripts.specs.Lines.{words_of}
use Rattle.run_scripts.proofs.HeaderLine.{rest_is}
use Rattle.glyph_run.specs.Script.{script_of}
use Rattle.glyph_run.specs.Setups.{setup_in}
use Rattle.glyph_run.proofs.HeaderLine.{headed, no-header, script-bad, script-fails, script-good, some-header, with_header}
use Rattle.glyph_run.proofs.script.read_script.Goals as goal

pub returns-in_default : goal.returns-in_default
returns-in_default c =
    let blanks = c.blank_lines-blanks in
    script-bad blanks.result c.args.bytes.now _ c.first_line.result.0.now c.first_line.result.1.now
    blanks.ensures.length blanks.ensures.blank blanks.ensures.next
    (rest_is blanks.result c.args.bytes.now) c.first_line.ensures.line
    (no-header c.header_of.result (words_of c.first_line.result.0.now) c.header_of.ensures c.in_default.is)

pub returns-in_err-commands : goal.returns-in_err-commands
returns-in_err-commands c =
    let blanks = c.blank_lines-blanks in
    let setup = setup_in c.in-Some.header in
    let good : script_of c.args.bytes.now ≡ with_header setup (blanks.result + 1 + 1) c.first_line.result.1.now =
    script-good blanks.result c.args.bytes.now _ c.first_line.result.0.now c.first_line.result.1.now setup
    blanks.ensures.length blanks.ensures.blank blanks.ensures.next
    (rest_is blanks.result c.args.bytes.now) c.first_line.ensures.line c.first_line.ensures.none
    (some-header c.header_of.result c.in-Some.header (words_of c.first_line.result.0.now) c.header_of.ensures c.in-Some.is) in
    let fault = err_from_is_err_and c.from_residual.result c.from_residual.ensures.1 in
    rw (fault.1, fault.2) (script-fails _ setup (blanks.result + 1 + 1) c.first_line.result.1.now _ good c.in_err-commands.ensures)

pub returns : goal.returns
returns c =
    let blanks = c.blank_lines-blanks in
    let setup = setup_in c.in-Some.header in
    let good : script_of c.args.bytes.now ≡ with_header setup (blanks.result + 1 + 1) c.first_line.result.1.now =
    script-good blanks.result c.args.bytes.now _ c.first_line.result.0.now c.first_line.result.1.now setup
    blanks.ensures.length blanks.ensures.blank blanks.ensures.next
    (rest_is blanks.result c.args.bytes.now) c.first_line.ensures.line c.first_line.ensures.none
    (some-header c.header_of.result c.in-Some.header (words_of c.first_line.result.0.now) c.header_of.ensures c.in-Some.is) in
    good ∙ ap (headed setup) c.in_ok-commands.ensures
