use Rattle.std.proofs.Common.{◌≡◌, ◌≢◌, [], ◌∷◌, length, None, rules, ap, refl, sym, ◌∙◌}
use Rattle.run_scripts.specs.Lines.{words_of}
use Rattle.run_scripts.specs.Words.{command_of}
use Rattle.run_scripts.proofs.words.command_of.Goals as goal

pub returns-in_err-letter_of-in-Some : goal.returns-in_err-letter_of-in-Some
returns-in_err-letter_of-in-Some g c = let none = c.lettered.ensures.letter in search rules

pub returns-in_err-letter_of-in-None : goal.returns-in_err-letter_of-in-None
returns-in_err-letter_of-in-None g c =
    let line = c.args.line.now in
    let one : words_of line ≡ line ∷ [] = search rules in
    let other : length line ≢ 1 = search rules in
    let none : c.from_residual-in_err-letter_of-in-None.result ≡ None = search rules in
    none ∙ sym (ap (command_of g.C.LetteredCommand.cleared g.C.LetteredCommand.meaning) one ∙ c.lettered.ensures.letter line [] other)

pub returns-in_ok-letter_of-in-None : goal.returns-in_ok-letter_of-in-None
returns-in_ok-letter_of-in-None g c =
    let line = c.args.line.now in
    let letter = c.in_ok-letter_of-in-None.field-0 in
    let one : words_of line ≡ line ∷ [] = search rules in
    let is : line ≡ letter ∷ [] = search rules in
    sym (ap (command_of g.C.LetteredCommand.cleared g.C.LetteredCommand.meaning) (one ∙ ap (λ name. name ∷ []) is) ∙ c.alone.ensures [] refl)
