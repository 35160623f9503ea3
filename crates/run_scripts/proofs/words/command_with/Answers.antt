use Rattle.std.proofs.Common.{◌≡◌, ◌-◌, ◌^◌, [], ◌∷◌, None, Some, ap, rules, sym, ◌∙◌}
use Rattle.run_scripts.specs.Lines.{words_of}
use Rattle.run_scripts.specs.Numbers.{natural_of}
use Rattle.run_scripts.specs.Words.{size_of}
use Rattle.run_scripts.proofs.LastWord.{both-there, no-number, no-size}
use Rattle.run_scripts.proofs.words.command_with.Goals as goal

pub returns-in_err-number-in-Some-split_word : goal.returns-in_err-number-in-Some-split_word
returns-in_err-number-in-Some-split_word g c =
    let words = c.args.words.now in
    let first = c.in-Some.first.now in
    let width = c.in-Some-split_word.width.now in
    let height = c.in-Some-split_word.height.now in
    let read : words_of words ≡ first ∷ width ∷ words_of height = c.in-Some.ensures.more ∙ ap (λ l. first ∷ l) c.in-Some-split_word.ensures.more in
    let number : natural_of (2 ^ 64 - 1) first ≡ None = search rules in
    let none : c.from_residual-in_err-number-in-Some-split_word.result ≡ None = search rules in
    none ∙ sym (c.lettered.ensures.arguments (c.args.letter ∷ []) (words_of words) (no-number words first width height read number))

pub returns-in_err-size_of-in-Some-split_word : goal.returns-in_err-size_of-in-Some-split_word
returns-in_err-size_of-in-Some-split_word g c =
    let words = c.args.words.now in
    let first = c.in-Some.first.now in
    let width = c.in-Some-split_word.width.now in
    let height = c.in-Some-split_word.height.now in
    let n = c.in_ok-number-in-Some-split_word.number in
    let read : words_of words ≡ first ∷ width ∷ words_of height = c.in-Some.ensures.more ∙ ap (λ l. first ∷ l) c.in-Some-split_word.ensures.more in
    let number : natural_of (2 ^ 64 - 1) first ≡ Some n = search rules in
    let sized : size_of width height ≡ None = search rules in
    let none : c.from_residual-in_err-size_of-in-Some-split_word.result ≡ None = search rules in
    none ∙ sym (c.lettered.ensures.arguments (c.args.letter ∷ []) (words_of words) (no-size words first width height read n number sized))

pub returns-in_ok-size_of-in-Some-split_word : goal.returns-in_ok-size_of-in-Some-split_word
returns-in_ok-size_of-in-Some-split_word g c =
    let words = c.args.words.now in
    let first = c.in-Some.first.now in
    let width = c.in-Some-split_word.width.now in
    let height = c.in-Some-split_word.height.now in
    let n = c.in_ok-number-in-Some-split_word.number in
    let size = c.in_ok-size_of-in-Some-split_word.field-0 in
    let read : words_of words ≡ first ∷ width ∷ words_of height = c.in-Some.ensures.more ∙ ap (λ l. first ∷ l) c.in-Some-split_word.ensures.more in
    let number : natural_of (2 ^ 64 - 1) first ≡ Some n = search rules in
    let sized : size_of width height ≡ Some size = search rules in
    sym (c.with_number_and_size.ensures (words_of words) (both-there words first width height read n size number sized))
