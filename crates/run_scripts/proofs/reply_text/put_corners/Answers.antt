use Rattle.std.proofs.Common.{◌≡◌, ◌++◌, ◌∷◌, take, rules}
use Rattle.std.specs.Fmt.{signed_decimal}
use Rattle.run_scripts.specs.Lines.{space}
use Rattle.run_scripts.proofs.LinePieces.{one_more}
use Rattle.run_scripts.proofs.reply_text.put_corners.Goals as goal

pub returns-clause-text : goal.returns-clause-text
returns-clause-text c =
    let old = take c.args.at c.args.bytes.now in
    let rectangle = c.args.rectangle.now in
    let one = take c.put_place-at.result c.put_place-at.new.bytes in
    let two = take c.put_next_place-at.result c.put_next_place-at.new.bytes in
    let three = take c.put_next_place-at-2.result c.put_next_place-at-2.new.bytes in
    let four = take c.put_next_place.result c.put_next_place.new.bytes in
    let left : one ≡ old ++ signed_decimal rectangle.min.x = search rules in
    let top : two ≡ one ++ space ∷ signed_decimal rectangle.min.y = search rules in
    let right : three ≡ two ++ space ∷ signed_decimal rectangle.max.x = search rules in
    let bottom : four ≡ three ++ space ∷ signed_decimal rectangle.max.y = search rules in
    one_more old three four _ _ (one_more old two three _ _ (one_more old one two _ _ left top) right) bottom
