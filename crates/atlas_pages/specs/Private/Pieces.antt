-- A line that is put together of pieces.
use Rattle.std.specs.Prelude.{ℕ, List, decimal, flat_map}
use Rattle.atlas_pages.specs.declared.picture.Piece.{Piece}
use Rattle.atlas_pages.specs.declared.picture.Piece.TheVariants.{Text, Number}

-- the text of a piece
abbrev pub piece_text : Piece → List ℕ
piece_text (Text text) = text.now
piece_text (Number number) = decimal number

-- the text of pieces, one after another
abbrev pub text_of : List Piece → List ℕ
text_of pieces = flat_map piece_text pieces
