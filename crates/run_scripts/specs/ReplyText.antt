-- The text of replies: a line for each.
use Rattle.std.specs.Prelude.{ℕ, ℤ, pos, ◌≤ℤ◌, ⊤, List, [], ◌∷◌, ◌++◌, codes, decimal, flat_map}
use Rattle.std.specs.Fmt.{signed_decimal}
use Rattle.etagere_base.specs.declared.geometry.Rectangle.{Rectangle}
use Rattle.run_scripts.specs.declared.commands.Reply.{Reply}
use Rattle.run_scripts.specs.declared.commands.Reply.TheVariants.{Placed, Refused, Returned, At, NotLive, Cleared, Grown, GrowRefused, NoMemory}
use Rattle.run_scripts.specs.declared.faults.Outcome.TheVariants.{BadLine, Options}
use Rattle.run_scripts.specs.Faults.{outcome_words}
use Rattle.run_scripts.specs.Lines.{line_feed, space}

-- the least and the greatest corner, a space between two numbers
abbrev pub corners_text : Rectangle → List ℕ
corners_text rectangle =
    signed_decimal rectangle.min.x ++ space ∷ signed_decimal rectangle.min.y
    ++ space ∷ signed_decimal rectangle.max.x ++ space ∷ signed_decimal rectangle.max.y

-- what a reply says, in words
abbrev pub text_of : Reply → List ℕ
text_of (Placed allocation) =
    codes "placed " ++ decimal allocation.id ++ space ∷ corners_text allocation.rectangle
text_of Refused = codes "refused"
text_of Returned = codes "returned"
text_of (At rectangle index) = codes "at " ++ corners_text rectangle ++ space ∷ decimal index
text_of NotLive = codes "not live"
text_of Cleared = codes "cleared"
text_of Grown = codes "grown"
text_of (GrowRefused number) = codes "grow refused " ++ decimal number
text_of NoMemory = codes "no memory"

-- a line ends with a line feed
abbrev pub line_of : Reply → List ℕ
line_of reply = text_of reply ++ line_feed ∷ []

-- one line for each reply, in order
abbrev pub replies_text : List Reply → List ℕ
replies_text replies = flat_map line_of replies

-- the line on the first bad line, and the one on a fault of the options, each with its line feed
abbrev pub bad_line_text : ℕ → List ℕ
bad_line_text number = outcome_words (BadLine number) ++ line_feed ∷ []

abbrev pub options_text : ℕ → List ℕ
options_text number = outcome_words (Options number) ++ line_feed ∷ []

-- a place is from 0 to 65535
pub record IsPlace (place : ℤ) : Type 0 where
  pub least : pos 0 ≤ℤ place
  pub greatest : place ≤ℤ pos 65535

-- the corners of a rectangle are at such places
pub record HasPlaces (rectangle : Rectangle) : Type 0 where
  pub left : IsPlace rectangle.min.x
  pub top : IsPlace rectangle.min.y
  pub right : IsPlace rectangle.max.x
  pub bottom : IsPlace rectangle.max.y

-- the rectangle of a reply, where it tells one, is at such places
abbrev pub TellsPlaces : Reply → Type 0
TellsPlaces (Placed allocation) = HasPlaces allocation.rectangle
TellsPlaces (At rectangle index) = HasPlaces rectangle
TellsPlaces reply = ⊤

-- a line that tells such places has at most so many bytes, its line feed among them
abbrev pub longest_line : ℕ
longest_line = 42
