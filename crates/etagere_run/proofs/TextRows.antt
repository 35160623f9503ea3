-- The definitions alone give the lines of worked replies.
use Rattle.std.proofs.Common.{◌≡◌, ℕ, List, [], ◌∷◌, ◌++◌, refl, pos}
use Rattle.std.specs.Prelude.{codes, flat_map}
use Rattle.std.specs.Fmt.{digits}
use Rattle.etagere_base.specs.declared.geometry.Rectangle.{Rectangle}
use Rattle.run_scripts.specs.declared.commands.Reply.TheVariants.{Placed, Refused, Returned, At, NotLive, Cleared, Grown, GrowRefused, NoMemory}
use Rattle.run_scripts.specs.ReplyText.{replies_text}
use Rattle.run_scripts.specs.ReplyText.{bad_line_text, options_text}

-- each line with its line feed
abbrev text : List (List ℕ) → List ℕ
text = flat_map (λ line. line ++ 10 ∷ [])

abbrev rectangle : ℕ → ℕ → ℕ → ℕ → Rectangle
rectangle left top right bottom = record {
  min = record { x = pos left; y = pos top };
  max = record { x = pos right; y = pos bottom };
}

readme_replies : replies_text (Placed (record { id = 65536; rectangle = rectangle 0 0 100 112 }) ∷ Returned ∷ At (rectangle 0 336 300 560) 3 ∷ NotLive ∷ [])
    ≡ text (codes "placed 65536 0 0 100 112" ∷ codes "returned" ∷ codes "at 0 336 300 560 3" ∷ codes "not live" ∷ [])
unfolding digits
readme_replies = refl

other_replies : replies_text (Refused ∷ Cleared ∷ NoMemory ∷ []) ≡ text (codes "refused" ∷ codes "cleared" ∷ codes "no memory" ∷ [])
other_replies = refl

grow_replies : replies_text (Grown ∷ GrowRefused 2 ∷ []) ≡ text (codes "grown" ∷ codes "grow refused 2" ∷ [])
unfolding digits
grow_replies = refl

no_bytes_text : bad_line_text 1 ≡ text (codes "line 1: bad" ∷ [])
unfolding digits
no_bytes_text = refl

too_many_columns_text : options_text 5 ≡ text (codes "options 5" ∷ [])
unfolding digits
too_many_columns_text = refl
