-- The lines of replies: pieces one after another.
use Rattle.std.proofs.Common.{◌≡◌, ℕ, ◌++◌, List, ap, ◌∙◌, append_assoc}

-- a piece after a front
pub one_more : (old now more front piece : List ℕ) → now ≡ old ++ front → more ≡ now ++ piece → more ≡ old ++ (front ++ piece)
one_more old now more front piece before after = after ∙ ap (λ l. l ++ piece) before ∙ append_assoc old front piece
