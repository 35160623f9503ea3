-- Pieces that were gathered, sent whole or in part: what went out is a beginning of the text.
use Rattle.std.proofs.Common.{◌≡◌, refl, ◌∷◌, ℕ, ◌+◌, List, [], ◌++◌, Option, None, Some, length, sym, ◌∙◌, ap, arith, subst, take}
use Rattle.std.proofs.Math.Seq.{take-append-add}
use Rattle.std.proofs.lemmas.List.{append-nil, append_assoc, length-append, take-append-le}
use Rattle.std.specs.List.{flat_map}
use Rattle.std.specs.Prelude.{Err, Ok, OnErr, Result}
use Rattle.std.specs.Io.KnownBytes.{Appends}
use Rattle.pictures.specs.Gathering.{IsGathered, GathersMore, SendsBeginning, SendsWhole}
use Rattle.pictures.specs.Sending.{AppendsBeginning}

-- one part went out, and then another
pub appends-both : (old middle new : Option (List ℕ)) (one other : List ℕ) → Appends old middle one → Appends middle new other → Appends old new (one ++ other)
appends-both None middle new one other before after = tt
appends-both (Some xs) None new one other before after = absurd before
appends-both (Some xs) (Some ys) None one other before after = absurd after
appends-both (Some xs) (Some ys) (Some zs) one other before after = after ∙ ap (λ l. l ++ other) before ∙ append_assoc xs one other

-- a part went out, and then a beginning of another
pub begins-behind : (old middle new : Option (List ℕ)) (one other : List ℕ) → Appends old middle one → AppendsBeginning middle new other → AppendsBeginning old new (one ++ other)
begins-behind old middle new one other before (n, short, after) = (
  length one + n,
  omega (arith, short, length-append one other),
  subst (λ (l : List ℕ). Appends old new l) (sym (take-append-add one other n)) (appends-both old middle new one (take n other) before after),
)

-- a beginning went out of the first of two parts
pub begins-first : (old new : Option (List ℕ)) (one other : List ℕ) → AppendsBeginning old new one → AppendsBeginning old new (one ++ other)
begins-first old new one other (n, short, out) = (
  n,
  omega (arith, short, length-append one other),
  subst (λ (l : List ℕ). Appends old new l) (sym (take-append-le n one other short)) out,
)

-- what was gathered goes out with a piece after it
pub sends-piece : (old new : Option (List ℕ)) (gathered piece : List ℕ) → Appends old new (gathered ++ piece) → GathersMore old gathered new [] piece
sends-piece old new gathered piece out start text is =
    record {
      sent = is.sent ++ (gathered ++ piece);
      out = appends-both start old new is.sent (gathered ++ piece) is.out out;
      whole = ap (λ l. l ++ piece) is.whole ∙ append_assoc is.sent gathered piece ∙ sym (append-nil (is.sent ++ (gathered ++ piece)));
    }

-- a beginning goes out of what was gathered and a piece after it
pub begins-piece : (old new : Option (List ℕ)) (gathered piece : List ℕ) → AppendsBeginning old new (gathered ++ piece) → SendsBeginning old gathered new piece
begins-piece old new gathered piece out start text is =
    subst (λ (l : List ℕ). AppendsBeginning start new l) (sym (ap (λ l. l ++ piece) is.whole ∙ append_assoc is.sent gathered piece))
    (begins-behind start old new is.sent (gathered ++ piece) is.out out)

-- nothing went out
pub appends-nothing : (old : Option (List ℕ)) → Appends old old []
appends-nothing None = tt
appends-nothing (Some xs) = sym (append-nil xs)

-- what holds holds where there is an error
pub on-err : {T E P : Type 0} (result : Result T E) → P → OnErr result P
on-err (Ok value) p = tt
on-err (Err error) p = p

-- one piece is gathered, and another after it
pub gathers-both : (old middle new : Option (List ℕ)) (gathered more most one other : List ℕ) → GathersMore old gathered middle more one → GathersMore middle more new most other → GathersMore old gathered new most (one ++ other)
gathers-both old middle new gathered more most one other first then start text is =
    subst (IsGathered start new most) (append_assoc text one other) (then start (text ++ one) (first start text is))

-- one piece is gathered, and a beginning goes out with another after it
pub begins-both : (old middle new : Option (List ℕ)) (gathered more one other : List ℕ) → GathersMore old gathered middle more one → SendsBeginning middle more new other → SendsBeginning old gathered new (one ++ other)
begins-both old middle new gathered more one other first then start text is =
    subst (AppendsBeginning start new) (append_assoc text one other) (then start (text ++ one) (first start text is))

-- a beginning goes out, and more was to come
pub begins-more : (old new : Option (List ℕ)) (gathered one other : List ℕ) → SendsBeginning old gathered new one → SendsBeginning old gathered new (one ++ other)
begins-more old new gathered one other begins start text is =
    subst (AppendsBeginning start new) (append_assoc text one other) (begins-first start new (text ++ one) other (begins start text is))

-- room was made, and then a piece was added to what is gathered
pub gathers-added : (old new : Option (List ℕ)) (gathered room more piece : List ℕ) → GathersMore old gathered new room [] → more ≡ room ++ piece → GathersMore old gathered new more piece
gathers-added old new gathered room more piece makes added start text is =
    let roomy = makes start text is in
    record {
      sent = roomy.sent;
      out = roomy.out;
      whole = ap (λ l. l ++ piece) (sym (append-nil text) ∙ roomy.whole) ∙ append_assoc roomy.sent room piece ∙ sym (ap (λ l. roomy.sent ++ l) added);
    }

-- four pieces were added, one behind another
pub four-added : (old one two three four a b c d : List ℕ) → one ≡ old ++ a → two ≡ one ++ b → three ≡ two ++ c → four ≡ three ++ d → four ≡ old ++ (a ++ (b ++ (c ++ d)))
four-added old one two three four a b c d first second third fourth =
    rw (fourth, third, second, first, append_assoc, append_assoc, append_assoc) refl

-- nothing was given
nothing-given : (old : Option (List ℕ)) → IsGathered old old [] []
nothing-given old = record { sent = []; out = appends-nothing old; whole = refl }

-- a text was gathered from nothing, and then all went out
pub sends-all : (old now new : Option (List ℕ)) (more text : List ℕ) → GathersMore old [] now more text → SendsWhole now more new → Appends old new text
sends-all old now new more text gathers sends = sends old text (gathers old [] (nothing-given old))

-- a text was gathered from nothing, and then a beginning went out
pub begins-last : (old now new : Option (List ℕ)) (more text : List ℕ) → GathersMore old [] now more text → SendsBeginning now more new [] → AppendsBeginning old new text
begins-last old now new more text gathers begins =
    subst (AppendsBeginning old new) (append-nil text) (begins old text (gathers old [] (nothing-given old)))

-- a beginning went out of a text that was gathered from nothing
pub begins-all : (old new : Option (List ℕ)) (text : List ℕ) → SendsBeginning old [] new text → AppendsBeginning old new text
begins-all old new text begins = begins old [] (nothing-given old)

-- the texts of elements are gathered one by one: those so far, and those of the rest, make the whole
pub record GathersAlong {X : Type 0} (line : X → List ℕ) (old : Option (List ℕ)) (gathered : List ℕ) (now : Option (List ℕ)) (more : List ℕ) (rest all : List X) : Type 0 where
  pub done : List ℕ
  pub gathers : GathersMore old gathered now more done
  pub whole : done ++ flat_map line rest ≡ flat_map line all

module _ {X : Type 0} (line : X → List ℕ) (old : Option (List ℕ)) (gathered : List ℕ) where
  -- at the start all elements are left
  pub along-begins : (all : List X) → GathersAlong line old gathered old gathered all all
  along-begins all =
      record { done = []; gathers = λ start text is. subst (IsGathered start old gathered) (sym (append-nil text)) is; whole = refl }

  -- at the end the texts of all are gathered
  pub along-ends : (now : Option (List ℕ)) (more : List ℕ) (rest all : List X) → GathersAlong line old gathered now more rest all → rest ≡ [] → GathersMore old gathered now more (flat_map line all)
  along-ends now more rest all along none =
      subst (GathersMore old gathered now more) (sym (append-nil along.done) ∙ ap (λ xs. along.done ++ flat_map line xs) (sym none) ∙ along.whole) along.gathers

  -- the text of one more was gathered
  pub along-passed : (now new : Option (List ℕ)) (more most : List ℕ) (x : X) (rest others all : List X) → GathersAlong line old gathered now more rest all → rest ≡ x ∷ others → GathersMore now more new most (line x) → GathersAlong line old gathered new most others all
  along-passed now new more most x rest others all along first then =
      record {
        done = along.done ++ line x;
        gathers = gathers-both old now new gathered more most along.done (line x) along.gathers then;
        whole = append_assoc along.done (line x) (flat_map line others) ∙ ap (λ xs. along.done ++ flat_map line xs) (sym first) ∙ along.whole;
      }

  -- a beginning went out of the text of one more
  pub along-begun : (now new : Option (List ℕ)) (more : List ℕ) (x : X) (rest others all : List X) → GathersAlong line old gathered now more rest all → rest ≡ x ∷ others → SendsBeginning now more new (line x) → SendsBeginning old gathered new (flat_map line all)
  along-begun now new more x rest others all along first begins =
      subst (SendsBeginning old gathered new) (ap (λ xs. along.done ++ flat_map line xs) (sym first) ∙ along.whole)
      (begins-both old now new gathered more along.done (line x ++ flat_map line others) along.gathers
      (begins-more now new more (line x) (flat_map line others) begins))
