-- Lists of which no two neighbours touch.
use Rattle.std.proofs.Common.{◌≡◌, ℕ, zero, suc, Bool, false, List, [], ◌∷◌, ◌++◌, take, drop, ◌∙◌, map}
use Rattle.etagere_base.specs.Lists.{NoNeighbours}

-- the rest behind the first element
pub NoNeighbours-tail : {X : Type 0} (touch : X → X → Bool) (x : X) (xs : List X) → NoNeighbours touch (x ∷ xs) → NoNeighbours touch xs
NoNeighbours-tail touch x [] h = tt
NoNeighbours-tail touch x (y ∷ ys) h = h.1

-- a front of so many elements
pub NoNeighbours-take : {X : Type 0} (touch : X → X → Bool) (n : ℕ) (xs : List X) → NoNeighbours touch xs → NoNeighbours touch (take n xs)
NoNeighbours-take touch zero xs h = tt
NoNeighbours-take touch (suc n) [] h = tt
NoNeighbours-take touch (suc zero) (x ∷ xs) h = tt
NoNeighbours-take touch (suc (suc n)) (x ∷ []) h = tt
NoNeighbours-take touch (suc (suc n)) (x ∷ y ∷ ys) h = (h.0, NoNeighbours-take touch (suc n) (y ∷ ys) h.1)

-- the rest behind so many elements
pub NoNeighbours-drop : {X : Type 0} (touch : X → X → Bool) (n : ℕ) (xs : List X) → NoNeighbours touch xs → NoNeighbours touch (drop n xs)
NoNeighbours-drop touch zero xs h = h
NoNeighbours-drop touch (suc n) [] h = tt
NoNeighbours-drop touch (suc n) (x ∷ xs) h = NoNeighbours-drop touch n xs (NoNeighbours-tail touch x xs h)

-- the rest behind a front
pub NoNeighbours-back : {X : Type 0} (touch : X → X → Bool) (front back : List X) → NoNeighbours touch (front ++ back) → NoNeighbours touch back
NoNeighbours-back touch [] back p = p
NoNeighbours-back touch (x ∷ front) back p = NoNeighbours-back touch front back (NoNeighbours-tail touch x (front ++ back) p)

-- a list of which no neighbours touch, from two that share an element
NoNeighbours-merge : {X : Type 0} (touch : X → X → Bool) (front : List X) (x : X) (back : List X)
    → NoNeighbours touch (front ++ x ∷ []) → NoNeighbours touch (x ∷ back) → NoNeighbours touch (front ++ x ∷ back)
NoNeighbours-merge touch [] x back p q = q
NoNeighbours-merge touch (y ∷ []) x back p q = (p.0, q)
NoNeighbours-merge touch (y ∷ z ∷ zs) x back p q = (p.0, NoNeighbours-merge touch (z ∷ zs) x back p.1 q)

-- of a list of which no neighbours touch, no neighbours of a front touch
NoNeighbours-front : {X : Type 0} (touch : X → X → Bool) (front : List X) (x : X) (back : List X) → NoNeighbours touch (front ++ x ∷ back) → NoNeighbours touch (front ++ x ∷ [])
NoNeighbours-front touch [] x back p = tt
NoNeighbours-front touch (y ∷ []) x back p = (p.0, tt)
NoNeighbours-front touch (y ∷ z ∷ zs) x back p = (p.0, NoNeighbours-front touch (z ∷ zs) x back p.1)

-- the last element changed for one that touches no more elements before it
NoNeighbours-last : {X : Type 0} (touch : X → X → Bool) (front : List X) (x z : X)
    → ((y : X) → touch y x ≡ false → touch y z ≡ false) → NoNeighbours touch (front ++ x ∷ []) → NoNeighbours touch (front ++ z ∷ [])
NoNeighbours-last touch [] x z h p = tt
NoNeighbours-last touch (y ∷ []) x z h p = (h y p.0, tt)
NoNeighbours-last touch (y ∷ w ∷ ws) x z h p = (p.0, NoNeighbours-last touch (w ∷ ws) x z h p.1)

-- the first element changed for one that touches no more elements after it
pub NoNeighbours-first : {X : Type 0} (touch : X → X → Bool) (x z : X) (back : List X)
    → ((y : X) → touch x y ≡ false → touch z y ≡ false) → NoNeighbours touch (x ∷ back) → NoNeighbours touch (z ∷ back)
NoNeighbours-first touch x z [] h p = tt
NoNeighbours-first touch x z (y ∷ ys) h p = (h y p.0, p.1)

-- an element changed for one that touches no more than it did
pub NoNeighbours-changed : {X : Type 0} (touch : X → X → Bool) (front : List X) (x z : X) (back : List X)
    → ((y : X) → touch y x ≡ false → touch y z ≡ false) → ((y : X) → touch x y ≡ false → touch z y ≡ false) → NoNeighbours touch (front ++ x ∷ back) → NoNeighbours touch (front ++ z ∷ back)
NoNeighbours-changed touch front x z back left right p =
    NoNeighbours-merge touch front z back
    (NoNeighbours-last touch front x z left (NoNeighbours-front touch front x back p))
    (NoNeighbours-first touch x z back right (NoNeighbours-back touch front (x ∷ back) p))

-- an element split in two that do not touch, and which touch no more than it did
pub NoNeighbours-split : {X : Type 0} (touch : X → X → Bool) (front : List X) (x first rest : X) (back : List X)
    → ((y : X) → touch y x ≡ false → touch y first ≡ false) → touch first rest ≡ false → ((y : X) → touch x y ≡ false → touch rest y ≡ false) → NoNeighbours touch (front ++ x ∷ back) → NoNeighbours touch (front ++ first ∷ rest ∷ back)
NoNeighbours-split touch front x first rest back left apart right p =
    NoNeighbours-merge touch front first (rest ∷ back)
    (NoNeighbours-last touch front x first left (NoNeighbours-front touch front x back p))
    (apart, NoNeighbours-first touch x rest back right (NoNeighbours-back touch front (x ∷ back) p))

-- a change of each element that keeps what touches
pub NoNeighbours-map : {X : Type 0} (touch : X → X → Bool) (change : X → X) → ((x y : X) → touch (change x) (change y) ≡ touch x y)
    → (xs : List X) → NoNeighbours touch xs → NoNeighbours touch (map change xs)
NoNeighbours-map touch change same [] apart = tt
NoNeighbours-map touch change same (x ∷ []) apart = tt
NoNeighbours-map touch change same (x ∷ y ∷ ys) apart = (same x y ∙ apart.0, NoNeighbours-map touch change same (y ∷ ys) apart.1)
