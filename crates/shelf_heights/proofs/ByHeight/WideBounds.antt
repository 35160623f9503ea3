-- Lists of bounds by the position of each, and what covers them block by block.
use Rattle.std.proofs.Common.{◌≡◌, ◌≢◌, ℕ, zero, suc, ◌+◌, ◌-◌, ◌*◌, ◌/◌, ◌<◌, ◌≤◌, ◌∙◌, Bool, true, false, Option, None, Some, List, [], ◌∷◌, IfSome, ap, arith, drop, get_or, get_or-set_other, get_or-set_same, insert, is_some, length, nat_eq, nat_lt, refl, remove, set, subst, sym, take}
use Rattle.std.proofs.lemmas.Bool.Decides.{nat_tests}
use Rattle.std.proofs.lemmas.List.{drop-take, get_or_past}
use Rattle.std.proofs.lemmas.List.Edits.{get_or-insert_above, get_or-insert_at, get_or-insert_below, get_or-remove_above, get_or-remove_below}
use Rattle.std.proofs.Math.Seq.{take-length}
use Rattle.std.specs.List.{AllByRecursion}
use Rattle.shelf_heights.specs.Private.ListFields.{AreCovered, AreRaised, IsFirstWide}
use Rattle.shelf_heights.proofs.ByHeight.PassedBounds.{joined}

-- what holds at each position holds of each
pub each-read : (P : ℕ → Type 0) (xs : List ℕ) → ((k : ℕ) → k < length xs → P (get_or xs k 0)) → AllByRecursion P xs
each-read P [] read = tt
each-read P (x ∷ xs) read = (read 0 (omega arith), each-read P xs (λ k less. read (suc k) (omega (arith, less))))

-- what holds at each position between two holds of each between them
pub stretch-read : (P : ℕ → Type 0) (xs : List ℕ) (from end : ℕ) → ((k : ℕ) → from ≤ k → k < end → k < length xs → P (get_or xs k 0)) → AllByRecursion P (drop from (take end xs))
stretch-read P xs zero zero read = tt
stretch-read P xs (suc from) zero read = tt
stretch-read P [] zero (suc end) read = tt
stretch-read P [] (suc from) (suc end) read = tt
stretch-read P (x ∷ xs) zero (suc end) read = (
  read 0 (omega arith) (omega arith) (omega arith),
  stretch-read P xs zero end (λ k after before within. read (suc k) (omega arith) (omega (arith, before)) (omega (arith, within))),
)
stretch-read P (x ∷ xs) (suc from) (suc end) read =
    stretch-read P xs from end (λ k after before within. read (suc k) (omega (arith, after)) (omega (arith, before)) (omega (arith, within)))

-- what holds of each between two positions holds at each position between them
pub stretch-at : (P : ℕ → Type 0) (xs : List ℕ) (from end k : ℕ) → from ≤ k → k < end → k < length xs → AllByRecursion P (drop from (take end xs)) → P (get_or xs k 0)
stretch-at P xs from zero k after before within each = absurd (omega (arith, before))
stretch-at P [] from (suc end) k after before within each = absurd (omega (arith, within))
stretch-at P (x ∷ xs) zero (suc end) zero after before within each = each.0
stretch-at P (x ∷ xs) zero (suc end) (suc k) after before within each =
    stretch-at P xs zero end k (omega arith) (omega (arith, before)) (omega (arith, within)) each.1
stretch-at P (x ∷ xs) (suc from) (suc end) zero after before within each = absurd (omega (arith, after))
stretch-at P (x ∷ xs) (suc from) (suc end) (suc k) after before within each =
    stretch-at P xs from end k (omega (arith, after)) (omega (arith, before)) (omega (arith, within)) each

-- what holds of each of so many from a position on holds at each of their positions
pub slice-at : (P : ℕ → Type 0) (xs : List ℕ) (from size k : ℕ) → from ≤ k → k < from + size → k < length xs → AllByRecursion P (take size (drop from xs)) → P (get_or xs k 0)
slice-at P xs from size k after before within each = stretch-at P xs from (from + size) k after before within (subst (AllByRecursion P) (sym (drop-take from size xs)) each)

-- what holds at a position holds of each that is taken there
here-read : (P : ℕ → Type 0) (xs : List ℕ) (index : ℕ) → (index < length xs → P (get_or xs index 0)) → AllByRecursion P (take 1 (drop index xs))
here-read P [] zero read = tt
here-read P [] (suc index) read = tt
here-read P (x ∷ xs) zero read = (read (omega arith), tt)
here-read P (x ∷ xs) (suc index) read = here-read P xs index (λ less. read (omega (arith, less)))

-- a wide bound behind others that are not is the first
pub first-read : (from width index : ℕ) (bounds : List ℕ) → from ≤ index → index < length bounds → ((k : ℕ) → from ≤ k → k < index → get_or bounds k 0 < width) → width ≤ get_or bounds index 0
    → IsFirstWide from width bounds (Some index)
first-read from width index bounds after within low wide = (
  after,
  within,
  stretch-read (λ bound. bound < width) bounds from index (λ k later before less. low k later before),
  here-read (λ bound. width ≤ bound) bounds index (λ less. wide),
)

-- the first one behind what was passed is the first of all
pub first-behind : (from width at : ℕ) (bounds : List ℕ) (result : Option ℕ) → from ≤ at → ((k : ℕ) → from ≤ k → k < at → k < length bounds → get_or bounds k 0 < width)
    → is_some result ≡ true → IfSome result (λ index. IsFirstWide at width bounds (Some index)) → IsFirstWide from width bounds result
first-behind from width at bounds None after low found first = absurd (cc)
first-behind from width at bounds (Some index) after low found first = (
  omega (arith, after, first.0),
  first.1,
  joined (λ bound. bound < width) bounds from at index after first.0 (stretch-read (λ bound. bound < width) bounds from at low) first.2,
  first.3,
)

-- so it is where one was found or none
pub first-after : (from width at : ℕ) (bounds : List ℕ) (result : Option ℕ) → from ≤ at → ((k : ℕ) → from ≤ k → k < at → k < length bounds → get_or bounds k 0 < width)
    → IfSome result (λ index. IsFirstWide at width bounds (Some index)) → IfSome result (λ index. IsFirstWide from width bounds (Some index))
first-after from width at bounds None after low first = tt
first-after from width at bounds (Some index) after low first = first-behind from width at bounds (Some index) after low refl first

-- where none is found behind what was passed, there is none at all
pub first-joined : (from width at : ℕ) (bounds : List ℕ) (result : Option ℕ) → from ≤ at → at ≤ length bounds → ((k : ℕ) → from ≤ k → k < at → k < length bounds → get_or bounds k 0 < width)
    → IsFirstWide at width bounds result → IsFirstWide from width bounds result
first-joined from width at bounds None after within low none =
    subst (λ (xs : List ℕ). AllByRecursion (λ bound. bound < width) (drop from xs)) (take-length bounds)
    (joined (λ bound. bound < width) bounds from at (length bounds) after within (stretch-read (λ bound. bound < width) bounds from at low)
    (subst (λ (xs : List ℕ). AllByRecursion (λ bound. bound < width) (drop at xs)) (sym (take-length bounds)) none))
first-joined from width at bounds (Some index) after within low first = first-behind from width at bounds (Some index) after low refl first

-- what is low up to a position and from there up to another is low up to that
pub low-joined : (from at end width : ℕ) (bounds : List ℕ) → ((k : ℕ) → from ≤ k → k < at → k < length bounds → get_or bounds k 0 < width)
    → ((k : ℕ) → at ≤ k → k < end → k < length bounds → get_or bounds k 0 < width)
    → (k : ℕ) → from ≤ k → k < end → k < length bounds → get_or bounds k 0 < width
low-joined from at end width bounds front back k after before within = by_order (nat_lt k at) refl
  where
    by_order : (b : Bool) → nat_lt k at ≡ b → get_or bounds k 0 < width
    by_order true e = front k after (grind (arith, nat_tests)) within
    by_order false e = back k (grind (arith, nat_tests)) before within

-- a stretch where none is found is low
pub none-found : (at end width : ℕ) (bounds : List ℕ) (found : Option ℕ) → is_some found ≡ false → (found ≡ None → AllByRecursion (λ bound. bound < width) (drop at (take end bounds)))
    → (k : ℕ) → at ≤ k → k < end → k < length bounds → get_or bounds k 0 < width
none-found at end width bounds None none low k after before within = stretch-at (λ bound. bound < width) bounds at end k after before within (low refl)
none-found at end width bounds (Some index) none low k after before within = absurd (cc)

-- where all bounds are low from a position on, there is no first
pub none-left : (from width : ℕ) (bounds : List ℕ) → ((k : ℕ) → from ≤ k → k < length bounds → get_or bounds k 0 < width) → IsFirstWide from width bounds None
none-left from width bounds low =
    subst (λ (xs : List ℕ). AllByRecursion (λ bound. bound < width) (drop from xs)) (take-length bounds)
    (stretch-read (λ bound. bound < width) bounds from (length bounds) (λ k after before within. low k after before))

-- the first up to the end is the first of all
pub first-to-end : (from width : ℕ) (bounds : List ℕ) (found : Option ℕ) → (found ≡ None → AllByRecursion (λ bound. bound < width) (drop from (take (length bounds) bounds)))
    → IfSome found (λ index. IsFirstWide from width bounds (Some index)) → IsFirstWide from width bounds found
first-to-end from width bounds None low first =
    subst (λ (xs : List ℕ). AllByRecursion (λ bound. bound < width) (drop from xs)) (take-length bounds) (low refl)
first-to-end from width bounds (Some index) low first = first

-- a bound does not pass the widest of its block
pub covered-at : (widest bounds : List ℕ) (block k : ℕ) → AreCovered widest bounds → block * 64 ≤ k → k < (block + 1) * 64 → get_or bounds k 0 ≤ get_or widest block 0
covered-at widest bounds block k covered after before =
    let reached : block * 64 + (k - block * 64) ≡ k = omega (arith, after) in
    omega (arith, ap (λ n. get_or bounds n 0) reached, covered block (k - block * 64) (omega (arith, before)))

-- a block whose widest is found anew is covered as the others are
pub block-covered : (widest bounds : List ℕ) (block value size : ℕ) → AreCovered widest bounds → block < length widest
    → ((k : ℕ) → k < length bounds → k < (block + 1) * 64 → k < block * 64 + size) → AllByRecursion (λ bound. bound ≤ value) (take size (drop (block * 64) bounds))
    → AreCovered (set widest block value) bounds
block-covered widest bounds block value size covered within inside low other offset less =
    by_block (nat_eq other block) refl (nat_lt (other * 64 + offset) (length bounds)) refl
  where
    by_block : (b : Bool) → nat_eq other block ≡ b → (d : Bool) → nat_lt (other * 64 + offset) (length bounds) ≡ d
        → get_or bounds (other * 64 + offset) 0 ≤ get_or (set widest block value) other 0
    by_block true e true f =
        let same : other ≡ block = grind (arith, nat_tests) in
        let here : other * 64 + offset < length bounds = grind (arith, nat_tests) in
        let read : get_or (set widest block value) other 0 ≡ value = ap (λ n. get_or (set widest block value) n 0) same ∙ get_or-set_same widest block value 0 within in
        omega (
          arith,
          read,
          slice-at (λ bound. bound ≤ value) bounds (block * 64) size (other * 64 + offset) (omega (arith, same))
              (inside (other * 64 + offset) here (omega (arith, same, less))) here low,
        )
    by_block true e false f =
        let past : length bounds ≤ other * 64 + offset = grind (arith, nat_tests) in
        omega (arith, get_or_past bounds (other * 64 + offset) 0 past)
    by_block false e d f =
        let apart : other ≢ block = grind (arith, nat_tests) in
        omega (arith, get_or-set_other widest block other value 0 apart, covered other offset less)

-- once a bound is put in, each block holds what it held, the bound, or the last one of the block before it
pub insert-covered : (old new bounds : List ℕ) (index bound : ℕ) → index ≤ length bounds → AreCovered old bounds → AreRaised old new → bound ≤ get_or new (index / 64) 0
    → ((block : ℕ) → index / 64 < block → block < length bounds / 64 + 1 → get_or bounds (block * 64 - 1) 0 ≤ get_or new block 0)
    → AreCovered new (insert bounds index bound)
insert-covered old new bounds index bound within covered raised here moved block offset less =
    by_order (nat_lt (block * 64 + offset) index) refl (nat_lt index (block * 64 + offset)) refl
  where
    above : (offset : ℕ) → offset < 64 → index < block * 64 + offset → get_or (insert bounds index bound) (block * 64 + offset) 0 ≤ get_or new block 0
    above zero less more =
        let back : block * 64 + 0 ≡ (block * 64 - 1) + 1 = omega (arith, more) in
        let read : get_or (insert bounds index bound) (block * 64 + 0) 0 ≡ get_or bounds (block * 64 - 1) 0 =
        ap (λ n. get_or (insert bounds index bound) n 0) back
        ∙ get_or-insert_above bounds index bound 0 (block * 64 - 1) (omega (arith, more)) within in
        by_end (nat_lt (block * 64 - 1) (length bounds)) refl read
      where
        by_end : (b : Bool) → nat_lt (block * 64 - 1) (length bounds) ≡ b → get_or (insert bounds index bound) (block * 64 + 0) 0 ≡ get_or bounds (block * 64 - 1) 0
            → get_or (insert bounds index bound) (block * 64 + 0) 0 ≤ get_or new block 0
        by_end true e read =
            let inside : block * 64 - 1 < length bounds = grind (arith, nat_tests) in
            omega (arith, read, moved block (omega (arith, more)) (omega (arith, inside, more)))
        by_end false e read =
            let outside : length bounds ≤ block * 64 - 1 = grind (arith, nat_tests) in
            omega (arith, read, get_or_past bounds (block * 64 - 1) 0 outside)
    above (suc offset) less more =
        let next : block * 64 + suc offset ≡ (block * 64 + offset) + 1 = omega arith in
        let read : get_or (insert bounds index bound) (block * 64 + suc offset) 0 ≡ get_or bounds (block * 64 + offset) 0 =
        ap (λ n. get_or (insert bounds index bound) n 0) next
        ∙ get_or-insert_above bounds index bound 0 (block * 64 + offset) (omega (arith, more)) within in
        omega (arith, read, covered block offset (omega (arith, less)), raised block)

    by_order : (b : Bool) → nat_lt (block * 64 + offset) index ≡ b → (d : Bool) → nat_lt index (block * 64 + offset) ≡ d
        → get_or (insert bounds index bound) (block * 64 + offset) 0 ≤ get_or new block 0
    by_order true e d f =
        let before : block * 64 + offset < index = grind (arith, nat_tests) in
        omega (arith, get_or-insert_below bounds index bound 0 (block * 64 + offset) before within, covered block offset less, raised block)
    by_order false e true f =
        let after : index < block * 64 + offset = grind (arith, nat_tests) in
        above offset less after
    by_order false e false f =
        let equal : block * 64 + offset ≡ index = grind (arith, nat_tests) in
        let same : block ≡ index / 64 = omega (arith, equal, less) in
        let read : get_or (insert bounds index bound) (block * 64 + offset) 0 ≡ bound =
        ap (λ n. get_or (insert bounds index bound) n 0) equal ∙ get_or-insert_at bounds index bound 0 within in
        omega (arith, read, here, ap (λ n. get_or new n 0) same)

-- once a bound is taken out, each block holds what it held or the first one of the block after it
pub remove-covered : (old new bounds : List ℕ) (index : ℕ) → index < length bounds → AreCovered old bounds → AreRaised old new
    → ((block : ℕ) → index / 64 ≤ block → block < (length bounds - 1) / 64 → get_or bounds ((block + 1) * 64) 0 ≤ get_or new block 0)
    → AreCovered new (remove bounds index)
remove-covered old new bounds index within covered raised moved block offset less =
    by_order (nat_lt (block * 64 + offset) index) refl (nat_lt offset 63) refl (nat_lt ((block + 1) * 64) (length bounds)) refl
  where
    by_order : (b : Bool) → nat_lt (block * 64 + offset) index ≡ b → (d : Bool) → nat_lt offset 63 ≡ d → (i : Bool) → nat_lt ((block + 1) * 64) (length bounds) ≡ i
        → get_or (remove bounds index) (block * 64 + offset) 0 ≤ get_or new block 0
    by_order true e d f i g =
        let before : block * 64 + offset < index = grind (arith, nat_tests) in
        omega (arith, get_or-remove_below bounds index 0 (block * 64 + offset) before within, covered block offset less, raised block)
    by_order false e true f i g =
        let after : index ≤ block * 64 + offset = grind (arith, nat_tests) in
        let inner : offset < 63 = grind (arith, nat_tests) in
        let next : (block * 64 + offset) + 1 ≡ block * 64 + (offset + 1) = omega arith in
        omega (arith, get_or-remove_above bounds index 0 (block * 64 + offset) after within, ap (λ n. get_or bounds n 0) next, covered block (offset + 1) (omega (arith, inner)), raised block)
    by_order false e false f true g =
        let after : index ≤ block * 64 + offset = grind (arith, nat_tests) in
        let outer : 63 ≤ offset = grind (arith, nat_tests) in
        let inside : (block + 1) * 64 < length bounds = grind (arith, nat_tests) in
        let next : (block * 64 + offset) + 1 ≡ (block + 1) * 64 = omega (arith, outer, less) in
        omega (arith, get_or-remove_above bounds index 0 (block * 64 + offset) after within, ap (λ n. get_or bounds n 0) next, moved block (omega (arith, after, less)) (omega (arith, inside)))
    by_order false e false f false g =
        let after : index ≤ block * 64 + offset = grind (arith, nat_tests) in
        let outer : 63 ≤ offset = grind (arith, nat_tests) in
        let outside : length bounds ≤ (block + 1) * 64 = grind (arith, nat_tests) in
        omega (arith, get_or-remove_above bounds index 0 (block * 64 + offset) after within, get_or_past bounds ((block * 64 + offset) + 1) 0 (omega (arith, outside, outer)))

-- where the widest of blocks are low, so are the bounds in them
pub blocks-low : (widest bounds : List ℕ) (at blocks width : ℕ) → AreCovered widest bounds → blocks ≤ length widest → AllByRecursion (λ bound. bound < width) (drop (at / 64) (take blocks widest))
    → (k : ℕ) → at ≤ k → k < blocks * 64 → get_or bounds k 0 < width
blocks-low widest bounds at blocks width covered few low k after before =
    omega (
      arith,
      covered-at widest bounds (k / 64) k covered (omega arith) (omega arith),
      stretch-at (λ bound. bound < width) widest (at / 64) blocks (k / 64) (omega (arith, after)) (omega (arith, before)) (omega (arith, before, few)) low,
    )
