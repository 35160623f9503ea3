-- The pass over the shelves decides whether they stand in the columns as they must.
use Rattle.std.proofs.Common.{◌≡◌, ◌≢◌, ℕ, suc, ◌+◌, ◌-◌, ◌/◌, ◌%◌, ◌<◌, ◌≤◌, ◌⊎◌, inl, inr, Bool, true, false, ◌&&◌, ◌||◌, cond, Option, None, Some, List, [], ◌∷◌, ◌++◌, map, refl, ap, arith, sym, ◌∙◌, subst, ⊎_elim, append_assoc, ◌==◌}
use Rattle.std.proofs.lemmas.Bool.{eqb-true, eq-eqb}
use Rattle.std.proofs.lemmas.Bool.Decides.{Decides-or}
use Rattle.std.proofs.lemmas.List.{append-nil}
use Rattle.std.specs.Option.{option_map_or}
use Rattle.std.specs.Prelude.{Decides, nat_le, nat_lt, option_and_then}
use Rattle.std.specs.List.{AllByRecursion}
use Rattle.etagere_base.proofs.DecidingLemmas.{decides-both, decides-map, decides-no, denied, granted}
use Rattle.etagere_base.specs.declared.frames.Frame.{Frame}
use Rattle.etagere_base.specs.Frames.{across_side}
use Rattle.bucketed_model.specs.State.{BucketShelf, available_height, column_height, current_column}
use Rattle.bucketed_model.specs.Valid.{OpenColumns}
use Rattle.bucketed_model.proofs.Shelving.Shelves.{opened-current, opened_by}
use Rattle.bucketed_records.specs.declared.records.LinkedBucket.{LinkedBucket}
use Rattle.bucketed_records.specs.declared.records.LinkedBucketShelf.{LinkedBucketShelf}
use Rattle.bucketed_records.specs.BucketRecords.{BucketRecords, spelled_shelf, spelled_state}
use Rattle.bucketed_records.specs.StandsFor.{AreStacked, HasShelves, height_before}
use Rattle.bucketed_restoring.specs.declared.judging.Stack.{Stack}
use Rattle.bucketed_restoring.specs.Private.Judging.{is_stacked, stack_end}
use Rattle.bucketed_restoring.proofs.Judged.Comparisons.{decides-eq, decides-le, decides-lt}

module _ (frame : Frame) (buckets : List LinkedBucket) where
  abbrev spelled : List LinkedBucketShelf → List BucketShelf
  spelled shelves = map (spelled_shelf frame buckets) shelves

  -- how tall the shelves of a column are that stand so far
  abbrev so_far : List LinkedBucketShelf → ℕ → ℕ
  so_far before column = height_before frame.column_width column before

  -- the heights of a column by what records spell
  pub height-spelled : (column : ℕ) (shelves : List LinkedBucketShelf) → column_height column (spelled shelves) ≡ so_far shelves column
  height-spelled column [] = refl
  height-spelled column (s ∷ ss) = ap (λ (h : ℕ). cond (s.x / frame.column_width == column) s.height 0 + h) (height-spelled column ss)

  -- one more shelf
  far-append : (column : ℕ) (xs : List LinkedBucketShelf) (x : LinkedBucketShelf)
      → so_far (xs ++ x ∷ []) column ≡ so_far xs column + cond (x.x / frame.column_width == column) x.height 0
  far-append column [] x = omega arith
  far-append column (y ∷ ys) x = omega (arith, far-append column ys x)

  -- so many columns are opened by the shelves so far, the last one so tall
  record IsSoFar (before : List LinkedBucketShelf) (stack : Stack) : Type 0 where
    pub later : (c : ℕ) → stack.opened ≤ c → so_far before c ≡ 0
    pub last : (c : ℕ) → suc c ≡ stack.opened → so_far before c ≡ stack.height
    pub low : (c : ℕ) → so_far before c ≤ across_side frame
    pub none : stack.opened ≡ 0 → stack.height ≡ 0

  -- the rest keeps the rule of shelves behind those
  record IsRest (before shelves : List LinkedBucketShelf) (opened : ℕ) : Type 0 where
    pub columns : AllByRecursion (λ (shelf : BucketShelf). shelf.column < frame.columns) (spelled shelves)
    pub opens : OpenColumns opened (spelled shelves)
    pub along : AllByRecursion (λ (shelf : LinkedBucketShelf). shelf.x % frame.column_width ≡ 0) shelves
    pub across : AreStacked frame.column_width before shelves
    pub heights : (c : ℕ) → so_far before c + column_height c (spelled shelves) ≤ across_side frame

  -- what the pass found, where it found anything
  record IsEnd (before shelves : List LinkedBucketShelf) (opened : ℕ) (end : Stack) : Type 0 where
    pub rest : IsRest before shelves opened
    pub far : IsSoFar (before ++ shelves) end
    pub opened_end : opened_by opened (spelled shelves) ≡ end.opened

  abbrev Told : List LinkedBucketShelf → List LinkedBucketShelf → ℕ → Option Stack → Type 0
  Told before shelves opened None = IsRest before shelves opened → ⊥
  Told before shelves opened (Some end) = IsEnd before shelves opened end

  module _ (before : List LinkedBucketShelf) (stack : Stack) (s : LinkedBucketShelf) (far : IsSoFar before stack) where
    abbrev column : ℕ
    column = s.x / frame.column_width

    -- where the column of the shelf ends so far
    abbrev below : ℕ
    below = cond (column + 1 == stack.opened) stack.height 0

    abbrev Along : Type 0
    Along = (s.x % frame.column_width ≡ 0) × (column < frame.columns)

    abbrev GoesOn : Type 0
    GoesOn = (suc column ≡ stack.opened) ⊎ ((column ≡ stack.opened) × (1 ≤ s.height))

    abbrev Across : Type 0
    Across = (s.y ≡ below) × (below + s.height ≤ across_side frame)

    abbrev test : Bool
    test =
        (s.x % frame.column_width == 0 && nat_lt column frame.columns)
        && ((column + 1 == stack.opened || (column == stack.opened && nat_le 1 s.height))
        && (s.y == below && nat_le (below + s.height) (across_side frame)))

    decided : Decides test (Along × (GoesOn × Across))
    decided =
        decides-both _ _ Along (GoesOn × Across)
        (decides-both _ _ (s.x % frame.column_width ≡ 0) (column < frame.columns) (decides-eq (s.x % frame.column_width) 0) (decides-lt column frame.columns))
        (decides-both _ _ GoesOn Across
        (Decides-or (column + 1 == stack.opened) (column == stack.opened && nat_le 1 s.height)
        (decides-map (column + 1 == stack.opened) (column + 1 ≡ stack.opened) (suc column ≡ stack.opened) (λ e. omega (arith, e)) (λ e. omega (arith, e)) (decides-eq (column + 1) stack.opened))
        (decides-both (column == stack.opened) (nat_le 1 s.height) (column ≡ stack.opened) (1 ≤ s.height) (decides-eq column stack.opened) (decides-le 1 s.height)))
        (decides-both (s.y == below) (nat_le (below + s.height) (across_side frame)) (s.y ≡ below) (below + s.height ≤ across_side frame) (decides-eq s.y below) (decides-le (below + s.height) (across_side frame))))

    -- the shelf begins where those before it in its column end
    begins : GoesOn → so_far before column ≡ below
    begins goes = by_test (column + 1 == stack.opened) refl
      where
        by_test : (t : Bool) → (column + 1 == stack.opened) ≡ t → so_far before column ≡ cond t stack.height 0
        by_test true e = let same : column + 1 ≡ stack.opened = eqb-true (column + 1) stack.opened e in far.last column (omega (arith, same))
        by_test false e =
            let other : column + 1 ≢ stack.opened = λ same. let here : (column + 1 == stack.opened) ≡ true = eq-eqb (column + 1) stack.opened same in absurd (cc) in
            ⊎_elim (λ same. absurd (other (omega (arith, same)))) (λ opens. far.later column (omega (arith, opens.0))) goes

    abbrev next : Stack
    next = record { opened = column + 1; height = below + s.height }

    -- what one more shelf adds to a column
    adds : (c : ℕ) → ((column ≡ c) × (so_far (before ++ s ∷ []) c ≡ so_far before c + s.height)) ⊎ ((column ≢ c) × (so_far (before ++ s ∷ []) c ≡ so_far before c))
    adds c = by_test (column == c) refl (far-append c before s)
      where
        by_test : (t : Bool) → (column == c) ≡ t → so_far (before ++ s ∷ []) c ≡ so_far before c + cond t s.height 0
            → ((column ≡ c) × (so_far (before ++ s ∷ []) c ≡ so_far before c + s.height)) ⊎ ((column ≢ c) × (so_far (before ++ s ∷ []) c ≡ so_far before c))
        by_test true e h = inl (eqb-true column c e, h)
        by_test false e h = inr (λ same. (let here : (column == c) ≡ true = eq-eqb column c same in absurd (cc)), omega (arith, h))

    -- the columns once the shelf stands there
    far-next : GoesOn → Across → IsSoFar (before ++ s ∷ []) next
    far-next goes across =
        let opened : stack.opened ≤ column + 1 = ⊎_elim (λ same. omega (arith, same)) (λ opens. omega (arith, opens.0)) goes in
        let here : so_far before column ≡ below = begins goes in
        record {
          later = λ c past. ⊎_elim (λ same. absurd (omega (arith, same.0, past))) (λ other. other.1 ∙ far.later c (omega (arith, opened, past))) (adds c);
          last = λ c is. let same : column ≡ c = omega (arith, is) in
              ⊎_elim (λ more. more.1 ∙ ap (λ (h : ℕ). h + s.height) (ap (so_far before) (sym same) ∙ here)) (λ other. absurd (other.0 same)) (adds c);
          low = λ c. ⊎_elim (λ more. omega (arith, more.1, ap (so_far before) more.0, here, across.1)) (λ other. omega (arith, other.1, far.low c)) (adds c);
          none = λ zero. absurd (omega (arith, zero));
        }

    -- the rule of the shelf and of the rest behind it
    rest-to : (ss : List LinkedBucketShelf) → Along → GoesOn → Across → IsRest (before ++ s ∷ []) ss (column + 1) → IsRest before (s ∷ ss) stack.opened
    rest-to ss along goes across rest =
        let one : column + 1 ≡ suc column = omega arith in
        record {
          columns = (along.1, rest.columns);
          opens = (goes, subst (λ (n : ℕ). OpenColumns n (spelled ss)) one rest.opens);
          along = (along.0, rest.along);
          across = (across.0 ∙ sym (begins goes), rest.across);
          heights = λ c. omega (arith, rest.heights c, far-append c before s);
        }

    rest-from : (ss : List LinkedBucketShelf) → IsRest before (s ∷ ss) stack.opened → IsRest (before ++ s ∷ []) ss (column + 1)
    rest-from ss rest =
        let one : column + 1 ≡ suc column = omega arith in
        record {
          columns = rest.columns.1;
          opens = subst (λ (n : ℕ). OpenColumns n (spelled ss)) (sym one) rest.opens.1;
          along = rest.along.1;
          across = rest.across.1;
          heights = λ c. omega (arith, rest.heights c, far-append c before s);
        }

    -- a shelf that keeps the rule passes the test
    passes : (ss : List LinkedBucketShelf) → IsRest before (s ∷ ss) stack.opened → Along × (GoesOn × Across)
    passes ss rest =
        let goes : GoesOn = rest.opens.0 in
        let own : (column == column) ≡ true = eq-eqb column column refl in
        let tall : so_far before column + (s.height + column_height column (spelled ss)) ≤ across_side frame =
        subst (λ (t : Bool). so_far before column + (cond t s.height 0 + column_height column (spelled ss)) ≤ across_side frame) own (rest.heights column) in
        ((rest.along.0, rest.columns.0), (goes, (rest.across.0 ∙ begins goes, omega (arith, tall, begins goes))))

    -- what the pass tells from the shelf on
    told-on : (ss : List LinkedBucketShelf) (end : Option Stack) → Along → GoesOn → Across → Told (before ++ s ∷ []) ss (column + 1) end → Told before (s ∷ ss) stack.opened end
    told-on ss None along goes across told = λ rest. told (rest-from ss rest)
    told-on ss (Some end) along goes across told =
        let one : column + 1 ≡ suc column = omega arith in
        record {
          rest = rest-to ss along goes across told.rest;
          far = subst (λ (xs : List LinkedBucketShelf). IsSoFar xs end) (append_assoc before (s ∷ []) ss) told.far;
          opened_end = ap (λ (n : ℕ). opened_by n (spelled ss)) (sym one) ∙ told.opened_end;
        }

  -- the pass tells whether the rest keeps the rule
  told : (shelves before : List LinkedBucketShelf) (stack : Stack) → IsSoFar before stack → Told before shelves stack.opened (stack_end frame stack shelves)
  told [] before stack far =
      record {
        rest = record { columns = tt; opens = tt; along = tt; across = tt; heights = λ c. omega (arith, far.low c) };
        far = subst (λ (xs : List LinkedBucketShelf). IsSoFar xs stack) (sym (append-nil before)) far;
        opened_end = refl;
      }
  told (s ∷ ss) before stack far =
      by_test (test before stack s far) refl
      (λ goes across. told ss (before ++ s ∷ []) (next before stack s far) (far-next before stack s far goes across))
    where
      by_test : (t : Bool) → test before stack s far ≡ t
          → (GoesOn before stack s far → Across before stack s far → Told (before ++ s ∷ []) ss (column before stack s far + 1) (stack_end frame (next before stack s far) ss))
          → Told before (s ∷ ss) stack.opened (option_and_then (λ (n : Stack). stack_end frame n ss) (cond t (Some (next before stack s far)) None))
      by_test true e later =
          let is = granted (test before stack s far) (Along before stack s far × (GoesOn before stack s far × Across before stack s far)) (decided before stack s far) e in
          told-on before stack s far ss (stack_end frame (next before stack s far) ss) is.0 is.1.0 is.1.1
          (later is.1.0 is.1.1)
      by_test false e later =
          λ rest. denied (test before stack s far) (Along before stack s far × (GoesOn before stack s far × Across before stack s far)) (decided before stack s far) e (passes before stack s far ss rest)

  -- no shelf stands at first
  abbrev none-yet : Stack
  none-yet = record { opened = 0; height = 0 }

  far-none : IsSoFar [] none-yet
  far-none = record { later = λ c _. refl; last = λ c is. absurd (omega (arith, is)); low = λ c. omega arith; none = λ _. refl }

  -- the current column and the height that it leaves, by what the pass found
  ends : (shelves : List LinkedBucketShelf) (end : Stack) → IsEnd [] shelves 0 end
      → (end.opened - 1 ≡ current_column (spelled shelves)) × (across_side frame - end.height ≡ available_height frame (spelled shelves))
  ends [] end is =
      let none : end.opened ≡ 0 = sym is.opened_end in
      (omega (arith, none), omega (arith, is.far.none none))
  ends (s ∷ ss) end is =
      let current : ℕ = current_column (spelled (s ∷ ss)) in
      let opened : suc current ≡ end.opened = sym (opened-current (spelled_shelf frame buckets s) (spelled ss)) ∙ is.opened_end in
      let tall : column_height current (spelled (s ∷ ss)) ≡ end.height = height-spelled current (s ∷ ss) ∙ is.far.last current opened in
      (omega (arith, opened), ap (λ (h : ℕ). across_side frame - h) (sym tall))

-- the pass decides whether the shelves keep their rule
pub stacked-decided : (atlas : BucketRecords) → 1 ≤ atlas.frame.column_width
    → Decides (is_stacked atlas.frame atlas.shelves atlas.current_column atlas.available_height) (HasShelves atlas (spelled_state atlas.frame atlas.shelves atlas.buckets))
stacked-decided atlas wide = by_end (stack_end atlas.frame (none-yet atlas.frame atlas.buckets) atlas.shelves) (told atlas.frame atlas.buckets atlas.shelves [] (none-yet atlas.frame atlas.buckets) (far-none atlas.frame atlas.buckets))
  where
    by_end : (end : Option Stack) → Told atlas.frame atlas.buckets [] atlas.shelves 0 end
        → Decides (option_map_or (λ (stack : Stack). stack.opened - 1 == atlas.current_column && across_side atlas.frame - stack.height == atlas.available_height) end false)
        (HasShelves atlas (spelled_state atlas.frame atlas.shelves atlas.buckets))
    by_end None told = decides-no (λ has. told (record { columns = has.columns; opens = has.opened; along = has.along; across = has.across; heights = λ c. omega (arith, has.heights c) }))
    by_end (Some end) told =
        let is = ends atlas.frame atlas.buckets atlas.shelves end told in
        decides-map (end.opened - 1 == atlas.current_column && across_side atlas.frame - end.height == atlas.available_height)
        ((end.opened - 1 ≡ atlas.current_column) × (across_side atlas.frame - end.height ≡ atlas.available_height))
        (HasShelves atlas (spelled_state atlas.frame atlas.shelves atlas.buckets))
        (λ p. record {
          wide = λ _. wide;
          columns = told.rest.columns;
          opened = told.rest.opens;
          along = told.rest.along;
          across = told.rest.across;
          heights = λ c. omega (arith, told.rest.heights c);
          current_column = sym p.0 ∙ is.0;
          available_height = sym p.1 ∙ is.1;
        })
        (λ has. (is.0 ∙ sym has.current_column, is.1 ∙ sym has.available_height))
        (decides-both (end.opened - 1 == atlas.current_column) (across_side atlas.frame - end.height == atlas.available_height)
        (end.opened - 1 ≡ atlas.current_column) (across_side atlas.frame - end.height ≡ atlas.available_height)
        (decides-eq (end.opened - 1) atlas.current_column) (decides-eq (across_side atlas.frame - end.height) atlas.available_height))
