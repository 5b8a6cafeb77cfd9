-- What well-formed rows tell is a state, unless they break its bounds, and its folds and held segments are those of the rows.
use Rattle.std.proofs.Common.{◌≡◌, ℕ, zero, suc, ◌+◌, ◌<◌, ◌≤◌, List, [], ◌∷◌, ◌++◌, length, map, get_or, true}
use Rattle.std.proofs.Common.{Option, Some, None, refl, sym, ◌∙◌, ap, arith, subst}
use Rattle.std.specs.List.{flat_map}
use Rattle.std.proofs.lemmas.Bool.{ltb-true}
use Rattle.std.proofs.lemmas.List.{length-map, get_or-map, get_or_default}
use Rattle.htl_segment.specs.Content.{Content}
use Rattle.htl_taken.specs.Numbers.{Numbers, no_numbers, numbers_at}
use Rattle.htl_taken.specs.Rising.{Rises}
use Rattle.htl_taken.specs.declared.TheConstants.{MAX_FRONT}
use Rattle.htl_analyst.specs.States.{Part as Kept, no_part, part_at, State as Analyst}
use Rattle.htl_analyst.specs.Right.{IsState, IsPart, IsOwned}
use Rattle.htl_state.specs.declared.rows.Setting.{Setting}
use Rattle.htl_state.specs.Rows.{Part, State}
use Rattle.htl_state.specs.Reading.{follows, held, setting}
use Rattle.htl_state.specs.WellFormed.{RowsFit, SegmentFits, PartFits, PartsFit, WellFormed}
use Rattle.htl_analyst.specs.Restored.{Fold, no_fold, AreFoldsOf, CanRestore, IsBounded, AreNew}
use Rattle.htl_analyst.specs.Restored.{held_segments, of_folds, with_segments, RestoreRefused}
use Rattle.htl_analyst.specs.declared.fault.RestoreFault.{RestoreFault}
use Rattle.htl_analyst.specs.Laws.{IsMadeAgain, AreMadeAgain}
use Rattle.htl_saved.specs.AnalystRows.{no_rows, rows_at}
use Rattle.htl_saved.specs.Restored.{fold_told, folds_told, numbers_told, kept_told, state_told, IsFoldable, AreFoldable}
use Rattle.htl_saved.proofs.RowOrders.{foldable, rows_each, table_rising}

-- ---- a processor

-- the part of a processor fits
pub part_fits : (id n q table : ℕ) (parts : List Part) → PartsFit id n q table parts → (i j : ℕ) (d : Part) → i < length parts → j ≡ q + i
    → PartFits id n j table (get_or parts i d)
part_fits id n q table [] fit i j d lt at = absurd (omega (arith, lt))
part_fits id n q table (p ∷ parts) fit zero j d lt at =
    let first : q ≡ j = omega (arith, at) in subst (λ (m : ℕ). PartFits id n m table p) first fit.0
part_fits id n q table (p ∷ parts) fit (suc i) j d lt at =
    part_fits id n (q + 1) table parts fit.1 i j d (omega (arith, lt)) (omega (arith, at))

module _ (st : Setting) where
  -- held segments that fit rise, each above the one before it
  rises_told : (low : ℕ) (last : Option Content) (rows : List Content)
      → ((s : Content) → SegmentFits st s → follows held.is_before last s ≡ true → low ≤ s.number) → low ≤ MAX_FRONT
      → RowsFit held.is_before (SegmentFits st) last rows → Rises low MAX_FRONT (map (λ s. s.number) rows)
  rises_told low last [] start most fit = most
  rises_told low last (s ∷ rows) start most fit = (
    start s fit.0 fit.1,
    rises_told (s.number + 1) (Some s) rows (λ t f e. let above : s.number < t.number = ltb-true s.number t.number e in omega (arith, above))
        (omega (arith, fit.0.fits.number)) fit.2,
  )

-- what is kept of a processor is a part of a state
pub told_is_part : (table : List (List ℕ)) (id n q : ℕ) (p : Part) → PartFits id n q (length table) p → IsBounded (fold_told table p)
    → IsPart id n q (numbers_told p) (kept_told table p)
told_is_part table id n q p fit bounded =
    let st = setting id n q p.front (length table) in
    record {
      proper = record {
        rises = rises_told st p.front None p.held (λ s f e. omega (arith, f.above)) (omega (arith, fit.front)) fit.held.each;
      };
      numbers = refl;
      owned = rows_each held.is_before (SegmentFits st) (IsOwned id n q)
          (λ s f. record { fits = f.fits; trace_id = f.trace_id; processors = f.processors; processor = f.processor })
          None p.held fit.held.each;
      bounded = bounded;
    }

-- ---- all

module _ (rows : State) (fit : WellFormed rows) (can : CanRestore (folds_told rows)) where
  fits_at : (p : ℕ) → p < length rows.parts → PartFits rows.trace_id (length rows.parts) p (length rows.stacks) (rows_at rows.parts p)
  fits_at p lt = part_fits rows.trace_id (length rows.parts) 0 (length rows.stacks) rows.parts fit.parts p p no_rows lt (omega arith)

  bounded_at : (p : ℕ) → p < length rows.parts → IsBounded (fold_told rows.stacks (rows_at rows.parts p))
  bounded_at p lt =
      subst IsBounded (get_or-map (fold_told rows.stacks) rows.parts p no_rows no_fold lt)
      (can.each p (omega (arith, length-map rows.parts (fold_told rows.stacks), lt)))

  pub told_is_state : IsState (state_told rows)
  told_is_state = record {
    some = omega (arith, fit.processors.0);
    few = fit.processors.1;
    places = length-map rows.parts numbers_told;
    parts = length-map rows.parts (kept_told rows.stacks);
    each = λ p lt.
        let numbers : numbers_told (rows_at rows.parts p) ≡ numbers_at (map numbers_told rows.parts) p =
        sym (get_or-map numbers_told rows.parts p no_rows no_numbers lt) in
        let kept : kept_told rows.stacks (rows_at rows.parts p) ≡ part_at (map (kept_told rows.stacks) rows.parts) p =
        sym (get_or-map (kept_told rows.stacks) rows.parts p no_rows no_part lt) in
        subst (λ (k : Kept). IsPart rows.trace_id (length rows.parts) p (numbers_at (map numbers_told rows.parts) p) k) kept
        (subst (λ (q : Numbers). IsPart rows.trace_id (length rows.parts) p q (kept_told rows.stacks (rows_at rows.parts p))) numbers
        (told_is_part rows.stacks rows.trace_id (length rows.parts) p (rows_at rows.parts p) (fits_at p lt) (bounded_at p lt)));
  }

  pub told_foldable : AreFoldable rows.stacks rows.parts
  told_foldable part (p, lt, is) =
      let same : rows_at rows.parts p ≡ part = get_or_default rows.parts p no_rows part lt ∙ is in
      subst (λ (q : Part). IsFoldable rows.stacks q) same
      (foldable rows.stacks (table_rising rows.stacks fit.stacks) rows.trace_id (length rows.parts) p (rows_at rows.parts p)
      (fits_at p lt) (bounded_at p lt))

fronts_told : (table : List (List ℕ)) (parts : List Part)
    → map (λ (f : Fold). f.front) (map (fold_told table) parts) ≡ map (λ (q : Numbers). q.front) (map numbers_told parts)
fronts_told table [] = refl
fronts_told table (p ∷ parts) = ap (λ ns. p.front ∷ ns) (fronts_told table parts)

folded_told : (table : List (List ℕ)) (parts : List Part)
    → map (λ (f : Fold). f.folded) (map (fold_told table) parts) ≡ map (λ (k : Kept). k.folded) (map (kept_told table) parts)
folded_told table [] = refl
folded_told table (p ∷ parts) = ap (λ fs. (fold_told table p).folded ∷ fs) (folded_told table parts)

-- the folds that rows tell are those of the state
pub folds_of_told : (rows : State) → AreFoldsOf (state_told rows) (folds_told rows)
folds_of_told rows = record { fronts = fronts_told rows.stacks rows.parts; folded = folded_told rows.stacks rows.parts }

held_told : (table : List (List ℕ)) (parts : List Part)
    → flat_map (λ (k : Kept). k.held) (map (kept_told table) parts) ≡ flat_map (λ (p : Part). p.held) parts
held_told table [] = refl
held_told table (p ∷ parts) = ap (λ ss. p.held ++ ss) (held_told table parts)

-- the state holds the held segments of the rows
pub held_of_told : (rows : State) → held_segments (state_told rows) ≡ flat_map (λ (p : Part). p.held) rows.parts
held_of_told rows = held_told rows.stacks rows.parts

-- ---- the state made again

module _ (rows : State) (fit : WellFormed rows) (can : CanRestore (folds_told rows)) (law : AreMadeAgain) where
  abbrev folds_alone : Analyst
  folds_alone = of_folds rows.trace_id (folds_told rows)

  abbrev all_held : List Content
  all_held = flat_map (λ (p : Part). p.held) rows.parts

  again : IsMadeAgain (state_told rows) (folds_told rows)
  again = law (state_told rows) (folds_told rows) (told_is_state rows fit can) (folds_of_told rows)

  -- the held segments are new to the state of the folds alone
  pub held_new : (a : Analyst) → a ≡ folds_alone → AreNew a all_held
  held_new a is = subst (λ (b : Analyst). AreNew b all_held) (sym is) (subst (AreNew folds_alone) (held_of_told rows) again.new)

  -- with them it is the state that the rows tell
  pub state_again : (a b : Analyst) → a ≡ folds_alone → b ≡ with_segments a all_held → b ≡ state_told rows
  state_again a b is made =
      made ∙ ap (λ (c : Analyst). with_segments c all_held) is ∙ sym (ap (with_segments folds_alone) (held_of_told rows)) ∙ again.same

-- ---- what was read of rows

-- the bounds of the parts that were read are those of the rows
pub can_from : (rows : State) (parts : List Part) → parts ≡ rows.parts → ((table : List (List ℕ)) → CanRestore (map (fold_told table) parts))
    → CanRestore (folds_told rows)
can_from rows parts same can = subst (λ (ps : List Part). CanRestore (map (fold_told rows.stacks) ps)) same (can rows.stacks)

-- and so is why they are refused
pub refused_from : (rows : State) (parts : List Part) (fault : RestoreFault) → parts ≡ rows.parts
    → ((table : List (List ℕ)) → RestoreRefused (map (fold_told table) parts) fault) → RestoreRefused (folds_told rows) fault
refused_from rows parts fault same refused =
    subst (λ (ps : List Part). RestoreRefused (map (fold_told rows.stacks) ps) fault) same (refused rows.stacks)

-- the parts that were read are those of which folds are made
pub foldable_from : (rows : State) → WellFormed rows → CanRestore (folds_told rows) → (table : List (List ℕ)) (parts : List Part)
    → table ≡ rows.stacks → parts ≡ rows.parts → AreFoldable table parts
foldable_from rows fit can table parts same_table same_parts =
    subst (λ (t : List (List ℕ)). AreFoldable t parts) (sym same_table)
    (subst (AreFoldable rows.stacks) (sym same_parts) (told_foldable rows fit can))

-- the state of the folds that were made is that of the folds alone
pub alone_from : (rows : State) (a : Analyst) (id : ℕ) (folds : List Fold) (table : List (List ℕ)) (parts : List Part) → a ≡ of_folds id folds
    → id ≡ rows.trace_id → folds ≡ map (fold_told table) parts → table ≡ rows.stacks → parts ≡ rows.parts
    → a ≡ of_folds rows.trace_id (folds_told rows)
alone_from rows a id folds table parts made same_id same_folds same_table same_parts =
    made ∙ ap (λ (n : ℕ). of_folds n folds) same_id ∙ ap (of_folds rows.trace_id) (
    same_folds ∙ ap (λ (t : List (List ℕ)). map (fold_told t) parts) same_table
    ∙ ap (λ (ps : List Part). map (fold_told rows.stacks) ps) same_parts
    )
