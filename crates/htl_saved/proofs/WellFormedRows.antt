-- The rows of a standing state are well-formed.
use Rattle.std.proofs.Common.{◌≡◌, ℕ, suc, ◌+◌, ◌<◌, ◌≤◌, ◌^◌, List, [], ◌∷◌, length, map, get_or, true}
use Rattle.std.proofs.Common.{Some, None, refl, sym, ◌∙◌, ap, arith, subst, inl, inr}
use Rattle.std.specs.Prelude.{Contains}
use Rattle.std.specs.List.{AllByRecursion, flat_map}
use Rattle.std.proofs.lemmas.List.{get_or_default}
use Rattle.std.proofs.lemmas.List.Elements.{Contains-get_or, Contains-append_cases}
use Rattle.std.proofs.lemmas.List.Sums.{sum_by-cons}
use Rattle.std.specs.Ordering.{is_lt}
use Rattle.std.specs.declared.cmp.Ordering.TheVariants.{Less}
use Rattle.std.proofs.lemmas.Bool.{lt-ltb, cases_lt}
use Rattle.htl_event.specs.Events.{Event}
use Rattle.htl_event.specs.Handles.{LatestIs, IsLatest, IsGreatestSequence, IsOf, opens_or_closes}
use Rattle.htl_event.specs.Members.{IsRising, Lists}
use Rattle.htl_event.specs.Slots.{base_of}
use Rattle.htl_event.specs.Tallies.{total_of, IsPositive, tally}
use Rattle.htl_event.specs.declared.kind.Kind.{Kind}
use Rattle.htl_event.specs.declared.kind.Kind.TheVariants.{Snapshot, Exited}
use Rattle.htl_event.proofs.Members.{Contains-cases, Contains-nil, Contains-map, Contains-from_map, Contains-from_flat_map}
use Rattle.htl_event.proofs.Members.{at_member, each_member, all_left, all_right}
use Rattle.htl_segment.specs.Content.{Content}
use Rattle.htl_segment.specs.Keys.{run_below}
use Rattle.htl_segment.specs.Traces.{Trace}
use Rattle.htl_taken.specs.Numbers.{Numbers, numbers_at, front_at, loose_at}
use Rattle.htl_taken.specs.Rising.{Rises}
use Rattle.htl_taken.specs.declared.TheConstants.{MAX_FRONT}
use Rattle.htl_taken.proofs.Rising.{length-Rises, Rises-member}
use Rattle.htl_tree.specs.Trees.{Tree, IsTree, by_stack, key_cmp, count_at, total_count}
use Rattle.htl_tree.specs.HasSlot.{has_slot}
use Rattle.htl_tree.specs.Nodes.{picked}
use Rattle.htl_tree.specs.declared.slots.Slots.TheVariants.{All}
use Rattle.htl_tree.proofs.Between.{lists_rows_of}
use Rattle.htl_tables.specs.Keys.{ByKey}
use Rattle.htl_tables.specs.Latest.{event_at}
use Rattle.htl_tables.specs.Greatest.{sequence_at, HasLowerProcess, HasSequence}
use Rattle.htl_analyst.specs.States.{Part as Kept, Folded, no_part, part_at, folded_at, State as Analyst}
use Rattle.htl_analyst.specs.Right.{IsOwned, IsPart, IsRight, IsFolded, run_events}
use Rattle.htl_state.specs.declared.rows.Setting.{Setting}
use Rattle.htl_state.specs.Format.{spelling}
use Rattle.htl_state.specs.Reading.{counts, latest, moments, held, stacks, setting}
use Rattle.htl_state.specs.Rows.{Part, State}
use Rattle.htl_state.specs.WellFormed.{RowsFit, SlotFits, StackFits, CountFits, LatestFits, MomentFits, SegmentFits}
use Rattle.htl_state.specs.WellFormed.{PartFits, PartsFit, WellFormed}
use Rattle.htl_saved.specs.Tables.{InStackOrder, HasAll, place_in, count_row, latest_row}
use Rattle.htl_saved.specs.AnalystRows.{AreRowsOf, HasTables, IsKept, part_rows, stacks_of, rows_at, no_rows}
use Rattle.htl_saved.specs.Laws.{IsPlain, ArePlain, AreWellFormed}
use Rattle.htl_saved.proofs.Places.{place_below}
use Rattle.htl_saved.proofs.RowOrders.{all_map, rising_map}
use Rattle.htl_saved.proofs.Tallies.{Counted, all_picked}
use Rattle.htl_saved.proofs.TablesOf.{has_part, table_has_all}
use Rattle.htl_saved.proofs.Written.{IsWritten, written, stack_written, base_written, plain_written}
use Rattle.htl_saved.proofs.Written.{counted_fits, greatest_fits, process_fits}
use Rattle.htl_saved.proofs.RowsFit.{fit_rows, rising_from, count_before, latest_before, held_rising}
use Rattle.htl_saved.proofs.FewRows.{HasFew, few_stacks, few_at}

-- ---- a tree

-- the counts of a tree rise by stack and then by slot
tree_rising : (t : Tree) → IsTree t → IsRising (λ (x y : Counted). key_cmp x.0 y.0 ≡ Less) t
tree_rising t is =
    subst (IsRising (λ (x y : Counted). key_cmp x.0 y.0 ≡ Less)) (all_picked t)
    (rising_map by_stack (λ (x y : Counted). key_cmp x.0 y.0 ≡ Less) (picked (has_slot All) t) (lists_rows_of t is All).rising)

-- a count that a tree has is that of its slot and stack, and isn't zero
count_there : (t : Tree) → IsTree t → (row : Counted) → Contains t row → (row.1 ≡ count_at t row.0.1 row.0.0) × IsPositive row.1
count_there t is row here =
    let there = Contains-from_map by_stack (picked (has_slot All) t) row (subst (λ (u : Tree). Contains u row) (sym (all_picked t)) here) in
    let m = ((lists_rows_of t is All).members there.0).0 there.1 in
    subst (λ (r : Counted). (r.1 ≡ count_at t r.0.1 r.0.0) × IsPositive r.1) there.2 (m.0, m.1)

-- no count is above the sum of all
count_most : (t : Tree) (row : Counted) → Contains t row → total_of row.1 ≤ total_count t
count_most [] row here = absurd (Contains-nil row here)
count_most (x ∷ t) row here =
    let sum : total_count (x ∷ t) ≡ total_of x.1 + total_count t = sum_by-cons (λ (r : Counted). total_of r.1) x t in
    elim (Contains-cases x t row here) [
      | inl is ↦ let same : total_of x.1 ≡ total_of row.1 = ap (λ (r : Counted). total_of r.1) is in omega (arith, sum, same)
      | inr there ↦ omega (arith, sum, count_most t row there)
    ]

-- ---- the stacks of a part, which a table has

abbrev counted_stacks : Tree → List (List ℕ)
counted_stacks tree = map (λ (row : Counted). row.0.0) tree

abbrev latest_stacks : List Event → List (List ℕ)
latest_stacks events = map (λ (e : Event). e.stack) events

module _ (table : List (List ℕ)) where
  counted_in : (tree : Tree) → HasAll table (counted_stacks tree) → (row : Counted) → Contains tree row → Contains table row.0.0
  counted_in tree has row here =
      at_member (Contains table) (counted_stacks tree) row.0.0 has (Contains-map (λ (r : Counted). r.0.0) tree row here)

  latest_in : (events : List Event) → HasAll table (latest_stacks events) → (e : Event) → Contains events e → Contains table e.stack
  latest_in events has e here =
      at_member (Contains table) (latest_stacks events) e.stack has (Contains-map (λ (x : Event). x.stack) events e here)

-- ---- what was folded of events

module _ (f : Folded) (events : List Event) (is : HasTables f) (folded : IsFolded f events)
    (all : (e : Event) → Contains events e → IsWritten e) where
  -- the slot and the stack of a count fit
  pub count_fits : (row : Counted) → Contains f.tree row → SlotFits row.0.1 × StackFits row.0.0
  count_fits row here =
      let there = count_there f.tree is.tree row here in
      let same : row.1 ≡ tally events row.0.1 row.0.0 = there.0 ∙ folded.fold.tree row.0.1 row.0.0 in
      counted_fits events all row.0.1 row.0.0 (subst IsPositive same there.1)

  -- a latest event is one of the events, and an open or a close
  pub latest_there : (e : Event) → Contains f.latest e → IsWritten e × (opens_or_closes e.kind ≡ true)
  latest_there e here =
      let has : event_at f.latest e.process (base_of e.handle) ≡ Some e = (is.latest.members e).0 here in
      let found : IsLatest (Contains events) e.process (base_of e.handle) e =
      subst (LatestIs (Contains events) e.process (base_of e.handle)) has (folded.fold.tables.latest_at e.process (base_of e.handle)) in
      (all e found.here, found.of_handle.kind)

  pub latest_plain : AllByRecursion IsPlain f.latest
  latest_plain = each_member IsPlain f.latest (λ e here. let w = latest_there e here in plain_written e w.0 w.1)

  moment_fits : (kind : Kind) (rows : List (ℕ × ℕ)) → Lists HasLowerProcess (HasSequence rows) rows
      → ((process : ℕ) → IsGreatestSequence (λ e. Contains events e × IsOf kind process e) (sequence_at rows process))
      → (row : ℕ × ℕ) → Contains rows row → MomentFits row
  moment_fits kind rows lists greatest row here =
      let has : HasSequence rows row = (lists.members row).0 here in
      let at : IsGreatestSequence (λ e. Contains events e × IsOf kind row.0 e) row.1 =
      subst (IsGreatestSequence (λ e. Contains events e × IsOf kind row.0 e)) has.is (greatest row.0) in
      record {
        process = process_fits events all kind row.0 row.1 at has.positive;
        sequence = greatest_fits events all (λ e. Contains events e × IsOf kind row.0 e) (λ e h. h.0) row.1 at;
        some = λ e. omega (arith, e, has.positive);
      }

  moments_fit : (kind : Kind) (rows : List (ℕ × ℕ)) → Lists HasLowerProcess (HasSequence rows) rows
      → ((process : ℕ) → IsGreatestSequence (λ e. Contains events e × IsOf kind process e) (sequence_at rows process))
      → RowsFit moments.is_before MomentFits None rows
  moments_fit kind rows lists greatest =
      fit_rows moments.is_before MomentFits rows (each_member MomentFits rows (moment_fits kind rows lists greatest))
      (rising_from (λ (x : ℕ × ℕ). Unit {0}) HasLowerProcess (λ x y. moments.is_before x y ≡ true)
      (λ x y a b lt. lt-ltb x.0 y.0 lt) rows (each_member (λ (x : ℕ × ℕ). Unit {0}) rows (λ x h. tt)) lists.rising)

  pub marks_fit : RowsFit moments.is_before MomentFits None f.marks
  marks_fit = moments_fit Snapshot f.marks is.marks folded.fold.tables.mark_at

  pub exits_fit : RowsFit moments.is_before MomentFits None f.exits
  exits_fit = moments_fit Exited f.exits is.exits folded.fold.tables.exit_at

  pub last_fits : f.last_sequence < 2 ^ 64
  last_fits = greatest_fits events all (Contains events) (λ e h. h) f.last_sequence folded.last

  -- ---- with a table of stacks

  module _ (table : List (List ℕ)) (rising : IsRising InStackOrder table) (few : length table ≤ 2 ^ 32) (st : Setting)
      (len : st.stacks ≡ length table) (most : total_count f.tree < 2 ^ 64) where
    count_row_fits : HasAll table (counted_stacks f.tree) → (row : Counted) → Contains f.tree row
        → CountFits st (count_row table row)
    count_row_fits has row here =
        let place : place_in table row.0.0 < length table = place_below table row.0.0 (counted_in table f.tree has row here) in
        let total = count_most f.tree row here in
        let some = (count_there f.tree is.tree row here).1 in
        record {
          stack = omega (arith, place, few);
          known = omega (arith, place, len);
          slot = (count_fits row here).0;
          plus = omega (arith, total, most);
          minus = omega (arith, total, most);
          some = λ none. omega (arith, some, none.0, none.1);
        }

    pub counts_fit : HasAll table (counted_stacks f.tree)
        → RowsFit counts.is_before (CountFits st) None (map (count_row table) f.tree)
    counts_fit has =
        fit_rows counts.is_before (CountFits st) (map (count_row table) f.tree)
        (all_map (count_row table) (CountFits st) f.tree
        (each_member (λ (row : Counted). CountFits st (count_row table row)) f.tree (count_row_fits has)))
        (rising_map (count_row table) (λ x y. counts.is_before x y ≡ true) f.tree
        (rising_from (λ (row : Counted). Contains table row.0.0) (λ (x y : Counted). key_cmp x.0 y.0 ≡ Less)
        (λ (x y : Counted). counts.is_before (count_row table x) (count_row table y) ≡ true) (count_before table rising) f.tree
        (each_member (λ (row : Counted). Contains table row.0.0) f.tree (counted_in table f.tree has))
        (tree_rising f.tree is.tree)))

    latest_row_fits : HasAll table (latest_stacks f.latest) → (e : Event) → Contains f.latest e → LatestFits st (latest_row table e)
    latest_row_fits has e here =
        let place : place_in table e.stack < length table = place_below table e.stack (latest_in table f.latest has e here) in
        let w = latest_there e here in
        let range = w.0.fits.in_range in
        let later = w.0.some in
        record {
          sequence = range.sequence;
          some = λ none. omega (arith, later, none);
          kind = w.1;
          process = range.process;
          thread = range.thread;
          handle = range.handle;
          base = base_written e w.0 w.1;
          stack = omega (arith, place, few);
          known = omega (arith, place, len);
        }

    pub latest_fit : HasAll table (latest_stacks f.latest)
        → RowsFit latest.is_before (LatestFits st) None (map (latest_row table) f.latest)
    latest_fit has =
        fit_rows latest.is_before (LatestFits st) (map (latest_row table) f.latest)
        (all_map (latest_row table) (LatestFits st) f.latest
        (each_member (λ (e : Event). LatestFits st (latest_row table e)) f.latest (latest_row_fits has)))
        (rising_map (latest_row table) (λ x y. latest.is_before x y ≡ true) f.latest
        (rising_from (λ (e : Event). Unit {0}) ByKey
        (λ (x y : Event). latest.is_before (latest_row table x) (latest_row table y) ≡ true) (λ x y a b. latest_before table x y) f.latest
        (each_member (λ (e : Event). Unit {0}) f.latest (λ e h. tt)) is.latest.rising))

-- the stacks of a part fit
part_stacks : (k : Kept) (events : List Event) → HasTables k.folded → IsFolded k.folded events
    → ((e : Event) → Contains events e → IsWritten e) → (s : List ℕ) → Contains (stacks_of k) s → StackFits s
part_stacks k events is folded all s here =
    elim (Contains-append_cases (counted_stacks k.folded.tree) (latest_stacks k.folded.latest) s here) [
      | inl counted ↦
          let row = Contains-from_map (λ (r : Counted). r.0.0) k.folded.tree s counted in
          subst StackFits row.2 (count_fits k.folded events is folded all row.0 row.1).1
      | inr late ↦
          let e = Contains-from_map (λ (x : Event). x.stack) k.folded.latest s late in
          subst StackFits e.2 (stack_written e.0 (latest_there k.folded events is folded all e.0 e.1).0)
    ]

-- ---- held segments

held_fit : (id n p table : ℕ) (q : Numbers) (k : Kept) → IsPart id n p q k → (Contains q.loose q.front → ⊥)
    → RowsFit held.is_before (SegmentFits (setting id n p q.front table)) None k.held
held_fit id n p table q k is apart =
    fit_rows held.is_before (SegmentFits (setting id n p q.front table)) k.held
    (each_member (SegmentFits (setting id n p q.front table)) k.held fits)
    (held_rising MAX_FRONT q.front k.held (subst (Rises q.front MAX_FRONT) (sym is.numbers) is.proper.rises))
  where
    fits : (s : Content) → Contains k.held s → SegmentFits (setting id n p q.front table) s
    fits s here =
        let owned : IsOwned id n p s = at_member (IsOwned id n p) k.held s is.owned here in
        let loose : Contains q.loose s.number =
        subst (λ (ns : List ℕ). Contains ns s.number) is.numbers (Contains-map (λ (c : Content). c.number) k.held s here) in
        let least = (Rises-member q.front MAX_FRONT q.loose s.number is.proper.rises loose).0 in
        record {
          fits = owned.fits;
          trace_id = owned.trace_id;
          processors = owned.processors;
          processor = owned.processor;
          above = elim (cases_lt q.front s.number) [
            | inl lt ↦ lt
            | inr le ↦
                let at : s.number ≡ q.front = omega (arith, le, least) in
                absurd (apart (subst (Contains q.loose) at loose))
          ];
        }

-- ---- an analyst

module _ (T : Trace) (a : Analyst) (right : IsRight a T) (keeps : IsKept a) where
  abbrev events_at : ℕ → List Event
  events_at p = run_events T p (front_at a.taken p)

  written_at : (p : ℕ) (e : Event) → Contains (events_at p) e → IsWritten e
  written_at p e here = written T right.collection.fit (run_below p (front_at a.taken p)) e here

  pub plain_at : (p : ℕ) → p < a.processors → AllByRecursion IsPlain (folded_at a.parts p).latest
  plain_at p lt = latest_plain (folded_at a.parts p) (events_at p) (keeps.tables p lt) (right.each p lt).folded (written_at p)

  pub stacks_fit : (s : List ℕ) → Contains (flat_map stacks_of a.parts) s → StackFits s
  stacks_fit s here =
      let r = Contains-from_flat_map stacks_of a.parts s here in
      let p = r.1.0 in
      let lt : p < a.processors = omega (arith, r.1.1, right.state.parts) in
      let same : part_at a.parts p ≡ r.0 = get_or_default a.parts p no_part r.0 r.1.1 ∙ r.1.2 in
      part_stacks (part_at a.parts p) (events_at p) (keeps.tables p lt) (right.each p lt).folded (written_at p) s
      (subst (λ (k : Kept). Contains (stacks_of k) s) (sym same) r.2)

  module _ (least : (p : ℕ) → Contains (loose_at a.taken p) (front_at a.taken p) → ⊥) (rows : State) (are : AreRowsOf a rows)
      (few : length rows.stacks ≤ 2 ^ 32) (small : length (spelling rows) < 2 ^ 64) where
    part_fits_at : (p : ℕ) → p < length rows.parts
        → PartFits rows.trace_id (length rows.parts) p (length rows.stacks) (rows_at rows.parts p)
    part_fits_at p here =
        let lt : p < a.processors = omega (arith, here, are.processors) in
        let q = numbers_at a.taken p in
        let k = part_at a.parts p in
        let id = rows.trace_id in
        let n = length rows.parts in
        let st = setting id n p q.front (length rows.stacks) in
        let is : IsPart id n p q k =
        subst (λ (m : ℕ). IsPart id m p q k) (sym are.processors)
        (subst (λ (m : ℕ). IsPart m a.processors p q k) (sym are.trace_id) (right.state.each p lt)) in
        let top : q.front ≤ MAX_FRONT = (let l = length-Rises q.front MAX_FRONT q.loose is.proper.rises in omega (arith, l)) in
        let all = written_at p in
        let tables = keeps.tables p lt in
        let folded = (right.each p lt).folded in
        let has : HasAll rows.stacks (stacks_of k) =
        has_part rows.stacks a.parts k (table_has_all a.parts rows.stacks are.stacks)
        (Contains-get_or a.parts p no_part (omega (arith, right.state.parts, lt))) in
        let total : total_count k.folded.tree < 2 ^ 64 = omega (arith, is.bounded.counts, top) in
        let count = few_at rows p no_rows here in
        let made : Part = part_rows rows.stacks q.front k in
        let same : rows_at rows.parts p ≡ made = are.parts p lt in
        let less : HasFew (length (spelling rows)) made = subst (HasFew (length (spelling rows))) same count in
        let in_tree = all_left (Contains rows.stacks) (counted_stacks k.folded.tree) (latest_stacks k.folded.latest) has in
        let in_latest = all_right (Contains rows.stacks) (counted_stacks k.folded.tree) (latest_stacks k.folded.latest) has in
        subst (PartFits id n p (length rows.stacks)) (sym same) (record {
          front = omega (arith, top);
          last_sequence = last_fits k.folded (events_at p) tables folded all;
          events = omega (arith, is.bounded.events, top);
          counts = record {
            few = omega (arith, less.counts, small);
            each = counts_fit k.folded (events_at p) tables folded all rows.stacks are.stacks.rising few st refl total in_tree;
          };
          latest = record {
            few = omega (arith, less.latest, small);
            each = latest_fit k.folded (events_at p) tables folded all rows.stacks are.stacks.rising few st refl total in_latest;
          };
          marks = record { few = omega (arith, less.marks, small); each = marks_fit k.folded (events_at p) tables folded all };
          exits = record { few = omega (arith, less.exits, small); each = exits_fit k.folded (events_at p) tables folded all };
          held = record { few = omega (arith, less.held, small); each = held_fit id n p (length rows.stacks) q k is (least p) };
        })

    parts_fit : (parts : List Part) (q : ℕ)
        → ((i : ℕ) → i < length parts → PartFits rows.trace_id (length rows.parts) (q + i) (length rows.stacks) (get_or parts i no_rows))
        → PartsFit rows.trace_id (length rows.parts) q (length rows.stacks) parts
    parts_fit [] q each = tt
    parts_fit (p ∷ parts) q each =
        let first : q + 0 ≡ q = omega arith in (
          subst (λ (m : ℕ). PartFits rows.trace_id (length rows.parts) m (length rows.stacks) p) first (each 0 (omega arith)),
          parts_fit parts (q + 1) (λ i lt.
              let next : q + suc i ≡ (q + 1) + i = omega arith in
              subst (λ (m : ℕ). PartFits rows.trace_id (length rows.parts) m (length rows.stacks) (get_or parts i no_rows)) next
              (each (suc i) (omega (arith, lt)))),
        )

    pub rows_fit : WellFormed rows
    rows_fit = record {
      trace_id = omega (arith, are.trace_id, keeps.trace_id);
      processors = (omega (arith, are.processors, right.state.some), omega (arith, are.processors, right.state.few));
      stacks = record {
        few = (let s = few_stacks rows in omega (arith, s, small));
        each = fit_rows stacks.is_before StackFits rows.stacks
            (each_member StackFits rows.stacks (λ s here. stacks_fit s ((are.stacks.members s).0 here)))
            (rising_from (λ (s : List ℕ). Unit {0}) InStackOrder (λ s t. stacks.is_before s t ≡ true) (λ s t x y less. ap is_lt less)
            rows.stacks (each_member (λ (s : List ℕ). Unit {0}) rows.stacks (λ s h. tt)) are.stacks.rising);
      };
      parts = parts_fit rows.parts 0 (λ i lt.
          let at : i ≡ 0 + i = omega arith in
          subst (λ (m : ℕ). PartFits rows.trace_id (length rows.parts) m (length rows.stacks) (rows_at rows.parts i)) at
          (part_fits_at i lt));
      small = small;
    }

pub are_plain : ArePlain
are_plain T a right keeps = record { state = right.state; plain = plain_at T a right keeps }

pub are_well_formed : AreWellFormed
are_well_formed T a rows standing keeps are few small =
    rows_fit T a standing.right keeps (λ p held. standing.least p (inr held)) rows are few small
