-- The run of a processor can be folded, so a state that is right about a trace can be compacted.
use Rattle.std.proofs.Common.{◌≡◌, ℕ, zero, suc, ◌+◌, ◌<◌, ◌≤◌, ◌==◌, ◌&&◌, max, true, false, cond, List, [], ◌∷◌, ◌++◌, length}
use Rattle.std.proofs.Common.{Some, None, unwrap_or, refl, sym, ap, ◌∙◌, subst, inl, inr, arith, append_assoc, append-nil}
use Rattle.std.specs.Prelude.{count_by}
use Rattle.std.specs.Cmp.{tied_itself, nat_cmp_total, Equal-is}
use Rattle.std.specs.FinMap.{nat_cmp-IsAntisymmetric}
use Rattle.std.specs.Ordering.{eq_by_cmp, nat_cmp, is_eq}
use Rattle.std.proofs.lemmas.Bool.{cases_Bool, cases_eq, cases_lt, both_ways, lt-ltb, and_parts, eqb-true}
use Rattle.std.proofs.lemmas.List.{length_push}
use Rattle.std.proofs.lemmas.List.Sums.{sum_by-cons}
use Rattle.htl_event.specs.Events.{Event}
use Rattle.htl_event.specs.Handles.{later, opens_or_closes}
use Rattle.htl_event.specs.Slots.{base_of, is_counted, is_slot, slot_of}
use Rattle.htl_event.specs.Tallies.{has_stack, plus_count, tally, total_of, zero_count}
use Rattle.htl_event.specs.declared.kind.Kind.{Kind}
use Rattle.htl_event.specs.declared.kind.Kind.TheVariants.{Snapshot, Exited}
use Rattle.htl_event.specs.declared.slot.Count.{Count}
use Rattle.htl_event.specs.declared.slot.Sign.{Sign}
use Rattle.htl_event.specs.declared.slot.Sign.TheVariants.{Plus, Minus}
use Rattle.htl_event.specs.declared.slot.Slot.{Slot}
use Rattle.htl_event.proofs.Counts.{count_where-append}
use Rattle.htl_event.proofs.EventTests.{is_kind, is_kind-decides}
use Rattle.htl_segment.specs.Traces.{Trace, IsTrace}
use Rattle.htl_segment.proofs.Greatest.{greatest_joined}
use Rattle.htl_taken.specs.Numbers.{numbers_at}
use Rattle.htl_tables.specs.Greatest.{sequence_at}
use Rattle.htl_tables.specs.Keys.{key_cmp as table_cmp, key_of}
use Rattle.htl_tables.specs.Latest.{event_at, with_event}
use Rattle.htl_tables.specs.Laws.{IsGreatestOf}
use Rattle.htl_tables.proofs.KeyOrder.{key_test}
use Rattle.htl_tables.proofs.Noting.{kept_noted}
use Rattle.htl_tables.proofs.NotingLaws.{keeps_latest, keeps_greatest}
use Rattle.htl_tree.specs.Rows.{one_at}
use Rattle.htl_tree.specs.Trees.{Tree, HasTally, add_one, count_at, key_cmp, total_count}
use Rattle.htl_tree.proofs.Events.{tally_one_more}
use Rattle.htl_tree.proofs.TreesAsLists.{key_same, key_total}
use Rattle.htl_analyst.specs.States.{Folded, folded, folded_at, State, part_at}
use Rattle.htl_analyst.specs.Right.{IsFolded, IsState}
use Rattle.htl_analyst.specs.Steps.{new_state}
use Rattle.htl_analyst.specs.StepParts.{IsCompactedAt, run_of, settled_with}
use Rattle.htl_analyst.proofs.Compacts.{AreCompacted, AreCompacted-none, AreCompacted-more, IsStanding-compacted}
use Rattle.htl_analyst.proofs.Folds.{run_few}
use Rattle.htl_case.specs.Histories.{History, begun, took, merged, compacted, compaction_refused, Leaves}
use Rattle.htl_case.proofs.FinalAnswers.{greatest_one}
use Rattle.htl_case.proofs.Headlines.{some_segment, taken_there}
use Rattle.htl_case.proofs.Histories.{leaves_right}
use Rattle.htl_case.proofs.Mergeable.{any_can_be_merged}
use Rattle.htl_main.specs.Histories.{AnyCanBeCompacted, AnyHistoryLeavesAState, NamesSegments}

-- ---- a tree with one event more

abbrev Key : Type 0
Key = List ℕ × Slot

tie : (x y : Key) → eq_by_cmp key_cmp x y ≡ true → x ≡ y
tie x y test = key_same x y ((Equal-is (key_cmp x y)).0 test)

tied : (x y : Key) → x ≡ y → eq_by_cmp key_cmp x y ≡ true
tied x y same = ap (λ (z : Key). eq_by_cmp key_cmp x z) (sym same) ∙ ap is_eq (tied_itself key_total x)

plus_zero : (c : Count) → plus_count c zero_count ≡ c
plus_zero c =
    let plus : c.plus + 0 ≡ c.plus = omega arith in
    let minus : c.minus + 0 ≡ c.minus = omega arith in
    λ t. record { plus = plus t; minus = minus t }

add_plus : (sign : Sign) (c : Count) → add_one sign c ≡ plus_count c (add_one sign zero_count)
add_plus Plus c = let minus : c.minus ≡ c.minus + 0 = omega arith in λ t. record { plus = c.plus + 1; minus = minus t }
add_plus Minus c = let plus : c.plus ≡ c.plus + 0 = omega arith in λ t. record { plus = plus t; minus = c.minus + 1 }

module _ (stack : List ℕ) (slot : Slot) (sign : Sign) where
  -- one more at the key, which stands behind all others where it is new
  raised : Tree → Tree
  raised [] = ((stack, slot), add_one sign zero_count) ∷ []
  raised (row ∷ rows) = cond (eq_by_cmp key_cmp (stack, slot) row.0) ((row.0, add_one sign row.1) ∷ rows) (row ∷ raised rows)

  count_raised : (rows : Tree) (s : Slot) (k : List ℕ) → count_at (raised rows) s k ≡ plus_count (count_at rows s k) (one_at stack slot sign s k)
  unfolding raised
  count_raised [] s k =
      elim (eq_by_cmp key_cmp (k, s) (stack, slot)) as (λ b. unwrap_or (cond b (Some (add_one sign zero_count)) None) zero_count
      ≡ plus_count zero_count (cond b (add_one sign zero_count) zero_count)) [
        | true ↦ add_plus sign zero_count
        | false ↦ refl
      ]
  count_raised (row ∷ rows) s k =
      elim (cases_Bool (eq_by_cmp key_cmp (stack, slot) row.0)) [
        | inl here ↦
            let same : (stack, slot) ≡ row.0 = tie (stack, slot) row.0 here in
            rw here (
            elim (cases_Bool (eq_by_cmp key_cmp (k, s) row.0)) [
              | inl t ↦
                  let asked : eq_by_cmp key_cmp (k, s) (stack, slot) ≡ true = ap (λ (z : Key). eq_by_cmp key_cmp (k, s) z) same ∙ t in
                  rw (t, asked) (add_plus sign row.1)
              | inr f ↦
                  let asked : eq_by_cmp key_cmp (k, s) (stack, slot) ≡ false = ap (λ (z : Key). eq_by_cmp key_cmp (k, s) z) same ∙ f in
                  rw (f, asked) (sym (plus_zero (count_at rows s k)))
            ]
            )
        | inr there ↦
            rw there (
            elim (cases_Bool (eq_by_cmp key_cmp (k, s) row.0)) [
              | inl t ↦
                  let asked : eq_by_cmp key_cmp (k, s) (stack, slot) ≡ false = elim (cases_Bool (eq_by_cmp key_cmp (k, s) (stack, slot))) [
                    | inl other ↦ absurd (both_ways (eq_by_cmp key_cmp (stack, slot) row.0) there
                        (tied (stack, slot) row.0 (sym (tie (k, s) (stack, slot) other) ∙ tie (k, s) row.0 t)))
                    | inr none ↦ none
                  ] in
                  rw (t, asked) (sym (plus_zero row.1))
              | inr f ↦ rw f (count_raised rows s k)
            ]
            )
      ]

  total_raised : (rows : Tree) → total_count (raised rows) ≡ total_count rows + 1
  unfolding raised
  total_raised [] =
      let one = sum_by-cons (λ (row : Key × Count). total_of row.1) ((stack, slot), add_one sign zero_count) [] in
      let more : total_of (add_one sign zero_count) ≡ 1 = single sign in
      omega (arith, one, more)
    where
      single : (sg : Sign) → total_of (add_one sg zero_count) ≡ 1
      single Plus = refl
      single Minus = refl
  total_raised (row ∷ rows) =
      let old = sum_by-cons (λ (r : Key × Count). total_of r.1) row rows in
      elim (cases_Bool (eq_by_cmp key_cmp (stack, slot) row.0)) [
        | inl here ↦
            let new = sum_by-cons (λ (r : Key × Count). total_of r.1) (row.0, add_one sign row.1) rows in
            let more : total_of (add_one sign row.1) ≡ total_of row.1 + 1 = further sign row.1 in
            rw here (omega (arith, old, new, more))
        | inr there ↦
            let new = sum_by-cons (λ (r : Key × Count). total_of r.1) row (raised rows) in
            let rest = total_raised rows in
            rw there (omega (arith, old, new, rest))
      ]
    where
      further : (sg : Sign) (c : Count) → total_of (add_one sg c) ≡ total_of c + 1
      further Plus c = omega arith
      further Minus c = omega arith

-- an event without a slot counts nothing
nothing : (e : Event) (slot : Slot) (stack : List ℕ) → slot_of e ≡ None → tally (e ∷ []) slot stack ≡ zero_count
nothing e slot stack is =
    let side : (sign : Sign) → count_by (λ y. is_counted slot sign y && has_stack stack y) (e ∷ []) ≡ 0 = λ sign.
    (let one = sum_by-cons (λ (y : Event). cond (is_counted slot sign y && has_stack stack y) 1 0) e [] in
    let none : ◌≡◌ {A = ℕ} (cond (is_counted slot sign e && has_stack stack e) 1 0) 0 = ap (λ o. cond (is_slot slot sign o && has_stack stack e) 1 0) is in
    omega (arith, one, none)) in
    λ t. record { plus = side Plus t; minus = side Minus t }

record GrowsTree (old : Tree) (e : Event) (new : Tree) : Type 0 where
  tally : (events : List Event) → HasTally old events → HasTally new (events ++ e ∷ [])
  total : total_count new ≤ total_count old + 1

tree_there : (old : Tree) (e : Event) → (new : Tree) × GrowsTree old e new
tree_there old e = (elim (slot_of e) as (λ o. slot_of e ≡ o → (new : Tree) × GrowsTree old e new) [
  | None ↦ λ is. (
    old,
    record {
      tally = λ events has slot stack. has slot stack ∙ sym (plus_zero (tally events slot stack))
          ∙ ap (plus_count (tally events slot stack)) (sym (nothing e slot stack is))
          ∙ sym (count_where-append (has_stack stack) events (e ∷ []) slot);
      total = omega arith;
    },
  )
  | Some x ↦ λ is. (
    raised e.stack x.0 x.1 old,
    record {
      tally = λ events has slot stack. count_raised e.stack x.0 x.1 old slot stack
          ∙ ap (λ (c : Count). plus_count c (one_at e.stack x.0 x.1 slot stack)) (has slot stack)
          ∙ sym (tally_one_more events e x.0 x.1 is slot stack);
      total = (let one = total_raised e.stack x.0 x.1 old in omega (arith, one));
    },
  )
]) refl

-- ---- tables with one event more

abbrev Notes : List Event → Event → List Event → Type 0
Notes old e new = (process base : ℕ) → event_at new process base ≡ with_event process base (event_at old process base) e

-- an event that is later than what is there stands before it
put_first : (old : List Event) (e : Event) → opens_or_closes e.kind ≡ true
    → later (event_at old e.process (base_of e.handle)) (Some e) ≡ Some e → Notes old e (e ∷ old)
put_first old e opens newer process base =
    let test : eq_by_cmp table_cmp (process, base) (key_of e) ≡ (e.process == process && base_of e.handle == base) =
    key_test (process, base) (key_of e) in
    elim (cases_Bool (e.process == process && base_of e.handle == base)) [
      | inl t ↦
          let both = and_parts (e.process == process) (base_of e.handle == base) t in
          let p : e.process ≡ process = eqb-true e.process process both.0 in
          let b : base_of e.handle ≡ base = eqb-true (base_of e.handle) base both.1 in
          let there : later (event_at old process base) (Some e) ≡ Some e =
          subst (λ (n : ℕ). later (event_at old n base) (Some e) ≡ Some e) p
          (subst (λ (n : ℕ). later (event_at old e.process n) (Some e) ≡ Some e) b newer) in
          rw (test, opens, t) (sym there)
      | inr f ↦ rw (test, opens, f) refl
    ]

latest_there : (old : List Event) (e : Event) → (new : List Event) × Notes old e new
latest_there old e =
    elim (cases_Bool (opens_or_closes e.kind)) [
      | inr f ↦ (old, λ process base. rw f refl)
      | inl opens ↦
          (elim (event_at old e.process (base_of e.handle)) as (λ o. event_at old e.process (base_of e.handle) ≡ o
          → (new : List Event) × Notes old e new) [
            | None ↦ λ is. (e ∷ old, put_first old e opens (rw is refl))
            | Some x ↦ λ is. elim (cases_lt x.sequence e.sequence) [
              | inl lt ↦ (e ∷ old, put_first old e opens (rw (is, lt-ltb x.sequence e.sequence lt) refl))
              | inr le ↦ (old, λ process base. kept_noted old e opens process base x is le)
            ]
          ]) refl
    ]

-- the greatest sequence of each process's events of the kind
abbrev Marks : Kind → List (ℕ × ℕ) → List Event → Type 0
Marks kind rows events = (process : ℕ) → IsGreatestOf events kind process (sequence_at rows process)

marks_there : (kind : Kind) (old : List (ℕ × ℕ)) (e : Event)
    → (new : List (ℕ × ℕ)) × ((events : List Event) → Marks kind old events → Marks kind new (events ++ e ∷ []))
marks_there kind old e =
    elim (cases_Bool (is_kind kind e)) [
      | inr f ↦ (
        old,
        λ events given process. (keeps_greatest events e).others kind process (sequence_at old process) (given process)
            (λ h. both_ways (is_kind kind e) f ((is_kind-decides kind e).1 h.0)),
      )
      | inl t ↦
          let is = (is_kind-decides kind e).0 t in
          let n : ℕ = max (sequence_at old e.process) e.sequence in (
            (e.process, n) ∷ old,
            λ events given process. elim (cases_eq e.process process) [
              | inl same ↦
                  let at : sequence_at ((e.process, n) ∷ old) e.process ≡ n = rw (tied_itself nat_cmp_total e.process) refl in
                  subst (λ (p : ℕ). IsGreatestOf (events ++ e ∷ []) kind p (sequence_at ((e.process, n) ∷ old) p)) same
                  (subst (λ (m : ℕ). IsGreatestOf (events ++ e ∷ []) kind e.process m) (sym at)
                  ((keeps_greatest events e).noted kind e.process (sequence_at old e.process) (given e.process) (is, refl)))
              | inr ne ↦
                  let apart : eq_by_cmp nat_cmp process e.process ≡ false = elim (cases_Bool (eq_by_cmp nat_cmp process e.process)) [
                    | inl test ↦ absurd (ne (sym (nat_cmp-IsAntisymmetric process e.process ((Equal-is (nat_cmp process e.process)).0 test))))
                    | inr none ↦ none
                  ] in
                  let at : sequence_at ((e.process, n) ∷ old) process ≡ sequence_at old process = rw apart refl in
                  subst (λ (m : ℕ). IsGreatestOf (events ++ e ∷ []) kind process m) (sym at)
                  ((keeps_greatest events e).others kind process (sequence_at old process) (given process) (λ h. ne h.1))
            ],
          )
    ]

-- ---- a fold goes on

record GoesOn (old : Folded) (events : List Event) (new : Folded) : Type 0 where
  joins : (before : List Event) → IsFolded old before → IsFolded new (before ++ events)
  counts : total_count new.tree ≤ total_count old.tree + length events
  number : new.events ≡ old.events + length events

one_more : (old : Folded) (e : Event) → (new : Folded) × GoesOn old (e ∷ []) new
one_more old e =
    let tree = tree_there old.tree e in
    let latest = latest_there old.latest e in
    let marks = marks_there Snapshot old.marks e in
    let exits = marks_there Exited old.exits e in (
      folded tree.0 latest.0 marks.0 exits.0 (max old.last_sequence e.sequence) (old.events + 1),
      record {
        joins = λ before is. record {
          fold = record {
            tree = tree.1.tally before is.fold.tree;
            tables = record {
              latest_at = λ process base. rw (latest.1 process base)
                  (keeps_latest before e process base (event_at old.latest process base) (is.fold.tables.latest_at process base));
              mark_at = marks.1 before is.fold.tables.mark_at;
              exit_at = exits.1 before is.fold.tables.exit_at;
            };
          };
          last = greatest_joined before (e ∷ []) (max old.last_sequence e.sequence) old.last_sequence e.sequence refl is.last (greatest_one e);
          number = (let was = is.number in let more = length_push before e in omega (arith, was, more));
        };
        counts = tree.1.total;
        number = refl;
      },
    )

goes_on : (old : Folded) (events : List Event) → (new : Folded) × GoesOn old events new
goes_on old [] = (
  old,
  record { joins = λ before is. subst (IsFolded old) (sym (append-nil before)) is; counts = omega arith; number = omega arith },
)
goes_on old (e ∷ es) =
    let next = one_more old e in
    let rest = goes_on next.0 es in
    let counts_next = next.1.counts in
    let counts_rest = rest.1.counts in
    let number_next = next.1.number in
    let number_rest = rest.1.number in (
      rest.0,
      record {
        joins = λ before is. subst (IsFolded rest.0) (append_assoc before (e ∷ []) es) (rest.1.joins (before ++ e ∷ []) (next.1.joins before is));
        counts = omega (arith, counts_next, counts_rest);
        number = omega (arith, number_next, number_rest);
      },
    )

-- ---- one processor after another

compacted_at : (a : State) (p : ℕ) → IsState a → p < a.processors → (b : State) × IsCompactedAt a b p
compacted_at a p is lt =
    let fold = goes_on (folded_at a.parts p) (run_of a p) in
    let few = run_few a.trace_id a.processors p (numbers_at a.taken p) (part_at a.parts p) (is.each p lt) in
    let counts = fold.1.counts in
    let number = fold.1.number in (
      settled_with a p fold.0,
      record {
        folded = fold.0;
        is = refl;
        joins = fold.1.joins;
        bounded = λ most old.
            let count = old.counts in
            let events = old.events in
            record { counts = omega (arith, counts, few, count); events = omega (arith, number, few, events) };
      },
    )

compacted_to : (a : State) → IsState a → (n : ℕ) → n ≤ a.processors → (b : State) × AreCompacted a b n
compacted_to a is zero le = (a, AreCompacted-none a is)
compacted_to a is (suc n) le =
    let old = compacted_to a is n (omega (arith, le)) in
    let count = old.1.processors in
    let lt : n < (old.0).processors = omega (arith, le, count) in
    let next = compacted_at old.0 n old.1.state lt in
    let more : AreCompacted a next.0 (n + 1) = AreCompacted-more a old.0 next.0 n old.1 lt next.1 in
    (next.0, subst (λ (m : ℕ). AreCompacted a next.0 m) (omega arith) more)

-- each state that is right about a trace can be compacted
pub any_can_be_compacted : AnyCanBeCompacted
any_can_be_compacted T a right =
    let all = compacted_to a right.state a.processors (omega arith) in
    (all.0, record { keys = all.1.keys; standing = IsStanding-compacted a all.0 a.processors all.1 (omega arith) })

-- ---- one call after another

module _ (T : Trace) (trace : IsTrace T) (some : 0 < T.processors) (few : T.processors ≤ 256) where
  state_after : (history : History) → NamesSegments T history → (a : State) × Leaves T history a
  state_after begun names = (new_state T.id T.processors, record { some = some; few = few; state = refl })
  state_after (took before place) names =
      let old = state_after before names.0 in
      let segment = some_segment T place names.1 in
      let next = taken_there T place old.0 segment.0 segment.1 in
      (next.0, (old.0, old.1, next.1))
  state_after (merged before other) names =
      let old = state_after before names.0 in
      let source = state_after other names.1 in
      let both = any_can_be_merged T old.0 source.0 (leaves_right T trace before old.0 old.1) (leaves_right T trace other source.0 source.1) in
      (both.0, (old.0, source.0, old.1, source.1, both.1))
  state_after (compacted before) names =
      let old = state_after before names in
      let next = any_can_be_compacted T old.0 (leaves_right T trace before old.0 old.1) in
      (next.0, (old.0, old.1, next.1))
  state_after (compaction_refused before) names =
      let old = state_after before names in
      (old.0, (old.0, old.1, record { keys = λ p n. (λ h. h, λ h. h); right = λ trace right. right }))

-- each history on a trace leaves some state
pub any_history_leaves_a_state : AnyHistoryLeavesAState
any_history_leaves_a_state = state_after
