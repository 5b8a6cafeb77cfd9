-- The rows of processes are those of the definition.
use Rattle.std.proofs.Common.{◌≡◌, ℕ, ◌+◌, ◌<◌, Bool, true, false, cond, ◌&&◌, ◌==◌, List, [], ◌∷◌, ◌++◌}
use Rattle.std.proofs.Common.{Option, Some, None, refl, sym, ap, subst, ◌∙◌, arith, inl, inr}
use Rattle.std.specs.Prelude.{Contains, ◌↔◌, length}
use Rattle.std.specs.List.{filter_map}
use Rattle.std.specs.Ordering.{nat_cmp, is_eq}
use Rattle.std.specs.Cmp.{unsigned_tied}
use Rattle.std.specs.FinMap.Entries.{find}
use Rattle.std.proofs.Math.Bool.{and-true, and-false}
use Rattle.std.proofs.lemmas.Bool.{eqb-true}
use Rattle.htl_event.specs.Events.{Event}
use Rattle.htl_event.specs.declared.kind.Kind.{Kind}
use Rattle.htl_event.specs.declared.kind.Kind.TheVariants.{Opened, Closed, BadRef, Snapshot, Ref, Deref, Exited}
use Rattle.htl_event.specs.declared.slot.Slot.{Slot}
use Rattle.htl_event.specs.declared.slot.Slot.TheVariants.{Tagged, Handles, Bad}
use Rattle.htl_event.specs.declared.slot.Sign.{Sign}
use Rattle.htl_event.specs.declared.slot.Sign.TheVariants.{Plus, Minus}
use Rattle.htl_event.specs.declared.slot.Count.{Count}
use Rattle.htl_event.specs.declared.summary.ProcessRow.{ProcessRow}
use Rattle.htl_event.specs.Slots.{slot_of, slot_by_kind, is_slot, is_counted}
use Rattle.htl_event.specs.Members.{IsRising}
use Rattle.htl_event.specs.Tallies.{IsPositive}
use Rattle.htl_event.specs.Summaries.{is_open, is_close, is_bad, how_many, HasOutstanding, IsProcessRow, MostOutstandingFirst, IsProcesses}
use Rattle.htl_event.proofs.Members.{Contains-here, Contains-there, Contains-cases, Contains-nil}
use Rattle.htl_event.proofs.Determined.{outstanding_same, IsGreatestSequence-unique}
use Rattle.htl_sorted.specs.Entries.{IsSorted}
use Rattle.htl_answers.proofs.FilterMaps.{Contains-from_filter_map}
use Rattle.htl_summary.specs.declared.usage.Usage.{Usage}
use Rattle.htl_answers.specs.Sums.{times_of, ListsSlotSums}
use Rattle.htl_summary.specs.Totals.{by_owner, one_at, total_at}
use Rattle.htl_summary.specs.Usages.{usage_of, both_usages}
use Rattle.htl_summary.specs.Rows.{IsRowOf, AreRowsOf}
use Rattle.htl_answers.proofs.NumberSums.{amount, sum_same, sum_zero, sum_filter_map, none_or_none}
use Rattle.htl_summary.proofs.Totals.{found_row, row_there, total-amount, total-keeps, number_at}
use Rattle.htl_summary.proofs.SlotSums.{side, hits, sums_are_events}

abbrev Sum : Type 0
Sum = Slot × Count

-- ---- what slots say of a process

abbrev is_handles : ℕ → Slot → Bool
is_handles process (Handles p) = process == p
is_handles process other = false

abbrev is_misused : ℕ → Slot → Bool
is_misused process (Bad p handle) = process == p
is_misused process other = false

open_test : (process : ℕ) (kind : Kind) (e : Event) → hits (is_handles process) Plus (slot_by_kind kind e) ≡ (is_open kind && process == e.process)
open_test process Opened e = and-true (process == e.process)
open_test process Closed e = and-false (process == e.process)
open_test process BadRef e = refl
open_test process Snapshot e = refl
open_test process Ref e = refl
open_test process Deref e = refl
open_test process Exited e = refl

close_test : (process : ℕ) (kind : Kind) (e : Event) → hits (is_handles process) Minus (slot_by_kind kind e) ≡ (is_close kind && process == e.process)
close_test process Opened e = and-false (process == e.process)
close_test process Closed e = and-true (process == e.process)
close_test process BadRef e = refl
close_test process Snapshot e = refl
close_test process Ref e = refl
close_test process Deref e = refl
close_test process Exited e = refl

bad_test : (process : ℕ) (kind : Kind) (e : Event) → hits (is_misused process) Plus (slot_by_kind kind e) ≡ (is_bad kind && process == e.process)
bad_test process Opened e = refl
bad_test process Closed e = refl
bad_test process BadRef e = and-true (process == e.process)
bad_test process Snapshot e = refl
bad_test process Ref e = refl
bad_test process Deref e = refl
bad_test process Exited e = refl

-- no bad reference stands on the other side
bad_never_minus : (kind : Kind) (e : Event) (p h : ℕ) → is_slot (Bad p h) Minus (slot_by_kind kind e) ≡ false
bad_never_minus Opened e p h = refl
bad_never_minus Closed e p h = refl
bad_never_minus BadRef e p h = and-false _
bad_never_minus Snapshot e p h = refl
bad_never_minus Ref e p h = refl
bad_never_minus Deref e p h = refl
bad_never_minus Exited e p h = refl

no_minus : (events : List Event) (p h : ℕ) → (times_of events (Bad p h)).minus ≡ 0
no_minus events p h =
    sum_same (λ (e : Event). cond (is_counted (Bad p h) Minus e && true) 1 0) (λ (e : Event). 0) events
    (λ e there. ap (λ (b : Bool). cond (b && true) 1 0) (bad_never_minus e.kind e p h)) ∙ sum_zero events

-- ---- what the sums say of a process

abbrev key : Usage → ℕ
key usage = usage.process

-- what the sums say of a process
abbrev usage_at : ℕ → List Sum → Option Usage
usage_at process sums = total_at key both_usages process (filter_map (λ (sum : Sum). usage_of sum.0 sum.1) sums)

-- the number of a process in what a slot says
abbrev share : (Usage → ℕ) → ℕ → Sum → ℕ
share field process sum = amount (λ (row : Usage). amount field (one_at key process row)) (usage_of sum.0 sum.1)

abbrev opens : Usage → ℕ
opens usage = usage.opens

abbrev closes : Usage → ℕ
closes usage = usage.closes

abbrev misuses : Usage → ℕ
misuses usage = usage.bad

share_is : (field : Usage → ℕ) (process : ℕ) (slot : Slot) (count : Count) (row : Usage) → usage_of slot count ≡ Some row
    → share field process (slot, count) ≡ cond (process == row.process) (field row) 0
share_is field process slot count row e =
    ap (amount (λ (r : Usage). amount field (one_at key process r))) e ∙ number_at key field process row

share_opens : (process : ℕ) (slot : Slot) (count : Count) → share opens process (slot, count) ≡ cond (is_handles process slot) (side Plus count) 0
share_opens process (Handles p) count = share_is opens process (Handles p) count _ refl
share_opens process (Bad p h) count = share_is opens process (Bad p h) count _ refl ∙ none_or_none (process == p)
share_opens process (Tagged o t) count = refl

share_closes : (process : ℕ) (slot : Slot) (count : Count) → share closes process (slot, count) ≡ cond (is_handles process slot) (side Minus count) 0
share_closes process (Handles p) count = share_is closes process (Handles p) count _ refl
share_closes process (Bad p h) count = share_is closes process (Bad p h) count _ refl ∙ none_or_none (process == p)
share_closes process (Tagged o t) count = refl

share_misuses : (process : ℕ) (slot : Slot) (count : Count) → share misuses process (slot, count) ≡ cond (is_misused process slot) (side Plus count) 0
share_misuses process (Handles p) count = share_is misuses process (Handles p) count _ refl ∙ none_or_none (process == p)
share_misuses process (Bad p h) count = share_is misuses process (Bad p h) count _ refl
share_misuses process (Tagged o t) count = refl

-- a row with a use, of the process
abbrev IsUsed : ℕ → Usage → Type 0
IsUsed process usage = (0 < usage.opens + (usage.closes + usage.bad)) × (usage.process ≡ process)

used_both : (process : ℕ) (x y : Usage) → IsUsed process x → IsUsed process y → IsUsed process (both_usages x y)
used_both process x y h k = let some = h.0 in (omega (arith, some), h.1)

module _ (events : List Event) (sums : List Sum) (listed : ListsSlotSums events sums) (process : ℕ) where
  abbrev of_slots : List Usage
  of_slots = filter_map (λ (sum : Sum). usage_of sum.0 sum.1) sums

  -- a number of the process is that of events that pass a test
  number : (field : Usage → ℕ) → ((x y : Usage) → field (both_usages x y) ≡ field x + field y) → (passes : Slot → Bool) (sign : Sign)
      → ((slot : Slot) (count : Count) → share field process (slot, count) ≡ cond (passes slot) (side sign count) 0)
      → (is_kind : Kind → Bool) → ((kind : Kind) (e : Event) → hits passes sign (slot_by_kind kind e) ≡ (is_kind kind && process == e.process))
      → amount field (usage_at process sums) ≡ how_many is_kind events process
  number field adds passes sign shares is_kind tests =
      total-amount key both_usages field adds process of_slots
      ∙ sum_filter_map (λ (row : Usage). amount field (one_at key process row)) (λ (sum : Sum). usage_of sum.0 sum.1) sums
      ∙ sum_same (share field process) (λ (sum : Sum). cond (passes sum.0) (side sign sum.1) 0) sums (λ sum h. shares sum.0 sum.1)
      ∙ sums_are_events passes sign events sums listed
      ∙ sum_same (λ (e : Event). cond (hits passes sign (slot_of e)) 1 0) (λ (e : Event). cond (is_kind e.kind && process == e.process) 1 0) events
      (λ e h. ap (λ (b : Bool). cond b 1 0) (tests e.kind e))

  opens_are : amount opens (usage_at process sums) ≡ how_many is_open events process
  opens_are = number opens (λ x y. refl) (is_handles process) Plus (share_opens process) is_open (open_test process)

  closes_are : amount closes (usage_at process sums) ≡ how_many is_close events process
  closes_are = number closes (λ x y. refl) (is_handles process) Minus (share_closes process) is_close (close_test process)

  misuses_are : amount misuses (usage_at process sums) ≡ how_many is_bad events process
  misuses_are = number misuses (λ x y. refl) (is_misused process) Plus (share_misuses process) is_bad (bad_test process)

  used_slot : (slot : Slot) (count : Count) (row : Usage) → usage_of slot count ≡ Some row → count ≡ times_of events slot → IsPositive count
      → 0 < row.opens + (row.closes + row.bad)
  used_slot (Handles p) count row e is some =
      let plus : count.plus ≡ row.opens = cc in
      let minus : count.minus ≡ row.closes = cc in
      omega (arith, plus, minus, some)
  used_slot (Bad p h) count row e is some =
      let plus : count.plus ≡ row.bad = cc in
      let none : count.minus ≡ 0 = ap (λ (c : Count). c.minus) is ∙ no_minus events p h in
      omega (arith, plus, none, some)
  used_slot (Tagged o t) count row e is some = absurd cc

  -- the usage of the process has a use
  pub is_used : (usage : Usage) → usage_at process sums ≡ Some usage → IsUsed process usage
  is_used usage e = total-keeps key both_usages (IsUsed process) (used_both process) process of_slots each usage e
    where
      each : (row : Usage) → Contains of_slots row → is_eq (nat_cmp process row.process) ≡ true → IsUsed process row
      each row h t =
          let from = Contains-from_filter_map (λ (sum : Sum). usage_of sum.0 sum.1) sums row h in
          let at = (listed.members from.0).0 from.1 in
          (used_slot from.0.0 from.0.1 row from.2 at.0 at.1, sym (eqb-true process row.process (sym (unsigned_tied process row.process) ∙ t)))

-- ---- rows

module _ (events : List Event) where
  -- a row of the definition is determined by its process
  pub one_row : (a b : ProcessRow) → IsProcessRow events a → IsProcessRow events b → a.process ≡ b.process → a ≡ b
  one_row a b p q e =
      let out : a.outstanding ≡ b.outstanding = p.handles.2
      ∙ ap length (outstanding_same events events (λ x. (λ h. h, λ h. h)) a.process p.handles.0 (its_handles.0) p.handles.1 (its_handles.1))
      ∙ sym its_handles.2 in
      let opened = p.opened ∙ ap (how_many is_open events) e ∙ sym q.opened in
      let closed = p.closed ∙ ap (how_many is_close events) e ∙ sym q.closed in
      let misused = p.misused ∙ ap (how_many is_bad events) e ∙ sym q.misused in
      let mark = IsGreatestSequence-unique _ a.mark b.mark p.marked (rw e q.marked) in
      let exit = IsGreatestSequence-unique _ a.exit b.exit p.exited (rw e q.exited) in
      λ i. record { process = e i; outstanding = out i; opens = opened i; closes = closed i; bad = misused i; mark = mark i; exit = exit i }
    where
      its_handles : HasOutstanding events a.process b.outstanding
      its_handles = subst (λ (p : ℕ). HasOutstanding events p b.outstanding) (sym e) q.handles

  row_of_usage : (used : List Usage) (rows : List ProcessRow) → AreRowsOf events used rows → (usage : Usage) → Contains used usage
      → (row : ProcessRow) × Contains rows row × IsRowOf events usage row
  row_of_usage [] rows are usage h = absurd (Contains-nil usage h)
  row_of_usage (u ∷ used) [] are usage h = absurd are
  row_of_usage (u ∷ used) (r ∷ rows) are usage h =
      elim (Contains-cases u used usage h) [
        | inl is ↦ (r, Contains-here r rows, subst (λ (x : Usage). IsRowOf events x r) is are.0)
        | inr there ↦ let rest = row_of_usage used rows are.1 usage there in (rest.0, Contains-there r rows rest.0 rest.1, rest.2)
      ]

  usage_of_row : (used : List Usage) (rows : List ProcessRow) → AreRowsOf events used rows → (row : ProcessRow) → Contains rows row
      → (usage : Usage) × Contains used usage × IsRowOf events usage row
  usage_of_row [] [] are row h = absurd (Contains-nil row h)
  usage_of_row [] (r ∷ rows) are row h = absurd are
  usage_of_row (u ∷ used) [] are row h = absurd (Contains-nil row h)
  usage_of_row (u ∷ used) (r ∷ rows) are row h =
      elim (Contains-cases r rows row h) [
        | inl is ↦ (u, Contains-here u used, subst (λ (x : ProcessRow). IsRowOf events u x) is are.0)
        | inr there ↦ let rest = usage_of_row used rows are.1 row there in (rest.0, Contains-there u used rest.0 rest.1, rest.2)
      ]

  -- one row more
  pub rows_more : (used : List Usage) (rows : List ProcessRow) (u : Usage) (r : ProcessRow) → AreRowsOf events used rows → IsRowOf events u r
      → AreRowsOf events (used ++ u ∷ []) (rows ++ r ∷ [])
  rows_more [] [] u r are one = (one, tt)
  rows_more [] (x ∷ rows) u r are one = absurd are
  rows_more (v ∷ used) [] u r are one = absurd are
  rows_more (v ∷ used) (x ∷ rows) u r are one = (are.0, rows_more used rows u r are.1 one)

module _ (events : List Event) (sums : List Sum) (used : List Usage) (rows sorted : List ProcessRow) (listed : ListsSlotSums events sums)
    (ordered : IsSorted nat_cmp (by_owner key used)) (values : (process : ℕ) → find nat_cmp process (by_owner key used) ≡ usage_at process sums)
    (are : AreRowsOf events used rows) where
  from_rows : (row : ProcessRow) → Contains rows row → IsProcessRow events row
  from_rows row h =
      let of = usage_of_row events used rows are row h in
      let usage = of.0 in
      let is = of.2 in
      let at : usage_at usage.process sums ≡ Some usage =
      sym (values usage.process) ∙ row_there key used ordered usage of.1 in
      let some = (is_used events sums listed usage.process usage at).0 in
      let opens_at = ap (amount opens) at in
      let closes_at = ap (amount closes) at in
      let misuses_at = ap (amount misuses) at in
      let same = is.owner in
      let o = is.opened in
      let c = is.closed in
      let b = is.misused in
      record {
        some = omega (arith, some, o, c, b);
        handles = is.handles;
        opened = o ∙ sym opens_at ∙ opens_are events sums listed usage.process ∙ ap (how_many is_open events) (sym same);
        closed = c ∙ sym closes_at ∙ closes_are events sums listed usage.process ∙ ap (how_many is_close events) (sym same);
        misused = b ∙ sym misuses_at ∙ misuses_are events sums listed usage.process ∙ ap (how_many is_bad events) (sym same);
        marked = is.marked;
        exited = is.exited;
      }

  into_rows : (row : ProcessRow) → IsProcessRow events row → Contains rows row
  into_rows row is = go (usage_at row.process sums) refl
    where
      go : (o : Option Usage) → usage_at row.process sums ≡ o → Contains rows row
      go None none =
          let opened = is.opened ∙ sym (opens_are events sums listed row.process) ∙ ap (amount opens) none in
          let closed = is.closed ∙ sym (closes_are events sums listed row.process) ∙ ap (amount closes) none in
          let misused = is.misused ∙ sym (misuses_are events sums listed row.process) ∙ ap (amount misuses) none in
          let some = is.some in
          absurd (omega (arith, some, opened, closed, misused))
      go (Some usage) at =
          let found = found_row key row.process usage used (values row.process ∙ at) in
          let there = row_of_usage events used rows are found.0 found.1 in
          let owner : usage.process ≡ row.process = (is_used events sums listed row.process usage at).1 in
          let same : there.0.process ≡ row.process = there.2.owner ∙ ap key found.2 ∙ owner in
          subst (Contains rows) (one_row events there.0 row (from_rows there.0 there.1) is same) there.1

  -- the rows of the used processes, put in order, are the processes of the definition
  pub are_processes : IsRising MostOutstandingFirst sorted → ((row : ProcessRow) → Contains sorted row ↔ Contains rows row)
      → IsProcesses events sorted
  are_processes rising moved = record {
    rising = rising;
    members = λ row. (λ h. from_rows row ((moved row).0 h), λ is. (moved row).1 (into_rows row is));
  }
