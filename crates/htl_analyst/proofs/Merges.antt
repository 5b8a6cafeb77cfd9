-- A merge of two states is a state, is right about their trace, and has the keys of both.
use Rattle.std.proofs.Common.{◌≡◌, ℕ, ◌<◌, ◌≤◌, ◌*◌, ltb, List, length, map, get_or, refl, sym, ap, ◌∙◌, subst, arith, inl, inr, ◌⊎◌}
use Rattle.std.specs.Prelude.{Contains, nat_lt, if◌then◌else◌}
use Rattle.std.specs.List.{AllByRecursion}
use Rattle.std.proofs.lemmas.Bool.{cases_lt, lt-ltb, le-ltb, cond-true, cond-false}
use Rattle.std.proofs.lemmas.List.{get_or_past}
use Rattle.htl_event.proofs.Members.{at_member, AllByRecursion-weaker, Contains-nil}
use Rattle.htl_segment.specs.Content.{Content}
use Rattle.htl_segment.specs.Traces.{Trace, HasKey}
use Rattle.htl_taken.specs.Numbers.{Numbers, numbers_at, front_at, IsUnion}
use Rattle.htl_taken.proofs.Numbers.{Has-union}
use Rattle.htl_analyst.specs.States.{Folded, Part, part, part_at, no_part, held_at, folded_at, State, state}
use Rattle.htl_analyst.specs.Right.{IsOwned, IsFolded, IsWithin, run_events, IsPart, IsState, IsRightAt, IsRight}
use Rattle.htl_analyst.specs.Refusals.{AreOfOne, HoldTwo, MergeRefused}
use Rattle.htl_analyst.specs.declared.fault.MergeFault.{MergeFault}
use Rattle.htl_analyst.specs.declared.fault.MergeFault.TheVariants.{OtherTrace, OtherProcessors, Conflict, NoMemory}
use Rattle.htl_analyst.specs.Laws.{UnitesKeys}
use Rattle.htl_analyst.specs.Steps.{IsMergedPart, IsMerge}
use Rattle.htl_analyst.specs.StepParts.{AreHeldOfBoth}
use Rattle.htl_taken.specs.declared.TheConstants.{MAX_FRONT}
use Rattle.htl_taken.specs.Rising.{Rises}
use Rattle.htl_taken.proofs.Rising.{Rises-ordered}
use Rattle.htl_analyst.proofs.Held.{number, number_at, length-numbers}
use Rattle.htl_analyst.proofs.Takes.{agrees}

module _ (q r u : Numbers) (k l m : Part) (un : IsUnion q r u) (is : IsMergedPart q k r l u m) where
  -- what holds of what either part holds, holds of what the merged one holds
  held_both : (P : Content → Type 0) → AllByRecursion P k.held → AllByRecursion P l.held → AllByRecursion P m.held
  held_both P own theirs =
      AllByRecursion-weaker (λ s. Contains k.held s ⊎ Contains l.held s) P m.held
      (λ s h. elim h [ inl x ↦ at_member P k.held s own x | inr y ↦ at_member P l.held s theirs y ]) is.from

  -- and what holds of both fronts with what is folded below them, holds of the merged one
  folded_both : (P : ℕ → Folded → Type 0) → P q.front k.folded → P r.front l.folded → P u.front m.folded
  folded_both P own theirs =
      let f = un.front in
      elim (cases_lt q.front r.front) [
        | inl lt ↦
            let e : u.front ≡ r.front = omega (arith, f, lt) in
            let b : m.folded ≡ l.folded = is.folded ∙ cond-true (ltb q.front r.front) l.folded k.folded (lt-ltb q.front r.front lt) in
            subst (λ (n : ℕ). P n m.folded) (sym e) (subst (P r.front) (sym b) theirs)
        | inr le ↦
            let e : u.front ≡ q.front = omega (arith, f, le) in
            let b : m.folded ≡ k.folded = is.folded ∙ cond-false (ltb q.front r.front) l.folded k.folded (le-ltb q.front r.front le) in
            subst (λ (n : ℕ). P n m.folded) (sym e) (subst (P q.front) (sym b) own)
      ]

  IsPart-merged : (id count p : ℕ) → IsPart id count p q k → IsPart id count p r l → IsPart id count p u m
  IsPart-merged id count p own theirs = record {
    proper = un.proper;
    numbers = is.numbers;
    owned = held_both (IsOwned id count p) own.owned theirs.owned;
    bounded = folded_both (λ (n : ℕ) (d : Folded). IsWithin (4096 * n) d) own.bounded theirs.bounded;
  }

  IsRightAt-merged : (T : Trace) (p : ℕ) → IsRightAt T p q k → IsRightAt T p r l → IsRightAt T p u m
  IsRightAt-merged T p own theirs = record {
    complete = folded_both (λ (n : ℕ) (d : Folded). (i : ℕ) → i < n → HasKey T p i) own.complete theirs.complete;
    held = held_both (Contains T.segments) own.held theirs.held;
    folded = folded_both (λ (n : ℕ) (d : Folded). IsFolded d (run_events T p n)) own.folded theirs.folded;
  }

module _ (a b c : State) (one : AreOfOne a b) (is : IsMerge a b c) where
  -- a merge of two states is a state
  pub IsState-merged : IsState a → IsState b → IsState c
  IsState-merged own theirs =
      let n = is.processors in
      record {
        some = (let h = own.some in omega (arith, h, n));
        few = (let h = own.few in omega (arith, h, n));
        places = is.places ∙ sym n;
        parts = is.parts ∙ sym n;
        each = λ p lt. each p (omega (arith, lt, n));
      } where
        each : (p : ℕ) → p < a.processors → IsPart c.trace_id c.processors p (numbers_at c.taken p) (part_at c.parts p)
        each p lt =
            let theirs_at : IsPart a.trace_id a.processors p (numbers_at b.taken p) (part_at b.parts p) =
            rw (one.trace_id, one.processors) (theirs.each p (let e = one.processors in omega (arith, lt, e))) in
            rw (is.trace_id, is.processors)
            (IsPart-merged (numbers_at a.taken p) (numbers_at b.taken p) (numbers_at c.taken p) (part_at a.parts p) (part_at b.parts p)
            (part_at c.parts p) (is.taken p) (is.each p lt)
            a.trace_id a.processors p (own.each p lt) theirs_at)

  -- a merge of two states that are right about a trace is right about it
  pub IsRight-merged : (T : Trace) → IsRight a T → IsRight b T → IsRight c T
  IsRight-merged T ra rb = record {
    collection = ra.collection;
    id = ra.id ∙ sym is.trace_id;
    processors = ra.processors ∙ sym is.processors;
    state = IsState-merged ra.state rb.state;
    each = λ p lt.
        let n = is.processors in
        let e = one.processors in
        IsRightAt-merged (numbers_at a.taken p) (numbers_at b.taken p) (numbers_at c.taken p) (part_at a.parts p) (part_at b.parts p)
        (part_at c.parts p) (is.taken p) (is.each p (omega (arith, lt, n)))
        T p (ra.each p (omega (arith, lt, n))) (rb.each p (omega (arith, lt, n, e)));
  }

-- the keys of a merge are those of both states
pub HasTaken-merged : UnitesKeys
HasTaken-merged a b c is p = Has-union (numbers_at a.taken p) (numbers_at b.taken p) (numbers_at c.taken p) (is.taken p)

-- what the code of a merge makes
pub IsMerge-made : (a b : State) (taken : List Numbers) (theirs incoming new : List Part) → length taken ≡ a.processors
    → ((p : ℕ) → IsUnion (numbers_at a.taken p) (numbers_at b.taken p) (numbers_at taken p)) → AreHeldOfBoth a b taken incoming a.processors
    → ((p : ℕ) → p < a.processors → front_at a.taken p < front_at b.taken p → folded_at theirs p ≡ folded_at b.parts p)
    → length new ≡ a.processors
    → ((p : ℕ) → p < a.processors → part_at new p ≡ part (held_at incoming p)
    (if nat_lt (front_at a.taken p) (front_at b.taken p) then folded_at theirs p else folded_at a.parts p))
    → IsMerge a b (state a.trace_id a.processors taken new)
IsMerge-made a b taken theirs incoming new places union held greater len made = record {
  trace_id = refl;
  processors = refl;
  places = places;
  parts = len;
  taken = union;
  each = λ p lt.
      let h = held.each p lt in
      rw (made p lt) (record { folded = chosen p lt; numbers = h.numbers; from = h.from });
} where
  chosen : (p : ℕ) → p < a.processors
      → (if nat_lt (front_at a.taken p) (front_at b.taken p) then folded_at theirs p else folded_at a.parts p)
      ≡ (if nat_lt (front_at a.taken p) (front_at b.taken p) then folded_at b.parts p else folded_at a.parts p)
  chosen p lt =
      elim (cases_lt (front_at a.taken p) (front_at b.taken p)) [
        | inl lower ↦ rw (lt-ltb (front_at a.taken p) (front_at b.taken p) lower) (greater p lt lower)
        | inr le ↦ rw (le-ltb (front_at a.taken p) (front_at b.taken p) le) refl
      ]

-- ---- refusals

-- two states that are right about one trace have one trace id and one processor count
pub of_one_trace : (T : Trace) (a b : State) → IsRight a T → IsRight b T → AreOfOne a b
of_one_trace T a b ra rb = record { trace_id = sym ra.id ∙ rb.id; processors = sym ra.processors ∙ rb.processors }

pub HoldTwo-never : (T : Trace) (a b : State) → IsRight a T → IsRight b T → (p n : ℕ) → p < b.processors → HoldTwo a b p n → ⊥
HoldTwo-never T a b ra rb p n lt two =
    agrees a T ra two.segment (at_member (Contains T.segments) (held_at b.parts p) two.segment (rb.each p lt).held two.here) two.other

-- no processor past the last holds anything
pub HoldTwo-within : (a b : State) → IsState b → (p n : ℕ) → HoldTwo a b p n → p < b.processors
HoldTwo-within a b is p n two =
    elim (cases_lt p b.processors) [
      | inl lt ↦ lt
      | inr le ↦
          let past : length b.parts ≤ p = (let e = is.parts in omega (arith, e, le)) in
          absurd (Contains-nil two.segment (subst (λ (k : Part). Contains k.held two.segment) (get_or_past b.parts p no_part past)
          two.here))
    ]

-- a merge of two states that are right about one trace is refused for want of memory alone
pub merge_lawful : (T : Trace) (a b : State) → IsRight a T → IsRight b T → (fault : MergeFault) → MergeRefused a b fault → fault ≡ NoMemory
merge_lawful T a b ra rb OtherTrace r = absurd (r (of_one_trace T a b ra rb).trace_id)
merge_lawful T a b ra rb OtherProcessors r = absurd (r.1 (of_one_trace T a b ra rb).processors)
merge_lawful T a b ra rb (Conflict p n) r = absurd (HoldTwo-never T a b ra rb p n (HoldTwo-within a b rb.state p n r.1) r.1)
merge_lawful T a b ra rb NoMemory r = refl

-- a held segment of a lower number stands before
pub before_item : (id count p : ℕ) (q : Numbers) (k : Part) → IsPart id count p q k → (s : Content) (i : ℕ) (d : Content)
    → i < length k.held → Contains k.held s → s.number < (get_or k.held i d).number
    → (j : ℕ) × (j < i) × (get_or k.held j s ≡ s)
before_item id count p q k is s i d within (j, lt, at) low =
    elim (cases_lt j i) [
      | inl before ↦ (j, before, at)
      | inr le ↦
          let rises : Rises q.front MAX_FRONT (map number k.held) = subst (Rises q.front MAX_FRONT) (sym is.numbers) is.proper.rises in
          let len = length-numbers k.held in
          let order = Rises-ordered q.front MAX_FRONT (map number k.held) rises i j le (omega (arith, lt, len)) in
          let here = number_at k.held i d within in
          let there = number_at k.held j s lt in
          let same : (get_or k.held j s).number ≡ s.number = ap number at in
          absurd (omega (arith, order, here, there, same, low))
    ]
