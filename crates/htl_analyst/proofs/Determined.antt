-- A state that is right about a trace is determined by its fronts and loose numbers.
use Rattle.std.proofs.Common.{◌≡◌, ℕ, ◌<◌, List, sym, ap, ◌∙◌, subst, arith}
use Rattle.std.specs.Prelude.{Contains}
use Rattle.htl_event.specs.Events.{Event}
use Rattle.htl_event.specs.declared.kind.Kind.TheVariants.{Snapshot, Exited}
use Rattle.htl_event.specs.Handles.{HaveOwnSequences, IsOf}
use Rattle.htl_event.proofs.Members.{AllByRecursion-weaker}
use Rattle.htl_event.proofs.Determined.{LatestIs-unique, IsGreatestSequence-unique, one_event}
use Rattle.htl_segment.specs.Keys.{run_below}
use Rattle.htl_segment.specs.Traces.{Trace, IsTrace}
use Rattle.htl_segment.proofs.Traces.{sequences_stay_apart}
use Rattle.htl_tables.specs.Latest.{event_at}
use Rattle.htl_tables.specs.Greatest.{sequence_at}
use Rattle.htl_taken.specs.Numbers.{Numbers, numbers_at}
use Rattle.htl_analyst.specs.States.{Folded, Part, part_at, State}
use Rattle.htl_analyst.specs.Right.{IsOwned, IsFolded, run_events, IsPart, IsRightAt, IsRight}
use Rattle.htl_analyst.specs.Same.{IsSameFolded, IsSamePart}
use Rattle.htl_analyst.specs.Laws.{IsDetermined}
use Rattle.htl_analyst.proofs.Held.{held_same}

-- what was folded of the same events is the same
folded_same : (es : List Event) → HaveOwnSequences es → (f g : Folded) → IsFolded f es → IsFolded g es → IsSameFolded f g
folded_same es own f g x y = record {
  last_sequence = IsGreatestSequence-unique (Contains es) f.last_sequence g.last_sequence x.last y.last;
  events = x.number ∙ sym y.number;
  tree = λ slot stack. x.fold.tree slot stack ∙ sym (y.fold.tree slot stack);
  latest =
      λ process base. LatestIs-unique (Contains es) (one_event es own) process base (event_at f.latest process base)
      (event_at g.latest process base) (x.fold.tables.latest_at process base) (y.fold.tables.latest_at process base);
  marks =
      λ process. IsGreatestSequence-unique (λ e. Contains es e × IsOf Snapshot process e) (sequence_at f.marks process)
      (sequence_at g.marks process) (x.fold.tables.mark_at process) (y.fold.tables.mark_at process);
  exits =
      λ process. IsGreatestSequence-unique (λ e. Contains es e × IsOf Exited process e) (sequence_at f.exits process)
      (sequence_at g.exits process) (x.fold.tables.exit_at process) (y.fold.tables.exit_at process);
}

part_same : (T : Trace) (a b : State) → IsTrace T → IsRight a T → IsRight b T → (p : ℕ) (q r : Numbers) (k l : Part) → q ≡ r
    → IsPart a.trace_id a.processors p q k → IsPart b.trace_id b.processors p r l
    → IsRightAt T p q k → IsRightAt T p r l → IsSamePart k l
part_same T a b trace ra rb p q r k l e x y u v = record {
  held = held_same T.segments ra.collection.in_order p k.held l.held (x.numbers ∙ ap (λ (z : Numbers). z.loose) e ∙ sym y.numbers)
      (AllByRecursion-weaker (IsOwned a.trace_id a.processors p) (λ s. s.processor ≡ p) k.held (λ s o. o.processor) x.owned)
      (AllByRecursion-weaker (IsOwned b.trace_id b.processors p) (λ s. s.processor ≡ p) l.held (λ s o. o.processor) y.owned)
      u.held v.held;
  folded = folded_same (run_events T p q.front) (sequences_stay_apart T trace (run_below p q.front)) k.folded l.folded u.folded
      (subst (λ (z : Numbers). IsFolded l.folded (run_events T p z.front)) (sym e) v.folded);
}

-- two states that are right about a trace, with the same fronts and loose numbers, are the same
pub determined : IsDetermined
determined T a b trace ra rb same =
    let n : a.processors ≡ b.processors = sym ra.processors ∙ rb.processors in
    record {
      trace_id = sym ra.id ∙ rb.id;
      processors = n;
      taken = same;
      parts = λ p lt.
          let lt' : p < b.processors = omega (arith, lt, n) in
          part_same T a b trace ra rb p (numbers_at a.taken p) (numbers_at b.taken p) (part_at a.parts p) (part_at b.parts p)
          (ap (λ (ps : List Numbers). numbers_at ps p) same)
          (ra.state.each p lt) (rb.state.each p lt') (ra.each p lt) (rb.each p lt');
    }
