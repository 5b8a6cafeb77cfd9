-- The same events, at whatever places, give the same summary.
use Rattle.std.proofs.Common.{◌≡◌, ℕ, ◌<◌, Bool, true, cond, List, sym, ap, ◌∙◌, ◌&&◌, ◌==◌}
use Rattle.std.specs.Prelude.{Contains, ◌↔◌, length}
use Rattle.std.specs.List.Sorted.{IsPermutation}
use Rattle.std.proofs.lemmas.List.Sorted.{IsPermutation-sym, Contains-permutation, sum_by-IsPermutation}
use Rattle.std.proofs.lemmas.Cmp.{nat_cmp_total, on_total, then_total, back_total}
use Rattle.htl_event.specs.Events.{Event}
use Rattle.htl_event.specs.declared.kind.Kind.{Kind}
use Rattle.htl_event.specs.declared.kind.Kind.TheVariants.{Snapshot, Exited}
use Rattle.htl_event.specs.declared.slot.Slot.TheVariants.{Tagged}
use Rattle.htl_event.specs.declared.summary.ProcessRow.{ProcessRow}
use Rattle.htl_event.specs.declared.summary.ObjectRow.{ObjectRow}
use Rattle.htl_event.specs.Members.{Lists, IsStrictOrder}
use Rattle.htl_event.specs.Handles.{IsOf}
use Rattle.htl_event.specs.Laws.{HaveSame}
use Rattle.htl_event.specs.Summaries.{how_many, IsProcessRow, MostOutstandingFirst, IsObjectRow, MostUnbalancedFirst, SummariesAreDetermined}
use Rattle.htl_event.proofs.Members.{Lists-same}
use Rattle.htl_event.proofs.Orders.{strict_from_total, lower-strict}
use Rattle.htl_event.proofs.Determined.{IsGreatestSequence-same, same_where, open_in_both}
use Rattle.htl_event.proofs.Counts.{counts_are_determined}

-- ---- orders

pub MostOutstandingFirst-strict : IsStrictOrder MostOutstandingFirst
MostOutstandingFirst-strict =
    strict_from_total (then_total (back_total (on_total (λ (row : ProcessRow). row.outstanding) nat_cmp_total))
    (on_total (λ (row : ProcessRow). row.process) nat_cmp_total))

pub MostUnbalancedFirst-strict : IsStrictOrder MostUnbalancedFirst
MostUnbalancedFirst-strict =
    strict_from_total (then_total (back_total (on_total (λ (row : ObjectRow). row.unbalanced) nat_cmp_total))
    (on_total (λ (row : ObjectRow). row.object) nat_cmp_total))

-- ---- the same rows

-- a list names the elements of an equal property too
Lists-of : {X : Type 0} (before : X → X → Type 0) (P Q : X → Type 0) (xs : List X) → ((x : X) → P x ↔ Q x) → Lists before P xs
    → Lists before Q xs
Lists-of before P Q xs same l = record {
  rising = l.rising;
  members = λ x. (λ h. (same x).0 ((l.members x).0 h), λ q. (l.members x).1 ((same x).1 q));
}

have_same : (xs ys : List Event) → IsPermutation xs ys → HaveSame xs ys
have_same xs ys moved e = (Contains-permutation xs ys e moved, Contains-permutation ys xs e (IsPermutation-sym xs ys moved))

how_many-moved : (is_kind : Kind → Bool) (xs ys : List Event) (process : ℕ) → IsPermutation xs ys
    → how_many is_kind xs process ≡ how_many is_kind ys process
how_many-moved is_kind xs ys process moved =
    sym (sum_by-IsPermutation (λ (e : Event). cond (is_kind e.kind && process == e.process) 1 0) xs ys moved)

module _ (xs ys : List Event) (moved : IsPermutation xs ys) where
  process_row : (row : ProcessRow) → IsProcessRow xs row → IsProcessRow ys row
  process_row row is = record {
    some = is.some;
    handles = (
      is.handles.0,
      Lists-of _ _ _ is.handles.0 (open_in_both xs ys (have_same xs ys moved) row.process) is.handles.1,
      is.handles.2,
    );
    opened = is.opened ∙ how_many-moved _ xs ys row.process moved;
    closed = is.closed ∙ how_many-moved _ xs ys row.process moved;
    misused = is.misused ∙ how_many-moved _ xs ys row.process moved;
    marked = IsGreatestSequence-same _ _ (same_where (Contains xs) (Contains ys) (IsOf Snapshot row.process) (have_same xs ys moved))
        row.mark is.marked;
    exited = IsGreatestSequence-same _ _ (same_where (Contains xs) (Contains ys) (IsOf Exited row.process) (have_same xs ys moved))
        row.exit is.exited;
  }

  object_row : (row : ObjectRow) → IsObjectRow xs row → IsObjectRow ys row
  object_row row is = record {
    balances = is.balances;
    all = Lists-of _ _ _ is.balances (λ tag.
        (let same = (counts_are_determined xs ys moved).counts (λ e. true) (Tagged row.object tag.0) in
        (λ h. (h.0 ∙ same, h.1), λ h. (h.0 ∙ sym same, h.1)))) is.all;
    number = is.number;
    differing = is.differing;
    plus = is.plus;
    minus = is.minus;
  }

-- of a list and the same list in another order, each answer of a summary is one
pub summaries_are_determined : (xs ys : List Event) → IsPermutation xs ys → SummariesAreDetermined xs ys
summaries_are_determined xs ys moved =
    let back = IsPermutation-sym xs ys moved in
    let same = have_same xs ys moved in
    record {
      processes = λ a b. Lists-same MostOutstandingFirst MostOutstandingFirst-strict _ _ a b
          (λ row. (process_row xs ys moved row, process_row ys xs back row));
      unbalanced = λ a b. Lists-same MostUnbalancedFirst MostUnbalancedFirst-strict _ _ a b
          (λ row. (λ h. (object_row xs ys moved row h.0, h.1), λ h. (object_row ys xs back row h.0, h.1)));
      objects = λ a b p q. p.2 ∙ ap length (Lists-same (λ (o p : ℕ). o < p) lower-strict _ _ p.0 q.0
          (λ object. (λ h. (h.0, (same h.0).0 h.1, h.2), λ h. (h.0, (same h.0).1 h.1, h.2))) p.1 q.1) ∙ sym q.2;
    }
