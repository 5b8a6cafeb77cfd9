-- Tables of events put together have the later and the greater of both, and those of no events have nothing.
use Rattle.std.proofs.Common.{◌≡◌, ℕ, max, List, [], ◌++◌, refl, inl}
use Rattle.htl_event.specs.Events.{Event}
use Rattle.htl_event.specs.declared.kind.Kind.TheVariants.{Snapshot, Exited}
use Rattle.htl_event.specs.Handles.{later, IsOf}
use Rattle.htl_event.proofs.Members.{Contains-nil}
use Rattle.htl_tables.specs.Latest.{event_at}
use Rattle.htl_tables.specs.Greatest.{sequence_at}
use Rattle.htl_answers.specs.Parts.{AreTablesOf}
use Rattle.htl_answers.proofs.Appended.{latest_append, greatest_append}

abbrev Sequences : Type 0
Sequences = List (ℕ × ℕ)

-- tables that have the later and the greater of both at each key
pub tables_joined : (xs ys latest left right : List Event) (marks left_marks right_marks exits left_exits right_exits : Sequences)
    → ((process base : ℕ) → event_at latest process base ≡ later (event_at left process base) (event_at right process base))
    → ((process : ℕ) → sequence_at marks process ≡ max (sequence_at left_marks process) (sequence_at right_marks process))
    → ((process : ℕ) → sequence_at exits process ≡ max (sequence_at left_exits process) (sequence_at right_exits process))
    → AreTablesOf xs left left_marks left_exits → AreTablesOf ys right right_marks right_exits → AreTablesOf (xs ++ ys) latest marks exits
tables_joined xs ys latest left right marks left_marks right_marks exits left_exits right_exits is_latest is_marks is_exits one two = record {
  latest_at = λ process base. rw (is_latest process base) (latest_append xs ys process base _ _ (one.latest_at process base) (two.latest_at process base));
  mark_at = λ process. rw (is_marks process) (greatest_append (IsOf Snapshot process) xs ys _ _ (one.mark_at process) (two.mark_at process));
  exit_at = λ process. rw (is_exits process) (greatest_append (IsOf Exited process) xs ys _ _ (one.exit_at process) (two.exit_at process));
}

-- empty tables are those of no events
pub tables_none : AreTablesOf [] [] [] []
tables_none = record {
  latest_at = λ process base x h c. Contains-nil x h;
  mark_at = λ process. record { bound = λ x h. absurd (Contains-nil x h.0); reached = inl refl };
  exit_at = λ process. record { bound = λ x h. absurd (Contains-nil x h.0); reached = inl refl };
}
