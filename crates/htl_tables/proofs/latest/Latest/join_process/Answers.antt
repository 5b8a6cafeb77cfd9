-- The merged rows have the later event at each handle of the process, and the table's own elsewhere.
use Rattle.std.proofs.Common.{◌≡◌, [], ◌∷◌, ◌==◌, List, None, Bool, false, length, refl, ◌∙◌, sym, ap, arith}
use Rattle.std.proofs.lemmas.Bool.{eqb-true, eq-eqb, both_ways}
use Rattle.htl_event.specs.Events.{Event}
use Rattle.htl_event.specs.Handles.{later}
use Rattle.htl_tables.specs.Latest.{event_at}
use Rattle.htl_tables.proofs.Tables.{joined-later}
use Rattle.std.specs.Prelude.{filter}
use Rattle.htl_tables.proofs.ProcessRows.{by_process, is_there}
use Rattle.htl_tables.proofs.ProcessTables.{rows_sorted, found_alike, none_of_others, later-none}
use Rattle.htl_tables.proofs.latest.Latest.join_process.Goals as goal

no_row : (rows : List Event) → length rows ≡ 0 → rows ≡ []
no_row [] none = refl
no_row (row ∷ rows) none = absurd (omega (arith, none))

some_row : (rows : List Event) (is : Bool) → is ≡ (length rows == 0) → is ≡ false → rows ≡ [] → ⊥
some_row rows is test f none = both_ways is f (test ∙ eq-eqb (length rows) 0 (ap length none))

pub of_process-rows-requires : goal.of_process-rows-requires
of_process-rows-requires g c = rw c.deref.ensures.value (by_process c.other.inside.rows.items c.other.invariant)

pub merge-requires-clause-right : goal.merge-requires-clause-right
merge-requires-clause-right g c = rw (c.of_process-rows.ensures, c.deref.ensures.value) (rows_sorted c.args.process c.other.inside.rows.items c.other.invariant)

pub returns-then-is_empty-clause-joined : goal.returns-then-is_empty-clause-joined
returns-then-is_empty-clause-joined g c = λ base.
    let process = c.args.process in
    let other = c.args.other.now in
    let right = c.of_process-rows.ensures ∙ ap (filter (is_there process)) (c.deref.ensures.value ∙ c.other.view_is) in
    let none = no_row c.of_process-rows.result.now (eqb-true _ _ (sym c.is_empty.ensures ∙ c.if-is_empty.true)) in
    let at : event_at other process base ≡ None = sym (found_alike process other base)
    ∙ ap (λ (rows : List Event). event_at rows process base) (sym right ∙ none) in
    rw at (sym (later-none (event_at c.args.self process base)))

pub returns-clause-joined : goal.returns-clause-joined
returns-clause-joined g c = λ base.
    let process = c.args.process in
    let left = c.deref-2.ensures.value ∙ c.self.view_is in
    let right = c.of_process-rows.ensures ∙ ap (filter (is_there process)) (c.deref.ensures.value ∙ c.other.view_is) in
    let joined = rw (left, right) at c.in_ok-merge.ensures.values (process, base) in
    joined ∙ joined-later (event_at c.args.self process base) _
    ∙ ap (later (event_at c.args.self process base)) (found_alike process c.args.other.now base)

pub returns-clause-others : goal.returns-clause-others
returns-clause-others g c = λ owner base differs.
    let process = c.args.process in
    let left = c.deref-2.ensures.value ∙ c.self.view_is in
    let right = c.of_process-rows.ensures ∙ ap (filter (is_there process)) (c.deref.ensures.value ∙ c.other.view_is) in
    let joined = rw (left, right) at c.in_ok-merge.ensures.values (owner, base) in
    joined ∙ joined-later (event_at c.args.self owner base) _
    ∙ ap (later (event_at c.args.self owner base)) (none_of_others process c.args.other.now owner base differs)
    ∙ later-none (event_at c.args.self owner base)

pub returns-in_err-alloc-clause-nothing : goal.returns-in_err-alloc-clause-nothing
returns-in_err-alloc-clause-nothing g c = λ none.
    let right = c.of_process-rows.ensures ∙ ap (filter (is_there c.args.process)) (c.deref.ensures.value ∙ c.other.view_is) in
    absurd (some_row c.of_process-rows.result.now c.is_empty.result c.is_empty.ensures c.if-is_empty.false (right ∙ none))

pub returns-in_err-merge-clause-nothing : goal.returns-in_err-merge-clause-nothing
returns-in_err-merge-clause-nothing g c = λ none.
    let right = c.of_process-rows.ensures ∙ ap (filter (is_there c.args.process)) (c.deref.ensures.value ∙ c.other.view_is) in
    absurd (some_row c.of_process-rows.result.now c.is_empty.result c.is_empty.ensures c.if-is_empty.false (right ∙ none))

pub returns-clause-nothing : goal.returns-clause-nothing
returns-clause-nothing g c = λ none.
    let right = c.of_process-rows.ensures ∙ ap (filter (is_there c.args.process)) (c.deref.ensures.value ∙ c.other.view_is) in
    absurd (some_row c.of_process-rows.result.now c.is_empty.result c.is_empty.ensures c.if-is_empty.false (right ∙ none))
