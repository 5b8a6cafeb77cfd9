-- The tables of what a part folded and of what it holds, joined, are those of its events.
use Rattle.std.proofs.Common.{rules, ◌≡◌, ℕ, max, List, [], refl, subst, arith}
use Rattle.htl_event.specs.Events.{Event}
use Rattle.htl_tables.specs.Greatest.{sequence_at}
use Rattle.htl_answers.specs.Parts.{AreTablesOf}
use Rattle.htl_answers.proofs.JoinedTables.{tables_joined}
use Rattle.htl_summary.proofs.tables.tables_of_part.Goals as goal

no_less : (n : ℕ) → n ≡ max 0 n
no_less n = omega arith

pub returns-then-has_no_tables : goal.returns-then-has_no_tables
returns-then-has_no_tables g c = λ folded fold.
    let part = g.P.Part.contents c.args.part.now in
    let h = c.in_ok-held.held in
    let none = c.has_no_tables.ensures (search rules) in
    let held : AreTablesOf part.held h.latest h.marks h.exits =
    subst (λ (es : List Event). AreTablesOf es h.latest h.marks h.exits) c.held.ensures c.in_ok-held.ensures in
    let own : AreTablesOf folded [] [] [] = rw (none.0, none.1, none.2) at fold.tables in
    tables_joined folded part.held h.latest [] h.latest h.marks [] h.marks h.exits [] h.exits
    (λ process base. refl) (λ process. no_less (sequence_at h.marks process)) (λ process. no_less (sequence_at h.exits process)) own held

pub returns : goal.returns
returns g c = λ folded fold.
    let part = g.P.Part.contents c.args.part.now in
    let h = c.in_ok-held.held in
    let held : AreTablesOf part.held h.latest h.marks h.exits =
    subst (λ (es : List Event). AreTablesOf es h.latest h.marks h.exits) c.held.ensures c.in_ok-held.ensures in
    let own : AreTablesOf folded c.latest.result.now c.marks.result.now c.exits.result.now =
    rw (c.latest.ensures, c.marks.ensures, c.exits.ensures) fold.tables in
    tables_joined folded part.held c.in_ok-join.field-0 c.latest.result.now h.latest c.in_ok-join-2.field-0 c.marks.result.now h.marks
    c.in_ok-join-3.field-0 c.exits.result.now h.exits c.in_ok-join.ensures c.in_ok-join-2.ensures c.in_ok-join-3.ensures own held
