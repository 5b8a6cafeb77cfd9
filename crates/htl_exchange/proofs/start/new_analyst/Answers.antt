-- A case has 1 to 256 processors, and one segment for each key.
use Rattle.std.proofs.Common.{refl, sym, arith, inl, inr}
use Rattle.htl_analyst.proofs.Held.{collection_of}
use Rattle.htl_case.proofs.Played.{some_processors, few_processors}
use Rattle.htl_exchange.proofs.start.new_analyst.Goals as goal

pub unreachable-requires : goal.unreachable-requires
unreachable-requires c =
    let some = some_processors c.args.case.now c.segments-is_case.ensures.is_case in
    let few = few_processors c.args.case.now c.segments-is_case.ensures.is_case in
    let e = c.processors.ensures in
    let says = rw c.in-Err-Processors.field-0-is at c.in-Err-Processors.ensures.processors in
    elim (says.0 refl) [ inl none ↦ omega (arith, some, e, none) | inr many ↦ omega (arith, few, e, many) ]

pub returns-in-Ok-clause-right : goal.returns-in-Ok-clause-right
returns-in-Ok-clause-right c =
    let T = c.args.case.now in
    c.in-Ok.ensures.right T (collection_of T c.segments-is_case.ensures.is_case.trace) (sym c.trace_id.ensures) (sym c.processors.ensures)
