-- A header, and records that fill its length, begin with what they say; else the first fault is reported.
use Rattle.std.proofs.Common.{◌++◌, ◌∙◌, arith}
use Rattle.std.proofs.lemmas.Result.{err_from_is_err_and}
use Rattle.htl_segment.specs.Numbers.{IsBytes}
use Rattle.htl_segment.proofs.Bytes.{IsBytes-append}
use Rattle.htl_segment.proofs.SegmentLaws.{parts_fault-header, parts_fault-cut, parts_fault-records, is_segment, begins_here}
use Rattle.htl_segment.proofs.segment_bytes.SegmentBytes.check_parts.Goals as goal

pub returns-in_err-header-clause-fault : goal.returns-in_err-header-clause-fault
returns-in_err-header-clause-fault c =
    let p = err_from_is_err_and c.from_residual.result c.from_residual.ensures.1 in
    rw (p.1, p.2) (parts_fault-header c.args.head.now c.args.rest.now _ c.requires c.in_err-header.ensures.fault)

pub returns-then-rest-len-clause-fault : goal.returns-then-rest-len-clause-fault
returns-then-rest-len-clause-fault c =
    parts_fault-cut c.args.head.now c.args.rest.now c.in_ok-header.header c.requires c.in_ok-header.ensures.fault.0
    c.in_ok-header.ensures.fault.1 c.if-rest-len.true

pub returns-in_err-check_records-clause-fault : goal.returns-in_err-check_records-clause-fault
returns-in_err-check_records-clause-fault c =
    let p = err_from_is_err_and c.from_residual-in_err-check_records.result c.from_residual-in_err-check_records.ensures.1 in
    let whole = parts_fault-records c.args.head.now c.args.rest.now c.in_ok-header.header c.requires c.in_ok-header.ensures.fault.0
    c.in_ok-header.ensures.fault.1 c.in_ok-header.ensures.whole c.if-rest-len.false in
    rw (p.1, p.2) (whole ∙ c.in_err-check_records.ensures)

pub returns-clause-fault : goal.returns-clause-fault
returns-clause-fault c =
    parts_fault-records c.args.head.now c.args.rest.now c.in_ok-header.header c.requires c.in_ok-header.ensures.fault.0
    c.in_ok-header.ensures.fault.1 c.in_ok-header.ensures.whole c.if-rest-len.false
    ∙ c.in_ok-check_records.ensures

pub invariant_of-result : goal.invariant_of-result
invariant_of-result c =
    let small : IsBytes (c.args.head.now ++ c.args.rest.now) =
    IsBytes-append c.args.head.now c.args.rest.now (λ i. omega (arith, c.type_inv.head i)) (λ i. omega (arith, c.type_inv.rest i)) in
    is_segment c.args.head.now c.args.rest.now c.in_ok-header.header small c.requires c.in_ok-header.ensures.fault.1
    (returns-clause-fault c)

pub returns-clause-found : goal.returns-clause-found
returns-clause-found c =
    let small : IsBytes (c.args.head.now ++ c.args.rest.now) =
    IsBytes-append c.args.head.now c.args.rest.now (λ i. omega (arith, c.type_inv.head i)) (λ i. omega (arith, c.type_inv.rest i)) in
    begins_here c.args.head.now c.args.rest.now c.in_ok-header.header small c.requires c.in_ok-header.ensures.fault.1
    (returns-clause-fault c)
