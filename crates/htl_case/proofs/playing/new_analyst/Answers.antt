-- A new analyst can be made for a case, which has 1 to 256 processors.
use Rattle.std.proofs.Common.{refl, arith, inl, inr}
use Rattle.htl_case.proofs.Played.{some_processors, few_processors}
use Rattle.htl_case.proofs.playing.new_analyst.Goals as goal

pub unreachable-requires : goal.unreachable-requires
unreachable-requires c =
    let some = some_processors c.args.case.now c.requires in
    let few = few_processors c.args.case.now c.requires in
    let e = c.processors.ensures in
    let told = rw c.in-Err-Processors.field-0-is at c.in-Err-Processors.ensures.processors in
    elim (told.0 refl) [ inl none ↦ omega (arith, some, e, none) | inr many ↦ omega (arith, few, e, many) ]
