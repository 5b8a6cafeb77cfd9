-- The line is its first part and what follows.
use Rattle.std.proofs.Common.{rules, refl}
use Rattle.htl_dialogue.proofs.FirstPart.{begins}
use Rattle.htl_dialogue.proofs.splitting.first_part.Goals as goal

pub returns-in-Some-clause-parts : goal.returns-in-Some-clause-parts
returns-in-Some-clause-parts c =
    let v = c.part_end.ensures.value in
    let f = c.split_at.ensures.front in
    let b = c.split_at.ensures.back in
    let s = c.in-Some.ensures.cases in
    begins c.args.line.now c.split_at.result.0.now c.split_at.result.1.now c.in-Some.rest.now (rw v at f) (rw v at b) (rw s.0 refl)

pub returns-in-None-clause-parts : goal.returns-in-None-clause-parts
returns-in-None-clause-parts c =
    let v = c.part_end.ensures.value in
    let f = c.split_at.ensures.front in
    let b = c.split_at.ensures.back in
    begins c.args.line.now c.split_at.result.0.now c.split_at.result.1.now c.split_at.result.1.now (rw v at f) (rw v at b)
    (search (rules, c.in-None.ensures.cases))
