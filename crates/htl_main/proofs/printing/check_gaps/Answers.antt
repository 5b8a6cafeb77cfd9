-- Where the case isn't complete up to the moment, what is missing is reported.
use Rattle.std.proofs.Common.{◌≡◌, rules, true}
use Rattle.htl_main.specs.Moments.{is_above}
use Rattle.htl_main.proofs.MomentLaws.{complete_until, ends_answer, still_missing}
use Rattle.htl_main.proofs.printing.check_gaps.Goals as goal

pub returns-in-Some-clause-err : goal.returns-in-Some-clause-err
returns-in-Some-clause-err c =
    let missed = c.args.missed.now in
    let complete : c.args.complete ≡ true = search (rules, c.if-not-complete.false) in
    let above : is_above c.args.until missed.extent.complete_to ≡ true = search (rules, c.if-not-is_above.false, c.is_above.ensures) in (
      complete,
      λ T is. (
        still_missing T missed c.args.cuts.now c.args.until c.in-Some.fault is above (c.in-Some.ensures.some T is),
        c.in-Some.ensures.some T is,
      ),
    )

pub returns-in-Some-clause-after : goal.returns-in-Some-clause-after
returns-in-Some-clause-after c = ends_answer c.in-Some.fault c.in-Some.ensures.names

pub returns-in-None-clause-ok : goal.returns-in-None-clause-ok
returns-in-None-clause-ok c = λ complete T is. complete_until T c.args.cuts.now c.args.until (c.in-None.ensures.none T is)
