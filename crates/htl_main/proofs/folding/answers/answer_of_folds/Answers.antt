-- What was folded of segments tells the answer over their collection.
use Rattle.std.proofs.Common.{None, refl}
use Rattle.std.proofs.lemmas.Result.{IfOk-weaker}
use Rattle.htl_main.proofs.FoldLaws.{folded_all}
use Rattle.htl_main.proofs.folding.answers.answer_of_folds.Goals as goal

pub returns : goal.returns
returns g c =
    IfOk-weaker c.answer.result _ _ (λ answer over segments T folded is. over T None (record {
      folded = folded_all segments c.args.analyst.now T folded is.all;
      moment = refl;
      ordered = λ latest. (is.case latest).trace.sequences;
    })) c.answer.ensures
