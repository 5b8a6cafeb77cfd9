-- Each place has no stack, whose lines stand anywhere.
use Rattle.std.proofs.Common.{◌<◌, All, arith, length, refl, subst, sym}
use Rattle.std.proofs.lemmas.List.Elements.{All-replicate}
use Rattle.htl_report.specs.Printed.{IsPrinted}
use Rattle.htl_report.proofs.PrintedPlaces.{none_there}
use Rattle.htl_report.proofs.printed.Printed.new.Goals as goal

pub returns : goal.returns
returns c = λ symbols text.
    let all = c.in_ok-vec.ensures.items_if_clones_equal (λ y same. same) in
    let some : 0 < length c.in_ok-vec.field-0.items = omega (arith, c.in_ok-vec.field-0.ok.0, c.in_ok-vec.ensures.len, c.clamp.ensures) in
    record {
      some = some;
      each = subst (All (IsPrinted symbols text)) (sym all) (All-replicate (IsPrinted symbols text) _ _ (none_there symbols text _ refl refl refl));
    }
