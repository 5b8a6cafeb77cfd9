-- Lists of one length that agree at each place are equal.
use Rattle.std.proofs.Common.{[], arith, refl}
use Rattle.std.proofs.lemmas.List.{ext_get_or}
use Rattle.htl_segment.specs.Content.{Content, content}
use Rattle.htl_segment.specs.declared.version.Version.TheVariants.{V1}
use Rattle.htl_analyst.proofs.part.are_same.Goals as goal

pub returns : goal.returns
returns c =
    let any : Content = content V1 0 0 0 0 [] in (
      (λ t. ext_get_or any c.args.segments.now c.args.others.now c.if-segments-others.false
          (λ i lt. c.loop-place.invariant i any (omega (arith, c.loop-place-test.false)))),
      (λ e. refl),
    )
