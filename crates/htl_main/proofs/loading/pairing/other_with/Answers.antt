-- One segment more hasn't the key or the sequence, or is this one, or else it is the first other one that has it.
use Rattle.std.proofs.Common.{◌∙◌, arith, length, refl, rules, sym}
use Rattle.std.proofs.lemmas.Bool.{both_ways}
use Rattle.std.proofs.lemmas.Option.{slice_get_read}
use Rattle.htl_main.proofs.PairLaws.{one_more, one_of_all}
use Rattle.htl_main.proofs.loading.pairing.other_with.Goals.{else-is_of-via-then-is_of+else-not-same, else-is_of-via-else-is_of}
use Rattle.htl_main.proofs.loading.pairing.other_with.Goals as goal

pub loop-place-init : goal.loop-place-init
loop-place-init c = λ k s below at has. absurd (omega (arith, below))

pub returns-then-not-same : goal.returns-then-not-same
returns-then-not-same c = record {
  other = c.index-segments-place.result;
  here = slice_get_read c.args.segments.now (length c.args.segments.now) c.loop-place.place c.index-segments-place.result refl
      c.loop-place-test.true c.index-segments-place.is;
  has = sym c.is_of.ensures ∙ c.if-is_of.true;
  differ = λ same. both_ways c.same.result c.if-not-same.true (c.same.ensures.1 same);
}

pub loop-place-preserved : goal.loop-place-preserved
loop-place-preserved c =
    one_more c.args.shared c.args.segments.now c.args.one.now c.index-segments-place.result c.loop-place.place
    (slice_get_read c.args.segments.now (length c.args.segments.now) c.loop-place.place c.index-segments-place.result refl
    c.loop-place-test.true c.index-segments-place.is)
    (λ has. elim c.else-is_of.branch [
      | else-is_of-via-then-is_of+else-not-same w ↦ search rules
      | else-is_of-via-else-is_of w ↦ absurd (both_ways c.is_of.result w.if-is_of.false (c.is_of.ensures ∙ has))
    ])
    c.loop-place.invariant

pub returns : goal.returns
returns c =
    one_of_all c.args.shared c.args.segments.now c.args.one.now c.loop-place.place (omega (arith, c.loop-place-test.false))
    c.loop-place.invariant
