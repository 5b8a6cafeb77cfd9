-- The segments of one input more are decoded behind the others, or the first input that is refused is reported.
use Rattle.std.proofs.Common.{ℕ, arith, length, map, refl, Vec, Global}
use Rattle.std.proofs.lemmas.List.{length-map, take_all}
use Rattle.std.proofs.lemmas.Option.{slice_get_read}
use Rattle.std.proofs.lemmas.Result.{err_from_is_err_and}
use Rattle.htl_inputs.specs.Ends.{IsInput}
use Rattle.htl_inputs.proofs.InputLaws.{asked_of, input_at}
use Rattle.htl_inputs.proofs.SpanLaws.{all_so_far, none_so_far, one_so_far}
use Rattle.htl_inputs.proofs.inputs.decode_all.Goals as goal

pub returns-in_err-more-clause-err : goal.returns-in_err-more-clause-err
returns-in_err-more-clause-err c =
    let p = err_from_is_err_and c.from_residual.result c.from_residual.ensures.1 in
    let read = slice_get_read c.args.inputs.now (length c.args.inputs.now) c.loop-place.place c.index-inputs-place.result refl
    c.loop-place-test.true c.index-inputs-place.is in
    rw (p.1, p.2) (record {
      place = c.loop-place.place;
      input = c.index-inputs-place.result.items;
      here = input_at c.args.inputs.now c.loop-place.place c.index-inputs-place.result c.loop-place-test.true read;
      segments = c.loop-place.decoded.segments.items;
      before = c.loop-place.invariant.segments;
      reported = rw (← c.deref.ensures.value) (c.in_err-more.ensures.err);
    })

pub returns-in_err-add-clause-err : goal.returns-in_err-add-clause-err
returns-in_err-add-clause-err c =
    let p = err_from_is_err_and c.from_residual-in_err-add.result c.from_residual-in_err-add.ensures.1 in
    let read = slice_get_read c.args.inputs.now (length c.args.inputs.now) c.loop-place.place c.index-inputs-place.result refl
    c.loop-place-test.true c.index-inputs-place.is in
    rw (p.1, p.2) (record {
      place = c.loop-place.place;
      input = c.index-inputs-place.result.items;
      here = input_at c.args.inputs.now c.loop-place.place c.index-inputs-place.result c.loop-place-test.true read;
      segments = c.loop-place.decoded.segments.items;
      before = c.loop-place.invariant.segments;
      reported = rw (← c.deref.ensures.value) (asked_of c.args.form _ _ _ c.in_ok-more.ensures.ok c.in_err-add.ensures.full);
    })

pub loop-place-preserved : goal.loop-place-preserved
loop-place-preserved c =
    let l = c.loop-place in
    let read = slice_get_read c.args.inputs.now (length c.args.inputs.now) l.place c.index-inputs-place.result refl c.loop-place-test.true
    c.index-inputs-place.is in
    let text = c.index-inputs-place.result.items in
    let more = c.in_ok-more.more in
    let added = c.in_ok-add.ensures in
    let texts = map (λ (input : Vec ℕ Global). input.items) c.args.inputs.now in
    let is : IsInput c.args.form text more.segments.items more.end = rw (← c.deref.ensures.value) (c.in_ok-more.ensures.ok) in
    one_so_far c.args.form texts l.place text l.decoded _ more.segments.items more.end
    (input_at c.args.inputs.now l.place c.index-inputs-place.result c.loop-place-test.true read) is l.invariant added.segments
    (added.spans c.args.form texts text) added.cuts

pub loop-place-init : goal.loop-place-init
loop-place-init c =
    let texts = map (λ (input : Vec ℕ Global). input.items) c.args.inputs.now in
    none_so_far c.args.form texts c.new-decoded.result c.new-decoded.ensures.segments (c.new-decoded.ensures.spans c.args.form texts)
    c.new-decoded.ensures.cuts

pub returns-clause-ok : goal.returns-clause-ok
returns-clause-ok c =
    let l = c.loop-place in
    let texts = map (λ (input : Vec ℕ Global). input.items) c.args.inputs.now in
    let long = length-map c.args.inputs.now (λ (input : Vec ℕ Global). input.items) in
    all_so_far c.args.form texts l.place l.decoded (take_all l.place texts (omega (arith, long, c.loop-place-test.false))) l.invariant
