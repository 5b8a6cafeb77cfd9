-- `encode_all` reads its sources one after another and gives what their texts encode, or reports the first that is refused or can't be read.
use Rattle.std.proofs.Common.{◌<◌, [], arith, inl, length, map, refl, true}
use Rattle.std.proofs.lemmas.Option.{IfSome_then}
use Rattle.std.proofs.lemmas.Result.{err_from_is_err_and}
use Rattle.htl_inputs.proofs.ReadingLaws.{all_ended, at_next, ends_there, next_of, next_open, none_before, one_more, refused_there}
use Rattle.htl_inputs.proofs.SourceLaws.{none_asked}
use Rattle.htl_convert.proofs.Unasked.{asks_no_more}
use Rattle.htl_convert.proofs.EncodeLaws.{give_next, Gives, some_begin, stops_encoding}
use Rattle.htl_convert.proofs.encoding.encode_all.Goals as goal

pub loop-place-init : goal.loop-place-init
loop-place-init g c = record {
  before = none_before _ (map g.R.Source.state c.args.sources.now) c.requires.ready;
  readers = none_asked true 1 (map g.R.Source.state c.args.sources.now);
  encoded = λ texts all. ([], refl, c.new-bundle.ensures.items);
}

pub loop-place-preserved : goal.loop-place-preserved
loop-place-preserved g c =
    let l = c.loop-place in
    let next = next_of g.R.Source.state c.args.sources.now l.sources l.place c.index-sources-place.result l.invariant.before (omega arith) in
    let more = c.in_ok-more.more in
    record {
      before = one_more next c.encode_input.new.source more c.in_ok-more.ensures.reading;
      readers = asks_no_more next c.encode_input.new.source 1 l.invariant.readers c.in_ok-more.ensures.tails;
      encoded = λ texts all.
          let one = at_next next texts all (λ text. Gives text more.items) c.in_ok-more.ensures.ok in
          rw (c.in_ok-append.ensures.items)
          (give_next texts l.place one.text l.bundle.items more.items one.here (l.invariant.encoded texts all) one.holds);
    }

pub returns-in_err-more-clause-stops : goal.returns-in_err-more-clause-stops
returns-in_err-more-clause-stops g c = λ texts all.
    let p = err_from_is_err_and c.from_residual.result c.from_residual.ensures.1 in
    let l = c.loop-place in
    let next = next_of g.R.Source.state c.args.sources.now l.sources l.place c.index-sources-place.result l.invariant.before (omega arith) in
    let so_far = l.invariant.encoded texts all in
    rw (p.1, p.2) (stops_encoding next c.encode_input.new.source texts c.in_err-more.field-0.0 so_far.0 all so_far.1 c.in_err-more.ensures.stops)

pub returns-in_err-append-clause-stops : goal.returns-in_err-append-clause-stops
returns-in_err-append-clause-stops g c = λ texts all.
    let p = err_from_is_err_and c.from_residual-in_err-append.result c.from_residual-in_err-append.ensures.1 in
    let l = c.loop-place in
    let next = next_of g.R.Source.state c.args.sources.now l.sources l.place c.index-sources-place.result l.invariant.before (omega arith) in
    let more = c.in_ok-more.more.items in
    let some : 0 < length more = omega (arith, c.in_err-append.ensures.full) in
    let so_far = l.invariant.encoded texts all in
    rw (p.1, p.2) (stops_encoding next c.encode_input.new.source texts _ so_far.0 all so_far.1
    (IfSome_then _ c.in_ok-more.ensures.ok (λ text gives. inl (some_begin text more gives some))))

pub returns-in_err-more-clause-reading : goal.returns-in_err-more-clause-reading
returns-in_err-more-clause-reading g c =
    let p = err_from_is_err_and c.from_residual.result c.from_residual.ensures.1 in
    let l = c.loop-place in
    let next = next_of g.R.Source.state c.args.sources.now l.sources l.place c.index-sources-place.result l.invariant.before (omega arith) in
    rw (p.1, p.2) (ends_there next c.encode_input.new.source c.in_err-more.field-0.0 c.in_err-more.ensures.reading)

pub returns-in_err-append-clause-reading : goal.returns-in_err-append-clause-reading
returns-in_err-append-clause-reading g c =
    let p = err_from_is_err_and c.from_residual-in_err-append.result c.from_residual-in_err-append.ensures.1 in
    let l = c.loop-place in
    let next = next_of g.R.Source.state c.args.sources.now l.sources l.place c.index-sources-place.result l.invariant.before (omega arith) in
    rw (p.1, p.2) (refused_there next c.encode_input.new.source c.in_ok-more.more c.in_ok-more.ensures.reading)

pub returns-in_err-more-clause-readers : goal.returns-in_err-more-clause-readers
returns-in_err-more-clause-readers g c =
    let l = c.loop-place in
    let next = next_of g.R.Source.state c.args.sources.now l.sources l.place c.index-sources-place.result l.invariant.before (omega arith) in
    asks_no_more next c.encode_input.new.source 1 l.invariant.readers c.in_err-more.ensures.tails

pub returns-in_err-append-clause-readers : goal.returns-in_err-append-clause-readers
returns-in_err-append-clause-readers g c =
    let l = c.loop-place in
    let next = next_of g.R.Source.state c.args.sources.now l.sources l.place c.index-sources-place.result l.invariant.before (omega arith) in
    asks_no_more next c.encode_input.new.source 1 l.invariant.readers c.in_ok-more.ensures.tails

pub returns-clause-reading : goal.returns-clause-reading
returns-clause-reading g c =
    all_ended g.R.Source.state c.args.sources.now c.loop-place.sources c.loop-place.place _ c.loop-place.invariant.before (omega arith)

pub encode_input-requires : goal.encode_input-requires
encode_input-requires g c =
    let l = c.loop-place in
    let next = next_of g.R.Source.state c.args.sources.now l.sources l.place c.index-sources-place.result l.invariant.before (omega arith) in
    record { ready = next_open next c.requires.ready }
