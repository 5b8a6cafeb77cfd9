-- The lines of the answer are written, or where a write fails some first part of them; or it isn't answered, and nothing is written.
use Rattle.std.proofs.Common.{refl}
use Rattle.std.proofs.lemmas.Result.{err_from_is_err_and}
use Rattle.htl_ask.proofs.Answered.{unprinted_in, unwritten_in}
use Rattle.htl_ask.proofs.over_states.print_begun.Goals as goal

pub returns-in_err-text : goal.returns-in_err-text
returns-in_err-text g c =
    let p = err_from_is_err_and c.from_residual.result c.from_residual.ensures.1 in
    let kept = c.args.begun.now.kept in
    let job = c.args.job.now in
    let contents = (g.O.Sink.state c.args.out.now).contents in
    let fault = c.in_err-text.field-0.0 in
    rw (p.1, p.2) (record {
      outcome = unprinted_in kept job contents contents fault c.in_err-text.ensures;
      sink = record {
        untouched = λ other. refl;
        failed = λ told. absurd (unwritten_in kept job fault c.in_err-text.ensures (cc told));
        fine = tt;
      };
    })

pub returns-in_err-write_lines : goal.returns-in_err-write_lines
returns-in_err-write_lines g c =
    let p = err_from_is_err_and c.from_residual-in_err-write_lines.result c.from_residual-in_err-write_lines.ensures.1 in
    let reported = c.in_err-write_lines.ensures.err in
    rw (p.1, p.2, reported.0) (record {
      outcome = (c.in_ok-text.text, c.in_ok-text.ensures (λ e. cc e), rw (← c.deref.ensures.value) (reported.2));
      sink = record { untouched = λ other. absurd (other refl); failed = λ told. reported.1; fine = tt };
    })

pub returns : goal.returns
returns g c = record {
  outcome = record {
    answer = c.in_ok-text.text;
    is = c.in_ok-text.ensures (λ e. cc e);
    printed = rw (← c.deref.ensures.value) (c.in_ok-write_lines.ensures.ok);
    coverage = refl;
    cut = refl;
    absence = refl;
    remarks = refl;
  };
  sink = record { untouched = tt; failed = λ told. absurd (cc told); fine = c.in_ok-write_lines.ensures.fine };
}
