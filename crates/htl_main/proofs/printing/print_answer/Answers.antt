-- `print_answer` writes the lines of the answer, or where a write fails some first part of them.
use Rattle.std.proofs.Common.{refl}
use Rattle.std.proofs.lemmas.Result.{err_from_is_err_and}
use Rattle.htl_main.proofs.printing.print_answer.Goals as goal

pub returns-in_err-check_absence : goal.returns-in_err-check_absence
returns-in_err-check_absence g c =
    let p = err_from_is_err_and c.from_residual.result c.from_residual.ensures.1 in
    let refused = c.in_err-check_absence.ensures.err in
    rw (p.1, p.2, refused.0) (record {
      outcome = (
        (refused.1, refused.2.0, rw (← refused.2.1) (c.absence_of-absence.ensures c.requires.known)),
        λ told. absurd (cc told),
      );
      sink = record { untouched = λ other. refl; failed = λ told. absurd (cc told); fine = tt };
    })

pub returns-in_err-text : goal.returns-in_err-text
returns-in_err-text g c =
    let p = err_from_is_err_and c.from_residual-in_err-text.result c.from_residual-in_err-text.ensures.1 in
    rw (p.1, p.2) (record {
      outcome = (tt, λ told. absurd (cc told));
      sink = record { untouched = λ other. refl; failed = λ told. absurd (cc told); fine = tt };
    })

pub returns-in_err-write_lines : goal.returns-in_err-write_lines
returns-in_err-write_lines g c =
    let p = err_from_is_err_and c.from_residual-in_err-write_lines.result c.from_residual-in_err-write_lines.ensures.1 in
    let reported = c.in_err-write_lines.ensures.err in
    rw (p.1, p.2, reported.0) (record {
      outcome = (
        tt,
        λ told. record {
          lines = c.in_ok-text.text.lines.items;
          about = λ coded. rw (← c.in_ok-check_absence.ensures.ok coded) (c.absence_of-absence.ensures c.requires.known);
          is = c.in_ok-text.ensures.lines c.requires.known;
          written = rw (← c.deref.ensures.value) (reported.2);
        },
      );
      sink = record { untouched = λ other. absurd (other refl); failed = λ told. reported.1; fine = tt };
    })

pub returns : goal.returns
returns g c = record {
  outcome = (
    record {
      lines = c.in_ok-text.text.lines.items;
      about = λ coded. rw (← c.in_ok-check_absence.ensures.ok coded) (c.absence_of-absence.ensures c.requires.known);
      is = c.in_ok-text.ensures.lines c.requires.known;
      written = rw (← c.deref.ensures.value) (c.in_ok-write_lines.ensures.ok);
    },
    record {
      coverage = refl;
      cut = refl;
      absence = c.absence_of-absence.ensures c.requires.known;
      remarks = c.in_ok-text.ensures.remarks c.requires.known;
    },
  );
  sink = record { untouched = tt; failed = λ told. absurd (cc told); fine = c.in_ok-write_lines.ensures.fine };
}
