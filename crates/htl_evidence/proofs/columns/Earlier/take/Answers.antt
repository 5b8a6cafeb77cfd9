-- Columns are taken out where the first of the earlier segments has the key of the next one.
use Rattle.std.proofs.Common.{rules, ◌≡◌, false, true}
use Rattle.std.proofs.lemmas.Bool.{both_ways}
use Rattle.htl_evidence.proofs.TakenOver.{skipped_among, taken_among, taken_columns}
use Rattle.htl_evidence.proofs.columns.Earlier.take.Goals as goal

pub returns-then-not-have_one_key-clause-among : goal.returns-then-not-have_one_key-clause-among
returns-then-not-have_one_key-clause-among c = λ later among.
    let no : c.have_one_key.result ≡ false = search rules in
    skipped_among c.args.self.now.segments.now c.in_ok-first.rest.now c.in_ok-first.first.now c.in_ok-first.ensures.cases.0
    c.args.segment.now later among (λ same. both_ways c.have_one_key.result no (c.have_one_key.ensures.1 same))

pub returns-clause-among : goal.returns-clause-among
returns-clause-among c = λ later among.
    let yes : c.have_one_key.result ≡ true = search rules in
    taken_among c.args.self.now.segments.now c.in_ok-first.rest.now c.in_ok-first.first.now c.in_ok-first.ensures.cases.0
    c.args.segment.now later among (c.have_one_key.ensures.0 yes)

pub returns-clause-value : goal.returns-clause-value
returns-clause-value c = λ later among.
    let yes : c.have_one_key.result ≡ true = search rules in
    taken_columns c.args.self.now.segments.now c.in_ok-first.rest.now c.in_ok-first.first.now c.in_ok-first.ensures.cases.0
    c.args.segment.now later among _ _ c.in_ok-columns.columns c.in_ok-columns.ensures.cases.0 c.requires.have (c.have_one_key.ensures.0 yes)
