-- The law: inputs have one coverage, which is that of the summary.
use Rattle.htl_main.proofs.OneCoverage.{one_coverage, summary_reports}
use Rattle.htl_main.proofs.laws.one_coverage.Goals as goal

pub returns-clause-one : goal.returns-clause-one
returns-clause-one c = one_coverage

pub returns-clause-summary : goal.returns-clause-summary
returns-clause-summary c = summary_reports
