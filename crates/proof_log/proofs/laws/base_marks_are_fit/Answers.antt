use Rattle.proof_log.proofs.FitMarks.{base_marks_fit}
use Rattle.proof_log.proofs.Reports.{base_reports}
use Rattle.proof_log.proofs.laws.base_marks_are_fit.Goals as goal

pub returns-clause-fit : goal.returns-clause-fit
returns-clause-fit c = base_marks_fit

pub returns-clause-report : goal.returns-clause-report
returns-clause-report c = base_reports
