use Rattle.proof_log.proofs.FitMarks.{define_marks_fit}
use Rattle.proof_log.proofs.Reports.{define_reports}
use Rattle.proof_log.proofs.laws.marks_of_a_definition_are_fit.Goals as goal

pub returns-clause-fit : goal.returns-clause-fit
returns-clause-fit c = define_marks_fit

pub returns-clause-report : goal.returns-clause-report
returns-clause-report c = define_reports
