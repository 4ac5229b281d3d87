use Rattle.log_laws.proofs.OneOutcome.{one_report, one_outcome, one_fault}
use Rattle.log_laws.proofs.laws.logs_have_one_outcome.Goals as goal

pub returns : goal.returns
returns c = record { good = one_report; not_both = one_outcome; bad = one_fault }
