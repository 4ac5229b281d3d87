use Rattle.std.proofs.Common.{subst}
use Rattle.theory_text.specs.Views.{define_view}
use Rattle.theory_answers.specs.Verdicts.{IsVerdict}
use Rattle.theory_answers.proofs.Checking.{one_ok}
use Rattle.theory_answers.proofs.Telling.{empty_theory, refused_theory, defined_theory}
use Rattle.theory_answers.proofs.theory.theory_of.Goals as goal

pub returns-in-Empty : goal.returns-in-Empty
returns-in-Empty c =
    let v = subst (IsVerdict c.args.input.now) c.in-Empty.is c.in_ok-verdict_of.ensures in
    one_ok c.base_theory.result c.base_theory.ensures (λ t h. empty_theory c.args.input.now c.args.kernel t c.requires v h)

pub returns-in-Define : goal.returns-in-Define
returns-in-Define c =
    let v = subst (IsVerdict c.args.input.now) c.in-Define.is c.in_ok-verdict_of.ensures in
    one_ok c.defined_theory.result c.defined_theory.ensures (λ t h. defined_theory c.args.input.now c.args.kernel (define_view c.in-Define.command) t c.requires v h)

pub returns-in-Refused : goal.returns-in-Refused
returns-in-Refused c =
    let v = subst (IsVerdict c.args.input.now) c.in-Refused.is c.in_ok-verdict_of.ensures in
    one_ok c.base_theory-in-Refused.result c.base_theory-in-Refused.ensures (λ t h. refused_theory c.args.input.now c.args.kernel c.in-Refused.r t c.requires v h)
