use Rattle.std.proofs.Common.{true, sym, subst}
use Rattle.hol_terms.specs.Text.{Text}
use Rattle.theory_answers.specs.Answered.{IsCheck}
use Rattle.theory_answers.specs.declared.verdict.Verdict.TheVariants.{Refused}
use Rattle.theory_answers.proofs.Deciding.{verdict_limit}
use Rattle.theory_answers.proofs.output.limit_output.Goals as goal

pub returns : goal.returns
returns c =
    let v = verdict_limit c.args.input.now (Refused c.in_ok-refusal.refusal) c.requires c.in_ok-refusal.ensures in
    subst (λ (out : Text). IsCheck c.args.input.now out true) (sym c.in_ok-text.ensures) v.checked
