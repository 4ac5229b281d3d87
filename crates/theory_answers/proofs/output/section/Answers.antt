use Rattle.std.proofs.Common.{◌≡◌, ◌++◌, ap, ◌∙◌, codes}
use Rattle.hol_terms.specs.Definition.{const_def}
use Rattle.hol_terms.specs.Tm.{Tm}
use Rattle.hol_terms.specs.Text.{definition_line, theorem_line}
use Rattle.hol_terms.specs.Sequent.{eq_tm}
use Rattle.hol_terms.specs.TyVars.{own_const}
use Rattle.hol_terms.specs.Typing.{tm_type}
use Rattle.theory_answers.specs.Answer.{base_line}
use Rattle.theory_answers.proofs.Checking.{section_pushed}
use Rattle.theory_answers.proofs.Conservative.{conservative_before}
use Rattle.theory_answers.proofs.output.section.Goals as goal

pub returns-clause-text : goal.returns-clause-text
returns-clause-text c =
    let name = c.args.name.now in
    let body = c.args.body.now in
    let p : Tm = eq_tm (own_const name (tm_type body)) body in
    let definition : c.as_str-2.result.now ≡ definition_line (const_def name body) = c.as_str-2.ensures.value ∙ c.in_ok-definition.ensures in
    let fact_name : c.as_str.result.now ≡ name ++ codes ".def" = c.as_str.ensures.value ∙ c.in_ok-push_str.ensures.bytes ∙ ap (λ n. n ++ codes ".def") c.in_ok-fact_name.ensures.ok in
    let concl : c.concl.result.now ≡ p = c.concl.ensures.value ∙ ap (λ th. th.sequent.concl) c.in_ok-th.ensures.ok.theorem in
    let fact : c.as_str-3.result.now ≡ theorem_line (name ++ codes ".def") p = c.as_str-3.ensures.value ∙ c.in_ok-fact.ensures ∙ (λ i. theorem_line (fact_name i) (concl i)) in
    section_pushed base_line name _ _ _ _ _ _ _ _ _ c.in_ok-text.ensures c.in_ok-push_str-2.ensures.bytes c.in_ok-push_line.ensures c.in_ok-push_line-2.ensures c.in_ok-push_line-3.ensures definition fact

pub returns-clause-conservative : goal.returns-clause-conservative
returns-clause-conservative c = conservative_before _ _ _ _ c.concl.ensures.derivable (ap (λ th. th.defs) c.in_ok-th.ensures.ok.theorem)
