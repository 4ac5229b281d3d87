use Rattle.std.proofs.Common.{sym, ap, ◌∙◌}
use Rattle.std.specs.Fmt.{decimal}
use Rattle.strict_reading.specs.Words.{behind}
use Rattle.flat_reading.proofs.BinderSteps.{behind_both, behind_neither, some_weaker, none_weaker}
use Rattle.flat_reading.proofs.signs.behind_bound.Goals as goal

pub returns-in_default-clause-none : goal.returns-in_default-clause-none
returns-in_default-clause-none c = behind_neither 120 (decimal c.args.depth) c.args.text.now c.in_default.ensures.none

pub returns-clause-some : goal.returns-clause-some
returns-clause-some c = some_weaker c.behind-2.result _ _ (λ rest e. (behind_both 120 (decimal c.args.depth) c.args.text.now c.in-Some.digits.now c.in-Some.ensures.some ∙ ap (λ q. behind q c.in-Some.digits.now) (sym (c.as_bytes.ensures.value ∙ c.format.ensures.text))) ∙ e) c.behind-2.ensures.some

pub returns-clause-none : goal.returns-clause-none
returns-clause-none c = none_weaker c.behind-2.result _ _ (λ e. (behind_both 120 (decimal c.args.depth) c.args.text.now c.in-Some.digits.now c.in-Some.ensures.some ∙ ap (λ q. behind q c.in-Some.digits.now) (sym (c.as_bytes.ensures.value ∙ c.format.ensures.text))) ∙ e) c.behind-2.ensures.none
