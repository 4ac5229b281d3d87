use Rattle.std.proofs.Common.{refl}
use Rattle.theory_answers.proofs.Telling.{base_pushed}
use Rattle.theory_answers.proofs.theory.base_theory.Goals as goal

pub returns : goal.returns
returns c = record {
  kernel = refl;
  marks = base_pushed c.args.kernel _ _ _ _ c.steps-at.ensures.run c.new-marks.ensures.items c.in_ok-push.ensures.items;
  end_is = refl;
}
