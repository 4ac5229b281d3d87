use Rattle.std.proofs.Common.{refl, ap, ◌∙◌, ◌++◌, codes}
use Rattle.theory_text.specs.Views.{define_view}
use Rattle.theory_answers.proofs.Telling.{defined_next, marks_pushed}
use Rattle.theory_answers.proofs.theory.defined_theory.Goals as goal

pub returns : goal.returns
returns c =
    let d = define_view c.args.command.now in
    let next = defined_next c.args.kernel c.define.new.self d _ _ c.as_str.result.now c.steps-step.ensures.run c.requires.base c.requires.definable.named c.as_str.ensures.value c.in_ok-define.ensures.ok.state in
    record {
      section = c.push_str.new.self;
      fact = c.push_str-2.new.self;
      section_is = c.in_ok-push_str.ensures.bytes ∙ (λ i. c.in_ok-section.ensures.ok i ++ c.as_str-2.ensures.value i);
      fact_is = c.in_ok-push_str-2.ensures.bytes ∙ ap (λ t. t ++ codes ".def") (c.in_ok-fact.ensures.ok ∙ c.as_str-3.ensures.value);
      defined = next;
      marks = marks_pushed c.args.kernel c.define.new.self d.name d.body _ _ _ _ _ _ _ _ _ _ c.steps-step.ensures.run c.steps.ensures.run (ap (λ k. k.steps) next.after) c.new-marks.ensures.items c.in_ok-push.ensures.items c.in_ok-push-2.ensures.items c.in_ok-push-3.ensures.items;
      end_is = refl;
    }
