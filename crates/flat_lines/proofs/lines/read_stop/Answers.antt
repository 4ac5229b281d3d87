use Rattle.std.proofs.Common.{refl, sym, ◌∙◌}
use Rattle.std.specs.Prelude.{codes}
use Rattle.strict_lines.specs.Operands.{reads_number}
use Rattle.flat_lines.specs.Lines.{refusal_of}
use Rattle.flat_lines.proofs.Readings.{parted_none, parted_before, parted_at, bind_none, bind_on, some_of, none_of}
use Rattle.flat_lines.proofs.Refusals.{stop_of, stop_tail, stop_made, refusal_is}
use Rattle.flat_lines.proofs.lines.read_stop.Goals as goal

pub returns-in_default : goal.returns-in_default
returns-in_default c = λ t. parted_none _ _ _ c.in_default.ensures

pub returns-in_default-behind : goal.returns-in_default-behind
returns-in_default-behind c = λ t. let k = c.in-Some.ensures in parted_before (reads_number c.args.text.now) (codes " ") stop_tail k.0 c.in-Some.lines.rest.now k.1 k.2.1 c.in_default-behind.ensures.none

pub returns-then-is_refusal : goal.returns-then-is_refusal
returns-then-is_refusal c = λ t.
    let k = c.in-Some.ensures in
    let y = c.in-Some-behind.refusal.now in
    let r = some_of (refusal_of y) (sym c.is_refusal.ensures ∙ c.if-is_refusal.true) in (
      stop_of k.0.0 r.0,
      parted_at (reads_number c.args.text.now) (codes " ") stop_tail k.0 c.in-Some.lines.rest.now y k.1 k.2.1 c.in-Some-behind.ensures.some ∙ stop_made k.0.0 y ∙ bind_on (refusal_of y) _ r.0 r.1,
      (k.0.0, r.0.0, r.0.1.0, r.0.1.1, k.2.0, refusal_is y r.0 r.1, refl),
    )

pub returns-else-is_refusal : goal.returns-else-is_refusal
returns-else-is_refusal c = λ t.
    let k = c.in-Some.ensures in
    let y = c.in-Some-behind.refusal.now in
    parted_at (reads_number c.args.text.now) (codes " ") stop_tail k.0 c.in-Some.lines.rest.now y k.1 k.2.1 c.in-Some-behind.ensures.some
    ∙ stop_made k.0.0 y ∙ bind_none (refusal_of y) _ (none_of (refusal_of y) (sym c.is_refusal.ensures ∙ c.if-is_refusal.false))
