use Rattle.std.proofs.Common.{ℕ, ap, ◌∙◌, Option, Some}
use Rattle.std.specs.Prelude.{codes}
use Rattle.hol_terms.specs.Signature.{Signature}
use Rattle.hol_terms.specs.Text.{Text}
use Rattle.hol_logs.specs.Step.{LogStep, step_inst_type}
use Rattle.strict_reading.specs.Steps.{◌>>=◌}
use Rattle.strict_lines.specs.Operands.{reads_number, reads_type_pairs}
use Rattle.flat_signatures.specs.FlatNames.{plain_signature}
use Rattle.flat_lines.specs.Operands.{AreTypePairs}
use Rattle.flat_lines.proofs.Readings.{parted_none, parted_before, parted_at, bind_none, bind_on, gave_none, gave_some}
use Rattle.flat_lines.proofs.steps.read_inst_type.Goals as goal

abbrev tail : Signature → ℕ → Text → Option LogStep
tail s i y = reads_type_pairs s y >>= (λ ps. Some (step_inst_type i ps))

pub returns-in_default-clause-ok : goal.returns-in_default-clause-ok
returns-in_default-clause-ok c = parted_none _ _ _ c.in_default.ensures

pub returns-in_default-behind-clause-ok : goal.returns-in_default-behind-clause-ok
returns-in_default-behind-clause-ok c =
    let k = c.in-Some.ensures in
    parted_before (reads_number c.args.text.now) (codes " ") (tail (plain_signature c.args.tables.now c.args.signature.now)) k.0 c.in-Some.step.rest.now k.1 k.2.1 c.in_default-behind.ensures.none

pub returns-in_default-2-clause-ok : goal.returns-in_default-2-clause-ok
returns-in_default-2-clause-ok c =
    let s = plain_signature c.args.tables.now c.args.signature.now in
    let k = c.in-Some.ensures in
    let y = c.in-Some-behind.rest.now in
    parted_at (reads_number c.args.text.now) (codes " ") (tail s) k.0 c.in-Some.step.rest.now y k.1 k.2.1 c.in-Some-behind.ensures.some
    ∙ bind_none (reads_type_pairs s y) _ (gave_none (AreTypePairs c.read_type_pairs.new.tables) c.in_ok-pairs.field-0 _ c.in_ok-pairs.ensures.ok c.in_default-2.is)

pub returns-clause-ok : goal.returns-clause-ok
returns-clause-ok c =
    let s = plain_signature c.args.tables.now c.args.signature.now in
    let k = c.in-Some.ensures in
    let y = c.in-Some-behind.rest.now in
    let l = gave_some (AreTypePairs c.read_type_pairs.new.tables) c.in_ok-pairs.field-0 _ c.in-Some-2.pairs c.in_ok-pairs.ensures.ok c.in-Some-2.is in (
      step_inst_type k.0.0 l.0,
      parted_at (reads_number c.args.text.now) (codes " ") (tail s) k.0 c.in-Some.step.rest.now y k.1 k.2.1 c.in-Some-behind.ensures.some ∙ bind_on (reads_type_pairs s y) _ l.0 l.1,
      (l.2.0, (k.0.0, k.2.0, ap (step_inst_type k.0.0) l.2.1)),
    )
