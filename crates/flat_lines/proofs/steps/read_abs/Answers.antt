use Rattle.std.proofs.Common.{refl, ◌∙◌, Option}
use Rattle.std.specs.Prelude.{codes}
use Rattle.hol_terms.specs.Tm.{FreeVar}
use Rattle.hol_terms.specs.Text.{Text}
use Rattle.hol_logs.specs.Step.{LogStep, step_abs}
use Rattle.strict_reading.specs.Terms.{reads_free}
use Rattle.strict_lines.specs.Operands.{reads_number}
use Rattle.strict_lines.specs.Lines.{number_line}
use Rattle.flat_terms.specs.Plain.{term_of}
use Rattle.flat_walks.specs.Walk.{var_of}
use Rattle.flat_signatures.specs.FlatNames.{plain_signature}
use Rattle.flat_lines.proofs.Readings.{parted_none, parted_before, parted_at, ended_made, bind_none, bind_on}
use Rattle.flat_lines.proofs.LowerReads.{no_free, a_free}
use Rattle.flat_lines.proofs.steps.read_abs.Goals as goal

abbrev last : FreeVar → Text → Option LogStep
last v y = number_line (step_abs v) y

pub returns-in_default-clause-ok : goal.returns-in_default-clause-ok
returns-in_default-clause-ok c = parted_none _ _ _ (no_free c.read_free.new.tables c.in_ok-variable.field-0 _ c.in_ok-variable.ensures.ok c.in_default.is)

pub returns-in_default-behind-clause-ok : goal.returns-in_default-behind-clause-ok
returns-in_default-behind-clause-ok c =
    let s = plain_signature c.args.tables.now c.args.signature.now in
    let v = c.in-Some.variable in
    let t = c.read_free.new.tables in
    let k = a_free t c.in_ok-variable.field-0 _ v c.in_ok-variable.ensures.ok c.in-Some.is in
    parted_before (reads_free s c.args.text.now) (codes " ") last (var_of (term_of t v.term), v.rest.now) v.rest.now k.1 refl c.in_default-behind.ensures.none

pub returns-in_default-read_last_number-clause-ok : goal.returns-in_default-read_last_number-clause-ok
returns-in_default-read_last_number-clause-ok c =
    let s = plain_signature c.args.tables.now c.args.signature.now in
    let v = c.in-Some.variable in
    let t = c.read_free.new.tables in
    let w = var_of (term_of t v.term) in
    let y = c.in-Some-behind.rest.now in
    let k = a_free t c.in_ok-variable.field-0 _ v c.in_ok-variable.ensures.ok c.in-Some.is in
    parted_at (reads_free s c.args.text.now) (codes " ") last (w, v.rest.now) v.rest.now y k.1 refl c.in-Some-behind.ensures.some ∙ ended_made (reads_number y) (step_abs w) ∙ bind_none _ _ c.in_default-read_last_number.ensures

pub returns-clause-ok : goal.returns-clause-ok
returns-clause-ok c =
    let s = plain_signature c.args.tables.now c.args.signature.now in
    let v = c.in-Some.variable in
    let t = c.read_free.new.tables in
    let w = var_of (term_of t v.term) in
    let y = c.in-Some-behind.rest.now in
    let l = c.in-Some-read_last_number.ensures in
    let k = a_free t c.in_ok-variable.field-0 _ v c.in_ok-variable.ensures.ok c.in-Some.is in (
      step_abs w l.0,
      parted_at (reads_free s c.args.text.now) (codes " ") last (w, v.rest.now) v.rest.now y k.1 refl c.in-Some-behind.ensures.some ∙ ended_made (reads_number y) (step_abs w) ∙ bind_on _ _ l.0 l.1,
      (k.0, (l.0, l.2, refl)),
    )
