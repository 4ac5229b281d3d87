use Rattle.std.proofs.Common.{sym, ap, ◌∙◌, Option}
use Rattle.std.specs.Prelude.{codes}
use Rattle.hol_terms.specs.Name.{Name}
use Rattle.hol_terms.specs.Text.{Text}
use Rattle.hol_logs.specs.Line.{LogLine, line_type}
use Rattle.strict_lines.specs.Operands.{reads_number, reads_name}
use Rattle.strict_lines.specs.Lines.{number_line}
use Rattle.flat_lines.specs.Operands.{IsNameRead}
use Rattle.flat_lines.proofs.Readings.{parted_none, parted_before, parted_at, ended_made, bind_none, bind_on, gave_none, gave_some}
use Rattle.flat_lines.proofs.lines.read_type_line.Goals as goal

abbrev last : Name → Text → Option LogLine
last c y = number_line (line_type c) y

pub returns-in_default-clause-ok : goal.returns-in_default-clause-ok
returns-in_default-clause-ok c = parted_none _ _ _ (gave_none (IsNameRead c.read_name.new.tables) c.in_ok-read.field-0 _ c.in_ok-read.ensures.ok c.in_default.is)

pub returns-in_default-behind-clause-ok : goal.returns-in_default-behind-clause-ok
returns-in_default-behind-clause-ok c =
    let k = gave_some (IsNameRead c.read_name.new.tables) c.in_ok-read.field-0 _ c.in-Some.read c.in_ok-read.ensures.ok c.in-Some.is in
    parted_before (reads_name c.args.text.now) (codes " ") last k.0 c.in-Some.read.rest.now k.1 (sym (ap (λ p. p.1) k.2.1)) c.in_default-behind.ensures.none

pub returns-in_default-read_last_number-clause-ok : goal.returns-in_default-read_last_number-clause-ok
returns-in_default-read_last_number-clause-ok c =
    let k = gave_some (IsNameRead c.read_name.new.tables) c.in_ok-read.field-0 _ c.in-Some.read c.in_ok-read.ensures.ok c.in-Some.is in
    let y = c.in-Some-behind.rest.now in
    parted_at (reads_name c.args.text.now) (codes " ") last k.0 c.in-Some.read.rest.now y k.1 (sym (ap (λ p. p.1) k.2.1)) c.in-Some-behind.ensures.some
    ∙ ended_made (reads_number y) (line_type k.0.0) ∙ bind_none _ _ c.in_default-read_last_number.ensures

pub returns-clause-ok : goal.returns-clause-ok
returns-clause-ok c =
    let t = c.read_name.new.tables in
    let n = c.in-Some.read in
    let k = gave_some (IsNameRead t) c.in_ok-read.field-0 _ n c.in_ok-read.ensures.ok c.in-Some.is in
    let y = c.in-Some-behind.rest.now in
    let l = c.in-Some-read_last_number.ensures in (
      line_type k.0.0 l.0,
      parted_at (reads_name c.args.text.now) (codes " ") last k.0 n.rest.now y k.1 (sym (ap (λ p. p.1) k.2.1)) c.in-Some-behind.ensures.some ∙ ended_made (reads_number y) (line_type k.0.0) ∙ bind_on _ _ l.0 l.1,
      (k.2.0, (l.0, l.2, ap (λ p. line_type p.0 l.0) k.2.1)),
    )
