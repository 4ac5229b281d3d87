use Rattle.std.proofs.Common.{ℕ, sym, ap, ◌∙◌, Option, []}
use Rattle.std.specs.Prelude.{codes}
use Rattle.hol_terms.specs.Name.{Name}
use Rattle.hol_terms.specs.Signature.{Signature}
use Rattle.hol_terms.specs.Text.{Text}
use Rattle.hol_logs.specs.Line.{LogLine, line_name}
use Rattle.strict_reading.specs.Terms.{reads_term}
use Rattle.strict_lines.specs.Operands.{reads_number, reads_name, parted}
use Rattle.strict_lines.specs.Lines.{term_line}
use Rattle.flat_instances.proofs.TablesGrow.{tables_grow_further}
use Rattle.flat_signatures.specs.FlatNames.{plain_signature}
use Rattle.flat_signatures.proofs.Signatures.{signature_there, signature_same}
use Rattle.flat_lines.specs.Operands.{IsNameRead, IsTerm}
use Rattle.flat_lines.proofs.Readings.{parted_none, parted_before, parted_at, ended_made, bind_none, bind_on, gave_none, gave_some}
use Rattle.flat_lines.proofs.lines.read_name_line.Goals as goal

abbrev last : Signature → Name → ℕ → Text → Option LogLine
last s c i z = term_line s (line_name c i) z

abbrev tail : Signature → Name → Text → Option LogLine
tail s c y = parted (reads_number y) (codes " ") (last s c)

pub returns-in_default-clause-ok : goal.returns-in_default-clause-ok
returns-in_default-clause-ok c = parted_none _ _ _ (gave_none (IsNameRead c.read_name.new.tables) c.in_ok-read.field-0 _ c.in_ok-read.ensures.ok c.in_default.is)

pub returns-in_default-behind-clause-ok : goal.returns-in_default-behind-clause-ok
returns-in_default-behind-clause-ok c =
    let k = gave_some (IsNameRead c.read_name.new.tables) c.in_ok-read.field-0 _ c.in-Some.read c.in_ok-read.ensures.ok c.in-Some.is in
    parted_before (reads_name c.args.text.now) (codes " ") (tail (plain_signature c.args.tables.now c.args.signature.now)) k.0 c.in-Some.read.rest.now k.1 (sym (ap (λ p. p.1) k.2.1)) c.in_default-behind.ensures.none

pub returns-in_default-read_number-clause-ok : goal.returns-in_default-read_number-clause-ok
returns-in_default-read_number-clause-ok c =
    let s = plain_signature c.args.tables.now c.args.signature.now in
    let y = c.in-Some-behind.rest.now in
    let k = gave_some (IsNameRead c.read_name.new.tables) c.in_ok-read.field-0 _ c.in-Some.read c.in_ok-read.ensures.ok c.in-Some.is in
    parted_at (reads_name c.args.text.now) (codes " ") (tail s) k.0 c.in-Some.read.rest.now y k.1 (sym (ap (λ p. p.1) k.2.1)) c.in-Some-behind.ensures.some
    ∙ parted_none (reads_number y) (codes " ") (last s k.0.0) c.in_default-read_number.ensures

pub returns-in_default-behind-2-clause-ok : goal.returns-in_default-behind-2-clause-ok
returns-in_default-behind-2-clause-ok c =
    let s = plain_signature c.args.tables.now c.args.signature.now in
    let y = c.in-Some-behind.rest.now in
    let n = c.in-Some-read_number.ensures in
    let k = gave_some (IsNameRead c.read_name.new.tables) c.in_ok-read.field-0 _ c.in-Some.read c.in_ok-read.ensures.ok c.in-Some.is in
    parted_at (reads_name c.args.text.now) (codes " ") (tail s) k.0 c.in-Some.read.rest.now y k.1 (sym (ap (λ p. p.1) k.2.1)) c.in-Some-behind.ensures.some
    ∙ parted_before (reads_number y) (codes " ") (last s k.0.0) n.0 c.in-Some-read_number.step.rest.now n.1 n.2.1 c.in_default-behind-2.ensures.none

pub read_last_term-requires : goal.read_last_term-requires
read_last_term-requires c = signature_there c.args.tables.now c.read_name.new.tables c.args.signature.now c.in_ok-read.ensures.grows c.requires

pub returns-in_err-term-clause-grows : goal.returns-in_err-term-clause-grows
returns-in_err-term-clause-grows c = tables_grow_further c.args.tables.now c.read_name.new.tables c.read_last_term.new.tables c.in_ok-read.ensures.grows c.in_err-term.ensures.grows

pub returns-in_default-2-clause-grows : goal.returns-in_default-2-clause-grows
returns-in_default-2-clause-grows c = tables_grow_further c.args.tables.now c.read_name.new.tables c.read_last_term.new.tables c.in_ok-read.ensures.grows c.in_ok-term.ensures.grows

pub returns-in_default-2-clause-ok : goal.returns-in_default-2-clause-ok
returns-in_default-2-clause-ok c =
    let s = plain_signature c.args.tables.now c.args.signature.now in
    let t = c.read_name.new.tables in
    let y = c.in-Some-behind.rest.now in
    let z = c.in-Some-behind-2.rest.now in
    let n = c.in-Some-read_number.ensures in
    let k = gave_some (IsNameRead t) c.in_ok-read.field-0 _ c.in-Some.read c.in_ok-read.ensures.ok c.in-Some.is in
    let same = signature_same c.args.tables.now t c.args.signature.now c.in_ok-read.ensures.grows c.requires in
    parted_at (reads_name c.args.text.now) (codes " ") (tail s) k.0 c.in-Some.read.rest.now y k.1 (sym (ap (λ p. p.1) k.2.1)) c.in-Some-behind.ensures.some
    ∙ parted_at (reads_number y) (codes " ") (last s k.0.0) n.0 c.in-Some-read_number.step.rest.now z n.1 n.2.1 c.in-Some-behind-2.ensures.some
    ∙ ended_made (reads_term s [] z) (line_name k.0.0 n.0.0)
    ∙ bind_none (term_line s (λ x. x) z) _ (ap (λ r. term_line r (λ x. x) z) (sym same) ∙ gave_none (IsTerm c.read_last_term.new.tables) c.in_ok-term.field-0 _ c.in_ok-term.ensures.ok c.in_default-2.is)

pub returns-clause-grows : goal.returns-clause-grows
returns-clause-grows c = tables_grow_further c.args.tables.now c.read_name.new.tables c.read_last_term.new.tables c.in_ok-read.ensures.grows c.in_ok-term.ensures.grows

pub returns-clause-ok : goal.returns-clause-ok
returns-clause-ok c =
    let s = plain_signature c.args.tables.now c.args.signature.now in
    let t = c.read_name.new.tables in
    let u = c.read_last_term.new.tables in
    let y = c.in-Some-behind.rest.now in
    let z = c.in-Some-behind-2.rest.now in
    let v = c.in-Some.read in
    let n = c.in-Some-read_number.ensures in
    let g = c.in_ok-term.ensures.grows in
    let k = gave_some (IsNameRead t) c.in_ok-read.field-0 _ v c.in_ok-read.ensures.ok c.in-Some.is in
    let l = gave_some (IsTerm u) c.in_ok-term.field-0 _ c.in-Some-2.term c.in_ok-term.ensures.ok c.in-Some-2.is in
    let same = signature_same c.args.tables.now t c.args.signature.now c.in_ok-read.ensures.grows c.requires in (
      line_name k.0.0 n.0.0 l.0,
      parted_at (reads_name c.args.text.now) (codes " ") (tail s) k.0 v.rest.now y k.1 (sym (ap (λ p. p.1) k.2.1)) c.in-Some-behind.ensures.some
          ∙ parted_at (reads_number y) (codes " ") (last s k.0.0) n.0 c.in-Some-read_number.step.rest.now z n.1 n.2.1 c.in-Some-behind-2.ensures.some
          ∙ ended_made (reads_term s [] z) (line_name k.0.0 n.0.0) ∙ bind_on (term_line s (λ x. x) z) _ l.0 (ap (λ r. term_line r (λ x. x) z) (sym same) ∙ l.1),
      (g.has_name v.name k.2.0, l.2.0, (n.0.0, n.2.0, λ i. line_name ((ap (λ p. p.0) k.2.1 ∙ sym (g.same_name v.name k.2.0)) i) n.0.0 (l.2.1 i))),
    )
