use Rattle.std.proofs.Common.{◌≡◌, ℕ, refl, sym, ◌∙◌, subst, Some}
use Rattle.std.specs.Prelude.{codes, slice_get, IfOk}
use Rattle.hol_terms.specs.Signature.{Signature}
use Rattle.hol_terms.specs.Text.{Text}
use Rattle.hol_logs.specs.Line.{LogLine, line_step, line_base, line_end}
use Rattle.strict_reading.specs.Steps.{◌>>=◌}
use Rattle.strict_reading.specs.Words.{behind}
use Rattle.strict_lines.specs.Lines.{number_line, Form, reads_step, first_line, const_line, type_line, section_line, name_line, stop_line, line_forms, reads_line}
use Rattle.flat_signatures.specs.FlatNames.{plain_signature}
use Rattle.flat_lines.specs.Reads.{Reads}
use Rattle.flat_lines.specs.Lines.{IsFlatStep, IsFlatLine}
use Rattle.flat_lines.proofs.Readings.{bind_none, bind_on, gave_none, gave_some}
use Rattle.flat_lines.proofs.Forms.{LacksFirst, LacksAll, form_at, no_form}
use Rattle.flat_lines.proofs.lines.read_line.Goals as goal

-- the text has the form of that number
at : (n : ℕ) (s : Signature) (f : Form LogLine) (x y : Text) → slice_get (line_forms s) n ≡ Some f → LacksFirst n (line_forms s) x → behind f.0 x ≡ Some y → reads_line s x ≡ f.1 y
unfolding reads_line
at n s f x y e h b = form_at (line_forms s) n f _ x y e h b

none : (s : Signature) (x : Text) → LacksAll (line_forms s) x → reads_line s x ≡ (reads_step s x >>= (λ l. Some (line_step l)))
unfolding reads_line
none s x h = no_form (line_forms s) _ x h

pub returns-in-Some-clause-ok : goal.returns-in-Some-clause-ok
returns-in-Some-clause-ok c =
    let s = plain_signature c.args.tables.now c.args.signature.now in
    let y = c.in-Some.rest.now in
    let form = at 0 s (codes "hbnf-log 1", first_line) c.args.text.now y refl tt c.in-Some.ensures.some in
    subst (λ p. Reads (IsFlatLine c.args.tables.now) c.read_first.result p) (sym form) (c.read_first.ensures c.args.tables.now)

pub returns-in-Some-behind-clause-ok : goal.returns-in-Some-behind-clause-ok
returns-in-Some-behind-clause-ok c =
    let s = plain_signature c.args.tables.now c.args.signature.now in
    let y = c.in-Some-behind.rest.now in
    let form = at 1 s (codes "const ", const_line s) c.args.text.now y refl (c.in_default.ensures.none, tt) c.in-Some-behind.ensures.some in
    subst (λ p. IfOk c.read_const.result (λ r. Reads (IsFlatLine c.read_const.new.tables) r p)) (sym form) c.read_const.ensures.ok

pub returns-in-Some-behind-2-clause-ok : goal.returns-in-Some-behind-2-clause-ok
returns-in-Some-behind-2-clause-ok c =
    let s = plain_signature c.args.tables.now c.args.signature.now in
    let y = c.in-Some-behind-2.rest.now in
    let form = at 2 s (codes "type ", type_line) c.args.text.now y refl (c.in_default.ensures.none, (c.in_default-behind.ensures.none, tt)) c.in-Some-behind-2.ensures.some in
    subst (λ p. IfOk c.read_type_line.result (λ r. Reads (IsFlatLine c.read_type_line.new.tables) r p)) (sym form) c.read_type_line.ensures.ok

pub returns-in-Some-behind-3-clause-ok : goal.returns-in-Some-behind-3-clause-ok
returns-in-Some-behind-3-clause-ok c =
    let s = plain_signature c.args.tables.now c.args.signature.now in
    let y = c.in-Some-behind-3.rest.now in
    let form = at 3 s (codes "base ", number_line line_base) c.args.text.now y refl (c.in_default.ensures.none, (c.in_default-behind.ensures.none, (c.in_default-behind-2.ensures.none, tt))) c.in-Some-behind-3.ensures.some in
    subst (λ p. Reads (IsFlatLine c.args.tables.now) c.read_base.result p) (sym form) (c.read_base.ensures c.args.tables.now)

pub returns-in-Some-behind-4-clause-ok : goal.returns-in-Some-behind-4-clause-ok
returns-in-Some-behind-4-clause-ok c =
    let s = plain_signature c.args.tables.now c.args.signature.now in
    let y = c.in-Some-behind-4.rest.now in
    let form = at 4 s (codes "section ", section_line) c.args.text.now y refl (c.in_default.ensures.none, (c.in_default-behind.ensures.none, (c.in_default-behind-2.ensures.none, (c.in_default-behind-3.ensures.none, tt)))) c.in-Some-behind-4.ensures.some in
    subst (λ p. Reads (IsFlatLine c.args.tables.now) c.read_section.result p) (sym form) (c.read_section.ensures c.args.tables.now)

pub returns-in-Some-behind-5-clause-ok : goal.returns-in-Some-behind-5-clause-ok
returns-in-Some-behind-5-clause-ok c =
    let s = plain_signature c.args.tables.now c.args.signature.now in
    let y = c.in-Some-behind-5.rest.now in
    let form = at 5 s (codes "name ", name_line s) c.args.text.now y refl (c.in_default.ensures.none, (c.in_default-behind.ensures.none, (c.in_default-behind-2.ensures.none, (c.in_default-behind-3.ensures.none, (c.in_default-behind-4.ensures.none, tt))))) c.in-Some-behind-5.ensures.some in
    subst (λ p. IfOk c.read_name_line.result (λ r. Reads (IsFlatLine c.read_name_line.new.tables) r p)) (sym form) c.read_name_line.ensures.ok

pub returns-in-Some-behind-6-clause-ok : goal.returns-in-Some-behind-6-clause-ok
returns-in-Some-behind-6-clause-ok c =
    let s = plain_signature c.args.tables.now c.args.signature.now in
    let y = c.in-Some-behind-6.rest.now in
    let form = at 6 s (codes "end ", number_line line_end) c.args.text.now y refl (c.in_default.ensures.none, (c.in_default-behind.ensures.none, (c.in_default-behind-2.ensures.none, (c.in_default-behind-3.ensures.none, (c.in_default-behind-4.ensures.none, (c.in_default-behind-5.ensures.none, tt)))))) c.in-Some-behind-6.ensures.some in
    subst (λ p. Reads (IsFlatLine c.args.tables.now) c.read_end.result p) (sym form) (c.read_end.ensures c.args.tables.now)

pub returns-in-Some-behind-7-clause-ok : goal.returns-in-Some-behind-7-clause-ok
returns-in-Some-behind-7-clause-ok c =
    let s = plain_signature c.args.tables.now c.args.signature.now in
    let y = c.in-Some-behind-7.rest.now in
    let form = at 7 s (codes "stop ", stop_line) c.args.text.now y refl (c.in_default.ensures.none, (c.in_default-behind.ensures.none, (c.in_default-behind-2.ensures.none, (c.in_default-behind-3.ensures.none, (c.in_default-behind-4.ensures.none, (c.in_default-behind-5.ensures.none, (c.in_default-behind-6.ensures.none, tt))))))) c.in-Some-behind-7.ensures.some in
    subst (λ p. Reads (IsFlatLine c.args.tables.now) c.read_stop.result p) (sym form) (c.read_stop.ensures c.args.tables.now)

pub returns-in_default-2-clause-ok : goal.returns-in_default-2-clause-ok
returns-in_default-2-clause-ok c =
    let s = plain_signature c.args.tables.now c.args.signature.now in
    let x = c.args.text.now in
    none s x (c.in_default.ensures.none, (c.in_default-behind.ensures.none, (c.in_default-behind-2.ensures.none, (c.in_default-behind-3.ensures.none, (c.in_default-behind-4.ensures.none, (c.in_default-behind-5.ensures.none, (c.in_default-behind-6.ensures.none, (c.in_default-behind-7.ensures.none, tt)))))))) ∙ bind_none (reads_step s x) _ (gave_none (IsFlatStep c.read_step.new.tables) c.in_ok-step.field-0 _ c.in_ok-step.ensures.ok c.in_default-2.is)

pub returns-clause-ok : goal.returns-clause-ok
returns-clause-ok c =
    let s = plain_signature c.args.tables.now c.args.signature.now in
    let x = c.args.text.now in
    let l = gave_some (IsFlatStep c.read_step.new.tables) c.in_ok-step.field-0 _ c.in-Some-2.step c.in_ok-step.ensures.ok c.in-Some-2.is in
    (line_step l.0, none s x (c.in_default.ensures.none, (c.in_default-behind.ensures.none, (c.in_default-behind-2.ensures.none, (c.in_default-behind-3.ensures.none, (c.in_default-behind-4.ensures.none, (c.in_default-behind-5.ensures.none, (c.in_default-behind-6.ensures.none, (c.in_default-behind-7.ensures.none, tt)))))))) ∙ bind_on (reads_step s x) _ l.0 l.1, (l.0, l.2, refl))
