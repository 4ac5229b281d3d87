use Rattle.std.proofs.Common.{◌≡◌, refl, sym, ap, ◌∙◌, subst, Some, None, []}
use Rattle.std.specs.Prelude.{ℕ, codes, slice_get, IfOk}
use Rattle.hol_terms.specs.Signature.{Signature}
use Rattle.hol_terms.specs.Text.{Text}
use Rattle.hol_logs.specs.Step.{LogStep, step_refl, step_trans, step_comb, step_beta, step_assume, step_mp, step_deduct, step_axiom}
use Rattle.strict_reading.specs.Words.{behind}
use Rattle.strict_reading.specs.Terms.{reads_term}
use Rattle.strict_lines.specs.Operands.{reads_number}
use Rattle.strict_lines.specs.Lines.{number_line, numbers_line, term_line, Form, abs_step, inst_type_step, inst_step, step_forms, reads_step}
use Rattle.flat_signatures.specs.FlatNames.{plain_signature}
use Rattle.flat_lines.specs.Reads.{Reads}
use Rattle.flat_lines.specs.Operands.{IsTerm}
use Rattle.flat_lines.specs.Lines.{IsFlatStep}
use Rattle.flat_lines.proofs.Readings.{ended_made, bind_none, bind_on, gave_none, gave_some}
use Rattle.flat_lines.proofs.Forms.{LacksFirst, LacksAll, form_at, no_form, pair, numbers_made}
use Rattle.flat_lines.proofs.steps.read_step.Goals as goal

-- the text has the form of that number
at : (n : ℕ) (s : Signature) (f : Form LogStep) (x y : Text) → slice_get (step_forms s) n ≡ Some f → LacksFirst n (step_forms s) x → behind f.0 x ≡ Some y → reads_step s x ≡ f.1 y
unfolding reads_step
at n s f x y e h b = form_at (step_forms s) n f None x y e h b

none : (s : Signature) (x : Text) → LacksAll (step_forms s) x → reads_step s x ≡ None
unfolding reads_step
none s x h = no_form (step_forms s) None x h

pub returns-in_default-2-clause-ok : goal.returns-in_default-2-clause-ok
returns-in_default-2-clause-ok c =
    let s = plain_signature c.args.tables.now c.args.signature.now in
    let y = c.in-Some.rest.now in
    let form = at 0 s (codes "refl ", term_line s step_refl) c.args.text.now y refl tt c.in-Some.ensures.some in
    form ∙ ended_made (reads_term s [] y) step_refl ∙ bind_none (term_line s (λ x. x) y) _ (gave_none (IsTerm c.read_last_term.new.tables) c.in_ok-term.field-0 _ c.in_ok-term.ensures.ok c.in_default-2.is)

pub returns-in-Some-clause-ok : goal.returns-in-Some-clause-ok
returns-in-Some-clause-ok c =
    let s = plain_signature c.args.tables.now c.args.signature.now in
    let y = c.in-Some.rest.now in
    let form = at 0 s (codes "refl ", term_line s step_refl) c.args.text.now y refl tt c.in-Some.ensures.some in
    let l = gave_some (IsTerm c.read_last_term.new.tables) c.in_ok-term.field-0 _ c.in-Some-2.term c.in_ok-term.ensures.ok c.in-Some-2.is in
    (step_refl l.0, form ∙ ended_made (reads_term s [] y) step_refl ∙ bind_on (term_line s (λ x. x) y) _ l.0 l.1, (l.2.0, ap step_refl l.2.1))

pub returns-in_default-read_last_numbers-clause-ok : goal.returns-in_default-read_last_numbers-clause-ok
returns-in_default-read_last_numbers-clause-ok c =
    let s = plain_signature c.args.tables.now c.args.signature.now in
    let y = c.in-Some-behind.rest.now in
    let form = at 1 s (codes "trans ", numbers_line step_trans) c.args.text.now y refl (c.in_default.ensures.none, tt) c.in-Some-behind.ensures.some in
    form ∙ numbers_made step_trans y ∙ bind_none (numbers_line pair y) _ c.in_default-read_last_numbers.ensures

pub returns-in-Some-behind-clause-ok : goal.returns-in-Some-behind-clause-ok
returns-in-Some-behind-clause-ok c =
    let s = plain_signature c.args.tables.now c.args.signature.now in
    let y = c.in-Some-behind.rest.now in
    let form = at 1 s (codes "trans ", numbers_line step_trans) c.args.text.now y refl (c.in_default.ensures.none, tt) c.in-Some-behind.ensures.some in
    let l = c.in-Some-read_last_numbers.ensures in
    (step_trans l.0.0 l.0.1, form ∙ numbers_made step_trans y ∙ bind_on (numbers_line pair y) _ l.0 l.1, (l.0.0, l.0.1, l.2.0, l.2.1, refl))

pub returns-in_default-read_last_numbers-2-clause-ok : goal.returns-in_default-read_last_numbers-2-clause-ok
returns-in_default-read_last_numbers-2-clause-ok c =
    let s = plain_signature c.args.tables.now c.args.signature.now in
    let y = c.in-Some-behind-2.rest.now in
    let form = at 2 s (codes "comb ", numbers_line step_comb) c.args.text.now y refl (c.in_default.ensures.none, (c.in_default-behind.ensures.none, tt)) c.in-Some-behind-2.ensures.some in
    form ∙ numbers_made step_comb y ∙ bind_none (numbers_line pair y) _ c.in_default-read_last_numbers-2.ensures

pub returns-in-Some-behind-2-clause-ok : goal.returns-in-Some-behind-2-clause-ok
returns-in-Some-behind-2-clause-ok c =
    let s = plain_signature c.args.tables.now c.args.signature.now in
    let y = c.in-Some-behind-2.rest.now in
    let form = at 2 s (codes "comb ", numbers_line step_comb) c.args.text.now y refl (c.in_default.ensures.none, (c.in_default-behind.ensures.none, tt)) c.in-Some-behind-2.ensures.some in
    let l = c.in-Some-read_last_numbers-2.ensures in
    (step_comb l.0.0 l.0.1, form ∙ numbers_made step_comb y ∙ bind_on (numbers_line pair y) _ l.0 l.1, (l.0.0, l.0.1, l.2.0, l.2.1, refl))

pub returns-in-Some-behind-3-clause-ok : goal.returns-in-Some-behind-3-clause-ok
returns-in-Some-behind-3-clause-ok c =
    let s = plain_signature c.args.tables.now c.args.signature.now in
    let y = c.in-Some-behind-3.rest.now in
    let form = at 3 s (codes "abs ", abs_step s) c.args.text.now y refl (c.in_default.ensures.none, (c.in_default-behind.ensures.none, (c.in_default-behind-2.ensures.none, tt))) c.in-Some-behind-3.ensures.some in
    subst (λ p. IfOk c.read_abs.result (λ r. Reads (IsFlatStep c.read_abs.new.tables) r p)) (sym form) c.read_abs.ensures.ok

pub returns-in_default-3-clause-ok : goal.returns-in_default-3-clause-ok
returns-in_default-3-clause-ok c =
    let s = plain_signature c.args.tables.now c.args.signature.now in
    let y = c.in-Some-behind-4.rest.now in
    let form = at 4 s (codes "beta ", term_line s step_beta) c.args.text.now y refl (c.in_default.ensures.none, (c.in_default-behind.ensures.none, (c.in_default-behind-2.ensures.none, (c.in_default-behind-3.ensures.none, tt)))) c.in-Some-behind-4.ensures.some in
    form ∙ ended_made (reads_term s [] y) step_beta ∙ bind_none (term_line s (λ x. x) y) _ (gave_none (IsTerm c.read_last_term-in-Some-behind-4.new.tables) c.in_ok-term-2.field-0 _ c.in_ok-term-2.ensures.ok c.in_default-3.is)

pub returns-in-Some-behind-4-clause-ok : goal.returns-in-Some-behind-4-clause-ok
returns-in-Some-behind-4-clause-ok c =
    let s = plain_signature c.args.tables.now c.args.signature.now in
    let y = c.in-Some-behind-4.rest.now in
    let form = at 4 s (codes "beta ", term_line s step_beta) c.args.text.now y refl (c.in_default.ensures.none, (c.in_default-behind.ensures.none, (c.in_default-behind-2.ensures.none, (c.in_default-behind-3.ensures.none, tt)))) c.in-Some-behind-4.ensures.some in
    let l = gave_some (IsTerm c.read_last_term-in-Some-behind-4.new.tables) c.in_ok-term-2.field-0 _ c.in-Some-3.term c.in_ok-term-2.ensures.ok c.in-Some-3.is in
    (step_beta l.0, form ∙ ended_made (reads_term s [] y) step_beta ∙ bind_on (term_line s (λ x. x) y) _ l.0 l.1, (l.2.0, ap step_beta l.2.1))

pub returns-in_default-4-clause-ok : goal.returns-in_default-4-clause-ok
returns-in_default-4-clause-ok c =
    let s = plain_signature c.args.tables.now c.args.signature.now in
    let y = c.in-Some-behind-5.rest.now in
    let form = at 5 s (codes "assume ", term_line s step_assume) c.args.text.now y refl (c.in_default.ensures.none, (c.in_default-behind.ensures.none, (c.in_default-behind-2.ensures.none, (c.in_default-behind-3.ensures.none, (c.in_default-behind-4.ensures.none, tt))))) c.in-Some-behind-5.ensures.some in
    form ∙ ended_made (reads_term s [] y) step_assume ∙ bind_none (term_line s (λ x. x) y) _ (gave_none (IsTerm c.read_last_term-in-Some-behind-5.new.tables) c.in_ok-term-3.field-0 _ c.in_ok-term-3.ensures.ok c.in_default-4.is)

pub returns-in-Some-behind-5-clause-ok : goal.returns-in-Some-behind-5-clause-ok
returns-in-Some-behind-5-clause-ok c =
    let s = plain_signature c.args.tables.now c.args.signature.now in
    let y = c.in-Some-behind-5.rest.now in
    let form = at 5 s (codes "assume ", term_line s step_assume) c.args.text.now y refl (c.in_default.ensures.none, (c.in_default-behind.ensures.none, (c.in_default-behind-2.ensures.none, (c.in_default-behind-3.ensures.none, (c.in_default-behind-4.ensures.none, tt))))) c.in-Some-behind-5.ensures.some in
    let l = gave_some (IsTerm c.read_last_term-in-Some-behind-5.new.tables) c.in_ok-term-3.field-0 _ c.in-Some-4.term c.in_ok-term-3.ensures.ok c.in-Some-4.is in
    (step_assume l.0, form ∙ ended_made (reads_term s [] y) step_assume ∙ bind_on (term_line s (λ x. x) y) _ l.0 l.1, (l.2.0, ap step_assume l.2.1))

pub returns-in_default-read_last_numbers-3-clause-ok : goal.returns-in_default-read_last_numbers-3-clause-ok
returns-in_default-read_last_numbers-3-clause-ok c =
    let s = plain_signature c.args.tables.now c.args.signature.now in
    let y = c.in-Some-behind-6.rest.now in
    let form = at 6 s (codes "mp ", numbers_line step_mp) c.args.text.now y refl (c.in_default.ensures.none, (c.in_default-behind.ensures.none, (c.in_default-behind-2.ensures.none, (c.in_default-behind-3.ensures.none, (c.in_default-behind-4.ensures.none, (c.in_default-behind-5.ensures.none, tt)))))) c.in-Some-behind-6.ensures.some in
    form ∙ numbers_made step_mp y ∙ bind_none (numbers_line pair y) _ c.in_default-read_last_numbers-3.ensures

pub returns-in-Some-behind-6-clause-ok : goal.returns-in-Some-behind-6-clause-ok
returns-in-Some-behind-6-clause-ok c =
    let s = plain_signature c.args.tables.now c.args.signature.now in
    let y = c.in-Some-behind-6.rest.now in
    let form = at 6 s (codes "mp ", numbers_line step_mp) c.args.text.now y refl (c.in_default.ensures.none, (c.in_default-behind.ensures.none, (c.in_default-behind-2.ensures.none, (c.in_default-behind-3.ensures.none, (c.in_default-behind-4.ensures.none, (c.in_default-behind-5.ensures.none, tt)))))) c.in-Some-behind-6.ensures.some in
    let l = c.in-Some-read_last_numbers-3.ensures in
    (step_mp l.0.0 l.0.1, form ∙ numbers_made step_mp y ∙ bind_on (numbers_line pair y) _ l.0 l.1, (l.0.0, l.0.1, l.2.0, l.2.1, refl))

pub returns-in_default-read_last_numbers-4-clause-ok : goal.returns-in_default-read_last_numbers-4-clause-ok
returns-in_default-read_last_numbers-4-clause-ok c =
    let s = plain_signature c.args.tables.now c.args.signature.now in
    let y = c.in-Some-behind-7.rest.now in
    let form = at 7 s (codes "deduct ", numbers_line step_deduct) c.args.text.now y refl (c.in_default.ensures.none, (c.in_default-behind.ensures.none, (c.in_default-behind-2.ensures.none, (c.in_default-behind-3.ensures.none, (c.in_default-behind-4.ensures.none, (c.in_default-behind-5.ensures.none, (c.in_default-behind-6.ensures.none, tt))))))) c.in-Some-behind-7.ensures.some in
    form ∙ numbers_made step_deduct y ∙ bind_none (numbers_line pair y) _ c.in_default-read_last_numbers-4.ensures

pub returns-in-Some-behind-7-clause-ok : goal.returns-in-Some-behind-7-clause-ok
returns-in-Some-behind-7-clause-ok c =
    let s = plain_signature c.args.tables.now c.args.signature.now in
    let y = c.in-Some-behind-7.rest.now in
    let form = at 7 s (codes "deduct ", numbers_line step_deduct) c.args.text.now y refl (c.in_default.ensures.none, (c.in_default-behind.ensures.none, (c.in_default-behind-2.ensures.none, (c.in_default-behind-3.ensures.none, (c.in_default-behind-4.ensures.none, (c.in_default-behind-5.ensures.none, (c.in_default-behind-6.ensures.none, tt))))))) c.in-Some-behind-7.ensures.some in
    let l = c.in-Some-read_last_numbers-4.ensures in
    (step_deduct l.0.0 l.0.1, form ∙ numbers_made step_deduct y ∙ bind_on (numbers_line pair y) _ l.0 l.1, (l.0.0, l.0.1, l.2.0, l.2.1, refl))

pub returns-in-Some-behind-8-clause-ok : goal.returns-in-Some-behind-8-clause-ok
returns-in-Some-behind-8-clause-ok c =
    let s = plain_signature c.args.tables.now c.args.signature.now in
    let y = c.in-Some-behind-8.rest.now in
    let form = at 8 s (codes "insttype ", inst_type_step s) c.args.text.now y refl (c.in_default.ensures.none, (c.in_default-behind.ensures.none, (c.in_default-behind-2.ensures.none, (c.in_default-behind-3.ensures.none, (c.in_default-behind-4.ensures.none, (c.in_default-behind-5.ensures.none, (c.in_default-behind-6.ensures.none, (c.in_default-behind-7.ensures.none, tt)))))))) c.in-Some-behind-8.ensures.some in
    subst (λ p. IfOk c.read_inst_type.result (λ r. Reads (IsFlatStep c.read_inst_type.new.tables) r p)) (sym form) c.read_inst_type.ensures.ok

pub returns-in-Some-behind-9-clause-ok : goal.returns-in-Some-behind-9-clause-ok
returns-in-Some-behind-9-clause-ok c =
    let s = plain_signature c.args.tables.now c.args.signature.now in
    let y = c.in-Some-behind-9.rest.now in
    let form = at 9 s (codes "inst ", inst_step s) c.args.text.now y refl (c.in_default.ensures.none, (c.in_default-behind.ensures.none, (c.in_default-behind-2.ensures.none, (c.in_default-behind-3.ensures.none, (c.in_default-behind-4.ensures.none, (c.in_default-behind-5.ensures.none, (c.in_default-behind-6.ensures.none, (c.in_default-behind-7.ensures.none, (c.in_default-behind-8.ensures.none, tt))))))))) c.in-Some-behind-9.ensures.some in
    subst (λ p. IfOk c.read_inst.result (λ r. Reads (IsFlatStep c.read_inst.new.tables) r p)) (sym form) c.read_inst.ensures.ok

pub returns-in_default-read_last_number-clause-ok : goal.returns-in_default-read_last_number-clause-ok
returns-in_default-read_last_number-clause-ok c =
    let s = plain_signature c.args.tables.now c.args.signature.now in
    let y = c.in-Some-behind-10.rest.now in
    let form = at 10 s (codes "axiom ", number_line step_axiom) c.args.text.now y refl (c.in_default.ensures.none, (c.in_default-behind.ensures.none, (c.in_default-behind-2.ensures.none, (c.in_default-behind-3.ensures.none, (c.in_default-behind-4.ensures.none, (c.in_default-behind-5.ensures.none, (c.in_default-behind-6.ensures.none, (c.in_default-behind-7.ensures.none, (c.in_default-behind-8.ensures.none, (c.in_default-behind-9.ensures.none, tt)))))))))) c.in-Some-behind-10.ensures.some in
    form ∙ ended_made (reads_number y) step_axiom ∙ bind_none (number_line (λ n. n) y) _ c.in_default-read_last_number.ensures

pub returns-in-Some-behind-10-clause-ok : goal.returns-in-Some-behind-10-clause-ok
returns-in-Some-behind-10-clause-ok c =
    let s = plain_signature c.args.tables.now c.args.signature.now in
    let y = c.in-Some-behind-10.rest.now in
    let form = at 10 s (codes "axiom ", number_line step_axiom) c.args.text.now y refl (c.in_default.ensures.none, (c.in_default-behind.ensures.none, (c.in_default-behind-2.ensures.none, (c.in_default-behind-3.ensures.none, (c.in_default-behind-4.ensures.none, (c.in_default-behind-5.ensures.none, (c.in_default-behind-6.ensures.none, (c.in_default-behind-7.ensures.none, (c.in_default-behind-8.ensures.none, (c.in_default-behind-9.ensures.none, tt)))))))))) c.in-Some-behind-10.ensures.some in
    let l = c.in-Some-read_last_number.ensures in
    (step_axiom l.0, form ∙ ended_made (reads_number y) step_axiom ∙ bind_on (number_line (λ n. n) y) _ l.0 l.1, (l.0, l.2, refl))

pub returns-clause-ok : goal.returns-clause-ok
returns-clause-ok c = none (plain_signature c.args.tables.now c.args.signature.now) c.args.text.now (c.in_default.ensures.none, (c.in_default-behind.ensures.none, (c.in_default-behind-2.ensures.none, (c.in_default-behind-3.ensures.none, (c.in_default-behind-4.ensures.none, (c.in_default-behind-5.ensures.none, (c.in_default-behind-6.ensures.none, (c.in_default-behind-7.ensures.none, (c.in_default-behind-8.ensures.none, (c.in_default-behind-9.ensures.none, (c.in_default-behind-10.ensures.none, tt)))))))))))
