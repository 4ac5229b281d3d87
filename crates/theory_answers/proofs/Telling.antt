-- The theories that logs tell: their marks are fit, and their logs answer the text.
use Rattle.std.specs.declared.alloc.Global.{Global}
use Rattle.std.proofs.Common.{◌≡◌, ℕ, ◌<◌, ◌^◌, true, false, not, ◌&&◌, ◌||◌, List, [], ◌∷◌, ◌++◌, length, slice_get, Option, Some, ◌+◌, refl, sym, ap, ◌∙◌, subst, codes, arith, string_bytes, String}
use Rattle.std.specs.Str.{is_utf8}
use Rattle.std.proofs.lemmas.Bool.{and_parts, and_from}
use Rattle.std.proofs.lemmas.Str.{is_utf8-from_IsUtf8, IsUtf8-string_bytes}
use Rattle.hol_terms.specs.Name.{Name, is_name, is_numbered}
use Rattle.hol_terms.specs.Tm.{Tm}
use Rattle.hol_terms.specs.Signature.{is_new, may_introduce}
use Rattle.hol_terms.specs.Definition.{const_def, signature_of}
use Rattle.hol_terms.specs.Base.{base}
use Rattle.hol_terms.specs.Proves.{AreConservative}
use Rattle.hol_terms.specs.Sound.{begins_with}
use Rattle.hol_terms.specs.Text.{Text, definition_line}
use Rattle.hol_terms.specs.declared.defs.Def.{Def}
use Rattle.hol_kernel.specs.State.{State}
use Rattle.hol_kernel.specs.Run.{IsRun}
use Rattle.hol_kernel.specs.declared.step.Step.{Step}
use Rattle.hol_kernel.proofs.Calculus.{run_derives}
use Rattle.hol_logs.specs.Line.{line_base, line_text, is_section}
use Rattle.log_laws.proofs.Lines.{is_line, line_append, foreign}
use Rattle.log_laws.proofs.Lacking.{name_lacks}
use Rattle.proof_log.specs.declared.marks.Mark.{Mark}
use Rattle.proof_log.specs.declared.marks.MarkKind.TheVariants.{Base, Section, Name as Named}
use Rattle.proof_log.specs.declared.marks.End.{End}
use Rattle.proof_log.specs.declared.marks.End.TheVariants.{Done, Stop}
use Rattle.proof_log.specs.Marks.{IsFitEnd, AreFit}
use Rattle.proof_log.specs.Written.{log_of, text_of, report_text}
use Rattle.proof_log.specs.Gained.{GainsLog, GainsFront}
use Rattle.proof_log.specs.Theories.{said_last, base_mark, base_report, says, IsDefinedNext, define_marks, define_report}
use Rattle.proof_log.proofs.GoodLog.{good}
use Rattle.proof_log.proofs.Numbers.{decimal-numeral}
use Rattle.proof_log.proofs.FitMarks.{at_end, longer, base_marks_fit, define_marks_fit}
use Rattle.proof_log.proofs.Reports.{base_reports, define_reports}
use Rattle.theory_text.specs.Command.{Define as Stated}
use Rattle.theory_answers.specs.declared.verdict.Refusal.{Refusal}
use Rattle.theory_answers.specs.declared.theory.Theory.{Theory}
use Rattle.base_count.specs.InForce.{in_force}
use Rattle.theory_answers.specs.Answer.{base_line, section_line, define_fact}
use Rattle.theory_answers.specs.Layout.{unlines}
use Rattle.theory_answers.specs.Answered.{IsCheck, IsLog}
use Rattle.theory_answers.specs.Verdicts.{refusal_line, defined_lines, IsDefine, IsRefusal}
use Rattle.theory_answers.specs.Theories.{is_stop, IsBaseTheory, IsDefinedTheory, IsTheory, GainsLogOf, GainsPartOf}
use Rattle.proof_log.proofs.Fronts.{run_counts}
use Rattle.theory_answers.proofs.Conservative.{conservative_before}
use Rattle.theory_answers.proofs.FactNames.{fact_name}

-- ---- lines

base_line_is : line_text (line_base in_force) ≡ base_line
base_line_is = ap (λ t. codes "base " ++ t) (sym (decimal-numeral in_force (omega arith)))

stop_line_is : (r : Refusal) → r.place < 2 ^ 64 → said_last (Stop r.test r.name r.place) ≡ refusal_line r ∷ []
stop_line_is r h = ap (λ t. (codes "refused " ++ string_bytes r.test ++ codes " " ++ string_bytes r.name ++ codes " " ++ t) ∷ []) (sym (decimal-numeral r.place h))

-- ---- a theory from its parts

-- the logs of the steps that give the state
abbrev LogsOf : Text → State → List Mark → End → Type 0
LogsOf b k marks end = (ds : List Def) (ss : List Step) → IsRun ds ss k → IsLog b (text_of (log_of k ds ss marks end)) (is_stop end)

logs_from : (b : Text) (k : State) (marks : List Mark) (end : End) (lines : List Text) → AreFit in_force k marks end
    → ((ds : List Def) (ss : List Step) → IsRun ds ss k → report_text (log_of k ds ss marks end) ≡ unlines lines) → ((ds : List Def) (ss : List Step) → IsRun ds ss k → IsCheck b (unlines lines) (is_stop end)) → LogsOf b k marks end
logs_from b k marks end lines fit reports check = λ ds ss r. record {
  report = report_text (log_of k ds ss marks end);
  good = good in_force ds ss k marks end r fit;
  reports = subst (λ (out : Text). IsCheck b out (is_stop end)) (sym (reports ds ss r)) (check ds ss r);
}

theory_from : (b : Text) (k : State) (marks : List Mark) (end : End) (t : Theory) → t.kernel ≡ k → t.marks.items ≡ marks → t.end ≡ end → AreFit in_force k marks end → LogsOf b k marks end → IsTheory b t
theory_from b k marks end t e f g fit logs = record {
  fit = subst (λ (x : End). AreFit in_force t.kernel t.marks.items x) (sym g) (subst (λ (ms : List Mark). AreFit in_force t.kernel ms end) (sym f) (subst (λ (j : State). AreFit in_force j marks end) (sym e) fit));
  logs = subst (λ (x : End). LogsOf b t.kernel t.marks.items x) (sym g) (subst (λ (ms : List Mark). LogsOf b t.kernel ms end) (sym f) (subst (λ (j : State). LogsOf b j marks end) (sym e) logs));
}

-- ---- no definition

based : (b : Text) (k : State) (end : End) (t : Theory) (lines : List Text) → k.defs ≡ base in_force → IsFitEnd end → said_last end ≡ lines → IsCheck b (unlines (base_line ∷ lines)) (is_stop end) → IsBaseTheory k end t → IsTheory b t
based b k end t lines e fit said check h =
    let marks = base_marks_fit in_force k end e fit in
    let report : base_report in_force end ≡ base_line ∷ lines = λ i. base_line_is i ∷ said i in
    theory_from b k (base_mark in_force k ∷ []) end t h.kernel h.marks h.end_is marks
    (logs_from b k (base_mark in_force k ∷ []) end (base_line ∷ lines) marks (λ ds ss r. base_reports in_force k end ds ss r ∙ ap unlines report) (λ ds ss r. check))

pub empty_theory : (b : Text) (k : State) (t : Theory) → k.defs ≡ base in_force → IsCheck b (unlines (base_line ∷ [])) false → IsBaseTheory k Done t → IsTheory b t
empty_theory b k t e check h = based b k Done t [] e tt refl check h

pub refused_theory : (b : Text) (k : State) (r : Refusal) (t : Theory) → k.defs ≡ base in_force → IsRefusal b r → IsBaseTheory k (Stop r.test r.name r.place) t → IsTheory b t
refused_theory b k r t e v h = based b k (Stop r.test r.name r.place) t (refusal_line r ∷ []) e (v.test, v.name) (stop_line_is r v.fits) v.checked h

-- ---- one definition

section_fits : (s : String Global) (d : Stated) → string_bytes s ≡ section_line d → is_name d.name ≡ true → is_section (string_bytes s) ≡ true
section_fits s d e named =
    let utf8 : is_utf8 (string_bytes s) ≡ true = is_utf8-from_IsUtf8 (string_bytes s) (IsUtf8-string_bytes s) in
    let line : is_line (string_bytes s) ≡ true = ap is_line e ∙ line_append (codes "command 1 define ") d.name refl (name_lacks 10 foreign d.name named) in
    let begins : (begins_with (codes "command ") (string_bytes s) || begins_with (codes "plugin ") (string_bytes s)) ≡ true = ap (λ t. begins_with (codes "command ") t || begins_with (codes "plugin ") t) e in
    and_from _ _ (and_from _ _ utf8 line) begins

report_is : (d : Stated) (text name : Text) → text ≡ section_line d → name ≡ d.name ++ codes ".def" → define_report in_force text d.name d.body name Done ≡ defined_lines d
report_is d text name e f = (λ i. define_report in_force (e i) d.name d.body (f i) Done) ∙ ap (λ l. l ∷ section_line d ∷ definition_line (const_def d.name d.body) ∷ define_fact d ∷ []) base_line_is

-- what the definition's step says is derivable, over definitions that are conservative
conservative : (n : ℕ) (old new : State) (c : Name) (t : Tm) (ds : List Def) (ss : List Step) → IsDefinedNext n old new c t → IsRun ds ss new → AreConservative (base n)
conservative n old new c t ds ss h r =
    let at : slice_get new.steps (length old.steps) ≡ Some (says c t) = ap (λ k. slice_get k.steps (length old.steps)) h.after ∙ at_end old.steps (says c t) in
    subst AreConservative h.before (conservative_before old.defs new.defs (const_def c t) (says c t) (run_derives ds ss new (length old.steps) (says c t) r at) (ap (λ k. k.defs) h.after))

pub defined_theory : (b : Text) (old : State) (d : Stated) (t : Theory) → old.defs ≡ base in_force → IsDefine b d → IsDefinedTheory old d t → IsTheory b t
defined_theory b old d t e v h =
    let named = (and_parts (is_name d.name) (not (is_numbered d.name)) (and_parts (is_name d.name && not (is_numbered d.name)) (is_new (signature_of (base in_force)) d.name) v.definable.named).0).0 in
    let marks = define_marks in_force old h.section h.fact in
    let fact : is_name (string_bytes h.fact) ≡ true = ap is_name h.fact_is ∙ fact_name d.name named v.definable.no_number in
    let fit = define_marks_fit in_force old t.kernel d.name d.body h.section h.fact Done h.defined (section_fits h.section d h.section_is named) fact tt in
    theory_from b t.kernel marks Done t refl h.marks h.end_is fit
    (logs_from b t.kernel marks Done (defined_lines d) fit
    (λ ds ss r. define_reports in_force old t.kernel d.name d.body h.section h.fact Done ds ss h.defined r ∙ ap unlines (report_is d (string_bytes h.section) (string_bytes h.fact) h.section_is h.fact_is)) (λ ds ss r. v.checked (conservative in_force old t.kernel d.name d.body ds ss h.defined r)))

-- what the kernel is behind a definition, by its name's text
pub defined_next : (old new : State) (d : Stated) (ds : List Def) (ss : List Step) (name : Name) → IsRun ds ss old → old.defs ≡ base in_force → may_introduce (signature_of (base in_force)) d.name ≡ true → name ≡ d.name
    → new ≡ record { defs = old.defs ++ const_def name d.body ∷ []; steps = old.steps ++ says name d.body ∷ [] } → IsDefinedNext in_force old new d.name d.body
defined_next old new d ds ss name r e m f g = record {
  defs = ds;
  steps = ss;
  run = r;
  before = e;
  named = ap (λ s. may_introduce (signature_of s) d.name) e ∙ m;
  after = g ∙ (λ i. record { defs = old.defs ++ const_def (f i) d.body ∷ []; steps = old.steps ++ says (f i) d.body ∷ [] });
}

-- ---- marks that were pushed

pub base_pushed : (k : State) (ds : List Def) (ss : List Step) (none marks : List Mark) → IsRun ds ss k → none ≡ [] → marks ≡ none ++ record { at = length ss; kind = Base in_force } ∷ [] → marks ≡ base_mark in_force k ∷ []
base_pushed k ds ss none marks r e f = let size : length ss ≡ length k.steps = sym (run_counts ds ss k r).steps in f ∙ (λ i. e i ++ record { at = size i; kind = Base in_force } ∷ [])

pub marks_pushed : (old new : State) (c : Name) (t : Tm) (ds es : List Def) (ss ts : List Step) (none one two marks : List Mark) (section fact : String Global) → IsRun ds ss old → IsRun es ts new → new.steps ≡ old.steps ++ says c t ∷ []
    → none ≡ [] → one ≡ none ++ record { at = length ss; kind = Base in_force } ∷ [] → two ≡ one ++ record { at = length ss; kind = Section section } ∷ [] → marks ≡ two ++ record { at = length ts; kind = Named fact (length ss) } ∷ []
    → marks ≡ define_marks in_force old section fact
marks_pushed old new c t ds es ss ts none one two marks section fact r q n e0 e1 e2 e3 =
    let before : length ss ≡ length old.steps = sym (run_counts ds ss old r).steps in
    let size = longer old.steps (says c t) in
    let more : length old.steps + 1 ≡ length ts = let p = (run_counts es ts new q).steps in let l : length new.steps ≡ length (old.steps ++ says c t ∷ []) = ap length n in omega arith in
    e3 ∙ (λ i. (e2 ∙ (λ j. (e1 ∙ (λ l. e0 l ++ record { at = length ss; kind = Base in_force } ∷ [])) j ++ record { at = length ss; kind = Section section } ∷ [])) i ++ record { at = length ts; kind = Named fact (length ss) } ∷ [])
    ∙ (λ i. record { at = before i; kind = Base in_force } ∷ record { at = before i; kind = Section section } ∷ record { at = sym more i; kind = Named fact (before i) } ∷ [])

-- ---- what a sink gained

pub gains_log_of : (b : Text) (t : Theory) (old new : Option Text) → IsTheory b t → GainsLog in_force t.kernel t.marks.items t.end old new → GainsLogOf b (is_stop t.end) old new
gains_log_of b t old new h g = record { log = text_of (log_of t.kernel g.defs g.steps t.marks.items t.end); answers = h.logs g.defs g.steps g.run; gained = g.gained }

pub gains_part_of : (b : Text) (t : Theory) (old new : Option Text) → IsTheory b t → GainsFront t.kernel t.marks.items t.end old new → GainsPartOf b old new
gains_part_of b t old new h g = record { log = text_of (log_of t.kernel g.defs g.steps t.marks.items t.end); refused = is_stop t.end; answers = h.logs g.defs g.steps g.run; gained = g.gained }
