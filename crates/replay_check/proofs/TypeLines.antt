-- The line of a type's definition.
use Rattle.std.proofs.Common.{◌≡◌, ℕ, Bool, true, false, not, ◌||◌, ◌==◌, [], ◌∷◌, ◌++◌, length, Some, sym, ap, ◌∙◌}
use Rattle.std.proofs.lemmas.Bool.{or_parts, not-false}
use Rattle.hol_terms.specs.Name.{Name}
use Rattle.hol_terms.specs.Signature.{Signature}
use Rattle.hol_terms.specs.TypeNames.{may_introduce_type}
use Rattle.hol_terms.specs.Definition.{Definition, type_def, has_frees}
use Rattle.hol_terms.specs.Sequent.{Sequent}
use Rattle.hol_logs.specs.Step.{sequent_at}
use Rattle.hol_logs.specs.Line.{LogLine, line_type}
use Rattle.hol_logs.specs.Position.{first_cause, after, lacks_a_step, is_application, predicate_of, is_unfit_type, by_unfit}
use Rattle.flat_terms.specs.Plain.{PlainTables, HasName, name_of, term_of}
use Rattle.flat_terms.specs.declared.nodes.NameId.{NameId}
use Rattle.flat_terms.specs.declared.nodes.TermId.{TermId}
use Rattle.flat_signatures.specs.FlatNames.{FlatNames, plain_signature, HasSignature}
use Rattle.flat_signatures.proofs.Signatures.{signature_same}
use Rattle.flat_instances.specs.TablesGrow.{TablesGrow}
use Rattle.replay_check.specs.declared.position.Position.{Position}
use Rattle.replay_check.specs.declared.why.Verdict.{Verdict}
use Rattle.replay_check.specs.declared.why.Verdict.TheVariants.{Good, Bad}
use Rattle.base_count.specs.InForce.{in_force}
use Rattle.replay_check.specs.Definitions.{is_unfit_type_over, IsPredicate, IsPredicateType}
use Rattle.replay_check.specs.Positions.{IsPosition, IsInside, log_position, Gains, cause_of, off_base, definition_report, with_definition, IsDefinitionVerdict, IsVerdict}
use Rattle.replay_check.proofs.Verdicts.{type_unfit, type_early, type_good, or_false}
use Rattle.replay_check.proofs.Taking.{placed, position_same}

-- the test of the theorem at a place, over the signature of the definitions
unfit_same : (p : Position) (c : Name) (i : ℕ) (a : Sequent) (b : Bool) → IsPosition p → sequent_at (log_position p).steps i ≡ a → is_unfit_type_over (plain_signature p.tables p.signature) c a ≡ b
    → is_unfit_type (log_position p).defs c (sequent_at (log_position p).steps i) ≡ b
unfit_same p c i a b h s e = (λ j. is_unfit_type_over (sym h.plain j) c (s j)) ∙ e

pub type_refused : (p : Position) (c : Name) (i : ℕ) (a : Sequent) → IsPosition p → IsInside p → lacks_a_step (log_position p) (line_type c i) ≡ false → sequent_at (log_position p).steps i ≡ a
    → is_unfit_type_over (plain_signature p.tables p.signature) c a ≡ true → first_cause in_force (log_position p) (line_type c i) ≡ Some by_unfit
type_refused p c i a h g k s e = type_unfit in_force (log_position p) c i (placed p g) k (unfit_same p c i a true h s e)

-- m is the position p with more in its tables
pub type_verdict : (p m q : Position) (c : NameId) (n : TermId) (i : ℕ) (a : Sequent) (v : Verdict) → IsPosition p → IsInside p → Gains p m → HasName p.tables c → lacks_a_step (log_position p) (line_type (name_of p.tables c) i) ≡ false
    → sequent_at (log_position p).steps i ≡ a → term_of m.tables n ≡ predicate_of a → is_unfit_type_over (plain_signature p.tables p.signature) (name_of p.tables c) a ≡ false
    → IsDefinitionVerdict m q (type_def (name_of m.tables c) (term_of m.tables n)) v → IsVerdict p q (line_type (name_of p.tables c) i) v
type_verdict p m q c n i a v h g gains has k s t e w = at v w
  where
    l : LogLine
    l = line_type (name_of p.tables c) i

    x : Definition
    x = type_def (name_of p.tables c) (predicate_of (sequent_at (log_position p).steps i))

    same : type_def (name_of m.tables c) (term_of m.tables n) ≡ x
    same = λ j. type_def (gains.grows.same_name c has j) ((t ∙ ap predicate_of (sym s)) j)

    here : log_position m ≡ log_position p
    here = position_same p m gains h

    unfit : is_unfit_type (log_position p).defs (name_of p.tables c) (sequent_at (log_position p).steps i) ≡ false
    unfit = unfit_same p (name_of p.tables c) i a false h s e

    off : off_base (log_position m) (type_def (name_of m.tables c) (term_of m.tables n)) ≡ off_base (log_position p) x
    off = λ j. off_base (here j) (same j)

    behind : with_definition (log_position p) x ≡ after (log_position p) l
    behind = λ j. record { defs = (log_position p).defs ++ x ∷ []; steps = (after (log_position p) l).steps; lines = (after (log_position p) l).lines; is_based = or_false p.is_based j; is_over = or_false p.is_over j }

    at : (v : Verdict) → IsDefinitionVerdict m q (type_def (name_of m.tables c) (term_of m.tables n)) v → IsVerdict p q l v
    at (Good r) w =
        (type_good in_force (log_position p) (name_of p.tables c) i (placed p g) k unfit (sym off ∙ w.0), w.1, w.2 ∙ (λ j. with_definition (here j) (same j)) ∙ behind, w.3 ∙ (λ j. definition_report (here j) (same j)))
    at (Bad y) w = type_early in_force (log_position p) (name_of p.tables c) i (placed p g) k unfit (sym off ∙ w.1) ∙ ap (λ z. Some (cause_of z)) (sym w.0)

fit_name : (s : Signature) (c : Name) (a : Sequent) → is_unfit_type_over s c a ≡ false → may_introduce_type s c ≡ true
fit_name s c a e =
    let p = or_parts (not (may_introduce_type s c) || not (length a.hyps == 0) || not (is_application a.concl)) (has_frees (predicate_of a)) e in
    let q = or_parts (not (may_introduce_type s c) || not (length a.hyps == 0)) (not (is_application a.concl)) p.0 in
    not-false (may_introduce_type s c) (or_parts (not (may_introduce_type s c)) (not (length a.hyps == 0)) q.0).0

pub may_define_type : (t u : PlainTables) (s : FlatNames) (c : NameId) (n : TermId) (a : Sequent) → TablesGrow t u → HasSignature t s → HasName t c → IsPredicate u (plain_signature t s) (name_of t c) a (Some n)
    → (may_introduce_type (plain_signature u s) (name_of u c) ≡ true) × IsPredicateType (term_of u n)
may_define_type t u s c n a g h has fit =
    ((λ j. may_introduce_type (signature_same t u s g h j) (g.same_name c has j)) ∙ fit_name (plain_signature t s) (name_of t c) a fit.2, fit.3)
