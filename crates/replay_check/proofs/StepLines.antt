-- A step's line, and the position behind it.
use Rattle.std.proofs.Common.{◌≡◌, ◌⊎◌, ℕ, suc, ◌<◌, ◌^◌, Bool, true, false, cond, not, ◌||◌, List, [], ◌∷◌, ◌++◌, length, Option, Some, None, refl, sym, ap, ◌∙◌, subst, arith, nat_lt}
use Rattle.std.specs.Prelude.{option_to_list}
use Rattle.std.specs.List.{list_any}
use Rattle.std.proofs.lemmas.Bool.Decides.{nat_tests}
use Rattle.std.proofs.lemmas.List.{length-map}
use Rattle.hol_terms.specs.Typing.{tm_type}
use Rattle.hol_terms.specs.Definition.{Definition, bool_ty, signature_of}
use Rattle.hol_terms.specs.Sequent.{Sequent}
use Rattle.hol_terms.specs.Text.{Text}
use Rattle.hol_terms.specs.Base.{base}
use Rattle.hol_terms.specs.Proves.{IsPrefix}
use Rattle.hol_logs.specs.Step.{LogStep, step_gives, premises}
use Rattle.hol_logs.specs.Line.{line_step}
use Rattle.hol_logs.specs.Position.{first_cause, lacks_a_step, by_rule}
use Rattle.hol_logs.proofs.Standing.{Stands, about_ten}
use Rattle.flat_terms.specs.Plain.{PlainTables}
use Rattle.flat_instances.specs.TablesGrow.{TablesGrow}
use Rattle.flat_rules.specs.declared.sequent.FlatSequent.{FlatSequent}
use Rattle.flat_rules.specs.Sequents.{sequent_of, HasSequent, IsAnswer}
use Rattle.flat_signatures.specs.FlatNames.{plain_signature, HasSignature}
use Rattle.flat_signatures.proofs.Signatures.{signature_there, signature_same}
use Rattle.flat_lines.specs.declared.numbers.Number.{Number}
use Rattle.flat_lines.specs.declared.numbers.Number.TheVariants.{Small, Huge}
use Rattle.flat_lines.specs.declared.steps.FlatStep.{FlatStep}
use Rattle.flat_lines.specs.declared.steps.FlatStep.TheVariants.{Refl, Trans, Comb, Abs, Beta, Assume, Mp, Deduct, InstType, Inst, Axiom}
use Rattle.flat_lines.specs.Numbers.{IsNumber}
use Rattle.flat_lines.specs.Lines.{IsFlatStep}
use Rattle.replay_check.specs.declared.definitions.FlatDefinition.{FlatDefinition}
use Rattle.replay_check.specs.declared.position.Position.{Position}
use Rattle.replay_check.specs.declared.why.Verdict.TheVariants.{Good}
use Rattle.base_count.specs.InForce.{in_force}
use Rattle.replay_check.specs.Named.{AreNamed}
use Rattle.replay_check.specs.Definitions.{definitions_of, HasDefinitions, AreSequents, sequents_of, IsBooleanAnswer}
use Rattle.replay_check.specs.Steps.{is_there, flat_premises}
use Rattle.replay_check.specs.Positions.{IsPosition, IsInside, log_position, IsVerdict}
use Rattle.replay_check.proofs.Verdicts.{step_fails, step_good, position_is, adds_nothing, or_false}
use Rattle.replay_check.proofs.Later.{definitions_same, definitions_stay, sequents_same, sequents_stay}
use Rattle.replay_check.proofs.Taking.{placed}

-- ---- what a position gives

pub ten_at : (p : Position) → IsPosition p → IsPrefix (base 10) (definitions_of p.tables p.definitions.items) ⊎ IsPrefix (definitions_of p.tables p.definitions.items) (base 10)
ten_at p h = about_ten in_force p.is_based (definitions_of p.tables p.definitions.items) (omega arith) h.stands

-- ---- numbers of steps

pub there_is : (count : ℕ) (i : Number) (n : ℕ) → count < 2 ^ 64 → IsNumber i n → is_there count i ≡ nat_lt n count
there_is count (Small m) n k e = ap (λ x. nat_lt x count) e
there_is count Huge n k h = at (nat_lt n count) refl
  where
    at : (b : Bool) → nat_lt n count ≡ b → false ≡ nat_lt n count
    at false e = sym e
    at true e = absurd (grind (arith, nat_tests))

one_lacks : (count : ℕ) (i : Number) (n : ℕ) → count < 2 ^ 64 → IsNumber i n → list_any (λ x. not (nat_lt x count)) (n ∷ []) ≡ list_any (λ x. not (is_there count x)) (i ∷ [])
one_lacks count i n k h = ap (λ b. not b || false) (sym (there_is count i n k h))

two_lack : (count : ℕ) (i j : Number) (m n : ℕ) → count < 2 ^ 64 → IsNumber i m → IsNumber j n → list_any (λ x. not (nat_lt x count)) (m ∷ n ∷ []) ≡ list_any (λ x. not (is_there count x)) (i ∷ j ∷ [])
two_lack count i j m n k h g = λ x. not (sym (there_is count i m k h) x) || (not (sym (there_is count j n k g) x) || false)

pub lacks_same : (t : PlainTables) (count : ℕ) (s : FlatStep) (l : LogStep) → count < 2 ^ 64 → IsFlatStep t s l → list_any (λ x. not (nat_lt x count)) (premises l) ≡ list_any (λ x. not (is_there count x)) (flat_premises s)
lacks_same t count (Refl n) l k h = ap (λ x. list_any (λ y. not (nat_lt y count)) (premises x)) h.1
lacks_same t count (Trans i j) l k h = ap (λ x. list_any (λ y. not (nat_lt y count)) (premises x)) h.4 ∙ two_lack count i j h.0 h.1 k h.2 h.3
lacks_same t count (Comb i j) l k h = ap (λ x. list_any (λ y. not (nat_lt y count)) (premises x)) h.4 ∙ two_lack count i j h.0 h.1 k h.2 h.3
lacks_same t count (Abs v i) l k h = ap (λ x. list_any (λ y. not (nat_lt y count)) (premises x)) h.1.2 ∙ one_lacks count i h.1.0 k h.1.1
lacks_same t count (Beta n) l k h = ap (λ x. list_any (λ y. not (nat_lt y count)) (premises x)) h.1
lacks_same t count (Assume n) l k h = ap (λ x. list_any (λ y. not (nat_lt y count)) (premises x)) h.1
lacks_same t count (Mp i j) l k h = ap (λ x. list_any (λ y. not (nat_lt y count)) (premises x)) h.4 ∙ two_lack count i j h.0 h.1 k h.2 h.3
lacks_same t count (Deduct i j) l k h = ap (λ x. list_any (λ y. not (nat_lt y count)) (premises x)) h.4 ∙ two_lack count i j h.0 h.1 k h.2 h.3
lacks_same t count (InstType i ps) l k h = ap (λ x. list_any (λ y. not (nat_lt y count)) (premises x)) h.1.2 ∙ one_lacks count i h.1.0 k h.1.1
lacks_same t count (Inst i ps) l k h = ap (λ x. list_any (λ y. not (nat_lt y count)) (premises x)) h.1.2 ∙ one_lacks count i h.1.0 k h.1.1
lacks_same t count (Axiom i) l k h = ap (λ x. list_any (λ y. not (nat_lt y count)) (premises x)) h.2

pub lacks_at : (p : Position) (s : FlatStep) (l : LogStep) (b : Bool) (n : ℕ) → n ≡ length p.sequents.items → length p.sequents.items < 2 ^ 64 → IsFlatStep p.tables s l → b ≡ list_any (λ x. not (is_there n x)) (flat_premises s)
    → lacks_a_step (log_position p) (line_step l) ≡ b
lacks_at p s l b n m k h e =
    ap (λ n. list_any (λ x. not (nat_lt x n)) (premises l)) (length-map p.sequents.items (sequent_of p.tables)) ∙ lacks_same p.tables (length p.sequents.items) s l k h ∙ sym (e ∙ ap (λ y. list_any (λ x. not (is_there y x)) (flat_premises s)) m)

-- ---- one sequent more

push_sequent : (t : PlainTables) (qs : List FlatSequent) (a : FlatSequent) → AreSequents t qs → HasSequent t a → tm_type (sequent_of t a).concl ≡ bool_ty → AreSequents t (qs ++ a ∷ [])
push_sequent t [] a h g b = (g, b, tt)
push_sequent t (q ∷ qs) a h g b = (h.0, h.1, push_sequent t qs a h.2 g b)

pushed_sequents : (t : PlainTables) (qs : List FlatSequent) (a : FlatSequent) → sequents_of t (qs ++ a ∷ []) ≡ sequents_of t qs ++ sequent_of t a ∷ []
pushed_sequents t [] a = refl
pushed_sequents t (q ∷ qs) a = ap (λ r. sequent_of t q ∷ r) (pushed_sequents t qs a)

pub more_sequents : (p q : Position) (a : FlatSequent) → IsPosition p → TablesGrow p.tables q.tables → q.sequents.items ≡ p.sequents.items ++ a ∷ [] → sequents_of q.tables q.sequents.items ≡ sequents_of p.tables p.sequents.items ++ sequent_of q.tables a ∷ []
more_sequents p q a h g e = ap (sequents_of q.tables) e ∙ pushed_sequents q.tables p.sequents.items a ∙ ap (λ qs. qs ++ sequent_of q.tables a ∷ []) (sequents_same p.tables q.tables p.sequents.items g h.sequents)

pub taken_position : (p q : Position) (a : FlatSequent) → IsPosition p → TablesGrow p.tables q.tables → q.signature ≡ p.signature → q.definitions ≡ p.definitions → q.sequents.items ≡ p.sequents.items ++ a ∷ [] → q.is_based ≡ p.is_based
    → HasSequent q.tables a → tm_type (sequent_of q.tables a).concl ≡ bool_ty → IsPosition q
taken_position p q a h g sig defs seqs based has boolean =
    let same : definitions_of q.tables q.definitions.items ≡ definitions_of p.tables p.definitions.items = ap (λ x. definitions_of q.tables x.items) defs ∙ definitions_same p.tables q.tables p.definitions.items g h.definitions in
    record {
      signature = subst (λ s. HasSignature q.tables s) (sym sig) (signature_there p.tables q.tables p.signature g h.signature);
      plain = ap (plain_signature q.tables) sig ∙ signature_same p.tables q.tables p.signature g h.signature ∙ h.plain ∙ ap signature_of (sym same);
      definitions = subst (λ x. HasDefinitions q.tables x.items) (sym defs) (definitions_stay p.tables q.tables p.definitions.items g h.definitions);
      sequents = subst (λ x. AreSequents q.tables x) (sym seqs) (push_sequent q.tables p.sequents.items a (sequents_stay p.tables q.tables p.sequents.items g h.sequents) has boolean);
      named = subst (λ x. AreNamed (signature_of x)) (sym same) h.named;
      stands = subst (λ b. Stands in_force b (definitions_of q.tables q.definitions.items)) (sym based) (subst (λ x. Stands in_force p.is_based x) (sym same) h.stands);
    }

-- ---- what comes of a step's line

moved_answer : (ds es : List Definition) (qs rs : List Sequent) (l : LogStep) (o : Option Sequent) → ds ≡ es → qs ≡ rs → step_gives ds qs l ≡ o → step_gives es rs l ≡ o
moved_answer ds es qs rs l o d q e = (λ i. step_gives (sym d i) (sym q i) l) ∙ e

pub step_refused : (p : Position) (l : LogStep) (t : PlainTables) → IsInside p → lacks_a_step (log_position p) (line_step l) ≡ false → IsAnswer t (step_gives (log_position p).defs (log_position p).steps l) None → first_cause in_force (log_position p) (line_step l) ≡ Some by_rule
step_refused p l t i k h = step_fails in_force (log_position p) l (placed p i) k h

nothing : (b : Bool) → ◌≡◌ {A = List Text} [] (cond b [] [])
nothing true = refl
nothing false = refl

pub step_taken : (p q : Position) (l : LogStep) (a : FlatSequent) → IsPosition p → IsInside p → TablesGrow p.tables q.tables → q.signature ≡ p.signature → q.definitions ≡ p.definitions → q.sequents.items ≡ p.sequents.items ++ a ∷ []
    → q.lines ≡ suc p.lines → q.is_based ≡ p.is_based → q.is_over ≡ p.is_over → lacks_a_step (log_position p) (line_step l) ≡ false
    → IsAnswer q.tables (step_gives (log_position p).defs (log_position p).steps l) (Some a) → IsBooleanAnswer q.tables (Some a) → IsVerdict p q (line_step l) (Good None)
step_taken p q l a h i g sig defs seqs lines based over k answer boolean =
    let good = step_good in_force (log_position p) l (sequent_of q.tables a) (placed p i) k answer.1 in
    let ds : definitions_of q.tables q.definitions.items ≡ definitions_of p.tables p.definitions.items = ap (λ x. definitions_of q.tables x.items) defs ∙ definitions_same p.tables q.tables p.definitions.items g h.definitions in
    let gives : sequents_of q.tables q.sequents.items ≡ (log_position p).steps ++ option_to_list (step_gives (log_position p).defs (log_position p).steps l) =
    more_sequents p q a h g seqs ∙ ap (λ o. (log_position p).steps ++ option_to_list o) (sym answer.1) in (
      good,
      taken_position p q a h g sig defs seqs based answer.0 boolean,
      position_is (log_position p) (line_step l) (ds ∙ adds_nothing (log_position p).defs) gives lines (based ∙ or_false p.is_based) (over ∙ or_false p.is_over),
      nothing p.is_based,
    )

pub answer_at : (t u : PlainTables) (ds es : List FlatDefinition) (qs rs : List FlatSequent) (l : LogStep) (g h : Option FlatSequent) → ds ≡ es → qs ≡ rs → g ≡ h → IsAnswer u (step_gives (definitions_of t ds) (sequents_of t qs) l) g
    → IsAnswer u (step_gives (definitions_of t es) (sequents_of t rs) l) h
answer_at t u ds es qs rs l g h d q o a = subst (λ x. IsAnswer u (step_gives (definitions_of t es) (sequents_of t rs) l) x) o (subst (λ (p : List FlatDefinition × List FlatSequent). IsAnswer u (step_gives (definitions_of t p.0) (sequents_of t p.1) l) g) (λ j. (d j, q j)) a)
