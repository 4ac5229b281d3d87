-- The table that exchanges the sides of a conjunction, for any two formulas and any hypotheses.
use Rattle.std.proofs.Common.{◌≡◌, ◌∙◌, refl, sym, ap, subst, [], ◌∷◌, List, Some, IsSome, codes}
use Rattle.std.proofs.lemmas.List.Elements.{All-nil, All-cons}
use Rattle.hol_terms.specs.Tm.{Tm, tm_free}
use Rattle.hol_terms.specs.Signature.{IsOver}
use Rattle.hol_terms.specs.Definition.{Definition, signature_of}
use Rattle.hol_terms.specs.Base.{base}
use Rattle.hol_terms.specs.Proves.{IsDerivable}
use Rattle.hol_terms.specs.Rules.{refl_rule, eq_mp_rule}
use Rattle.hol_terms.specs.Sequent.{Sequent, seq, eq_tm, union}
use Rattle.hol_terms.specs.Text.{Text}
use Rattle.hol_terms.proofs.AsciiNames.{is_name_from_ascii}
use Rattle.hol_terms.proofs.Same.{same_refl}
use Rattle.hol_kernel.proofs.Ascending.{proved_ascends}
use Rattle.hol_kernel.proofs.Textbook.{eq_mp_gives}
use Rattle.kernel_lines.specs.Ready.{AllOver}
use Rattle.nd_rules.specs.Connectives.{conj_tm, conj_l_rule, conj_r_rule, conj_i_rule}
use Rattle.script_core.specs.Steps.{Registers}
use Rattle.script_core.specs.Tables.{with_thm, run, table_sequent}
use Rattle.script_core.specs.Ready.{Fits, Gives}
use Rattle.script_core.proofs.Closed.{closed_table}
use Rattle.script_core.proofs.Lines.{by_rule, hyps_twice}
use Rattle.script_tests.specs.Closed.{nothing, named, over_terms}

first : (A : List Tm) (p q : Tm) → conj_l_rule (seq A (conj_tm p q)) ≡ Some (seq A p)
first A p q = rw (same_refl (conj_tm p q)) refl

second : (A : List Tm) (p q : Tm) → conj_r_rule (seq A (conj_tm p q)) ≡ Some (seq A q)
second A p q = rw (same_refl (conj_tm p q)) refl

abbrev table : Text
table = codes "refl 1\nconj_r 0\neq_mp 1 2\nconj_l 0\nconj_i 3 4\n"

-- line by line
exchange : (ds : List Definition) (p q : Tm) (A : List Tm) → table_sequent ds [] (over_terms (p ∷ q ∷ []) (seq A (conj_tm p q))) table ≡ Some (seq (union A A) (conj_tm q p))
unfolding closed_table
exchange ds p q A =
    let r : Registers = over_terms (p ∷ q ∷ []) (seq A (conj_tm p q)) in
    let r1 : Registers = with_thm r (seq [] (eq_tm q q)) in
    let r2 : Registers = with_thm r1 (seq A q) in
    let r3 : Registers = with_thm r2 (seq A q) in
    let r4 : Registers = with_thm r3 (seq A p) in
    let r5 : Registers = with_thm r4 (seq (union A A) (conj_tm q p)) in
    let rest4 : List Text = codes "conj_i 3 4" ∷ [] in
    let rest3 : List Text = codes "conj_l 0" ∷ rest4 in
    let rest2 : List Text = codes "eq_mp 1 2" ∷ rest3 in
    let rest1 : List Text = codes "conj_r 0" ∷ rest2 in
    let start : table_sequent ds [] r table ≡ run ds r (codes "refl 1" ∷ rest1) = refl in
    let s1 : run ds r (codes "refl 1" ∷ rest1) ≡ run ds r1 rest1 = by_rule ds r (codes "refl 1") rest1 _ (refl_rule q) refl refl in
    let s2 : run ds r1 rest1 ≡ run ds r2 rest2 = by_rule ds r1 (codes "conj_r 0") rest2 _ (conj_r_rule (seq A (conj_tm p q))) refl (second A p q) in
    let s3 : run ds r2 rest2 ≡ run ds r3 rest3 = by_rule ds r2 (codes "eq_mp 1 2") rest3 _ (eq_mp_rule (seq [] (eq_tm q q)) (seq A q)) refl (eq_mp_gives [] A q q) in
    let s4 : run ds r3 rest3 ≡ run ds r4 rest4 = by_rule ds r3 (codes "conj_l 0") rest4 _ (conj_l_rule (seq A (conj_tm p q))) refl (first A p q) in
    let s5 : run ds r4 rest4 ≡ run ds r5 [] = by_rule ds r4 (codes "conj_i 3 4") [] _ (conj_i_rule (seq A q) (seq A p)) refl refl in
    start ∙ s1 ∙ s2 ∙ s3 ∙ s4 ∙ s5

of_any : (ds : List Definition) (ts : List Tm) (p q : Tm) (a : Sequent) → ts ≡ p ∷ q ∷ [] → a.concl ≡ conj_tm p q → table_sequent ds [] (over_terms ts a) table ≡ Some (seq (union a.hyps a.hyps) (conj_tm q p))
of_any ds ts p q a t e = (λ i. table_sequent ds [] (over_terms (t i) (seq a.hyps (e i))) table) ∙ exchange ds p q a.hyps

pub exchange_fits : (ds : List Definition) (ts : List Tm) (p q : Tm) (a : Sequent) → ts ≡ p ∷ q ∷ [] → a.concl ≡ conj_tm p q → Fits ds [] (over_terms ts a) (codes "refl 1\nconj_r 0\neq_mp 1 2\nconj_l 0\nconj_i 3 4\n")
exchange_fits ds ts p q a t e = record { is = subst IsSome (sym (of_any ds ts p q a t e)) refl }

some_same : (a b : Sequent) → Some a ≡ Some b → a ≡ b
some_same a b e = cc

pub exchange_gives : (ds es : List Definition) (ts : List Tm) (p q : Tm) (a b : Sequent) → ts ≡ p ∷ q ∷ [] → a.concl ≡ conj_tm p q → IsDerivable es a
    → Gives ds [] (over_terms ts a) (codes "refl 1\nconj_r 0\neq_mp 1 2\nconj_l 0\nconj_i 3 4\n") b → b ≡ seq a.hyps (conj_tm q p)
exchange_gives ds es ts p q a b t e d g =
    some_same b (seq (union a.hyps a.hyps) (conj_tm q p)) (sym g.is ∙ of_any ds ts p q a t e) ∙ ap (λ hs. seq hs (conj_tm q p)) (hyps_twice a.hyps (proved_ascends d.proof))

pub both_over : (ds : List Definition) (ts : List Tm) (p q : Tm) → ts ≡ p ∷ q ∷ [] → IsOver (signature_of ds) [] p → IsOver (signature_of ds) [] q → AllOver ds ts
both_over ds ts p q t a b =
    let one : AllOver ds (q ∷ []) = record { all = All-cons (IsOver (signature_of ds) []) q [] b (All-nil (IsOver (signature_of ds) [])) } in
    subst (λ (us : List Tm). AllOver ds us) (sym t) (record { all = All-cons (IsOver (signature_of ds) []) p (q ∷ []) a one.all })

-- the theorem of the test
abbrev assumed : Text
assumed = codes "term [p:bool] /\\ [q:bool]\nassume 0\n"

abbrev both : Tm
both = conj_tm (tm_free (named (codes "p"))) (tm_free (named (codes "q")))

assumed_is : table_sequent (base 10) [] nothing assumed ≡ Some (seq (both ∷ []) both)
unfolding closed_table
assumed_is = refl

pub assumed_fits : (ds : List Definition) → ds ≡ base 10 → Fits ds [] nothing (codes "term [p:bool] /\\ [q:bool]\nassume 0\n")
assumed_fits ds e = record { is = subst IsSome (sym (ap (λ es. table_sequent es [] nothing assumed) e ∙ assumed_is)) refl }

pub assumed_gives : (ds : List Definition) (a : Sequent) → ds ≡ base 10 → Gives ds [] nothing (codes "term [p:bool] /\\ [q:bool]\nassume 0\n") a → a.concl ≡ both
assumed_gives ds a e g = ap (λ (b : Sequent). b.concl) (some_same a (seq (both ∷ []) both) (sym g.is ∙ (ap (λ es. table_sequent es [] nothing assumed) e ∙ assumed_is)))

pub p_over : (ds : List Definition) → IsOver (signature_of ds) [] (tm_free (named (codes "p")))
p_over ds = (is_name_from_ascii (112 ∷ []) refl, (refl, tt))

pub q_over : (ds : List Definition) → IsOver (signature_of ds) [] (tm_free (named (codes "q")))
q_over ds = (is_name_from_ascii (113 ∷ []) refl, (refl, tt))
