-- What the theorem lines of a table give.
use Rattle.std.specs.Prelude.{ℕ, List, [], ◌∷◌, ◌++◌, Option, Some, None, slice_get, nat_lt}
use Rattle.hol_terms.specs.Name.{Name}
use Rattle.hol_terms.specs.Ty.{Ty}
use Rattle.hol_terms.specs.Tm.{Tm, FreeVar}
use Rattle.hol_terms.specs.Subst.{TySubst}
use Rattle.hol_terms.specs.Binding.{VarSubst}
use Rattle.hol_terms.specs.Definition.{Definition, const_def, type_def}
use Rattle.hol_terms.specs.Sequent.{Sequent, seq}
use Rattle.hol_terms.specs.Proves.{abs_rep, rep_abs}
use Rattle.hol_terms.specs.Rules.{if_so, is_variable, variable, refl_rule, trans_rule, comb_rule, abs_rule, beta_rule, assume_rule, eq_mp_rule, deduct_rule, inst_type_rule, inst_rule}
use Rattle.hol_terms.specs.Text.{Text}
use Rattle.hol_kernel.specs.Run.{axiom_at}
use Rattle.kernel_lines.specs.Bases.{said}
use Rattle.kernel_lines.specs.Lines.{on}
use Rattle.nd_rules.specs.Connectives.{conj_i_rule, conj_l_rule, conj_r_rule, disj_l_rule, disj_r_rule, disj_e_rule, not_i_rule, not_e_rule, disch_rule, mp_rule, sym_rule, eqt_i_rule, eqt_e_rule}
use Rattle.nd_rules.specs.Binders.{gen_rule, spec_rule, ex_i_rule, choose_rule, subst_rule}
use Rattle.script_core.specs.Words.{number}
use Rattle.script_core.specs.Conversions.{beta_conv_rule, eta_conv_rule, beta_norm_rule, norm_rule, rewrite_all_rule, rewrite_at_rule}
use Rattle.script_core.specs.declared.rule.TermRule.{TermRule}
use Rattle.script_core.specs.declared.rule.TermRule.TheVariants.{Refl, Assume, Beta, BetaConv, EtaConv, BetaNorm}
use Rattle.script_core.specs.declared.rule.ThmRule.{ThmRule}
use Rattle.script_core.specs.declared.rule.ThmRule.TheVariants.{ConjL, ConjR, NotI, NotE, Sym, EqtI, EqtE, Norm}
use Rattle.script_core.specs.declared.rule.TwoThmRule.{TwoThmRule}
use Rattle.script_core.specs.declared.rule.TwoThmRule.TheVariants.{Trans, Comb, EqMp, Deduct, ConjI, Mp}
use Rattle.script_core.specs.declared.rule.TermThmRule.{TermThmRule}
use Rattle.script_core.specs.declared.rule.TermThmRule.TheVariants.{Abs, Gen, DisjR, Disch, Spec, RewriteAll}
use Rattle.script_core.specs.declared.rule.DefRule.{DefRule}
use Rattle.script_core.specs.declared.rule.DefRule.TheVariants.{Constant, TypeAbs, TypeRep}
use Rattle.script_core.specs.declared.rule.Rule.{Rule}
use Rattle.script_core.specs.declared.rule.Rule.TheVariants.{OfTerm, OfThm, OfTwoThms, OfTermAndThm, OfDefinition, Axiom, DisjL, DisjE, ExI, Choose, Subst, InstType, Inst, RewriteAt}

-- the three registers of a table
pub record Registers : Type 0 where
  pub types : List Ty
  pub terms : List Tm
  pub thms : List Sequent

-- the entry that a word names by its number
abbrev pub entry : {A : Type 0} → List A → Text → Option A
entry xs w = on (number w) (λ n. slice_get xs n)

-- a rule of one to four entries, each named by a word
abbrev pub of_one : {A C : Type 0} → List A → (A → Option C) → List Text → Option C
of_one xs f [] = None
of_one xs f (v ∷ []) = on (entry xs v) f
of_one xs f (v ∷ w ∷ ws) = None

abbrev pub of_two : {A B C : Type 0} → List A → List B → (A → B → Option C) → List Text → Option C
of_two xs ys f [] = None
of_two xs ys f (v ∷ ws) = on (entry xs v) (λ x. of_one ys (f x) ws)

abbrev pub of_three : {A B C D : Type 0} → List A → List B → List C → (A → B → C → Option D) → List Text → Option D
of_three xs ys zs f [] = None
of_three xs ys zs f (v ∷ ws) = on (entry xs v) (λ x. of_two ys zs (f x) ws)

abbrev pub of_four : {A B C D E : Type 0} → List A → List B → List C → List D → (A → B → C → D → Option E) → List Text → Option E
of_four xs ys zs us f [] = None
of_four xs ys zs us f (v ∷ ws) = on (entry xs v) (λ x. of_three ys zs us (f x) ws)

-- a rule of a variable, where the term is one
abbrev pub of_variable : {C : Type 0} → Tm → (FreeVar → Option C) → Option C
of_variable t f = on (if_so (is_variable t) (variable t)) f

abbrev pub term_rule : TermRule → Tm → Option Sequent
term_rule Refl t = refl_rule t
term_rule Assume t = assume_rule t
term_rule Beta t = beta_rule t
term_rule BetaConv t = beta_conv_rule t
term_rule EtaConv t = eta_conv_rule t
term_rule BetaNorm t = beta_norm_rule t

abbrev pub thm_rule : ThmRule → Sequent → Option Sequent
thm_rule ConjL a = conj_l_rule a
thm_rule ConjR a = conj_r_rule a
thm_rule NotI a = not_i_rule a
thm_rule NotE a = not_e_rule a
thm_rule Sym a = sym_rule a
thm_rule EqtI a = eqt_i_rule a
thm_rule EqtE a = eqt_e_rule a
thm_rule Norm a = norm_rule a

abbrev pub two_thm_rule : TwoThmRule → Sequent → Sequent → Option Sequent
two_thm_rule Trans a b = trans_rule a b
two_thm_rule Comb a b = comb_rule a b
two_thm_rule EqMp a b = eq_mp_rule a b
two_thm_rule Deduct a b = deduct_rule a b
two_thm_rule ConjI a b = conj_i_rule a b
two_thm_rule Mp a b = mp_rule a b

abbrev pub term_thm_rule : TermThmRule → Tm → Sequent → Option Sequent
term_thm_rule Abs t a = of_variable t (λ v. abs_rule v a)
term_thm_rule Gen t a = of_variable t (λ v. gen_rule v a)
term_thm_rule DisjR t a = disj_r_rule t a
term_thm_rule Disch t a = disch_rule t a
term_thm_rule Spec t a = spec_rule t a
term_thm_rule RewriteAll t a = rewrite_all_rule t a

-- what a definition says
abbrev pub said_rule : DefRule → Definition → Option Sequent
said_rule Constant d = said d
said_rule TypeAbs (const_def c t) = None
said_rule TypeAbs (type_def n p) = Some (seq [] (abs_rep n p))
said_rule TypeRep (const_def c t) = None
said_rule TypeRep (type_def n p) = Some (seq [] (rep_abs n p))

-- pairs of a name and a type, after those found
abbrev pub types_put : List Ty → TySubst → List Text → Option TySubst
types_put ys found [] = Some found
types_put ys found (n ∷ []) = None
types_put ys found (n ∷ w ∷ ws) = on (entry ys w) (λ y. types_put ys (found ++ (n, y) ∷ []) ws)

-- pairs of a variable and a term, after those found
abbrev pub terms_put : List Tm → VarSubst → List Text → Option VarSubst
terms_put ts found [] = Some found
terms_put ts found (v ∷ []) = None
terms_put ts found (v ∷ w ∷ ws) = on (entry ts v) (λ x. of_variable x (λ y. on (entry ts w) (λ t. terms_put ts (found ++ (y, t) ∷ []) ws)))

-- a step of a path, 0 or 1
abbrev pub side : Text → Option ℕ
side w = on (number w) (λ n. if_so (nat_lt n 2) n)

-- the steps of a path, after those found
abbrev pub path_on : List ℕ → List Text → Option (List ℕ)
path_on found [] = Some found
path_on found (w ∷ ws) = on (side w) (λ n. path_on (found ++ n ∷ []) ws)

abbrev pub type_instance : Registers → List Text → Option Sequent
type_instance r [] = None
type_instance r (v ∷ ws) = on (entry r.thms v) (λ a. on (types_put r.types [] ws) (λ s. inst_type_rule s a))

abbrev pub term_instance : Registers → List Text → Option Sequent
term_instance r [] = None
term_instance r (v ∷ ws) = on (entry r.thms v) (λ a. on (terms_put r.terms [] ws) (λ s. inst_rule s a))

abbrev pub rewritten_at : Registers → List Text → Option Sequent
rewritten_at r [] = None
rewritten_at r (v ∷ []) = None
rewritten_at r (v ∷ w ∷ ws) = on (entry r.terms v) (λ t. on (entry r.thms w) (λ a. on (path_on [] ws) (λ path. rewrite_at_rule path t a)))

abbrev pub axiom_numbered : List Text → Option Sequent
axiom_numbered [] = None
axiom_numbered (w ∷ []) = on (number w) axiom_at
axiom_numbered (v ∷ w ∷ ws) = None

-- the sequent that a rule gives, from the entries that the words behind it name
abbrev pub inferred : List Definition → Registers → Rule → List Text → Option Sequent
inferred ds r (OfTerm rule) ws = of_one r.terms (term_rule rule) ws
inferred ds r (OfThm rule) ws = of_one r.thms (thm_rule rule) ws
inferred ds r (OfTwoThms rule) ws = of_two r.thms r.thms (two_thm_rule rule) ws
inferred ds r (OfTermAndThm rule) ws = of_two r.terms r.thms (term_thm_rule rule) ws
inferred ds r (OfDefinition rule) ws = of_one ds (said_rule rule) ws
inferred ds r Axiom ws = axiom_numbered ws
inferred ds r DisjL ws = of_two r.thms r.terms (λ a q. disj_l_rule a q) ws
inferred ds r DisjE ws = of_three r.thms r.thms r.thms (λ a b c. disj_e_rule a b c) ws
inferred ds r ExI ws = of_three r.terms r.terms r.thms (λ e t a. ex_i_rule e t a) ws
inferred ds r Choose ws = of_three r.terms r.thms r.thms (λ t a b. of_variable t (λ v. choose_rule v a b)) ws
inferred ds r Subst ws = of_four r.terms r.terms r.thms r.thms (λ x t a b. of_variable x (λ v. subst_rule v t a b)) ws
inferred ds r InstType ws = type_instance r ws
inferred ds r Inst ws = term_instance r ws
inferred ds r RewriteAt ws = rewritten_at r ws
