-- What may be defined, and what is derivable (HOL Light's calculus).
use Rattle.std.specs.Prelude.{◌≡◌, true, false, List, [], ◌∷◌, ◌++◌, Contains, Some}
use Rattle.hol_terms.specs.Name.{Name, dot_abs, dot_rep}
use Rattle.hol_terms.specs.Tm.{Tm, tm_free, tm_comb, FreeVar}
use Rattle.hol_terms.specs.Typing.{tm_type, domain_ty, fun_ty}
use Rattle.hol_terms.specs.Subst.{TySubst}
use Rattle.hol_terms.specs.Binding.{VarSubst}
use Rattle.hol_terms.specs.TyVars.{tm_within, own_const}
use Rattle.hol_terms.specs.Signature.{Signature, IsTyOver, IsOver, may_introduce}
use Rattle.hol_terms.specs.Definition.{Definition, const_def, type_def, bool_ty, new_type, abs_ty, rep_ty, signature_of, has_frees}
use Rattle.hol_terms.specs.Sequent.{Sequent, seq, eq_tm, IsTyped}
use Rattle.hol_terms.specs.Rules.{refl_rule, trans_rule, comb_rule, abs_rule, beta_rule, assume_rule, eq_mp_rule, deduct_rule, inst_type_rule, inst_rule}
use Rattle.hol_terms.specs.Logic.{axioms}
use Rattle.hol_terms.specs.Base.{base}

-- the constants of a type definition
abbrev pub abs_const : Name → Tm → Tm
abs_const n p = own_const (dot_abs n) (abs_ty n p)

abbrev pub rep_const : Name → Tm → Tm
rep_const n p = own_const (dot_rep n) (rep_ty n p)

-- the free variables of a type definition's sequents, `a` of the new type and `r` of the old one
abbrev pub new_var : Name → Tm → Tm
new_var n p = tm_free (record { name = 97 ∷ []; ty = new_type n p })

abbrev pub old_var : Tm → Tm
old_var p = tm_free (record { name = 114 ∷ []; ty = domain_ty (tm_type p) })

-- `abs (rep a) = a`, and `P r = (rep (abs r) = r)`
abbrev pub abs_rep : Name → Tm → Tm
abs_rep n p = eq_tm (tm_comb (abs_const n p) (tm_comb (rep_const n p) (new_var n p))) (new_var n p)

abbrev pub rep_abs : Name → Tm → Tm
rep_abs n p = eq_tm (tm_comb p (old_var p)) (eq_tm (tm_comb (rep_const n p) (tm_comb (abs_const n p) (old_var p))) (old_var p))

-- what a definition says: `c = t` of a constant, those two of a type
abbrev pub sequents_of : Definition → List Sequent
sequents_of (const_def c t) = seq [] (eq_tm (own_const c (tm_type t)) t) ∷ []
sequents_of (type_def n p) = seq [] (abs_rep n p) ∷ seq [] (rep_abs n p) ∷ []

-- each type that is put for a variable is well formed, and each variable and its term are well typed
abbrev pub AreTypesOver : Signature → TySubst → Type 0
AreTypesOver s [] = Unit {0}
AreTypesOver s (p ∷ ps) = IsTyOver s p.1 × AreTypesOver s ps

abbrev pub AreOver : Signature → VarSubst → Type 0
AreOver s [] = Unit {0}
AreOver s (p ∷ ps) = IsOver s [] (tm_free p.0) × IsOver s [] p.1 × AreOver s ps

abbrev pub IsPrefix : List Definition → List Definition → Type 0
IsPrefix ds es = (more : List Definition) × (es ≡ ds ++ more)

abbrev pub IsTypedOver : List Definition → Sequent → Type 0
IsTypedOver ds a = IsTyped (signature_of ds) a

-- The sequents that follow over a list of definitions. Each one in a derivation is well typed over them: it follows by one of
-- the ten rules from sequents that follow, or it is an axiom and the connectives are defined, or a definition says it.
pub data Proves (ds : List Definition) : Sequent → Type 0 where
  by_refl : (t : Tm) (c : Sequent) → refl_rule t ≡ Some c → IsTypedOver ds c → Proves ds c
  by_trans : (a b c : Sequent) → Proves ds a → Proves ds b → trans_rule a b ≡ Some c → IsTypedOver ds c → Proves ds c
  by_comb : (a b c : Sequent) → Proves ds a → Proves ds b → comb_rule a b ≡ Some c → IsTypedOver ds c → Proves ds c
  by_abs : (v : FreeVar) (a c : Sequent) → IsOver (signature_of ds) [] (tm_free v) → Proves ds a → abs_rule v a ≡ Some c → IsTypedOver ds c → Proves ds c
  by_beta : (t : Tm) (c : Sequent) → beta_rule t ≡ Some c → IsTypedOver ds c → Proves ds c
  by_assume : (p : Tm) (c : Sequent) → assume_rule p ≡ Some c → IsTypedOver ds c → Proves ds c
  by_eq_mp : (a b c : Sequent) → Proves ds a → Proves ds b → eq_mp_rule a b ≡ Some c → IsTypedOver ds c → Proves ds c
  by_deduct : (a b c : Sequent) → Proves ds a → Proves ds b → deduct_rule a b ≡ Some c → IsTypedOver ds c → Proves ds c
  by_inst_type : (s : TySubst) (a c : Sequent) → AreTypesOver (signature_of ds) s → Proves ds a → inst_type_rule s a ≡ Some c → IsTypedOver ds c → Proves ds c
  by_inst : (s : VarSubst) (a c : Sequent) → AreOver (signature_of ds) s → Proves ds a → inst_rule s a ≡ Some c → IsTypedOver ds c → Proves ds c
  by_axiom : (c : Sequent) → IsPrefix (base 10) ds → Contains axioms c → IsTypedOver ds c → Proves ds c
  by_definition : (d : Definition) (c : Sequent) → Contains ds d → Contains (sequents_of d) c → IsTypedOver ds c → Proves ds c

-- a new constant: the term is well typed and closed, and has no type variable that its type lacks
pub record IsConstDef (ds : List Definition) (c : Name) (t : Tm) : Type 0 where
  pub named : may_introduce (signature_of ds) c ≡ true
  pub closed : has_frees t ≡ false
  pub covered : tm_within t (tm_type t) ≡ true
  pub typed : IsOver (signature_of ds) [] t

-- a new type: its three names are new, the predicate is well typed and closed, and is shown to hold of some term
pub record IsTypeDef (ds : List Definition) (n : Name) (p : Tm) : Type 0 where
  pub named : may_introduce (signature_of ds) n ≡ true
  pub named_abs : may_introduce (signature_of ds) (dot_abs n) ≡ true
  pub named_rep : may_introduce (signature_of ds) (dot_rep n) ≡ true
  pub closed : has_frees p ≡ false
  pub typed : IsOver (signature_of ds) [] p
  pub predicate : tm_type p ≡ fun_ty (domain_ty (tm_type p)) bool_ty
  pub witness : Tm
  pub inhabited : Proves ds (seq [] (tm_comb p witness))

abbrev pub IsConservative : List Definition → Definition → Type 0
IsConservative ds (const_def c t) = IsConstDef ds c t
IsConservative ds (type_def n p) = IsTypeDef ds n p

-- each of the definitions is conservative after those before it
abbrev pub AreConservativeAfter : List Definition → List Definition → Type 0
AreConservativeAfter before [] = Unit {0}
AreConservativeAfter before (d ∷ ds) = IsConservative before d × AreConservativeAfter (before ++ d ∷ []) ds

abbrev pub AreConservative : List Definition → Type 0
AreConservative ds = AreConservativeAfter [] ds

-- the definitions are conservative, and the sequent follows over them
pub record IsDerivable (ds : List Definition) (a : Sequent) : Type 0 where
  pub conservative : AreConservative ds
  pub proof : Proves ds a
