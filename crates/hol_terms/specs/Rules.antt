-- HOL Light's ten rules, each one partial function: its condition, and the sequent that it gives.
use Rattle.std.specs.Prelude.{Bool, true, false, List, [], ◌∷◌, Option, Some, None, map, bytes_eq}
use Rattle.std.specs.List.{list_any}
use Rattle.std.specs.Ordering.{is_eq}
use Rattle.hol_terms.specs.Ty.{Ty, ty_var}
use Rattle.hol_terms.specs.Tm.{Tm, tm_free, tm_comb, tm_abs, FreeVar}
use Rattle.hol_terms.specs.Typing.{tm_type, fun_ty, range_ty}
use Rattle.hol_terms.specs.Subst.{TySubst, ty_cmp}
use Rattle.hol_terms.specs.Opening.{body_of}
use Rattle.hol_terms.specs.Binding.{tm_cmp, tm_inst, tm_bind, tm_open, tm_ty_subst, has_free, var_eq, VarSubst}
use Rattle.hol_terms.specs.Sequent.{Sequent, seq, eq_tm, left_of, argument, union}
use Rattle.hol_terms.specs.Definition.{bool_ty}

unfoldable pub same : Tm → Tm → Bool
same s t = is_eq (tm_cmp s t)

unfoldable pub same_ty : Ty → Ty → Bool
same_ty t u = is_eq (ty_cmp t u)

abbrev pub both : Bool → Bool → Bool
both true b = b
both false b = false

abbrev pub no : Bool → Bool
no true = false
no false = true

-- the value, on a condition
abbrev pub if_so : {A : Type 0} → Bool → A → Option A
if_so true x = Some x
if_so false x = None

abbrev pub is_equation : Tm → Bool
is_equation p = same p (eq_tm (left_of p) (argument p))

-- the function takes the argument
abbrev pub fits : Tm → Tm → Bool
fits f x = same_ty (tm_type f) (fun_ty (tm_type x) (range_ty (tm_type f)))

abbrev pub keep_if : Bool → Tm → List Tm → List Tm
keep_if true h hs = hs
keep_if false h hs = h ∷ hs

-- the hypotheses but for t
abbrev pub without : Tm → List Tm → List Tm
without t [] = []
without t (h ∷ hs) = keep_if (same t h) h (without t hs)

-- REFL: `|- t = t`
abbrev pub refl_rule : Tm → Option Sequent
refl_rule t = Some (seq [] (eq_tm t t))

-- TRANS: `A |- s = t` and `B |- t = u` give `A, B |- s = u`
abbrev pub trans_rule : Sequent → Sequent → Option Sequent
trans_rule a b = if_so (both (is_equation a.concl) (both (is_equation b.concl) (same (argument a.concl) (left_of b.concl))))
    (seq (union a.hyps b.hyps) (eq_tm (left_of a.concl) (argument b.concl)))

-- MK_COMB: `A |- f = g` and `B |- x = y` give `A, B |- f x = g y`, where f takes x
abbrev pub comb_rule : Sequent → Sequent → Option Sequent
comb_rule a b = if_so (both (is_equation a.concl) (both (is_equation b.concl) (fits (left_of a.concl) (left_of b.concl))))
    (seq (union a.hyps b.hyps) (eq_tm (tm_comb (left_of a.concl) (left_of b.concl)) (tm_comb (argument a.concl) (argument b.concl))))

abbrev pub lambda : FreeVar → Tm → Tm
lambda v t = tm_abs v.ty (tm_bind 0 v t)

-- the variable is free in no hypothesis
abbrev pub free_in_none : FreeVar → List Tm → Bool
free_in_none v [] = true
free_in_none v (h ∷ hs) = both (no (has_free v h)) (free_in_none v hs)

-- ABS: `A |- s = t` gives `A |- (\v. s) = (\v. t)`, where v is free in no hypothesis
abbrev pub abs_rule : FreeVar → Sequent → Option Sequent
abs_rule v a = if_so (both (is_equation a.concl) (free_in_none v a.hyps)) (seq a.hyps (eq_tm (lambda v (left_of a.concl)) (lambda v (argument a.concl))))

-- the parts of an application of an abstraction to a variable
abbrev pub function : Tm → Tm
function (tm_comb f x) = f
function t = t

abbrev pub is_abstraction : Tm → Bool
is_abstraction (tm_abs t b) = true
is_abstraction t = false

abbrev pub is_variable : Tm → Bool
is_variable (tm_free v) = true
is_variable t = false

abbrev pub variable : Tm → FreeVar
variable (tm_free v) = v
variable t = record { name = []; ty = ty_var [] }

-- BETA: `|- (\x. b) v = b` with v for x, where v isn't free in `\x. b`
abbrev pub beta_rule : Tm → Option Sequent
beta_rule t = if_so (both (is_abstraction (function t)) (both (is_variable (argument t)) (no (has_free (variable (argument t)) (function t)))))
    (seq [] (eq_tm t (tm_open 0 (variable (argument t)) (body_of (function t)))))

-- ASSUME: `p |- p`, where p is boolean
abbrev pub assume_rule : Tm → Option Sequent
assume_rule p = if_so (same_ty (tm_type p) bool_ty) (seq (p ∷ []) p)

-- EQ_MP: `A |- p = q` and `B |- p` give `A, B |- q`
abbrev pub eq_mp_rule : Sequent → Sequent → Option Sequent
eq_mp_rule a b = if_so (both (is_equation a.concl) (same (left_of a.concl) b.concl)) (seq (union a.hyps b.hyps) (argument a.concl))

-- DEDUCT_ANTISYM_RULE: `A |- p` and `B |- q` give `(A without q), (B without p) |- p = q`
abbrev pub deduct_rule : Sequent → Sequent → Option Sequent
deduct_rule a b = Some (seq (union (without b.concl a.hyps) (without a.concl b.hyps)) (eq_tm a.concl b.concl))

abbrev pub some_pair : {A : Type 0} → List A → Bool
some_pair [] = false
some_pair (p ∷ s) = true

-- left sides are distinct
abbrev pub are_distinct_types : TySubst → Bool
are_distinct_types [] = true
are_distinct_types (p ∷ s) = both (no (list_any (λ q. bytes_eq p.0 q.0) s)) (are_distinct_types s)

abbrev pub are_distinct_vars : VarSubst → Bool
are_distinct_vars [] = true
are_distinct_vars (p ∷ s) = both (no (list_any (λ q. var_eq p.0 q.0) s)) (are_distinct_vars s)

-- each variable goes to a term of its type
abbrev pub keeps_types : VarSubst → Bool
keeps_types [] = true
keeps_types (p ∷ s) = both (same_ty (tm_type p.1) p.0.ty) (keeps_types s)

-- INST_TYPE: the sequent with types for type variables, all at once
abbrev pub inst_type_rule : TySubst → Sequent → Option Sequent
inst_type_rule s a = if_so (both (some_pair s) (are_distinct_types s)) (seq (union (map (tm_ty_subst s) a.hyps) []) (tm_ty_subst s a.concl))

-- INST: the sequent with terms for free variables, all at once
abbrev pub inst_rule : VarSubst → Sequent → Option Sequent
inst_rule s a = if_so (both (some_pair s) (both (are_distinct_vars s) (keeps_types s))) (seq (union (map (tm_inst s) a.hyps) []) (tm_inst s a.concl))
