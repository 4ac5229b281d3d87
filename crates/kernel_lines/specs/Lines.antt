-- What the lines of a table make.
use Rattle.std.specs.Prelude.{ℕ, List, [], ◌∷◌, ◌++◌, Option, Some, None, slice_get}
use Rattle.std.specs.Borrow.{Bor}
use Rattle.hol_terms.specs.Name.{Name}
use Rattle.hol_terms.specs.Ty.{Ty}
use Rattle.hol_terms.specs.Tm.{Tm, tm_free, tm_comb, FreeVar}
use Rattle.hol_terms.specs.Typing.{tm_type, fun_ty}
use Rattle.hol_terms.specs.Subst.{TySubst}
use Rattle.hol_terms.specs.Binding.{VarSubst}
use Rattle.hol_terms.specs.Definition.{bool_ty, alpha}
use Rattle.hol_terms.specs.Sequent.{Sequent, left_of, argument}
use Rattle.hol_terms.specs.Rules.{if_so, fits, lambda, is_equation, is_variable, variable, refl_rule, trans_rule, comb_rule, abs_rule, beta_rule, assume_rule, eq_mp_rule, deduct_rule, inst_type_rule, inst_rule}
use Rattle.kernel_lines.specs.Names.{connective, generic_at, letter_name}
use Rattle.kernel_lines.specs.Bases.{base_of, said}
use Rattle.kernel_lines.specs.declared.line.Shape.{Shape}
use Rattle.kernel_lines.specs.declared.line.Shape.TheVariants.{Boolean, Alpha, Of, Fun}
use Rattle.kernel_lines.specs.declared.line.Make.{Make}
use Rattle.kernel_lines.specs.declared.line.Make.TheVariants.{Const, At, Var, App, Lambda, Left, Right}
use Rattle.kernel_lines.specs.declared.line.Infer.{Infer}
use Rattle.kernel_lines.specs.declared.line.Infer.TheVariants.{Refl, Assume, Beta, Trans, Comb, EqMp, Deduct, Abs, InstType, Inst, Definition}
use Rattle.kernel_lines.specs.declared.line.Line.{Line}
use Rattle.kernel_lines.specs.declared.line.Line.TheVariants.{Term, Thm}

abbrev pub on : {A B : Type 0} → Option A → (A → Option B) → Option B
on None k = None
on (Some a) k = k a

abbrev pub shape_made : List Tm → Shape → Option Ty
shape_made ts Boolean = Some bool_ty
shape_made ts Alpha = Some alpha
shape_made ts (Of i) = on (slice_get ts i) (λ t. Some (tm_type t))
shape_made ts (Fun i j) = on (slice_get ts i) (λ s. on (slice_get ts j) (λ t. Some (fun_ty (tm_type s) (tm_type t))))

-- the term at a place, which is a free variable
abbrev pub var_at : List Tm → ℕ → Option FreeVar
var_at ts i = on (slice_get ts i) (λ t. if_so (is_variable t) (variable t))

abbrev pub left_side : Sequent → Option Tm
left_side a = if_so (is_equation a.concl) (left_of a.concl)

abbrev pub right_side : Sequent → Option Tm
right_side a = if_so (is_equation a.concl) (argument a.concl)

-- the term that a line makes from the terms ts and the theorems hs
abbrev pub term_made : List Tm → List Sequent → Make → Option Tm
term_made ts hs (Const c) = Some (connective c)
term_made ts hs (At g i) = on (slice_get ts i) (λ t. Some (generic_at g (tm_type t)))
term_made ts hs (Var l s) = on (shape_made ts s) (λ a. Some (tm_free (record { name = letter_name l; ty = a })))
term_made ts hs (App i j) = on (slice_get ts i) (λ f. on (slice_get ts j) (λ x. if_so (fits f x) (tm_comb f x)))
term_made ts hs (Lambda i j) = on (var_at ts i) (λ v. on (slice_get ts j) (λ b. Some (lambda v b)))
term_made ts hs (Left i) = on (slice_get hs i) left_side
term_made ts hs (Right i) = on (slice_get hs i) right_side

-- the pairs of names and types, after those found
abbrev pub types_put : List Tm → TySubst → List (Bor Name × ℕ) → Option TySubst
types_put ts found [] = Some found
types_put ts found (p ∷ ps) = on (slice_get ts p.1) (λ t. types_put ts (found ++ (p.0.now, tm_type t) ∷ []) ps)

-- the pairs of variables and terms, after those found
abbrev pub terms_put : List Tm → VarSubst → List (ℕ × ℕ) → Option VarSubst
terms_put ts found [] = Some found
terms_put ts found (p ∷ ps) = on (var_at ts p.0) (λ v. on (slice_get ts p.1) (λ t. terms_put ts (found ++ (v, t) ∷ []) ps))

-- the sequent that a line makes
abbrev pub inferred : List Tm → List Sequent → Infer → Option Sequent
inferred ts hs (Refl i) = on (slice_get ts i) refl_rule
inferred ts hs (Assume i) = on (slice_get ts i) assume_rule
inferred ts hs (Beta i) = on (slice_get ts i) beta_rule
inferred ts hs (Trans i j) = on (slice_get hs i) (λ a. on (slice_get hs j) (λ b. trans_rule a b))
inferred ts hs (Comb i j) = on (slice_get hs i) (λ a. on (slice_get hs j) (λ b. comb_rule a b))
inferred ts hs (EqMp i j) = on (slice_get hs i) (λ a. on (slice_get hs j) (λ b. eq_mp_rule a b))
inferred ts hs (Deduct i j) = on (slice_get hs i) (λ a. on (slice_get hs j) (λ b. deduct_rule a b))
inferred ts hs (Abs i j) = on (var_at ts i) (λ v. on (slice_get hs j) (λ a. abs_rule v a))
inferred ts hs (InstType i ps) = on (slice_get hs i) (λ a. on (types_put ts [] ps.now) (λ s. inst_type_rule s a))
inferred ts hs (Inst i ps) = on (slice_get hs i) (λ a. on (terms_put ts [] ps.now) (λ s. inst_rule s a))
inferred ts hs (Definition d) = said (base_of d)

abbrev pub last : List Sequent → Option Sequent
last [] = None
last (a ∷ []) = Some a
last (a ∷ b ∷ bs) = last (b ∷ bs)

-- the last sequent of all, after the terms ts and the theorems hs
abbrev pub run : List Tm → List Sequent → List Line → Option Sequent
run ts hs [] = last hs
run ts hs (Term m ∷ ls) = on (term_made ts hs m) (λ t. run (ts ++ t ∷ []) hs ls)
run ts hs (Thm i ∷ ls) = on (inferred ts hs i) (λ a. run ts (hs ++ a ∷ []) ls)
