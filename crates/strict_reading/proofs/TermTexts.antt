-- Constants and bound variables that are read, and the texts of the terms that they stand in.
use Rattle.std.proofs.Common.{◌≡◌, refl, ap, ◌∙◌, subst, ℕ, zero, suc, ◌+◌, ◌-◌, Bool, true, false, not, List, [], ◌∷◌, ◌++◌, Option, Some, None, length, slice_get, eqb-true, arith}
use Rattle.std.specs.Prelude.{codes, bytes_eq}
use Rattle.std.proofs.lemmas.Bool.{and_parts}
use Rattle.std.proofs.lemmas.Slice.Eq.{bytes_eq-Decides}
use Rattle.hol_terms.specs.Name.{Name}
use Rattle.hol_terms.specs.Ty.{Ty, ty_var, ty_app, Tys, no_tys, more_tys, tys}
use Rattle.hol_terms.specs.Tm.{Tm, tm_index, tm_free, tm_const, tm_comb, tm_abs}
use Rattle.hol_terms.specs.Typing.{tm_type, fun_ty, range_ty}
use Rattle.hol_terms.specs.TyVars.{ty_vars, instance_at, const_at}
use Rattle.hol_terms.specs.Signature.{Signature, tys_count, IsTyOver, AreTysOver, IsConstOver}
use Rattle.hol_terms.specs.Rules.{fits}
use Rattle.hol_terms.specs.Text.{Text, parenthesized, ty_text, bound_text, Sugar, between, before, binding, none, sign_between, sign_binding, sign_before, sugar, is_sugar, is_atom, is_plain, printed, whole_text}
use Rattle.hol_terms.proofs.Checked.{same_ty-is}
use Rattle.strict_reading.specs.Types.{has_arity}
use Rattle.strict_reading.specs.Terms.{is_type_over, are_types_over, binder_by, binder_at, constant}
use Rattle.strict_reading.proofs.Steps.{bind_case, when_case}
use Rattle.strict_reading.proofs.TypesSound.{has_arity-is}

-- ---- types and constants

mutual
  pub is_type_over-is : (s : Signature) (t : Ty) → is_type_over s t ≡ true → IsTyOver s t
  is_type_over-is s (ty_var n) h = h
  is_type_over-is s (ty_app c ts) h = let p = and_parts (has_arity s c (tys_count ts)) (are_types_over s ts) h in (has_arity-is s c (tys_count ts) p.0, are_types_over-are s ts p.1)

  pub are_types_over-are : (s : Signature) (ts : Tys) → are_types_over s ts ≡ true → AreTysOver s ts
  are_types_over-are s no_tys h = tt
  are_types_over-are s (more_tys t ts) h = let p = and_parts (is_type_over s t) (are_types_over s ts) h in (is_type_over-is s t p.0, are_types_over-are s ts p.1)

pub record IsConstant (s : Signature) (c : Name) (args : List Ty) (f : Tm) : Type 0 where
  pub ty : Ty
  pub is : f ≡ tm_const c args ty
  pub over : IsConstOver s c args ty

pub constant_is : (s : Signature) (c : Name) (args : List Ty) (f : Tm) → constant s c args ≡ Some f → IsConstant s c args f
unfolding constant
constant_is s c args f h =
    bind_case _ _ _ h (λ g e k. when_case _ _ _ k (λ m l. when_case _ _ _ l (λ o n. when_case _ _ _ n (λ i q. record {
      ty = instance_at g args;
      is = same f (const_at c g args) q;
      over = record { generic = g; known = e; as_many = eqb-true (length args) (length (ty_vars g [])) m; instance = refl; over = are_types_over-are s (tys args) o; ty_over = is_type_over-is s (instance_at g args) i };
    }))))
  where
    same : (f g : Tm) → Some g ≡ Some f → f ≡ g
    same f g e = cc

pub fits_is : (f x : Tm) → fits f x ≡ true → tm_type f ≡ fun_ty (tm_type x) (range_ty (tm_type f))
fits_is f x h = same_ty-is (tm_type f) (fun_ty (tm_type x) (range_ty (tm_type f))) h

-- ---- bound variables

pub record IsBinder (bound : List Ty) (w : Name) (i : ℕ) (t : Ty) : Type 0 where
  pub at : slice_get bound i ≡ Some t
  pub called : w ≡ bound_text (length bound - (i + 1))

pub binder_is : (bound : List Ty) (w : Name) (b : ℕ × Ty) → binder_at bound w ≡ Some b → IsBinder bound w b.0 b.1
unfolding binder_at
binder_is [] w b h = cc
binder_is (t ∷ ts) w b h = at (bytes_eq w (bound_text (length ts))) refl (binder_at ts w) (binder_is ts w) b h
  where
    first : w ≡ bound_text (length ts) → IsBinder (t ∷ ts) w 0 t
    first e = record { at = refl; called = e ∙ ap bound_text (omega arith) }

    next : (i : ℕ) (u : Ty) → IsBinder ts w i u → IsBinder (t ∷ ts) w (suc i) u
    next i u b = record { at = b.at; called = b.called ∙ ap bound_text (omega arith) }

    from : (b c : ℕ × Ty) → Some c ≡ Some b → IsBinder (t ∷ ts) w c.0 c.1 → IsBinder (t ∷ ts) w b.0 b.1
    from b c e h = let P : ℕ × Ty → Type 0 = λ b. IsBinder (t ∷ ts) w b.0 b.1 in let f : c ≡ b = cc in subst P f h

    at : (e : Bool) → bytes_eq w (bound_text (length ts)) ≡ e → (o : Option (ℕ × Ty)) → ((b : ℕ × Ty) → o ≡ Some b → IsBinder ts w b.0 b.1) → (b : ℕ × Ty) → binder_by e t o ≡ Some b → IsBinder (t ∷ ts) w b.0 b.1
    at true e o k b h = from b (0, t) h (first ((bytes_eq-Decides w (bound_text (length ts))).0 e))
    at false e None k b h = cc
    at false e (Some c) k b h = from b (suc c.0, c.1) h (next c.0 c.1 (k c refl))

pub bound_over : (s : Signature) (bound : List Ty) (i : ℕ) (t : Ty) → AreTysOver s (tys bound) → slice_get bound i ≡ Some t → IsTyOver s t
bound_over s [] i t o e = cc
bound_over s (u ∷ bound) zero t o e = let f : u ≡ t = cc in subst (IsTyOver s) f o.0
bound_over s (u ∷ bound) (suc i) t o e = bound_over s bound i t o.1 e

-- ---- texts of terms

-- the text of a term as an operand, and as an argument
abbrev pub operand_text : ℕ → Tm → Text
operand_text d t = parenthesized (not (is_plain t)) (printed d t).whole

abbrev pub argument_text : ℕ → Tm → Text
argument_text d t = parenthesized (not (is_atom t)) (printed d t).whole

-- behind the sign of a binder
abbrev pub scope_text : ℕ → Ty → Tm → Text
scope_text d t b = bound_text d ++ codes ":" ++ ty_text t ++ codes ". " ++ (printed (d + 1) b).whole

pub none_is : (u : Sugar) → is_sugar u ≡ false → u ≡ none
none_is (between x) h = cc
none_is before h = cc
none_is (binding x) h = cc
none_is none h = refl

pub applied_text : (d : ℕ) (f x : Tm) → is_sugar (sugar f x) ≡ false → operand_text d (tm_comb f x) ≡ operand_text d f ++ codes " " ++ argument_text d x
applied_text d f x h = ap (λ u. parenthesized (not (not (is_sugar u))) (whole_text u f x (printed d f) (printed d x))) (none_is (sugar f x) h)

pub connected_text : (d : ℕ) (c : Name) (args : List Ty) (ty : Ty) (a b : Tm) (sign : Text) → sign_between c ≡ between sign → (printed d (tm_comb (tm_comb (tm_const c args ty) a) b)).whole ≡ operand_text d a ++ sign ++ operand_text d b
connected_text d c args ty a b sign e = ap (λ u. whole_text u (tm_comb (tm_const c args ty) a) b (printed d (tm_comb (tm_const c args ty) a)) (printed d b)) e

pub negated_text : (d : ℕ) (args : List Ty) (ty : Ty) (a : Tm) → (printed d (tm_comb (tm_const (codes "not") args ty) a)).whole ≡ codes "~ " ++ operand_text d a
negated_text d args ty (tm_index i t) = refl
negated_text d args ty (tm_free v) = refl
negated_text d args ty (tm_const c ts t) = refl
negated_text d args ty (tm_comb f x) = refl
negated_text d args ty (tm_abs t b) = refl

pub quantified_text : (d : ℕ) (c : Name) (args : List Ty) (ty t : Ty) (b : Tm) (sign : Text) → sign_before c (sign_binding c) ≡ binding sign → (printed d (tm_comb (tm_const c args ty) (tm_abs t b))).whole ≡ sign ++ scope_text d t b
quantified_text d c args ty t b sign e = ap (λ u. whole_text u (tm_const c args ty) (tm_abs t b) (printed d (tm_const c args ty)) (printed d (tm_abs t b))) e

pub plain_operand : (d : ℕ) (t : Tm) → is_plain t ≡ true → operand_text d t ≡ (printed d t).whole
plain_operand d t e = ap (λ b. parenthesized (not b) (printed d t).whole) e
