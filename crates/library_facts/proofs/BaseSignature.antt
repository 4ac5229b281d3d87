-- The signature of the base definitions, written out.
use Rattle.std.specs.Prelude.{[], ◌∷◌, ◌++◌, codes, ◌≡◌, refl}
use Rattle.hol_terms.specs.Ty.{ty_var, ty_app, no_tys, more_tys}
use Rattle.hol_terms.specs.Notation.{◌⇒◌, beta}
use Rattle.hol_terms.specs.Definition.{bool_ty, ind_ty, alpha, start, signature_of}
use Rattle.hol_terms.specs.Signature.{Signature}
use Rattle.hol_terms.specs.Base.{base_definitions, base_11, base_12, base_13, base_14, base_15, base_16, base_17, base_18, base_19, base_20, base_21, base_22, base_23, base_24, base_25, base_26, base_27, base_28, base_29, base_30, base_31, base_32, base_33, base_34, base_35, base_36, base_37, base_38, base_39, base_40, base_41, base_42, base_43, base_44, base_45, base_46, base_47, base_48, base_49, base_50, base_51, base_52}
use Rattle.hol_terms.specs.Logic.{base_1, base_2, base_3, base_4, base_5, base_6, base_7, base_8, base_9, base_10}

unfoldable pub base_signature : Signature
base_signature = record {
  types = start.types ++ (codes "unit", 0) ∷ (codes "prod", 2) ∷ (codes "sum", 2) ∷ (codes "num", 0) ∷ (codes "cset", 1) ∷ [];
  consts = start.consts
      ++ (codes "T", bool_ty)
      ∷ (codes "conj", bool_ty ⇒ bool_ty ⇒ bool_ty)
      ∷ (codes "imp", bool_ty ⇒ bool_ty ⇒ bool_ty)
      ∷ (codes "all", (alpha ⇒ bool_ty) ⇒ bool_ty)
      ∷ (codes "ex", (alpha ⇒ bool_ty) ⇒ bool_ty)
      ∷ (codes "disj", bool_ty ⇒ bool_ty ⇒ bool_ty)
      ∷ (codes "F", bool_ty)
      ∷ (codes "not", bool_ty ⇒ bool_ty)
      ∷ (codes "one_one", (alpha ⇒ beta) ⇒ bool_ty)
      ∷ (codes "onto", (alpha ⇒ beta) ⇒ bool_ty)
      ∷ (codes "id", alpha ⇒ alpha)
      ∷ (codes "if", bool_ty ⇒ alpha ⇒ alpha ⇒ alpha)
      ∷ (codes "unit.abs", bool_ty ⇒ (ty_app (codes "unit") no_tys))
      ∷ (codes "unit.rep", (ty_app (codes "unit") no_tys) ⇒ bool_ty)
      ∷ (codes "one", (ty_app (codes "unit") no_tys))
      ∷ (codes "prod.graph", alpha ⇒ beta ⇒ alpha ⇒ beta ⇒ bool_ty)
      ∷ (codes "prod.abs", (alpha ⇒ beta ⇒ bool_ty) ⇒ (ty_app (codes "prod") (more_tys alpha (more_tys beta no_tys))))
      ∷ (codes "prod.rep", (ty_app (codes "prod") (more_tys alpha (more_tys beta no_tys))) ⇒ alpha ⇒ beta ⇒ bool_ty)
      ∷ (codes "pair", alpha ⇒ beta ⇒ (ty_app (codes "prod") (more_tys alpha (more_tys beta no_tys))))
      ∷ (codes "fst", (ty_app (codes "prod") (more_tys alpha (more_tys beta no_tys))) ⇒ alpha)
      ∷ (codes "snd", (ty_app (codes "prod") (more_tys alpha (more_tys beta no_tys))) ⇒ beta)
      ∷ (codes "prod.map", (alpha ⇒ beta) ⇒ ((ty_var (codes "c")) ⇒ (ty_var (codes "d"))) ⇒ (ty_app (codes "prod") (more_tys alpha (more_tys (ty_var (codes "c")) no_tys))) ⇒ (ty_app (codes "prod") (more_tys beta (more_tys (ty_var (codes "d")) no_tys))))
      ∷ (codes "prod.set1", (ty_app (codes "prod") (more_tys alpha (more_tys beta no_tys))) ⇒ alpha ⇒ bool_ty)
      ∷ (codes "prod.set2", (ty_app (codes "prod") (more_tys alpha (more_tys beta no_tys))) ⇒ beta ⇒ bool_ty)
      ∷ (codes "prod.rel", (alpha ⇒ beta ⇒ bool_ty) ⇒ ((ty_var (codes "c")) ⇒ (ty_var (codes "d")) ⇒ bool_ty) ⇒ (ty_app (codes "prod") (more_tys alpha (more_tys (ty_var (codes "c")) no_tys))) ⇒ (ty_app (codes "prod") (more_tys beta (more_tys (ty_var (codes "d")) no_tys))) ⇒ bool_ty)
      ∷ (codes "sum.left", alpha ⇒ bool_ty ⇒ alpha ⇒ beta ⇒ bool_ty)
      ∷ (codes "sum.right", beta ⇒ bool_ty ⇒ alpha ⇒ beta ⇒ bool_ty)
      ∷ (codes "sum.abs", (bool_ty ⇒ alpha ⇒ beta ⇒ bool_ty) ⇒ (ty_app (codes "sum") (more_tys alpha (more_tys beta no_tys))))
      ∷ (codes "sum.rep", (ty_app (codes "sum") (more_tys alpha (more_tys beta no_tys))) ⇒ bool_ty ⇒ alpha ⇒ beta ⇒ bool_ty)
      ∷ (codes "inl", alpha ⇒ (ty_app (codes "sum") (more_tys alpha (more_tys beta no_tys))))
      ∷ (codes "inr", beta ⇒ (ty_app (codes "sum") (more_tys alpha (more_tys beta no_tys))))
      ∷ (codes "sum.case", (alpha ⇒ beta) ⇒ ((ty_var (codes "c")) ⇒ beta) ⇒ (ty_app (codes "sum") (more_tys alpha (more_tys (ty_var (codes "c")) no_tys))) ⇒ beta)
      ∷ (codes "sum.map", (alpha ⇒ beta) ⇒ ((ty_var (codes "c")) ⇒ (ty_var (codes "d"))) ⇒ (ty_app (codes "sum") (more_tys alpha (more_tys (ty_var (codes "c")) no_tys))) ⇒ (ty_app (codes "sum") (more_tys beta (more_tys (ty_var (codes "d")) no_tys))))
      ∷ (codes "sum.set1", (ty_app (codes "sum") (more_tys alpha (more_tys beta no_tys))) ⇒ alpha ⇒ bool_ty)
      ∷ (codes "sum.set2", (ty_app (codes "sum") (more_tys alpha (more_tys beta no_tys))) ⇒ beta ⇒ bool_ty)
      ∷ (codes "sum.rel", (alpha ⇒ beta ⇒ bool_ty) ⇒ ((ty_var (codes "c")) ⇒ (ty_var (codes "d")) ⇒ bool_ty) ⇒ (ty_app (codes "sum") (more_tys alpha (more_tys (ty_var (codes "c")) no_tys))) ⇒ (ty_app (codes "sum") (more_tys beta (more_tys (ty_var (codes "d")) no_tys))) ⇒ bool_ty)
      ∷ (codes "num.suc_ind", ind_ty ⇒ ind_ty)
      ∷ (codes "num.zero_ind", ind_ty)
      ∷ (codes "num.is", ind_ty ⇒ bool_ty)
      ∷ (codes "num.abs", ind_ty ⇒ (ty_app (codes "num") no_tys))
      ∷ (codes "num.rep", (ty_app (codes "num") no_tys) ⇒ ind_ty)
      ∷ (codes "0", (ty_app (codes "num") no_tys))
      ∷ (codes "suc", (ty_app (codes "num") no_tys) ⇒ (ty_app (codes "num") no_tys))
      ∷ (codes "num.rec", alpha ⇒ ((ty_app (codes "num") no_tys) ⇒ alpha ⇒ alpha) ⇒ (ty_app (codes "num") no_tys) ⇒ alpha)
      ∷ (codes "num.le", (ty_app (codes "num") no_tys) ⇒ (ty_app (codes "num") no_tys) ⇒ bool_ty)
      ∷ (codes "num.dbl", (ty_app (codes "num") no_tys) ⇒ (ty_app (codes "num") no_tys))
      ∷ (codes "num.cons", (ty_app (codes "num") no_tys) ⇒ (ty_app (codes "num") no_tys) ⇒ (ty_app (codes "num") no_tys))
      ∷ (codes "countable", (alpha ⇒ bool_ty) ⇒ bool_ty)
      ∷ (codes "cset.abs", (alpha ⇒ bool_ty) ⇒ (ty_app (codes "cset") (more_tys alpha no_tys)))
      ∷ (codes "cset.rep", (ty_app (codes "cset") (more_tys alpha no_tys)) ⇒ alpha ⇒ bool_ty)
      ∷ (codes "cset.empty", (ty_app (codes "cset") (more_tys alpha no_tys)))
      ∷ (codes "cset.map", (alpha ⇒ beta) ⇒ (ty_app (codes "cset") (more_tys alpha no_tys)) ⇒ (ty_app (codes "cset") (more_tys beta no_tys)))
      ∷ (codes "cset.set1", (ty_app (codes "cset") (more_tys alpha no_tys)) ⇒ alpha ⇒ bool_ty)
      ∷ (codes "cset.rel", (alpha ⇒ beta ⇒ bool_ty) ⇒ (ty_app (codes "cset") (more_tys alpha no_tys)) ⇒ (ty_app (codes "cset") (more_tys beta no_tys)) ⇒ bool_ty)
      ∷ (codes "fun.map", (alpha ⇒ beta) ⇒ ((ty_var (codes "c")) ⇒ alpha) ⇒ (ty_var (codes "c")) ⇒ beta)
      ∷ (codes "fun.set2", (alpha ⇒ beta) ⇒ beta ⇒ bool_ty)
      ∷ (codes "fun.rel", (alpha ⇒ beta ⇒ bool_ty) ⇒ ((ty_var (codes "c")) ⇒ alpha) ⇒ ((ty_var (codes "c")) ⇒ beta) ⇒ bool_ty)
      ∷ [];
}

pub same_signature : base_signature ≡ signature_of base_definitions
unfolding base_signature base_definitions base_1 base_2 base_3 base_4 base_5 base_6 base_7 base_8 base_9 base_10 base_11 base_12 base_13 base_14 base_15 base_16 base_17 base_18 base_19 base_20 base_21 base_22 base_23 base_24 base_25 base_26 base_27 base_28 base_29 base_30 base_31 base_32 base_33 base_34 base_35 base_36 base_37 base_38 base_39 base_40 base_41 base_42 base_43 base_44 base_45 base_46 base_47 base_48 base_49 base_50 base_51 base_52
same_signature = refl
