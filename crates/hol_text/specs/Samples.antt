-- What some texts are.
use Rattle.std.specs.Prelude.{◌≡◌, [], ◌∷◌, ◌++◌, codes}
use Rattle.hol_terms.specs.Ty.{Ty, ty_app, no_tys}
use Rattle.hol_terms.specs.Tm.{Tm, tm_index, tm_free, tm_const, tm_comb, tm_abs}
use Rattle.hol_terms.specs.Typing.{fun_ty}
use Rattle.hol_terms.specs.Definition.{start, bool_ty, ind_ty, eq_ty, alpha}
use Rattle.hol_terms.specs.Signature.{Signature}
use Rattle.hol_terms.specs.Sequent.{eq_tm}
use Rattle.hol_terms.specs.Reading.{reading_of_type, reading_of_term, reads, no_syntax, unknown, ill_typed}

abbrev pub binary : Ty
binary = fun_ty bool_ty (fun_ty bool_ty bool_ty)

-- the start, with T, conj and all
abbrev pub some_sig : Signature
some_sig = record {
  types = start.types;
  consts = start.consts ++ ((codes "T", bool_ty) ∷ (codes "conj", binary) ∷ (codes "all", fun_ty (fun_ty alpha bool_ty) bool_ty) ∷ []);
}

abbrev pub truth : Tm
truth = tm_const (codes "T") [] bool_ty

abbrev pub conj_of : Tm → Tm → Tm
conj_of p q = tm_comb (tm_comb (tm_const (codes "conj") [] binary) p) q

abbrev pub all_of : Ty → Tm → Tm
all_of t b = tm_comb (tm_const (codes "all") (t ∷ []) (fun_ty (fun_ty t bool_ty) bool_ty)) (tm_abs t b)

pub record TypesReadSo : Type 0 where
  pub arrows : reading_of_type some_sig (codes "('a -> bool) -> ind") ≡ reads (fun_ty (fun_ty alpha bool_ty) ind_ty)
  pub fun_is_an_arrow : reading_of_type some_sig (codes "('a, bool) fun") ≡ reads (fun_ty alpha bool_ty)
  pub unknown_name : reading_of_type some_sig (codes "bool foo") ≡ unknown (codes "foo") 5
  pub too_short : reading_of_type some_sig (codes "bool ->") ≡ no_syntax 7

pub record TermsReadSo : Type 0 where
  pub sugar : reading_of_term some_sig (codes "T /\\ (T = T)") ≡ reads (conj_of truth (eq_tm truth truth))
  pub binder : reading_of_term some_sig (codes "!x0:'a. x0 = x0") ≡ reads (all_of alpha (eq_tm (tm_index 0 alpha) (tm_index 0 alpha)))
  pub braces : reading_of_term some_sig (codes "eq{'a} # at 'a") ≡ reads (tm_const (codes "eq") (alpha ∷ []) (eq_ty alpha))
  pub two_variables : reading_of_term some_sig (codes "\\x:bool. [x:bool] = x") ≡ reads (tm_abs bool_ty (eq_tm (tm_free (record { name = codes "x"; ty = bool_ty })) (tm_index 0 bool_ty)))
  pub dotted_binder : reading_of_term some_sig (codes "!a.b:bool. T") ≡ no_syntax 1
  pub unknown_name : reading_of_term some_sig (codes "T T = f T") ≡ unknown (codes "f") 6
  pub no_function : reading_of_term some_sig (codes "T /\\ ((T T) = T)") ≡ ill_typed 7
