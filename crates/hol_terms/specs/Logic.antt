-- The connectives and quantifiers (HOL Light's definitions of them): the first ten base definitions, each constant at its type
-- arguments, and the three axioms. Above each stands its line in canonical text.
use Rattle.std.specs.Prelude.{List, [], ◌∷◌, codes}
use Rattle.hol_terms.specs.Ty.{Ty}
use Rattle.hol_terms.specs.Tm.{Tm, tm_const}
use Rattle.hol_terms.specs.Notation.{◌⇒◌, ◌·◌, ix, lam, beta}
use Rattle.hol_terms.specs.Definition.{Definition, const_def, bool_ty, ind_ty, alpha}
use Rattle.hol_terms.specs.Sequent.{Sequent, seq}

abbrev pub const_eq : Ty → Tm
const_eq a = tm_const (codes "eq") (a ∷ []) (a ⇒ a ⇒ bool_ty)

abbrev pub const_some : Ty → Tm
const_some a = tm_const (codes "some") (a ∷ []) ((a ⇒ bool_ty) ⇒ a)

-- def T : bool = (\x0:bool. x0) = (\x0:bool. x0)
unfoldable pub base_1 : Definition
base_1 = const_def (codes "T") ((const_eq (bool_ty ⇒ bool_ty)) · (lam bool_ty (ix 0 bool_ty)) · (lam bool_ty (ix 0 bool_ty)))

abbrev pub const_T : Tm
const_T = tm_const (codes "T") ([]) (bool_ty)

-- def conj : bool -> bool -> bool = \x0:bool. \x1:bool. (\x2:bool -> bool -> bool. x2 x0 x1) = (\x2:bool -> bool -> bool. x2 T T)
unfoldable pub base_2 : Definition
base_2 = const_def (codes "conj") (lam bool_ty (lam bool_ty ((const_eq ((bool_ty ⇒ bool_ty ⇒ bool_ty) ⇒ bool_ty)) · (lam (bool_ty ⇒ bool_ty ⇒ bool_ty) ((ix 0 (bool_ty ⇒ bool_ty ⇒ bool_ty)) · (ix 2 bool_ty) · (ix 1 bool_ty))) · (lam (bool_ty ⇒ bool_ty ⇒ bool_ty) ((ix 0 (bool_ty ⇒ bool_ty ⇒ bool_ty)) · const_T · const_T)))))

abbrev pub const_conj : Tm
const_conj = tm_const (codes "conj") ([]) (bool_ty ⇒ bool_ty ⇒ bool_ty)

-- def imp : bool -> bool -> bool = \x0:bool. \x1:bool. (x0 /\ x1) = x0
unfoldable pub base_3 : Definition
base_3 = const_def (codes "imp") (lam bool_ty (lam bool_ty ((const_eq bool_ty) · (const_conj · (ix 1 bool_ty) · (ix 0 bool_ty)) · (ix 1 bool_ty))))

abbrev pub const_imp : Tm
const_imp = tm_const (codes "imp") ([]) (bool_ty ⇒ bool_ty ⇒ bool_ty)

-- def all : ('a -> bool) -> bool = \x0:'a -> bool. x0 = (\x1:'a. T)
unfoldable pub base_4 : Definition
base_4 = const_def (codes "all") (lam (alpha ⇒ bool_ty) ((const_eq (alpha ⇒ bool_ty)) · (ix 0 (alpha ⇒ bool_ty)) · (lam alpha (const_T))))

abbrev pub const_all : Ty → Tm
const_all a = tm_const (codes "all") (a ∷ []) ((a ⇒ bool_ty) ⇒ bool_ty)

-- def ex : ('a -> bool) -> bool = \x0:'a -> bool. !x1:bool. (!x2:'a. x0 x2 ==> x1) ==> x1
unfoldable pub base_5 : Definition
base_5 = const_def (codes "ex") (lam (alpha ⇒ bool_ty) ((const_all bool_ty) · (lam bool_ty (const_imp · ((const_all alpha) · (lam alpha (const_imp · ((ix 2 (alpha ⇒ bool_ty)) · (ix 0 alpha)) · (ix 1 bool_ty)))) · (ix 0 bool_ty)))))

abbrev pub const_ex : Ty → Tm
const_ex a = tm_const (codes "ex") (a ∷ []) ((a ⇒ bool_ty) ⇒ bool_ty)

-- def disj : bool -> bool -> bool = \x0:bool. \x1:bool. !x2:bool. (x0 ==> x2) ==> ((x1 ==> x2) ==> x2)
unfoldable pub base_6 : Definition
base_6 = const_def (codes "disj") (lam bool_ty (lam bool_ty ((const_all bool_ty) · (lam bool_ty (const_imp · (const_imp · (ix 2 bool_ty) · (ix 0 bool_ty)) · (const_imp · (const_imp · (ix 1 bool_ty) · (ix 0 bool_ty)) · (ix 0 bool_ty)))))))

abbrev pub const_disj : Tm
const_disj = tm_const (codes "disj") ([]) (bool_ty ⇒ bool_ty ⇒ bool_ty)

-- def F : bool = !x0:bool. x0
unfoldable pub base_7 : Definition
base_7 = const_def (codes "F") ((const_all bool_ty) · (lam bool_ty (ix 0 bool_ty)))

abbrev pub const_F : Tm
const_F = tm_const (codes "F") ([]) (bool_ty)

-- def not : bool -> bool = \x0:bool. x0 ==> F
unfoldable pub base_8 : Definition
base_8 = const_def (codes "not") (lam bool_ty (const_imp · (ix 0 bool_ty) · const_F))

abbrev pub const_not : Tm
const_not = tm_const (codes "not") ([]) (bool_ty ⇒ bool_ty)

-- def one_one : ('a -> 'b) -> bool = \x0:'a -> 'b. !x1:'a. !x2:'a. (x0 x1 = x0 x2) ==> (x1 = x2)
unfoldable pub base_9 : Definition
base_9 = const_def (codes "one_one") (lam (alpha ⇒ beta) ((const_all alpha) · (lam alpha ((const_all alpha) · (lam alpha (const_imp · ((const_eq beta) · ((ix 2 (alpha ⇒ beta)) · (ix 1 alpha)) · ((ix 2 (alpha ⇒ beta)) · (ix 0 alpha))) · ((const_eq alpha) · (ix 1 alpha) · (ix 0 alpha))))))))

abbrev pub const_one_one : Ty → Ty → Tm
const_one_one a b = tm_const (codes "one_one") (a ∷ b ∷ []) ((a ⇒ b) ⇒ bool_ty)

-- def onto : ('a -> 'b) -> bool = \x0:'a -> 'b. !x1:'b. ?x2:'a. x1 = x0 x2
unfoldable pub base_10 : Definition
base_10 = const_def (codes "onto") (lam (alpha ⇒ beta) ((const_all beta) · (lam beta ((const_ex alpha) · (lam alpha ((const_eq beta) · (ix 1 beta) · ((ix 2 (alpha ⇒ beta)) · (ix 0 alpha))))))))

abbrev pub const_onto : Ty → Ty → Tm
const_onto a b = tm_const (codes "onto") (a ∷ b ∷ []) ((a ⇒ b) ⇒ bool_ty)

-- ETA_AX: a function is what it does
-- !x0:'a -> 'b. (\x1:'a. x0 x1) = x0
abbrev pub axiom_1 : Tm
axiom_1 = (const_all (alpha ⇒ beta)) · (lam (alpha ⇒ beta) ((const_eq (alpha ⇒ beta)) · (lam alpha ((ix 1 (alpha ⇒ beta)) · (ix 0 alpha))) · (ix 0 (alpha ⇒ beta))))

-- SELECT_AX: what holds of something holds of the chosen one
-- !x0:'a -> bool. !x1:'a. x0 x1 ==> x0 (some{'a} x0)
abbrev pub axiom_2 : Tm
axiom_2 = (const_all (alpha ⇒ bool_ty)) · (lam (alpha ⇒ bool_ty) ((const_all alpha) · (lam alpha (const_imp · ((ix 1 (alpha ⇒ bool_ty)) · (ix 0 alpha)) · ((ix 1 (alpha ⇒ bool_ty)) · ((const_some alpha) · (ix 1 (alpha ⇒ bool_ty))))))))

-- INFINITY_AX: some function of ind is one to one and not onto
-- ?x0:ind -> ind. one_one{ind,ind} x0 /\ (~ onto{ind,ind} x0)
abbrev pub axiom_3 : Tm
axiom_3 = (const_ex (ind_ty ⇒ ind_ty)) · (lam (ind_ty ⇒ ind_ty) (const_conj · ((const_one_one ind_ty ind_ty) · (ix 0 (ind_ty ⇒ ind_ty))) · (const_not · ((const_onto ind_ty ind_ty) · (ix 0 (ind_ty ⇒ ind_ty))))))

abbrev pub axioms : List Sequent
axioms = seq [] axiom_1 ∷ seq [] axiom_2 ∷ seq [] axiom_3 ∷ []
