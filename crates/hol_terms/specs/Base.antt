-- The base definitions from the eleventh on, in order. Above each stands its line in canonical text.
use Rattle.std.specs.Prelude.{ℕ, List, [], ◌∷◌, take, codes}
use Rattle.hol_terms.specs.Ty.{Ty, ty_app, tys}
use Rattle.hol_terms.specs.Tm.{Tm, tm_const}
use Rattle.hol_terms.specs.Notation.{◌⇒◌, ◌·◌, ix, lam, beta, gamma, delta}
use Rattle.hol_terms.specs.Definition.{Definition, const_def, type_def, bool_ty, ind_ty, alpha}
use Rattle.hol_terms.specs.Logic.{const_eq, const_some, const_T, const_F, const_conj, const_disj, const_imp, const_not, const_all, const_ex, const_one_one, const_onto, base_1, base_2, base_3, base_4, base_5, base_6, base_7, base_8, base_9, base_10}

-- def id : 'a -> 'a = \x0:'a. x0
unfoldable pub base_11 : Definition
base_11 = const_def (codes "id") (lam alpha (ix 0 alpha))

abbrev pub const_id : Ty → Tm
const_id a = tm_const (codes "id") (a ∷ []) (a ⇒ a)

-- def if : bool -> 'a -> 'a -> 'a = \x0:bool. \x1:'a. \x2:'a. some{'a} (\x3:'a. ((x0 = T) ==> (x3 = x1)) /\ ((x0 = F) ==> (x3 = x2)))
unfoldable pub base_12 : Definition
base_12 = const_def (codes "if") (lam bool_ty (lam alpha (lam alpha ((const_some alpha) · (lam alpha (const_conj · (const_imp · ((const_eq bool_ty) · (ix 3 bool_ty) · const_T) · ((const_eq alpha) · (ix 0 alpha) · (ix 2 alpha))) · (const_imp · ((const_eq bool_ty) · (ix 3 bool_ty) · const_F) · ((const_eq alpha) · (ix 0 alpha) · (ix 1 alpha)))))))))

abbrev pub const_if : Ty → Tm
const_if a = tm_const (codes "if") (a ∷ []) (bool_ty ⇒ a ⇒ a ⇒ a)

abbrev pub unit_ty : Ty
unit_ty = ty_app (codes "unit") (tys ([]))

-- type unit = \x0:bool. x0
unfoldable pub base_13 : Definition
base_13 = type_def (codes "unit") (lam bool_ty (ix 0 bool_ty))

abbrev pub const_unit_abs : Tm
const_unit_abs = tm_const (codes "unit.abs") ([]) (bool_ty ⇒ unit_ty)

abbrev pub const_unit_rep : Tm
const_unit_rep = tm_const (codes "unit.rep") ([]) (unit_ty ⇒ bool_ty)

-- def one : unit = some{unit} (\x0:unit. T)
unfoldable pub base_14 : Definition
base_14 = const_def (codes "one") ((const_some unit_ty) · (lam unit_ty (const_T)))

abbrev pub const_one : Tm
const_one = tm_const (codes "one") ([]) (unit_ty)

-- def prod.graph : 'a -> 'b -> 'a -> 'b -> bool = \x0:'a. \x1:'b. \x2:'a. \x3:'b. (x2 = x0) /\ (x3 = x1)
unfoldable pub base_15 : Definition
base_15 = const_def (codes "prod.graph") (lam alpha (lam beta (lam alpha (lam beta (const_conj · ((const_eq alpha) · (ix 1 alpha) · (ix 3 alpha)) · ((const_eq beta) · (ix 0 beta) · (ix 2 beta)))))))

abbrev pub const_prod_graph : Ty → Ty → Tm
const_prod_graph a b = tm_const (codes "prod.graph") (a ∷ b ∷ []) (a ⇒ b ⇒ a ⇒ b ⇒ bool_ty)

abbrev pub prod_ty : Ty → Ty → Ty
prod_ty a b = ty_app (codes "prod") (tys (a ∷ b ∷ []))

-- type ('a,'b) prod = \x0:'a -> 'b -> bool. ?x1:'a. ?x2:'b. x0 = prod.graph{'a,'b} x1 x2
unfoldable pub base_16 : Definition
base_16 = type_def (codes "prod") (lam (alpha ⇒ beta ⇒ bool_ty) ((const_ex alpha) · (lam alpha ((const_ex beta) · (lam beta ((const_eq (alpha ⇒ beta ⇒ bool_ty)) · (ix 2 (alpha ⇒ beta ⇒ bool_ty)) · ((const_prod_graph alpha beta) · (ix 1 alpha) · (ix 0 beta))))))))

abbrev pub const_prod_abs : Ty → Ty → Tm
const_prod_abs a b = tm_const (codes "prod.abs") (a ∷ b ∷ []) ((a ⇒ b ⇒ bool_ty) ⇒ prod_ty a b)

abbrev pub const_prod_rep : Ty → Ty → Tm
const_prod_rep a b = tm_const (codes "prod.rep") (a ∷ b ∷ []) ((prod_ty a b) ⇒ a ⇒ b ⇒ bool_ty)

-- def pair : 'a -> 'b -> ('a,'b) prod = \x0:'a. \x1:'b. prod.abs{'a,'b} (prod.graph{'a,'b} x0 x1)
unfoldable pub base_17 : Definition
base_17 = const_def (codes "pair") (lam alpha (lam beta ((const_prod_abs alpha beta) · ((const_prod_graph alpha beta) · (ix 1 alpha) · (ix 0 beta)))))

abbrev pub const_pair : Ty → Ty → Tm
const_pair a b = tm_const (codes "pair") (a ∷ b ∷ []) (a ⇒ b ⇒ prod_ty a b)

-- def fst : ('a,'b) prod -> 'a = \x0:('a,'b) prod. some{'a} (\x1:'a. ?x2:'b. x0 = pair{'a,'b} x1 x2)
unfoldable pub base_18 : Definition
base_18 = const_def (codes "fst") (lam (prod_ty alpha beta) ((const_some alpha) · (lam alpha ((const_ex beta) · (lam beta ((const_eq (prod_ty alpha beta)) · (ix 2 (prod_ty alpha beta)) · ((const_pair alpha beta) · (ix 1 alpha) · (ix 0 beta))))))))

abbrev pub const_fst : Ty → Ty → Tm
const_fst a b = tm_const (codes "fst") (a ∷ b ∷ []) ((prod_ty a b) ⇒ a)

-- def snd : ('a,'b) prod -> 'b = \x0:('a,'b) prod. some{'b} (\x1:'b. ?x2:'a. x0 = pair{'a,'b} x2 x1)
unfoldable pub base_19 : Definition
base_19 = const_def (codes "snd") (lam (prod_ty alpha beta) ((const_some beta) · (lam beta ((const_ex alpha) · (lam alpha ((const_eq (prod_ty alpha beta)) · (ix 2 (prod_ty alpha beta)) · ((const_pair alpha beta) · (ix 0 alpha) · (ix 1 beta))))))))

abbrev pub const_snd : Ty → Ty → Tm
const_snd a b = tm_const (codes "snd") (a ∷ b ∷ []) ((prod_ty a b) ⇒ b)

-- def prod.map : ('a -> 'b) -> ('c -> 'd) -> ('a,'c) prod -> ('b,'d) prod = \x0:'a -> 'b. \x1:'c -> 'd. \x2:('a,'c) prod. pair{'b,'d} (x0 (fst{'a,'c} x2)) (x1 (snd{'a,'c} x2))
unfoldable pub base_20 : Definition
base_20 = const_def (codes "prod.map") (lam (alpha ⇒ beta) (lam (gamma ⇒ delta) (lam (prod_ty alpha gamma) ((const_pair beta delta) · ((ix 2 (alpha ⇒ beta)) · ((const_fst alpha gamma) · (ix 0 (prod_ty alpha gamma)))) · ((ix 1 (gamma ⇒ delta)) · ((const_snd alpha gamma) · (ix 0 (prod_ty alpha gamma))))))))

abbrev pub const_prod_map : Ty → Ty → Ty → Ty → Tm
const_prod_map a b c d = tm_const (codes "prod.map") (a ∷ b ∷ c ∷ d ∷ []) ((a ⇒ b) ⇒ (c ⇒ d) ⇒ (prod_ty a c) ⇒ prod_ty b d)

-- def prod.set1 : ('a,'b) prod -> 'a -> bool = \x0:('a,'b) prod. \x1:'a. x1 = fst{'a,'b} x0
unfoldable pub base_21 : Definition
base_21 = const_def (codes "prod.set1") (lam (prod_ty alpha beta) (lam alpha ((const_eq alpha) · (ix 0 alpha) · ((const_fst alpha beta) · (ix 1 (prod_ty alpha beta))))))

abbrev pub const_prod_set1 : Ty → Ty → Tm
const_prod_set1 a b = tm_const (codes "prod.set1") (a ∷ b ∷ []) ((prod_ty a b) ⇒ a ⇒ bool_ty)

-- def prod.set2 : ('a,'b) prod -> 'b -> bool = \x0:('a,'b) prod. \x1:'b. x1 = snd{'a,'b} x0
unfoldable pub base_22 : Definition
base_22 = const_def (codes "prod.set2") (lam (prod_ty alpha beta) (lam beta ((const_eq beta) · (ix 0 beta) · ((const_snd alpha beta) · (ix 1 (prod_ty alpha beta))))))

abbrev pub const_prod_set2 : Ty → Ty → Tm
const_prod_set2 a b = tm_const (codes "prod.set2") (a ∷ b ∷ []) ((prod_ty a b) ⇒ b ⇒ bool_ty)

-- def prod.rel : ('a -> 'b -> bool) -> ('c -> 'd -> bool) -> ('a,'c) prod -> ('b,'d) prod -> bool = \x0:'a -> 'b -> bool. \x1:'c -> 'd -> bool. \x2:('a,'c) prod. \x3:('b,'d) prod. x0 (fst{'a,'c} x2) (fst{'b,'d} x3) /\ x1 (snd{'a,'c} x2) (snd{'b,'d} x3)
unfoldable pub base_23 : Definition
base_23 = const_def (codes "prod.rel") (lam (alpha ⇒ beta ⇒ bool_ty) (lam (gamma ⇒ delta ⇒ bool_ty) (lam (prod_ty alpha gamma) (lam (prod_ty beta delta) (const_conj · ((ix 3 (alpha ⇒ beta ⇒ bool_ty)) · ((const_fst alpha gamma) · (ix 1 (prod_ty alpha gamma))) · ((const_fst beta delta) · (ix 0 (prod_ty beta delta)))) · ((ix 2 (gamma ⇒ delta ⇒ bool_ty)) · ((const_snd alpha gamma) · (ix 1 (prod_ty alpha gamma))) · ((const_snd beta delta) · (ix 0 (prod_ty beta delta)))))))))

abbrev pub const_prod_rel : Ty → Ty → Ty → Ty → Tm
const_prod_rel a b c d = tm_const (codes "prod.rel") (a ∷ b ∷ c ∷ d ∷ []) ((a ⇒ b ⇒ bool_ty) ⇒ (c ⇒ d ⇒ bool_ty) ⇒ (prod_ty a c) ⇒ (prod_ty b d) ⇒ bool_ty)

-- def sum.left : 'a -> bool -> 'a -> 'b -> bool = \x0:'a. \x1:bool. \x2:'a. \x3:'b. x1 /\ (x2 = x0)
unfoldable pub base_24 : Definition
base_24 = const_def (codes "sum.left") (lam alpha (lam bool_ty (lam alpha (lam beta (const_conj · (ix 2 bool_ty) · ((const_eq alpha) · (ix 1 alpha) · (ix 3 alpha)))))))

abbrev pub const_sum_left : Ty → Ty → Tm
const_sum_left a b = tm_const (codes "sum.left") (a ∷ b ∷ []) (a ⇒ bool_ty ⇒ a ⇒ b ⇒ bool_ty)

-- def sum.right : 'b -> bool -> 'a -> 'b -> bool = \x0:'b. \x1:bool. \x2:'a. \x3:'b. (~ x1) /\ (x3 = x0)
unfoldable pub base_25 : Definition
base_25 = const_def (codes "sum.right") (lam beta (lam bool_ty (lam alpha (lam beta (const_conj · (const_not · (ix 2 bool_ty)) · ((const_eq beta) · (ix 0 beta) · (ix 3 beta)))))))

abbrev pub const_sum_right : Ty → Ty → Tm
const_sum_right b a = tm_const (codes "sum.right") (b ∷ a ∷ []) (b ⇒ bool_ty ⇒ a ⇒ b ⇒ bool_ty)

abbrev pub sum_ty : Ty → Ty → Ty
sum_ty a b = ty_app (codes "sum") (tys (a ∷ b ∷ []))

-- type ('a,'b) sum = \x0:bool -> 'a -> 'b -> bool. (?x1:'a. x0 = sum.left{'a,'b} x1) \/ (?x1:'b. x0 = sum.right{'b,'a} x1)
unfoldable pub base_26 : Definition
base_26 = type_def (codes "sum") (lam (bool_ty ⇒ alpha ⇒ beta ⇒ bool_ty) (const_disj · ((const_ex alpha) · (lam alpha ((const_eq (bool_ty ⇒ alpha ⇒ beta ⇒ bool_ty)) · (ix 1 (bool_ty ⇒ alpha ⇒ beta ⇒ bool_ty)) · ((const_sum_left alpha beta) · (ix 0 alpha))))) · ((const_ex beta) · (lam beta ((const_eq (bool_ty ⇒ alpha ⇒ beta ⇒ bool_ty)) · (ix 1 (bool_ty ⇒ alpha ⇒ beta ⇒ bool_ty)) · ((const_sum_right beta alpha) · (ix 0 beta)))))))

abbrev pub const_sum_abs : Ty → Ty → Tm
const_sum_abs a b = tm_const (codes "sum.abs") (a ∷ b ∷ []) ((bool_ty ⇒ a ⇒ b ⇒ bool_ty) ⇒ sum_ty a b)

abbrev pub const_sum_rep : Ty → Ty → Tm
const_sum_rep a b = tm_const (codes "sum.rep") (a ∷ b ∷ []) ((sum_ty a b) ⇒ bool_ty ⇒ a ⇒ b ⇒ bool_ty)

-- def inl : 'a -> ('a,'b) sum = \x0:'a. sum.abs{'a,'b} (sum.left{'a,'b} x0)
unfoldable pub base_27 : Definition
base_27 = const_def (codes "inl") (lam alpha ((const_sum_abs alpha beta) · ((const_sum_left alpha beta) · (ix 0 alpha))))

abbrev pub const_inl : Ty → Ty → Tm
const_inl a b = tm_const (codes "inl") (a ∷ b ∷ []) (a ⇒ sum_ty a b)

-- def inr : 'b -> ('a,'b) sum = \x0:'b. sum.abs{'a,'b} (sum.right{'b,'a} x0)
unfoldable pub base_28 : Definition
base_28 = const_def (codes "inr") (lam beta ((const_sum_abs alpha beta) · ((const_sum_right beta alpha) · (ix 0 beta))))

abbrev pub const_inr : Ty → Ty → Tm
const_inr b a = tm_const (codes "inr") (b ∷ a ∷ []) (b ⇒ sum_ty a b)

-- def sum.case : ('a -> 'b) -> ('c -> 'b) -> ('a,'c) sum -> 'b = \x0:'a -> 'b. \x1:'c -> 'b. \x2:('a,'c) sum. some{'b} (\x3:'b. (?x4:'a. (x2 = inl{'a,'c} x4) /\ (x3 = x0 x4)) \/ (?x4:'c. (x2 = inr{'c,'a} x4) /\ (x3 = x1 x4)))
unfoldable pub base_29 : Definition
base_29 = const_def (codes "sum.case") (lam (alpha ⇒ beta) (lam (gamma ⇒ beta) (lam (sum_ty alpha gamma) ((const_some beta) · (lam beta (const_disj · ((const_ex alpha) · (lam alpha (const_conj · ((const_eq (sum_ty alpha gamma)) · (ix 2 (sum_ty alpha gamma)) · ((const_inl alpha gamma) · (ix 0 alpha))) · ((const_eq beta) · (ix 1 beta) · ((ix 4 (alpha ⇒ beta)) · (ix 0 alpha)))))) · ((const_ex gamma) · (lam gamma (const_conj · ((const_eq (sum_ty alpha gamma)) · (ix 2 (sum_ty alpha gamma)) · ((const_inr gamma alpha) · (ix 0 gamma))) · ((const_eq beta) · (ix 1 beta) · ((ix 3 (gamma ⇒ beta)) · (ix 0 gamma))))))))))))

abbrev pub const_sum_case : Ty → Ty → Ty → Tm
const_sum_case a b c = tm_const (codes "sum.case") (a ∷ b ∷ c ∷ []) ((a ⇒ b) ⇒ (c ⇒ b) ⇒ (sum_ty a c) ⇒ b)

-- def sum.map : ('a -> 'b) -> ('c -> 'd) -> ('a,'c) sum -> ('b,'d) sum = \x0:'a -> 'b. \x1:'c -> 'd. sum.case{'a,('b,'d) sum,'c} (\x2:'a. inl{'b,'d} (x0 x2)) (\x2:'c. inr{'d,'b} (x1 x2))
unfoldable pub base_30 : Definition
base_30 = const_def (codes "sum.map") (lam (alpha ⇒ beta) (lam (gamma ⇒ delta) ((const_sum_case alpha (sum_ty beta delta) gamma) · (lam alpha ((const_inl beta delta) · ((ix 2 (alpha ⇒ beta)) · (ix 0 alpha)))) · (lam gamma ((const_inr delta beta) · ((ix 1 (gamma ⇒ delta)) · (ix 0 gamma)))))))

abbrev pub const_sum_map : Ty → Ty → Ty → Ty → Tm
const_sum_map a b c d = tm_const (codes "sum.map") (a ∷ b ∷ c ∷ d ∷ []) ((a ⇒ b) ⇒ (c ⇒ d) ⇒ (sum_ty a c) ⇒ sum_ty b d)

-- def sum.set1 : ('a,'b) sum -> 'a -> bool = \x0:('a,'b) sum. \x1:'a. x0 = inl{'a,'b} x1
unfoldable pub base_31 : Definition
base_31 = const_def (codes "sum.set1") (lam (sum_ty alpha beta) (lam alpha ((const_eq (sum_ty alpha beta)) · (ix 1 (sum_ty alpha beta)) · ((const_inl alpha beta) · (ix 0 alpha)))))

abbrev pub const_sum_set1 : Ty → Ty → Tm
const_sum_set1 a b = tm_const (codes "sum.set1") (a ∷ b ∷ []) ((sum_ty a b) ⇒ a ⇒ bool_ty)

-- def sum.set2 : ('a,'b) sum -> 'b -> bool = \x0:('a,'b) sum. \x1:'b. x0 = inr{'b,'a} x1
unfoldable pub base_32 : Definition
base_32 = const_def (codes "sum.set2") (lam (sum_ty alpha beta) (lam beta ((const_eq (sum_ty alpha beta)) · (ix 1 (sum_ty alpha beta)) · ((const_inr beta alpha) · (ix 0 beta)))))

abbrev pub const_sum_set2 : Ty → Ty → Tm
const_sum_set2 a b = tm_const (codes "sum.set2") (a ∷ b ∷ []) ((sum_ty a b) ⇒ b ⇒ bool_ty)

-- def sum.rel : ('a -> 'b -> bool) -> ('c -> 'd -> bool) -> ('a,'c) sum -> ('b,'d) sum -> bool = \x0:'a -> 'b -> bool. \x1:'c -> 'd -> bool. \x2:('a,'c) sum. \x3:('b,'d) sum. (?x4:'a. ?x5:'b. (x2 = inl{'a,'c} x4) /\ ((x3 = inl{'b,'d} x5) /\ x0 x4 x5)) \/ (?x4:'c. ?x5:'d. (x2 = inr{'c,'a} x4) /\ ((x3 = inr{'d,'b} x5) /\ x1 x4 x5))
unfoldable pub base_33 : Definition
base_33 = const_def (codes "sum.rel") (lam (alpha ⇒ beta ⇒ bool_ty) (lam (gamma ⇒ delta ⇒ bool_ty) (lam (sum_ty alpha gamma) (lam (sum_ty beta delta) (const_disj · ((const_ex alpha) · (lam alpha ((const_ex beta) · (lam beta (const_conj · ((const_eq (sum_ty alpha gamma)) · (ix 3 (sum_ty alpha gamma)) · ((const_inl alpha gamma) · (ix 1 alpha))) · (const_conj · ((const_eq (sum_ty beta delta)) · (ix 2 (sum_ty beta delta)) · ((const_inl beta delta) · (ix 0 beta))) · ((ix 5 (alpha ⇒ beta ⇒ bool_ty)) · (ix 1 alpha) · (ix 0 beta)))))))) · ((const_ex gamma) · (lam gamma ((const_ex delta) · (lam delta (const_conj · ((const_eq (sum_ty alpha gamma)) · (ix 3 (sum_ty alpha gamma)) · ((const_inr gamma alpha) · (ix 1 gamma))) · (const_conj · ((const_eq (sum_ty beta delta)) · (ix 2 (sum_ty beta delta)) · ((const_inr delta beta) · (ix 0 delta))) · ((ix 4 (gamma ⇒ delta ⇒ bool_ty)) · (ix 1 gamma) · (ix 0 delta)))))))))))))

abbrev pub const_sum_rel : Ty → Ty → Ty → Ty → Tm
const_sum_rel a b c d = tm_const (codes "sum.rel") (a ∷ b ∷ c ∷ d ∷ []) ((a ⇒ b ⇒ bool_ty) ⇒ (c ⇒ d ⇒ bool_ty) ⇒ (sum_ty a c) ⇒ (sum_ty b d) ⇒ bool_ty)

-- def num.suc_ind : ind -> ind = some{ind -> ind} (\x0:ind -> ind. one_one{ind,ind} x0 /\ (~ onto{ind,ind} x0))
unfoldable pub base_34 : Definition
base_34 = const_def (codes "num.suc_ind") ((const_some (ind_ty ⇒ ind_ty)) · (lam (ind_ty ⇒ ind_ty) (const_conj · ((const_one_one ind_ty ind_ty) · (ix 0 (ind_ty ⇒ ind_ty))) · (const_not · ((const_onto ind_ty ind_ty) · (ix 0 (ind_ty ⇒ ind_ty)))))))

abbrev pub const_num_suc_ind : Tm
const_num_suc_ind = tm_const (codes "num.suc_ind") ([]) (ind_ty ⇒ ind_ty)

-- def num.zero_ind : ind = some{ind} (\x0:ind. !x1:ind. ~ (num.suc_ind x1 = x0))
unfoldable pub base_35 : Definition
base_35 = const_def (codes "num.zero_ind") ((const_some ind_ty) · (lam ind_ty ((const_all ind_ty) · (lam ind_ty (const_not · ((const_eq ind_ty) · (const_num_suc_ind · (ix 0 ind_ty)) · (ix 1 ind_ty)))))))

abbrev pub const_num_zero_ind : Tm
const_num_zero_ind = tm_const (codes "num.zero_ind") ([]) (ind_ty)

-- def num.is : ind -> bool = \x0:ind. !x1:ind -> bool. (x1 num.zero_ind /\ (!x2:ind. x1 x2 ==> x1 (num.suc_ind x2))) ==> x1 x0
unfoldable pub base_36 : Definition
base_36 = const_def (codes "num.is") (lam ind_ty ((const_all (ind_ty ⇒ bool_ty)) · (lam (ind_ty ⇒ bool_ty) (const_imp · (const_conj · ((ix 0 (ind_ty ⇒ bool_ty)) · const_num_zero_ind) · ((const_all ind_ty) · (lam ind_ty (const_imp · ((ix 1 (ind_ty ⇒ bool_ty)) · (ix 0 ind_ty)) · ((ix 1 (ind_ty ⇒ bool_ty)) · (const_num_suc_ind · (ix 0 ind_ty))))))) · ((ix 0 (ind_ty ⇒ bool_ty)) · (ix 1 ind_ty))))))

abbrev pub const_num_is : Tm
const_num_is = tm_const (codes "num.is") ([]) (ind_ty ⇒ bool_ty)

abbrev pub num_ty : Ty
num_ty = ty_app (codes "num") (tys ([]))

-- type num = num.is
unfoldable pub base_37 : Definition
base_37 = type_def (codes "num") (const_num_is)

abbrev pub const_num_abs : Tm
const_num_abs = tm_const (codes "num.abs") ([]) (ind_ty ⇒ num_ty)

abbrev pub const_num_rep : Tm
const_num_rep = tm_const (codes "num.rep") ([]) (num_ty ⇒ ind_ty)

-- def 0 : num = num.abs num.zero_ind
unfoldable pub base_38 : Definition
base_38 = const_def (codes "0") (const_num_abs · const_num_zero_ind)

abbrev pub const_0 : Tm
const_0 = tm_const (codes "0") ([]) (num_ty)

-- def suc : num -> num = \x0:num. num.abs (num.suc_ind (num.rep x0))
unfoldable pub base_39 : Definition
base_39 = const_def (codes "suc") (lam num_ty (const_num_abs · (const_num_suc_ind · (const_num_rep · (ix 0 num_ty)))))

abbrev pub const_suc : Tm
const_suc = tm_const (codes "suc") ([]) (num_ty ⇒ num_ty)

-- def num.rec : 'a -> (num -> 'a -> 'a) -> num -> 'a = \x0:'a. \x1:num -> 'a -> 'a. some{num -> 'a} (\x2:num -> 'a. (x2 0 = x0) /\ (!x3:num. x2 (suc x3) = x1 x3 (x2 x3)))
unfoldable pub base_40 : Definition
base_40 = const_def (codes "num.rec") (lam alpha (lam (num_ty ⇒ alpha ⇒ alpha) ((const_some (num_ty ⇒ alpha)) · (lam (num_ty ⇒ alpha) (const_conj · ((const_eq alpha) · ((ix 0 (num_ty ⇒ alpha)) · const_0) · (ix 2 alpha)) · ((const_all num_ty) · (lam num_ty ((const_eq alpha) · ((ix 1 (num_ty ⇒ alpha)) · (const_suc · (ix 0 num_ty))) · ((ix 2 (num_ty ⇒ alpha ⇒ alpha)) · (ix 0 num_ty) · ((ix 1 (num_ty ⇒ alpha)) · (ix 0 num_ty)))))))))))

abbrev pub const_num_rec : Ty → Tm
const_num_rec a = tm_const (codes "num.rec") (a ∷ []) (a ⇒ (num_ty ⇒ a ⇒ a) ⇒ num_ty ⇒ a)

-- def num.le : num -> num -> bool = \x0:num. \x1:num. !x2:num -> bool. (x2 x0 /\ (!x3:num. x2 x3 ==> x2 (suc x3))) ==> x2 x1
unfoldable pub base_41 : Definition
base_41 = const_def (codes "num.le") (lam num_ty (lam num_ty ((const_all (num_ty ⇒ bool_ty)) · (lam (num_ty ⇒ bool_ty) (const_imp · (const_conj · ((ix 0 (num_ty ⇒ bool_ty)) · (ix 2 num_ty)) · ((const_all num_ty) · (lam num_ty (const_imp · ((ix 1 (num_ty ⇒ bool_ty)) · (ix 0 num_ty)) · ((ix 1 (num_ty ⇒ bool_ty)) · (const_suc · (ix 0 num_ty))))))) · ((ix 0 (num_ty ⇒ bool_ty)) · (ix 1 num_ty)))))))

abbrev pub const_num_le : Tm
const_num_le = tm_const (codes "num.le") ([]) (num_ty ⇒ num_ty ⇒ bool_ty)

-- def num.dbl : num -> num = num.rec{num} 0 (\x0:num. \x1:num. suc (suc x1))
unfoldable pub base_42 : Definition
base_42 = const_def (codes "num.dbl") ((const_num_rec num_ty) · const_0 · (lam num_ty (lam num_ty (const_suc · (const_suc · (ix 0 num_ty))))))

abbrev pub const_num_dbl : Tm
const_num_dbl = tm_const (codes "num.dbl") ([]) (num_ty ⇒ num_ty)

-- def num.cons : num -> num -> num = \x0:num. \x1:num. num.rec{num} (suc (num.dbl x1)) (\x2:num. \x3:num. num.dbl x3) x0
unfoldable pub base_43 : Definition
base_43 = const_def (codes "num.cons") (lam num_ty (lam num_ty ((const_num_rec num_ty) · (const_suc · (const_num_dbl · (ix 0 num_ty))) · (lam num_ty (lam num_ty (const_num_dbl · (ix 0 num_ty)))) · (ix 1 num_ty))))

abbrev pub const_num_cons : Tm
const_num_cons = tm_const (codes "num.cons") ([]) (num_ty ⇒ num_ty ⇒ num_ty)

-- def countable : ('a -> bool) -> bool = \x0:'a -> bool. ?x1:'a -> num. !x2:'a. !x3:'a. x0 x2 ==> (x0 x3 ==> ((x1 x2 = x1 x3) ==> (x2 = x3)))
unfoldable pub base_44 : Definition
base_44 = const_def (codes "countable") (lam (alpha ⇒ bool_ty) ((const_ex (alpha ⇒ num_ty)) · (lam (alpha ⇒ num_ty) ((const_all alpha) · (lam alpha ((const_all alpha) · (lam alpha (const_imp · ((ix 3 (alpha ⇒ bool_ty)) · (ix 1 alpha)) · (const_imp · ((ix 3 (alpha ⇒ bool_ty)) · (ix 0 alpha)) · (const_imp · ((const_eq num_ty) · ((ix 2 (alpha ⇒ num_ty)) · (ix 1 alpha)) · ((ix 2 (alpha ⇒ num_ty)) · (ix 0 alpha))) · ((const_eq alpha) · (ix 1 alpha) · (ix 0 alpha))))))))))))

abbrev pub const_countable : Ty → Tm
const_countable a = tm_const (codes "countable") (a ∷ []) ((a ⇒ bool_ty) ⇒ bool_ty)

abbrev pub cset_ty : Ty → Ty
cset_ty a = ty_app (codes "cset") (tys (a ∷ []))

-- type 'a cset = countable{'a}
unfoldable pub base_45 : Definition
base_45 = type_def (codes "cset") (const_countable alpha)

abbrev pub const_cset_abs : Ty → Tm
const_cset_abs a = tm_const (codes "cset.abs") (a ∷ []) ((a ⇒ bool_ty) ⇒ cset_ty a)

abbrev pub const_cset_rep : Ty → Tm
const_cset_rep a = tm_const (codes "cset.rep") (a ∷ []) ((cset_ty a) ⇒ a ⇒ bool_ty)

-- def cset.empty : 'a cset = cset.abs{'a} (\x0:'a. F)
unfoldable pub base_46 : Definition
base_46 = const_def (codes "cset.empty") ((const_cset_abs alpha) · (lam alpha (const_F)))

abbrev pub const_cset_empty : Ty → Tm
const_cset_empty a = tm_const (codes "cset.empty") (a ∷ []) (cset_ty a)

-- def cset.map : ('a -> 'b) -> 'a cset -> 'b cset = \x0:'a -> 'b. \x1:'a cset. cset.abs{'b} (\x2:'b. ?x3:'a. cset.rep{'a} x1 x3 /\ (x2 = x0 x3))
unfoldable pub base_47 : Definition
base_47 = const_def (codes "cset.map") (lam (alpha ⇒ beta) (lam (cset_ty alpha) ((const_cset_abs beta) · (lam beta ((const_ex alpha) · (lam alpha (const_conj · ((const_cset_rep alpha) · (ix 2 (cset_ty alpha)) · (ix 0 alpha)) · ((const_eq beta) · (ix 1 beta) · ((ix 3 (alpha ⇒ beta)) · (ix 0 alpha))))))))))

abbrev pub const_cset_map : Ty → Ty → Tm
const_cset_map a b = tm_const (codes "cset.map") (a ∷ b ∷ []) ((a ⇒ b) ⇒ (cset_ty a) ⇒ cset_ty b)

-- def cset.set1 : 'a cset -> 'a -> bool = \x0:'a cset. cset.rep{'a} x0
unfoldable pub base_48 : Definition
base_48 = const_def (codes "cset.set1") (lam (cset_ty alpha) ((const_cset_rep alpha) · (ix 0 (cset_ty alpha))))

abbrev pub const_cset_set1 : Ty → Tm
const_cset_set1 a = tm_const (codes "cset.set1") (a ∷ []) ((cset_ty a) ⇒ a ⇒ bool_ty)

-- def cset.rel : ('a -> 'b -> bool) -> 'a cset -> 'b cset -> bool = \x0:'a -> 'b -> bool. \x1:'a cset. \x2:'b cset. (!x3:'a. cset.rep{'a} x1 x3 ==> (?x4:'b. cset.rep{'b} x2 x4 /\ x0 x3 x4)) /\ (!x3:'b. cset.rep{'b} x2 x3 ==> (?x4:'a. cset.rep{'a} x1 x4 /\ x0 x4 x3))
unfoldable pub base_49 : Definition
base_49 = const_def (codes "cset.rel") (lam (alpha ⇒ beta ⇒ bool_ty) (lam (cset_ty alpha) (lam (cset_ty beta) (const_conj · ((const_all alpha) · (lam alpha (const_imp · ((const_cset_rep alpha) · (ix 2 (cset_ty alpha)) · (ix 0 alpha)) · ((const_ex beta) · (lam beta (const_conj · ((const_cset_rep beta) · (ix 2 (cset_ty beta)) · (ix 0 beta)) · ((ix 4 (alpha ⇒ beta ⇒ bool_ty)) · (ix 1 alpha) · (ix 0 beta)))))))) · ((const_all beta) · (lam beta (const_imp · ((const_cset_rep beta) · (ix 1 (cset_ty beta)) · (ix 0 beta)) · ((const_ex alpha) · (lam alpha (const_conj · ((const_cset_rep alpha) · (ix 3 (cset_ty alpha)) · (ix 0 alpha)) · ((ix 4 (alpha ⇒ beta ⇒ bool_ty)) · (ix 0 alpha) · (ix 1 beta))))))))))))

abbrev pub const_cset_rel : Ty → Ty → Tm
const_cset_rel a b = tm_const (codes "cset.rel") (a ∷ b ∷ []) ((a ⇒ b ⇒ bool_ty) ⇒ (cset_ty a) ⇒ (cset_ty b) ⇒ bool_ty)

-- def fun.map : ('a -> 'b) -> ('c -> 'a) -> 'c -> 'b = \x0:'a -> 'b. \x1:'c -> 'a. \x2:'c. x0 (x1 x2)
unfoldable pub base_50 : Definition
base_50 = const_def (codes "fun.map") (lam (alpha ⇒ beta) (lam (gamma ⇒ alpha) (lam gamma ((ix 2 (alpha ⇒ beta)) · ((ix 1 (gamma ⇒ alpha)) · (ix 0 gamma))))))

abbrev pub const_fun_map : Ty → Ty → Ty → Tm
const_fun_map a b c = tm_const (codes "fun.map") (a ∷ b ∷ c ∷ []) ((a ⇒ b) ⇒ (c ⇒ a) ⇒ c ⇒ b)

-- def fun.set2 : ('a -> 'b) -> 'b -> bool = \x0:'a -> 'b. \x1:'b. ?x2:'a. x1 = x0 x2
unfoldable pub base_51 : Definition
base_51 = const_def (codes "fun.set2") (lam (alpha ⇒ beta) (lam beta ((const_ex alpha) · (lam alpha ((const_eq beta) · (ix 1 beta) · ((ix 2 (alpha ⇒ beta)) · (ix 0 alpha)))))))

abbrev pub const_fun_set2 : Ty → Ty → Tm
const_fun_set2 a b = tm_const (codes "fun.set2") (a ∷ b ∷ []) ((a ⇒ b) ⇒ b ⇒ bool_ty)

-- def fun.rel : ('a -> 'b -> bool) -> ('c -> 'a) -> ('c -> 'b) -> bool = \x0:'a -> 'b -> bool. \x1:'c -> 'a. \x2:'c -> 'b. !x3:'c. x0 (x1 x3) (x2 x3)
unfoldable pub base_52 : Definition
base_52 = const_def (codes "fun.rel") (lam (alpha ⇒ beta ⇒ bool_ty) (lam (gamma ⇒ alpha) (lam (gamma ⇒ beta) ((const_all gamma) · (lam gamma ((ix 3 (alpha ⇒ beta ⇒ bool_ty)) · ((ix 2 (gamma ⇒ alpha)) · (ix 0 gamma)) · ((ix 1 (gamma ⇒ beta)) · (ix 0 gamma))))))))

abbrev pub const_fun_rel : Ty → Ty → Ty → Tm
const_fun_rel a b c = tm_const (codes "fun.rel") (a ∷ b ∷ c ∷ []) ((a ⇒ b ⇒ bool_ty) ⇒ (c ⇒ a) ⇒ (c ⇒ b) ⇒ bool_ty)

-- all of them, in order
unfoldable pub base_definitions : List Definition
base_definitions =
    base_1 ∷ base_2 ∷ base_3 ∷ base_4 ∷ base_5 ∷ base_6 ∷ base_7 ∷ base_8 ∷ base_9 ∷ base_10
    ∷ base_11 ∷ base_12 ∷ base_13 ∷ base_14 ∷ base_15 ∷ base_16 ∷ base_17 ∷ base_18 ∷ base_19 ∷ base_20
    ∷ base_21 ∷ base_22 ∷ base_23 ∷ base_24 ∷ base_25 ∷ base_26 ∷ base_27 ∷ base_28 ∷ base_29 ∷ base_30
    ∷ base_31 ∷ base_32 ∷ base_33 ∷ base_34 ∷ base_35 ∷ base_36 ∷ base_37 ∷ base_38 ∷ base_39 ∷ base_40
    ∷ base_41 ∷ base_42 ∷ base_43 ∷ base_44 ∷ base_45 ∷ base_46 ∷ base_47 ∷ base_48 ∷ base_49 ∷ base_50
    ∷ base_51 ∷ base_52 ∷ []

-- the first n of them
abbrev pub base : ℕ → List Definition
base n = take n base_definitions
