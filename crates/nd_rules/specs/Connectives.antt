-- The rules of the connectives and of equations, each one partial function: its condition, and the sequent that it gives.
use Rattle.std.specs.Prelude.{Bool, Option, Some}
use Rattle.hol_terms.specs.Tm.{Tm}
use Rattle.hol_terms.specs.Notation.{◌·◌}
use Rattle.hol_terms.specs.Typing.{tm_type}
use Rattle.hol_terms.specs.Definition.{bool_ty}
use Rattle.hol_terms.specs.Sequent.{Sequent, seq, eq_tm, left_of, argument, union}
use Rattle.hol_terms.specs.Rules.{same, same_ty, both, if_so, is_equation, without}
use Rattle.hol_terms.specs.Logic.{const_T, const_F, const_not, const_conj, const_disj, const_imp}

abbrev pub conj_tm : Tm → Tm → Tm
conj_tm p q = const_conj · p · q

abbrev pub disj_tm : Tm → Tm → Tm
disj_tm p q = const_disj · p · q

abbrev pub imp_tm : Tm → Tm → Tm
imp_tm p q = const_imp · p · q

abbrev pub not_tm : Tm → Tm
not_tm p = const_not · p

abbrev pub is_conj : Tm → Bool
is_conj t = same t (conj_tm (left_of t) (argument t))

abbrev pub is_disj : Tm → Bool
is_disj t = same t (disj_tm (left_of t) (argument t))

abbrev pub is_imp : Tm → Bool
is_imp t = same t (imp_tm (left_of t) (argument t))

abbrev pub is_boolean : Tm → Bool
is_boolean t = same_ty (tm_type t) bool_ty

-- `A |- p` and `B |- q` give `A, B |- p /\ q`
abbrev pub conj_i_rule : Sequent → Sequent → Option Sequent
conj_i_rule a b = Some (seq (union a.hyps b.hyps) (conj_tm a.concl b.concl))

-- `A |- p /\ q` gives `A |- p`
abbrev pub conj_l_rule : Sequent → Option Sequent
conj_l_rule a = if_so (is_conj a.concl) (seq a.hyps (left_of a.concl))

-- `A |- p /\ q` gives `A |- q`
abbrev pub conj_r_rule : Sequent → Option Sequent
conj_r_rule a = if_so (is_conj a.concl) (seq a.hyps (argument a.concl))

-- `A |- p` gives `A |- p \/ q`, where q is boolean
abbrev pub disj_l_rule : Sequent → Tm → Option Sequent
disj_l_rule a q = if_so (is_boolean q) (seq a.hyps (disj_tm a.concl q))

-- `A |- q` gives `A |- p \/ q`, where p is boolean
abbrev pub disj_r_rule : Tm → Sequent → Option Sequent
disj_r_rule p a = if_so (is_boolean p) (seq a.hyps (disj_tm p a.concl))

-- `A |- p \/ q`, `B |- r` and `C |- r` give `A, (B without p), (C without q) |- r`
abbrev pub disj_e_rule : Sequent → Sequent → Sequent → Option Sequent
disj_e_rule a b c = if_so (both (is_disj a.concl) (same b.concl c.concl))
    (seq (union (union a.hyps (without (left_of a.concl) b.hyps)) (without (argument a.concl) c.hyps)) b.concl)

-- `A |- p ==> F` gives `A |- ~ p`
abbrev pub not_i_rule : Sequent → Option Sequent
not_i_rule a = if_so (same a.concl (imp_tm (left_of a.concl) const_F)) (seq a.hyps (not_tm (left_of a.concl)))

-- `A |- ~ p` gives `A |- p ==> F`
abbrev pub not_e_rule : Sequent → Option Sequent
not_e_rule a = if_so (same a.concl (not_tm (argument a.concl))) (seq a.hyps (imp_tm (argument a.concl) const_F))

-- `A |- q` gives `(A without p) |- p ==> q`, where p is boolean
abbrev pub disch_rule : Tm → Sequent → Option Sequent
disch_rule p a = if_so (is_boolean p) (seq (without p a.hyps) (imp_tm p a.concl))

-- `A |- p ==> q` and `B |- p` give `A, B |- q`
abbrev pub mp_rule : Sequent → Sequent → Option Sequent
mp_rule a b = if_so (both (is_imp a.concl) (same (left_of a.concl) b.concl)) (seq (union a.hyps b.hyps) (argument a.concl))

-- `A |- s = t` gives `A |- t = s`
abbrev pub sym_rule : Sequent → Option Sequent
sym_rule a = if_so (is_equation a.concl) (seq a.hyps (eq_tm (argument a.concl) (left_of a.concl)))

-- `A |- p` gives `A |- p = T`
abbrev pub eqt_i_rule : Sequent → Option Sequent
eqt_i_rule a = Some (seq a.hyps (eq_tm a.concl const_T))

-- `A |- p = T` gives `A |- p`
abbrev pub eqt_e_rule : Sequent → Option Sequent
eqt_e_rule a = if_so (same a.concl (eq_tm (left_of a.concl) const_T)) (seq a.hyps (left_of a.concl))
