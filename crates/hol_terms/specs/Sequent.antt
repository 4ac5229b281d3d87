-- Sequents. Hypotheses ascend in the term order, each once.
use Rattle.std.specs.Prelude.{◌≡◌, List, [], ◌∷◌, codes, All, refl}
use Rattle.std.specs.Coded.{Coded, code_by, coded×, coded_list}
use Rattle.std.specs.declared.cmp.Ordering.{Ordering}
use Rattle.std.specs.declared.cmp.Ordering.TheVariants.{Less, Equal, Greater}
use Rattle.hol_terms.specs.Tm.{Tm, tm_const, tm_comb, tm_code}
use Rattle.hol_terms.specs.Typing.{tm_type}
use Rattle.hol_terms.specs.Binding.{tm_cmp}
use Rattle.hol_terms.specs.Signature.{Signature, IsOver}
use Rattle.hol_terms.specs.Definition.{bool_ty, eq_ty}

-- from the hypotheses the conclusion follows
pub record Sequent : Type 0 where
  pub hyps : List Tm
  pub concl : Tm

abbrev pub seq : List Tm → Tm → Sequent
seq hs p = record { hyps = hs; concl = p }

abbrev pub sequent_code : Coded Sequent
sequent_code = code_by (List Tm × Tm) (coded× (coded_list tm_code) tm_code) (λ s. (s.hyps, s.concl)) (λ p. record { hyps = p.0; concl = p.1 }) (λ _. refl)

-- the equation of two terms
abbrev pub eq_tm : Tm → Tm → Tm
eq_tm s t = tm_comb (tm_comb (tm_const (codes "eq") (tm_type s ∷ []) (eq_ty (tm_type s))) s) t

-- the argument of an application, and the left side of an equation
abbrev pub argument : Tm → Tm
argument (tm_comb f x) = x
argument t = t

abbrev pub left_of : Tm → Tm
left_of (tm_comb f x) = argument f
left_of t = t

abbrev pub IsEq : Tm → Type 0
IsEq p = p ≡ eq_tm (left_of p) (argument p)

-- a hypothesis goes where the term order puts it
abbrev pub insert_at : Ordering → Tm → Tm → List Tm → List Tm → List Tm
insert_at Less t h hs rest = t ∷ h ∷ hs
insert_at Equal t h hs rest = h ∷ hs
insert_at Greater t h hs rest = h ∷ rest

abbrev pub insert_hyp : Tm → List Tm → List Tm
insert_hyp t [] = t ∷ []
insert_hyp t (h ∷ hs) = insert_at (tm_cmp t h) t h hs (insert_hyp t hs)

abbrev pub union : List Tm → List Tm → List Tm
union [] hs = hs
union (t ∷ ts) hs = union ts (insert_hyp t hs)

-- a boolean term that is well typed and has no loose index
abbrev pub IsFormula : Signature → Tm → Type 0
IsFormula s p = IsOver s [] p × (tm_type p ≡ bool_ty)

pub record IsTyped (s : Signature) (a : Sequent) : Type 0 where
  pub hyps_are : All (IsFormula s) a.hyps
  pub concl_is : IsFormula s a.concl
